use Prim.Native.Nat.{◌*◌, ◌+◌, ◌≤◌}
use Rattle.text_program.specs.Printing.{comma_mark, literal_named, literal_text, row_text}
use Rattle.text_program.specs.Parsing.{all_of}
use Rattle.parlog.specs.Scan.{list_of}
use Rattle.parlog.specs.Program.{literal_of}
use Rattle.parlog.specs.Image.{literal_end}
use Rattle.write_goal.proofs.Rowed.{RowAt}
use Rattle.write_goal.proofs.stage.Given as goal

abbrev pub invariant-loop-k : goal.invariant-loop-k
invariant-loop-k l = RowAt (literal_text l.s.relations l.s.names.row.now) (literal_named l.s.relations l.s.names.row.now) comma_mark (literal_of l.s.image.now) (literal_end l.s.image.now) l.n l.k l.at l.initial.w (row_text (literal_text l.s.relations l.s.names.row.now) comma_mark (list_of (literal_of l.s.image.now) (literal_end l.s.image.now) l.n (l.from + 1))) (all_of (literal_named l.s.relations l.s.names.row.now) (list_of (literal_of l.s.image.now) (literal_end l.s.image.now) l.n (l.from + 1))) l.w × (l.at ≤ l.from + 1 + 512 * l.k) × (l.k ≤ l.n)
