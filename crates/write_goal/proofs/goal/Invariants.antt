use Prim.Native.Nat.{◌*◌, ◌+◌, ◌≤◌}
use Rattle.text_program.specs.Printing.{and_mark, row_text}
use Rattle.text_program.specs.Parsing.{all_of}
use Rattle.parlog.specs.Scan.{list_of}
use Rattle.parlog.specs.Program.{stage_of}
use Rattle.parlog.specs.Image.{stage_end}
use Rattle.write_goal.proofs.Rowed.{RowAt, stage_named, stage_text}
use Rattle.write_goal.proofs.goal.Given as goal

abbrev pub invariant-loop-k : goal.invariant-loop-k
invariant-loop-k l = RowAt (stage_text l.s.relations l.s.names.row.now) (stage_named l.s.relations l.s.names.row.now) and_mark (stage_of l.s.image.now) (stage_end l.s.image.now) l.n l.k l.at l.initial.w (row_text (stage_text l.s.relations l.s.names.row.now) and_mark (list_of (stage_of l.s.image.now) (stage_end l.s.image.now) l.n (l.from + 1))) (all_of (stage_named l.s.relations l.s.names.row.now) (list_of (stage_of l.s.image.now) (stage_end l.s.image.now) l.n (l.from + 1))) l.w × (l.at ≤ l.from + 1 + 130561 * l.k) × (l.k ≤ l.n)
