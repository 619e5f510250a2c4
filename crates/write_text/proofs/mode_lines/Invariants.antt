use Prim.Native.Nat.{◌*◌, ◌≤◌}
use Rattle.text_program.specs.Printing.{mode_lines_text, relations_named}
use Rattle.parlog.specs.Scan.{list_of}
use Rattle.parlog.specs.Program.{modes_of}
use Rattle.parlog.specs.Image.{record_end}
use Rattle.write_text.proofs.Lined.{LinesLeft}
use Rattle.write_text.proofs.mode_lines.Given as goal

abbrev pub invariant-loop-k : goal.invariant-loop-k
invariant-loop-k l = LinesLeft l.s.relations l.s.names.row.now l.s.image.now l.k l.at l.initial.w (mode_lines_text l.s.relations l.s.names.row.now 0 (list_of (modes_of l.s.image.now) (record_end l.s.image.now) l.s.relations 0)) (relations_named l.s.relations l.s.names.row.now 0 (list_of (modes_of l.s.image.now) (record_end l.s.image.now) l.s.relations 0)) l.w × (l.at ≤ 65535 * l.k) × (l.k ≤ l.s.relations)
