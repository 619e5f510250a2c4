use Prim.Native.Nat.{◌*◌, ◌+◌, ◌≤◌}
use Rattle.write_clause.proofs.Claused.{ClausesLeft}
use Rattle.text_program.specs.Printing.{clause_named, clauses_text}
use Rattle.text_program.specs.Parsing.{all_of}
use Rattle.parlog.specs.Scan.{list_of}
use Rattle.parlog.specs.Program.{clause_of}
use Rattle.parlog.specs.Image.{record_end}
use Rattle.write_clause.proofs.clauses.Given as goal

abbrev pub invariant-loop-left : goal.invariant-loop-left
invariant-loop-left l = ClausesLeft l.s.relations l.s.names.row.now l.s.image.now l.left l.at l.initial.w (clauses_text l.s.relations l.s.names.row.now (list_of (clause_of l.s.image.now) (record_end l.s.image.now) l.n l.from)) (all_of (clause_named l.s.relations l.s.names.row.now) (list_of (clause_of l.s.image.now) (record_end l.s.image.now) l.n l.from)) l.w × (l.left ≤ l.n) × (l.at + 65535 * l.left ≤ l.from + 65535 * l.n)
