use Prim.Native.Nat.{◌*◌, ◌+◌, ◌≤◌}
use mathlib.Core.Path.{◌≡◌}
use Rattle.text_program.specs.Printing.{row_text, term_named, term_text}
use Rattle.text_program.specs.Parsing.{all_of}
use Rattle.parlog.specs.Image.{term_at, term_end}
use Rattle.write_goal.specs.Rows.{terms_at}
use Rattle.write_goal.proofs.Rowed.{RowAt}
use Rattle.write_goal.proofs.terms.Given as goal

abbrev pub invariant-loop-k : goal.invariant-loop-k
invariant-loop-k l = RowAt (term_text l.s.relations l.s.names.row.now) (term_named l.s.relations l.s.names.row.now) l.mark (term_at l.s.image.now) term_end l.n l.k l.at l.initial.w (row_text (term_text l.s.relations l.s.names.row.now) l.mark (terms_at l.s.image.now l.n l.from)) (all_of (term_named l.s.relations l.s.names.row.now) (terms_at l.s.image.now l.n l.from)) l.w × (l.at ≡ l.from + 2 * l.k) × (l.k ≤ l.n)
