use mathlib.Core.Bool.{◌&&◌}
use lib.ListN.{drop}
use Prim.Native.Nat.{◌-◌}
use Rattle.read_goal.proofs.Spanned.{SpanLeft}
use Rattle.read_goal.specs.Spans.{literal_right}
use Rattle.text_program.specs.Source.{read_literal, row, row_for}
use Rattle.text_program.specs.Parsing.{all_of}
use Rattle.read_goal.proofs.literals.Given as goal

abbrev pub invariant-loop-n : goal.invariant-loop-n
invariant-loop-n l = SpanLeft l.s (row read_literal 44 (drop l.at l.s)) (row_for (l.most - l.n) read_literal 44 (drop l.q l.s)) (all_of literal_right (row read_literal 44 (drop l.at l.s)).value) (l.right && all_of literal_right (row_for (l.most - l.n) read_literal 44 (drop l.q l.s)).value) l.q l.n (l.most - l.n)
