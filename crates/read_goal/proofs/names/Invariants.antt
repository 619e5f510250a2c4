use mathlib.Core.Bool.{true}
use lib.ListN.{drop}
use Prim.Native.Nat.{◌-◌}
use Rattle.read_goal.proofs.Spanned.{SpanLeft}
use Rattle.text_program.specs.Source.{read_term, row, row_for}
use Rattle.read_goal.proofs.names.Given as goal

abbrev pub invariant-loop-n : goal.invariant-loop-n
invariant-loop-n l = SpanLeft l.s (row read_term 44 (drop l.at l.s)) (row_for (l.most - l.n) read_term 44 (drop l.q l.s)) true true l.q l.n (l.most - l.n)
