use mathlib.Core.Bool.{◌&&◌}
use lib.ListN.{drop}
use Prim.Native.Nat.{◌-◌}
use Rattle.read_goal.proofs.Spanned.{SpanLeft}
use Rattle.read_goal.specs.Spans.{stages_right}
use Rattle.text_program.specs.Source.{read_literal, row, row_for}
use Rattle.read_goal.proofs.stages.Given as goal

abbrev pub invariant-loop-n : goal.invariant-loop-n
invariant-loop-n l = SpanLeft l.s (row (row read_literal 44) 38 (drop l.at l.s)) (row_for (l.most - l.n) (row read_literal 44) 38 (drop l.q l.s)) (stages_right 8 (row (row read_literal 44) 38 (drop l.at l.s)).value) (l.right && stages_right l.room (row_for (l.most - l.n) (row read_literal 44) 38 (drop l.q l.s)).value) l.q l.n (l.most - l.n)
