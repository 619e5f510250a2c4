use mathlib.Core.Bool.{true}
use lib.ListN.{drop}
use Prim.Native.Nat.{◌-◌}
use Rattle.read_goal.proofs.Spanned.{SpanLeft}
use Rattle.text_program.specs.Source.{is_mode_line, read_mode_line, lines, lines_for}
use Rattle.read_names.proofs.mode_lines.Given as goal

abbrev pub invariant-loop-n : goal.invariant-loop-n
invariant-loop-n l = SpanLeft l.s (lines is_mode_line read_mode_line (drop l.at l.s)) (lines_for (l.most - l.n) is_mode_line read_mode_line (drop l.p l.s)) true true l.p l.n (l.most - l.n)
