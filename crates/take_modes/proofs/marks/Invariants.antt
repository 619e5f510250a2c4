use Rattle.text_program.specs.Source.{read_mode, row, row_for}
use Rattle.text_program.specs.Parsing.{all_of}
use Rattle.text_program.specs.Numbered.{joined}
use Rattle.read_goal.proofs.Spanned.{SpanLeft}
use Rattle.lay_text.specs.Laying.{Left}
use Rattle.lay_literal.specs.Lows.{lows}
use Prim.Native.Nat.{ℕ, ◌-◌}
use lib.ListN.{drop}
use mathlib.Core.List.{[], ◌∷◌}
use mathlib.Core.Bool.{true}
use Rattle.take_modes.proofs.marks.Given as goal

abbrev pub invariant-loop-n : goal.invariant-loop-n
invariant-loop-n l = Left l.initial.out l.initial.to (lows (row read_mode 44 (drop l.at l.s)).value) true l.out l.to (lows (joined (λ (m : ℕ). m ∷ []) (row_for (l.most - l.n) read_mode 44 (drop l.q l.s)).value)) (all_of (λ (m : ℕ). true) (row_for (l.most - l.n) read_mode 44 (drop l.q l.s)).value) × SpanLeft l.s (row read_mode 44 (drop l.at l.s)) (row_for (l.most - l.n) read_mode 44 (drop l.q l.s)) true true l.q l.n (l.most - l.n)
