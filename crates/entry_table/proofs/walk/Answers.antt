use Rattle.entry_table.proofs.Places.{entry-last, entry_next, walked-out}
use native.Mathlib.Omega.{arith}
use mathlib.Core.Path.{◌≡◌, sym, ◌∙◌}
use Prim.Native.Nat.{◌+◌, ◌-◌}
use Rattle.entry_table.proofs.walk.Goals as goal

pub returns-then-at-s : goal.returns-then-at-s
returns-then-at-s c = let p = c.loop in (walked-out _ p.at _ (omega arith) ∙ p.invariant.2, omega arith, λ h g. omega arith)

pub loop-preserved : goal.loop-preserved
loop-preserved c = let p = c.loop in let n : c.args.k - p.counter - 1 ≡ c.args.k - (p.counter + 1) = omega arith in (omega arith, c.entry_end-at.ensures.1, rw (c.entry_end-at.ensures.0, ← n) (sym (entry_next _ (c.args.k - p.counter) (omega arith)) ∙ p.invariant.2))

pub returns : goal.returns
returns c = let p = c.loop in (sym (entry-last _ _ (omega arith)) ∙ p.invariant.2, omega arith, λ h g. omega arith)
