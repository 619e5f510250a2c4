use mathlib.Core.Path.{sym, ◌∙◌}
use native.Mathlib.Omega.{arith}
use Rattle.unify.proofs.Laws.{few-made}
use Rattle.decide.proofs.Laws.{held-done, held-no, held-yes}
use Rattle.decide.proofs.needed.Goals.{else-is_held, then-is_held}
use Rattle.decide.proofs.needed.Goals as goal

pub with-s-requires : goal.with-s-requires
with-s-requires c = let l = rw c.made-c-items.ensures at c.loop-c-test.true in omega (arith, l, few-made c.args.u, c.loop-c.invariant.0)

pub loop-c-preserved : goal.loop-c-preserved
loop-c-preserved c = elim c.if-is_held.branch [
  | then-is_held w ↦ rw w.s-is (omega (arith, w.with-s.ensures.1, c.loop-c.invariant.0), held-yes _ _ _ c.loop-c-test.true _ (sym c.is_held.ensures ∙ w.if-is_held.true) w.with-s.ensures.0 ∙ c.loop-c.invariant.1)
  | else-is_held w ↦ rw w.s-is (omega (arith, c.loop-c.invariant.0), held-no _ _ _ c.loop-c-test.true _ (sym c.is_held.ensures ∙ w.if-is_held.false) ∙ c.loop-c.invariant.1)
]

pub returns : goal.returns
returns c = rw (← c.made-c-items.ensures) (sym (held-done _ _ _ c.loop-c-test.false _) ∙ c.loop-c.invariant.1)
