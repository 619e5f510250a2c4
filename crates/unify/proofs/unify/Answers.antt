use mathlib.Core.Path.{sym, ◌∙◌}
use borrow.Author.Rules.{rules}
use native.Mathlib.Omega.{arith}
use Rattle.parlog.specs.Unify.{unify}
use Rattle.unify.proofs.Laws.{bound-same, unify-clash, unify-done, unify-more}
use Rattle.unify.specs.Pending.{outcome}
use Rattle.unify.proofs.unify.Goals as goal

pub returns-in_err-u : goal.returns-in_err-u
unfolding unify
returns-in_err-u c =
    let e = unify-clash _ _ _ _ c.loop-p-test.true c.in_err-u.ensures.0 ∙ c.loop-p.invariant.1 in
    rw c.from_residual.ensures (e, tt, bound-same _ e)

pub loop-p-preserved : goal.loop-p-preserved
unfolding outcome
loop-p-preserved c = (omega (arith, c.in_ok-u.ensures.1), unify-more _ _ _ _ _ c.loop-p-test.true c.in_ok-u.ensures.0 ∙ c.loop-p.invariant.1)

pub returns : goal.returns
unfolding unify outcome
returns c =
    let e = sym (unify-done _ _ _ _ c.loop-p-test.false) ∙ c.loop-p.invariant.1 in
    (e, search rules, bound-same _ e)
