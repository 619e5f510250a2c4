use Rattle.text_names.proofs.Walk.{back-stop, back-go, back_none}
use native.Mathlib.Omega.{arith}
use mathlib.Core.Path.{◌∙◌, ◌≡◌, ap, sym}
use mathlib.Core.Bool.{not}
use lib.ListN.{length}
use Rattle.text_names.proofs.name_end.Goals as goal

pub returns-then-not-is_name : goal.returns-then-not-is_name
returns-then-not-is_name c = let p = c.loop-i in (back-stop _ _ c.is_name.result c.loop-i-test.true (cc) (ap not c.if-not-is_name.true) ∙ p.invariant, omega arith, omega arith)

pub loop-i-preserved : goal.loop-i-preserved
loop-i-preserved c = let p = c.loop-i in sym (back-go _ _ c.is_name.result c.loop-i-test.true (cc) (ap not c.if-not-is_name.false)) ∙ p.invariant

pub returns : goal.returns
returns c = let p = c.loop-i in let e : p.i ≡ length c.args.s.now = omega arith in (back_none _ (length c.args.s.now) (omega arith) ∙ rw e at p.invariant, omega arith, omega arith)
