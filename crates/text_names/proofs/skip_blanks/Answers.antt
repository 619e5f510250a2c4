use Rattle.text_names.proofs.Walk.{skip_stop, skip-go, skip-none}
use native.Mathlib.Omega.{arith}
use mathlib.Core.Path.{◌∙◌, ◌≡◌, ap, sym}
use mathlib.Core.Bool.{not}
use lib.ListN.{length}
use Rattle.text_names.proofs.skip_blanks.Goals as goal

pub returns-then-not-is_blank : goal.returns-then-not-is_blank
returns-then-not-is_blank c = let p = c.loop-i in (skip_stop _ _ c.is_blank.result c.loop-i-test.true (cc) (ap not c.if-not-is_blank.true) ∙ p.invariant, omega arith)

pub loop-i-preserved : goal.loop-i-preserved
loop-i-preserved c = let p = c.loop-i in sym (skip-go _ _ c.is_blank.result c.loop-i-test.true (cc) (ap not c.if-not-is_blank.false)) ∙ p.invariant

pub returns : goal.returns
returns c = let p = c.loop-i in let e : p.i ≡ length c.args.s.now = omega arith in (skip-none _ (length c.args.s.now) (omega arith) ∙ rw e at p.invariant, omega arith)
