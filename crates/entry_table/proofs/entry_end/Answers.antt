use Rattle.entry_table.proofs.Places.{entry-go, entry-none, entry-stop}
use native.Mathlib.Omega.{arith}
use mathlib.Core.Path.{◌≡◌, sym, ◌∙◌}
use lib.ListN.{length}
use Rattle.entry_table.proofs.entry_end.Goals as goal

pub returns-then-s-i-eq-LINE_END : goal.returns-then-s-i-eq-LINE_END
returns-then-s-i-eq-LINE_END c = let p = c.loop-i in (entry-stop _ _ c.loop-i-test.true (cc) ∙ p.invariant.2, omega arith, omega arith)

pub loop-i-preserved : goal.loop-i-preserved
loop-i-preserved c = let p = c.loop-i in let h = c.if-s-i-eq-LINE_END.false in (omega arith, omega arith, sym (entry-go _ _ c.loop-i-test.true (λ e. h (cc))) ∙ p.invariant.2)

pub returns : goal.returns
returns c = let p = c.loop-i in let e : p.i ≡ length c.args.s.now = omega arith in (rw (← e) (entry-none _ p.i (omega arith) ∙ p.invariant.2), omega arith, omega arith)
