use Rattle.spell.specs.Rows.{kind_count, last_state}
use Rattle.spell.proofs.Sim.{row-run-stuck}
use borrow.Author.Tests.{eq-eqb, ne_eqb}
use Prim.Native.Nat.{◌*◌}
use lib.ListN.{length}
use mathlib.Core.Path.{◌≡◌, sym, ◌∙◌}
use native.Mathlib.Omega.{arith}
use Rattle.spell.proofs.Sim.{run-go, run-stop, run_end}
use Rattle.spell.proofs.scan.Goals as goal

pub returns-then-row-eq0 : goal.returns-then-row-eq0
returns-then-row-eq0 c = let p = c.loop-i in sym (run-stop (c.args.text.now) p.row (c.follows-row.result) p.i (c.loop-i-test.true) (c.follows-row.ensures.0) c.if-row-eq0.true) ∙ p.invariant.2 ∙ row-run-stuck _ (λ j. omega (arith, c.type_inv.text j))

pub loop-i-preserved : goal.loop-i-preserved
loop-i-preserved c = let p = c.loop-i in (c.follows-row.ensures.1, omega arith, sym (run-go (c.args.text.now) p.row (c.follows-row.result) p.i (c.loop-i-test.true) (c.follows-row.ensures.0) c.if-row-eq0.false) ∙ p.invariant.2)

pub returns-then-row-eq-LAST_ROW : goal.returns-then-row-eq-LAST_ROW
returns-then-row-eq-LAST_ROW c = let p = c.loop-i in sym (run_end (c.args.text.now) p.row p.i (omega arith) ∙ rw (eq-eqb p.row (last_state * kind_count) c.if-row-eq-LAST_ROW.true)) ∙ p.invariant.2 ∙ row-run-stuck _ (λ j. omega (arith, c.type_inv.text j))

pub returns : goal.returns
returns c = let p = c.loop-i in let e : p.i ≡ length c.args.text.now = omega arith in rw (← e) (sym (run_end (c.args.text.now) p.row p.i (omega arith) ∙ rw (ne_eqb p.row (last_state * kind_count) c.if-row-eq-LAST_ROW.false)) ∙ p.invariant.2 ∙ row-run-stuck _ (λ j. omega (arith, c.type_inv.text j)))
