use Rattle.parlog.proofs.Along.{along-none, along-more}
use Rattle.parlog.specs.Image.{record_end}
use Prim.Native.Nat.{◌-◌}
use mathlib.Core.Path.{◌≡◌}
use native.Mathlib.Nat.{sub-add-eq}
use native.Mathlib.Omega.{arith}
use Rattle.write_text.proofs.record_at.Goals as goal

pub loop-preserved : goal.loop-preserved
loop-preserved c = let p = c.loop in
    (rw (c.word_at-at.ensures.0, sub-add-eq, ← along-more (record_end c.args.s.now) (c.args.k - p.counter) p.at (omega arith)) p.invariant.0, omega arith)

pub returns : goal.returns
returns c = let p = c.loop in let e : c.args.k - p.counter ≡ 0 = omega arith in
    (rw (← along-none (record_end c.args.s.now) p.at e) p.invariant.0, omega arith)
