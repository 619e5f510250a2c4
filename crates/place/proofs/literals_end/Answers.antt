use Rattle.parlog.proofs.Along.{along-none, along-snoc}
use Rattle.parlog.specs.Image.{literal_end}
use mathlib.Core.Path.{refl}
use native.Mathlib.Omega.{arith}
use Rattle.std.proofs.Math.Numerals.{add-one}
use Rattle.place.proofs.literals_end.Goals as goal

pub loop-init : goal.loop-init
loop-init c = (rw (along-none (literal_end c.args.s.now) c.args.from refl), omega arith)

pub loop-preserved : goal.loop-preserved
loop-preserved c = let p = c.loop in
    (rw (c.byte_at.ensures.0, add-one p.counter, along-snoc, ← p.invariant.0), omega arith)
