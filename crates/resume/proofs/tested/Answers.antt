use native.Mathlib.Omega.{arith}
use Rattle.resume.proofs.Resuming.{read-inside, tested-whole}
use Rattle.resume.proofs.tested.Goals as goal

pub image_length-requires : goal.image_length-requires
image_length-requires c = let k = read-inside c.args.row.now c.read.ensures c.in_ok-a.was in omega arith

pub fits-requires : goal.fits-requires
fits-requires c = read-inside c.args.row.now c.read.ensures c.in_ok-a.was

pub returns : goal.returns
returns c = tested-whole _ _ _ _ _ c.read.ensures c.in_ok-a.was c.image_length.ensures.0 c.if-image_length-image.false c.fits.ensures (c.if-not-fits.false)
