use mathlib.Core.Path.{refl}
use Rattle.parlog.specs.Program.{program_of}
use Rattle.parlog.specs.Limits.{small}
use Rattle.resume.proofs.Resuming.{fits-few, fits_not, fits-rules}
use Rattle.resume.proofs.fits.Goals as goal

pub returns-then-not-so_far : goal.returns-then-not-so_far
unfolding small
returns-then-not-so_far c = fits_not _ _ _ _ _ _ c.full_size-full.ensures c.counts_agree-agree.ensures refl refl refl (c.if-not-so_far.true)

pub keeps_rules-requires : goal.keeps_rules-requires
unfolding small
keeps_rules-requires c = let s = c.args in
    let p = c.requires in
    let f = fits-few small (program_of s.image.now.bytes.now s.image.now.relations s.image.now.clauses) _ _ _ _ c.full_size-full.ensures c.counts_agree-agree.ensures refl refl refl (c.if-not-so_far.false) in
    (f.0, f.1, p)

pub returns : goal.returns
unfolding small
returns c = fits-rules _ _ _ _ _ _ c.full_size-full.ensures c.counts_agree-agree.ensures refl refl refl (c.if-not-so_far.false) c.keeps_rules.ensures
