use mathlib.Core.Path.{◌∙◌}
use borrow.Author.Tests.{lt-leb}
use Rattle.move_plan.proofs.Plans.{fits_by, fits_not}
use Rattle.move_plan.proofs.fits.Goals as goal

pub returns-then-count-procs : goal.returns-then-count-procs
returns-then-count-procs c = fits_by _ _ _ _ c.args.count c.args.fresh c.requires.0 c.requires.1 c.if-count-procs.true

pub returns-else-count-procs : goal.returns-else-count-procs
returns-else-count-procs c = lt-leb _ _ c.if-count-procs.false ∙ fits_not _ _ _ _ c.args.count c.args.fresh c.requires.0 c.if-count-procs.false
