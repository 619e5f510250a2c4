use mathlib.Core.Bool.{◌&&◌}
use mathlib.Core.Path.{◌∙◌, refl}
use Prim.Native.Nat.{◌+◌}
use lib.Dec.{leb, ltb}
use Rattle.judge_text.proofs.Tried.{clause-counted, tested-kept}
use Rattle.take_text.proofs.Tested.{taken-tested}
use Rattle.take_text.proofs.test.Goals as goal

pub returns : goal.returns
returns c = (c.verdict.ensures ∙ taken-tested c.args.g c.args.opens c.args.number c.block_with-block.result c.args.right (c.args.fits && leb c.args.g.relation c.args.number) c.args.fits c.requires refl c.block_with-block.ensures, rw (c.verdict.ensures) (tested-kept (leb 64 c.args.g.clauses) c.args.right (c.args.fits && leb c.args.g.relation c.args.number) (ltb 8 c.block_with-block.result) (record { relations = c.args.g.relations; clauses = c.args.g.clauses + 1; kind = 2; relation = c.args.number; block = c.block_with-block.result }) (λ e f. clause-counted c.args.g c.args.number c.block_with-block.result c.requires e f)))
