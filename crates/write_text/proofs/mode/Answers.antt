use borrow.Author.Tests.{eq-eqb, ne_eqb}
use Rattle.write_text.proofs.Lined.{any-mode}
use Rattle.write_text.proofs.mode.Goals as goal

pub returns-then-m-eq0 : goal.returns-then-m-eq0
returns-then-m-eq0 c = rw (any-mode c.args.m, eq-eqb c.args.m 0 c.if-m-eq0.true) c.put.ensures

pub returns-else-m-eq0 : goal.returns-else-m-eq0
returns-else-m-eq0 c = rw (any-mode c.args.m, ne_eqb c.args.m 0 c.if-m-eq0.false) c.put-else-m-eq0.ensures
