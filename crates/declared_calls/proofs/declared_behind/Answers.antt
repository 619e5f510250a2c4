use Rattle.declared_calls.proofs.Gathered.{links-kept}
use Rattle.declared_calls.proofs.Classes.{behind-once}
use Rattle.declared_calls.proofs.declared_behind.Goals as goal

pub returns-then-rest-eq0 : goal.returns-then-rest-eq0
returns-then-rest-eq0 c = (behind-once c.mode_lines-rest.result.end c.names-named.ensures c.mode_lines-rest.ensures.end c.class_declared.ensures, c.names-named.ensures.size, links-kept c.names-named.ensures c.requires.1)
