use Rattle.rules_and.proofs.Children.{two_made}
use Rattle.rules_and.proofs.with_children.Goals as goal

pub returns : goal.returns
returns c = (two_made _ c.append.ensures c.append-2.ensures c.make.ensures.0, c.make.ensures.1, c.make.ensures.2)
