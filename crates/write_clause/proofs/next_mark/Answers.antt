use mathlib.Core.Path.{◌∙◌}
use Rattle.write_clause.proofs.Claused.{mark-none, mark-some}
use Rattle.write_clause.proofs.next_mark.Goals as goal

pub returns-then-left-eq0 : goal.returns-then-left-eq0
returns-then-left-eq0 c = mark-none c.args.s.now c.args.at c.args.left c.if-left-eq0.true

pub returns : goal.returns
returns c = c.byte_at.ensures.0 ∙ mark-some c.args.s.now c.args.at c.args.left c.if-left-eq0.false
