use mathlib.Core.Path.{◌∙◌}
use Rattle.program_clause.proofs.Fields.{term-none, term-some}
use Rattle.program_clause.proofs.term_of.Goals as goal

pub returns-then-k-n : goal.returns-then-k-n
returns-then-k-n c = c.term_at.ensures.0 ∙ term-some c.args.s.now _ _ _ c.if-k-n.true

pub returns : goal.returns
returns c = term-none c.args.s.now _ _ _ c.if-k-n.false
