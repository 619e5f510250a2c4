use Rattle.read_clause.proofs.Parted.{clause-in}
use Rattle.read_clause.proofs.clause.Goals as goal

pub returns : goal.returns
returns c = clause-in c.args.s.now c.args.at c.past_name-terms.result c.terms-head.result c.halves-guard.result _ c.after_mark.result c.past_name-terms.ensures.0 c.past_name-terms.ensures.1 c.terms-head.ensures c.halves-guard.ensures c.byte_at.ensures.0 c.after_mark.ensures.0 c.after_mark.ensures.1
