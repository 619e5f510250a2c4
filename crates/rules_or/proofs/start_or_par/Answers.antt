use Rattle.rules_or.proofs.Ways.{or-par-starts}
use Rattle.rules_or.proofs.start_or_par.Goals as goal

pub returns : goal.returns
returns c = (λ pr s e. or-par-starts pr s _ _ c.literal_spot-z.ensures c.new_process-y.ensures c.with_mode-me.ensures c.make_one.ensures.0 e, c.make_one.ensures.1, c.make_one.ensures.2)
