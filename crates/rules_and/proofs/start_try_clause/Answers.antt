use Rattle.rules_and.proofs.Ways.{try-starts}
use Rattle.rules_and.proofs.start_try_clause.Goals as goal

pub returns : goal.returns
returns c = (try-starts _ _ _ c.try_spot-call.ensures c.new_process-one.ensures c.guard_spot-guard.ensures c.new_process-other.ensures c.with_mode-me.ensures c.with_children.ensures.0, c.with_children.ensures.1, c.with_children.ensures.2)
