use Rattle.resume.proofs.Saving.{save-refused, save-short, save-stored}
use Rattle.resume.proofs.save.Goals as goal

pub returns-in_default : goal.returns-in_default
returns-in_default c = save-refused _ _ _ _ c.enter-e.ensures.enter_says c.in_default.is c.refusal-r.ensures

pub returns-then-row-size : goal.returns-then-row-size
returns-then-row-size c = save-short _ _ _ _ c.enter-e.ensures.enter_says c.in-Ok.is c.proc_count-n.ensures.0 c.var_count-m.ensures.0 c.size-size.ensures.0 c.if-row-size.true c.refusal.ensures

pub returns : goal.returns
returns c = save-stored _ _ _ _ c.enter-e.ensures.enter_says c.in-Ok.is c.proc_count-n.ensures.0 c.var_count-m.ensures.0 c.size-size.ensures.0 c.if-row-size.false c.size-size.ensures.1 c.write.ensures
