use native.Mathlib.Omega.{arith}
use Rattle.write_goal.proofs.Rowed.{lead-mark, lead-none}
use Rattle.lay_text.proofs.Lent.{wrote-none}
use Rattle.write_goal.proofs.lead.Goals as goal

pub returns-then-k-gt0 : goal.returns-then-k-gt0
returns-then-k-gt0 c = rw (← lead-mark c.args.mark.now c.args.k (λ e. omega arith)) c.word.ensures

pub returns-else-k-gt0 : goal.returns-else-k-gt0
returns-else-k-gt0 c = rw (lead-none c.args.mark.now c.args.k (omega arith)) (wrote-none _)
