use Rattle.std.proofs.lemmas.Option.{IfSome_then}
use Rattle.load_body.proofs.Goals.{goal-long, goal-read}
use native.Mathlib.Omega.{arith}
use Rattle.load_body.proofs.goal_range.Goals as goal

pub returns-then-n-gt-MOST_STAGES : goal.returns-then-n-gt-MOST_STAGES
returns-then-n-gt-MOST_STAGES c = let a = c.args in (rw (goal-long a.s.now a.at (omega arith)), tt)

pub returns : goal.returns
returns c = let a = c.args in (rw (← goal-read a.s.now a.at (omega arith), ← c.byte_at-n.ensures.0) c.stages_range.ensures.0, IfSome_then c.stages_range.result c.stages_range.ensures.1 (λ e p. omega arith))
