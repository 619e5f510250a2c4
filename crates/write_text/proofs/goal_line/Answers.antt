use Rattle.write_text.proofs.Lined.{goal-line-told}
use Rattle.write_text.proofs.goal_line.Goals as goal

pub returns : goal.returns
returns c = goal-line-told _ _ _ c.word.ensures c.goal.ensures c.word-2.ensures
