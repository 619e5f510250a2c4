use Rattle.words.proofs.refused.Goals as goal

pub returns : goal.returns
returns c = c.word.ensures
