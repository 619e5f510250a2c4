use Rattle.words.proofs.told_refusal.Goals as goal

pub returns : goal.returns
returns c = (rw c.told_number.ensures.0, c.told_number.ensures.1)
