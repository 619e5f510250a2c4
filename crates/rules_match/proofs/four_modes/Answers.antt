use Rattle.rules_match.proofs.four_modes.Goals as goal

pub returns : goal.returns
returns c = rw (c.mode_of-d.ensures.0, c.mode_of-c.ensures.0, c.mode_of-b.ensures.0, c.mode_of-a.ensures.0)
