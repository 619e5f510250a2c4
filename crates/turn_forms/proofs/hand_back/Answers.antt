use Rattle.turn_forms.proofs.hand_back.Goals as goal

pub returns : goal.returns
returns c = rw (c.marker_steps-steps.ensures, c.marker_last-last.ensures.0)
