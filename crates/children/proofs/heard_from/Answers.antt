use Rattle.children.proofs.Ways.{heard-bad, heard-good, heard-silent}
use Rattle.children.proofs.heard_from.Goals as goal

pub returns-then-f-eq-SUCCEEDED : goal.returns-then-f-eq-SUCCEEDED
returns-then-f-eq-SUCCEEDED c = heard-good _ _ c.note_of-f.ensures c.if-f-eq-SUCCEEDED.true

pub returns-then-f-eq-FAILED : goal.returns-then-f-eq-FAILED
returns-then-f-eq-FAILED c = heard-bad _ _ c.note_of-f.ensures c.if-f-eq-SUCCEEDED.false c.if-f-eq-FAILED.true

pub returns : goal.returns
returns c = heard-silent _ _ c.note_of-f.ensures c.if-f-eq-SUCCEEDED.false c.if-f-eq-FAILED.false
