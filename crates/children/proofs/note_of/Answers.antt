use Rattle.children.proofs.Ways.{note-bad, note-good, note-none, note-unknown}
use Rattle.children.proofs.note_of.Goals as goal

pub returns-then-told-eq-SUCCESS : goal.returns-then-told-eq-SUCCESS
returns-then-told-eq-SUCCESS c = note-good _ c.mode_at.ensures c.if-mode_at-eq-REPORTING.true c.result_at-told.ensures c.if-told-eq-SUCCESS.true

pub returns-then-told-eq-FAILURE : goal.returns-then-told-eq-FAILURE
returns-then-told-eq-FAILURE c = note-bad _ c.mode_at.ensures c.if-mode_at-eq-REPORTING.true c.result_at-told.ensures c.if-told-eq-FAILURE.true

pub returns-else-told-eq-FAILURE : goal.returns-else-told-eq-FAILURE
returns-else-told-eq-FAILURE c = note-unknown _ c.mode_at.ensures c.if-mode_at-eq-REPORTING.true c.result_at-told.ensures c.if-told-eq-SUCCESS.false c.if-told-eq-FAILURE.false

pub returns-else-mode_at-eq-REPORTING : goal.returns-else-mode_at-eq-REPORTING
returns-else-mode_at-eq-REPORTING c = note-none _ c.mode_at.ensures c.if-mode_at-eq-REPORTING.false
