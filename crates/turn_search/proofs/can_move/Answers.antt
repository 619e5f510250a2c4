use Rattle.turn_search.proofs.Laws.{can-dormant, can-reporting, can-start, can-suspended, can-waiting, said-small}
use Rattle.turn_search.proofs.can_move.Goals as goal

pub returns-then-mode-eq-DORMANT : goal.returns-then-mode-eq-DORMANT
returns-then-mode-eq-DORMANT c = λ pr. can-dormant _ _ _ _ _ c.mode_at-mode.ensures pr c.if-mode-eq-DORMANT.true

pub tells-requires : goal.tells-requires
tells-requires c = said-small _ _ c.requires

pub returns-then-mode-eq-WAITING : goal.returns-then-mode-eq-WAITING
returns-then-mode-eq-WAITING c = λ pr. can-waiting _ _ _ _ _ c.mode_at-mode.ensures pr c.if-mode-eq-WAITING.true c.requires c.tag_at-tag.ensures c.tells.ensures

pub returns-then-mode-eq-REPORTING : goal.returns-then-mode-eq-REPORTING
returns-then-mode-eq-REPORTING c = λ pr. can-reporting _ _ _ _ _ c.mode_at-mode.ensures pr c.if-mode-eq-REPORTING.true

pub returns-then-mode-lt-WAITING : goal.returns-then-mode-lt-WAITING
returns-then-mode-lt-WAITING c = λ pr. can-start _ _ _ _ _ c.mode_at-mode.ensures pr c.if-mode-eq-DORMANT.false c.if-mode-lt-WAITING.true

pub returns : goal.returns
returns c = λ pr. can-suspended _ _ _ _ _ c.mode_at-mode.ensures pr c.if-mode-lt-WAITING.false c.if-mode-eq-WAITING.false c.if-mode-eq-REPORTING.false c.wakes.ensures
