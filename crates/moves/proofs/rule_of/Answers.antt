use borrow.Author.Rules.{rules}
use native.Mathlib.Omega.{arith}
use Rattle.parlog.specs.Codes.{ready}
use Rattle.rules_match.proofs.Ways.{within_none}
use Rattle.moves.proofs.Ways.{able-there, reports, ruled, sleeps, starts, suspended-left, waits, wakes}
use Rattle.moves.proofs.rule_of.Goals as goal

pub returns-in-0 : goal.returns-in-0
returns-in-0 c = (sleeps _ _ _ _ c.get-x.ensures c.in-0.is c.none.ensures.0, c.none.ensures.1, (let h = c.none.ensures.2 in omega arith), within_none _ c.none.result c.none.ensures.2)

pub returns-in-1 : goal.returns-in-1
returns-in-1 c = (ruled ready _ _ _ _ c.get-x.ensures c.in-1.is (c.ready.ensures.0 _ _), c.ready.ensures.1, (let h = c.ready.ensures.2 in omega arith), within_none _ c.ready.result c.ready.ensures.2)

pub returns-in-2 : goal.returns-in-2
returns-in-2 c = (starts _ _ _ _ c.get-x.ensures c.in-2.is c.start_rule.ensures.0, c.start_rule.ensures.1, c.start_rule.ensures.2, c.start_rule.ensures.3)

pub returns-in-3 : goal.returns-in-3
returns-in-3 c = (waits _ _ _ _ c.get-x.ensures c.in-3.is (c.wait_rule.ensures.0 _), c.wait_rule.ensures.1, (let h = c.wait_rule.ensures.2 in omega arith), within_none _ c.wait_rule.result c.wait_rule.ensures.2)

pub returns-in-4 : goal.returns-in-4
returns-in-4 c = (reports _ _ _ _ c.get-x.ensures c.in-4.is c.stop.ensures.0, c.stop.ensures.1, (let h = c.stop.ensures.2 in omega arith), within_none _ c.stop.result c.stop.ensures.2)

pub returns-in_default : goal.returns-in_default
returns-in_default c = let a = able-there _ _ _ _ c.get-x.ensures c.requires.3 in (wakes _ _ _ _ c.get-x.ensures (suspended-left _ a.mode (search rules) (search rules) (search rules) (search rules) (search rules)) c.wake.ensures.0, c.wake.ensures.1, c.wake.ensures.2, c.wake.ensures.3)
