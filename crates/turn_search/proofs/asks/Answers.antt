use borrow.Author.Rules.{rules}
use Rattle.parlog.specs.Codes.{tag_of}
use Rattle.turn_search.proofs.Laws.{asks_at, asks_none}
use Rattle.turn_search.proofs.asks.Goals as goal

pub returns-in-0 : goal.returns-in-0
unfolding tag_of
returns-in-0 c = asks_at 0 c.in-0.is

pub returns-in-1 : goal.returns-in-1
unfolding tag_of
returns-in-1 c = asks_at 1 c.in-1.is

pub returns-in-2 : goal.returns-in-2
unfolding tag_of
returns-in-2 c = asks_at 2 c.in-2.is

pub returns-in-3 : goal.returns-in-3
unfolding tag_of
returns-in-3 c = asks_at 3 c.in-3.is

pub returns-in-4 : goal.returns-in-4
unfolding tag_of
returns-in-4 c = asks_at 4 c.in-4.is

pub returns-in-5 : goal.returns-in-5
unfolding tag_of
returns-in-5 c = asks_at 5 c.in-5.is

pub returns-in-7 : goal.returns-in-7
unfolding tag_of
returns-in-7 c = asks_at 7 c.in-7.is

pub returns-in_default : goal.returns-in_default
returns-in_default c = search (rules, asks_none)
