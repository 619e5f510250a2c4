use native.Mathlib.Omega.{arith}
use Rattle.words.proofs.Laws.{move-told, process-fits}
use Rattle.words.proofs.move_word.Goals as goal

pub word-requires : goal.word-requires
word-requires c = let h = process-fits c.args.m c.in-Process.is c.tell-rule.ensures.touched_is c.requires in (omega arith, omega arith, omega arith, h)

pub returns-in-Process : goal.returns-in-Process
returns-in-Process c = move-told _ c.in-Process.is c.tell-rule.ensures c.from.ensures c.word.ensures

pub returns-in-Variable : goal.returns-in-Variable
returns-in-Variable c = move-told _ c.in-Variable.is c.tell-rule.ensures c.from-in-Variable.ensures c.word-in-Variable.ensures
