use Rattle.replay.proofs.Laws.{play-done, play-goes, play-start, play-stops}
use native.Mathlib.Omega.{arith}
use Rattle.replay.proofs.play.Goals as goal

pub loop-k-init : goal.loop-k-init
loop-k-init c = play-start _ _ _ _ _ _ _ c.requires.0 (λ b. omega (arith, c.type_inv.head b)) (λ b. omega (arith, c.type_inv.procs b)) (λ b. omega (arith, c.type_inv.vars b))

pub play_record-requires : goal.play_record-requires
play_record-requires c = (c.loop-k.invariant.inside, omega (arith, c.loop-k-test.true, c.requires.1))

pub returns-then-not-play_record : goal.returns-then-not-play_record
returns-then-not-play_record c = play-stops _ _ _ _ _ _ _ c.requires.0 _ _ c.loop-k.invariant c.loop-k-test.true c.play_record.ensures c.if-not-play_record.true

pub loop-k-preserved : goal.loop-k-preserved
loop-k-preserved c = play-goes _ _ _ _ _ _ _ c.requires.0 _ _ c.loop-k.invariant c.loop-k-test.true c.play_record.ensures c.if-not-play_record.false

pub returns : goal.returns
returns c = play-done _ _ _ _ _ _ _ c.requires.0 _ _ c.loop-k.invariant c.loop-k-test.false
