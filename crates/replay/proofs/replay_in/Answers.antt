use Rattle.std.proofs.lemmas.Result.{err_from_is_err_and}
use Rattle.replay.proofs.Laws.{replay-faulty, replay-fits, replay-played}
use native.Mathlib.Omega.{arith}
use Rattle.replay.proofs.replay_in.Goals as goal

pub returns-in_err-n : goal.returns-in_err-n
returns-in_err-n c = let p = err_from_is_err_and c.from_residual.result c.from_residual.ensures.1 in rw (p.1, p.2) (replay-faulty _ _ _ _ _ c.requires _ c.test_trace.ensures c.in_err-n.was)

pub play-k-requires : goal.play-k-requires
play-k-requires c = let f = replay-fits _ _ _ _ _ c.requires _ c.test_trace.ensures c.in_ok-n.was in (c.requires, omega (arith, f))

pub told-requires : goal.told-requires
told-requires c = let f = replay-fits _ _ _ _ _ c.requires _ c.test_trace.ensures c.in_ok-n.was in (c.play-k.ensures.most, omega (arith, f))

pub returns : goal.returns
returns c = replay-played _ _ _ _ _ c.requires _ c.test_trace.ensures c.in_ok-n.was c.play-k.ensures c.told.ensures
