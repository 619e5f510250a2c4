-- Replays that are computed: their statements stand in specs/Instances.
use mathlib.Core.Path.{refl}
use Prim.Native.Nat.{ℕ}
use Rattle.parlog.proofs.Opened.{opened}
use Rattle.replay.specs.Instances.{Disagrees, ReplayedSo, same, TraceBytes, trace_from, TraceRefused}
use Rattle.replay.specs.Replay.{play_from, play_record, replay_call}
use Rattle.trace.specs.Trace.{first_fault, first_gap, record_bytes, record_fault, trace_tested}

-- opens the definitions of a replay
unfoldable also_opened : ℕ
unfolding same trace_from record_bytes record_fault first_fault first_gap trace_tested play_record play_from replay_call
also_opened = 0

pub trace_bytes : TraceBytes
unfolding opened also_opened
trace_bytes = (refl, refl, refl, refl, refl, refl)

pub replayed_so : ReplayedSo
unfolding opened also_opened
replayed_so = ((refl, refl), (refl, refl), (refl, refl))

pub disagrees_so : Disagrees
unfolding opened also_opened
disagrees_so = ((refl, refl), refl, refl, (refl, refl), (refl, refl), (refl, refl))

pub trace_refused : TraceRefused
unfolding opened also_opened
trace_refused = ((refl, refl), (refl, refl), (refl, refl), (refl, refl), (refl, refl), refl, refl)
