-- The worked examples of requests 1 and 7: their statements stand in specs/BoundCases and specs/TraceCases.
use mathlib.Core.Path.{refl}
use Rattle.bound.specs.Calls.{step_binds, step_bound_call, supply_bound_call, tell_in, turn_binds, turn_bound_call}
use Rattle.bound_row.specs.Row.{bound_bytes, twos}
use Rattle.lay.specs.Lay.{laid}
use Rattle.parlog.proofs.Opened.{opened}
use Rattle.promises.specs.BoundCases.{BoundRefused, BoundShown}
use Rattle.promises.specs.TraceCases.{RecordedSo, UnrecordedSo}
use Rattle.replay.specs.Instances.{same, trace_from}
use Rattle.run_traced.specs.Traced.{run_records, run_traced_call}
use Rattle.trace.specs.Trace.{record_bytes}
use Rattle.traced.specs.Traced.{step_traced_call, supply_traced_call}

pub bound_shown : BoundShown
unfolding opened laid twos bound_bytes step_binds turn_binds tell_in step_bound_call turn_bound_call supply_bound_call
bound_shown = (refl, refl, refl, refl, refl, refl)

pub bound_refused : BoundRefused
unfolding opened laid twos bound_bytes step_binds turn_binds tell_in step_bound_call turn_bound_call supply_bound_call
bound_refused = (refl, refl, refl, refl, refl)

pub recorded_so : RecordedSo
unfolding opened laid tell_in record_bytes same trace_from run_records step_traced_call supply_traced_call run_traced_call
recorded_so = (refl, refl, refl, refl, refl, refl, refl, refl)

pub unrecorded_so : UnrecordedSo
unfolding opened laid tell_in record_bytes run_records step_traced_call supply_traced_call run_traced_call
unrecorded_so = (refl, refl, refl, refl)
