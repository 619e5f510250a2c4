-- Request 7, worked examples: c6 recorded from the stamp 65,533 on, as crate replay has its trace.
use Rattle.parlog.specs.declared.End.{End}
use Rattle.parlog.specs.Answer.{Answer}
use Rattle.std.specs.Prelude.{◌≡◌, true, ◌++◌, take, ℕ, Ok, Err}
use Rattle.bound.specs.Calls.{RowCall}
use Rattle.parlog.specs.Load.{refusal}
use Rattle.parlog.specs.Tables.{zeros}
use Rattle.parlog.specs.declared.End.TheVariants.{Budget, Waiting}
use Rattle.replay.specs.Instances.{asked, begun, same, same_lent, ten, tiny, trace, turned}
use Rattle.run_traced.specs.Traced.{run_traced_call}
use Rattle.traced.specs.Traced.{step_traced_call, supply_traced_call}

-- a run into a row with room for more records than it makes moves, and into one with room for two
abbrev pub ran_wide : RowCall (Answer (End × ℕ))
ran_wide = run_traced_call tiny asked begun (zeros 100) 65535 65533

abbrev pub ran_short : RowCall (Answer (End × ℕ))
ran_short = run_traced_call tiny asked begun (zeros 29) 65535 65533

-- the supply behind the nine moves
abbrev pub gave : RowCall (Answer ℕ)
gave = supply_traced_call tiny asked (turned 9) (zeros 12) 0 1 6

-- Traces 9, 11, 12: the bytes of the trace, and behind them what was there
abbrev pub RecordedSo : Type 0
RecordedSo =
    (ran_wide.answer ≡ Ok (Waiting, 9))
    × (same ran_wide.row (take 90 trace ++ zeros 10) ≡ true)
    × (same_lent ran_wide.lent (turned 9) ≡ true)
    × (ran_short.answer ≡ Ok (Budget, 2))
    × (same ran_short.row (take 20 trace ++ zeros 9) ≡ true)
    × (gave.answer ≡ Ok 0)
    × (same gave.row (ten 90 ++ zeros 2) ≡ true)
    × (same (step_traced_call tiny asked (turned 7) (zeros 10) 4 4).row (ten 70) ≡ true)

-- Traces 10, 11: rows of nine bytes; NODE comes before the row
abbrev pub UnrecordedSo : Type 0
UnrecordedSo =
    ((step_traced_call tiny asked begun (zeros 9) 0 65533).answer ≡ Err (refusal 11 0))
    × ((step_traced_call tiny asked begun (zeros 9) 1 65533).answer ≡ Err (refusal 9 0))
    × ((supply_traced_call tiny asked (turned 9) (zeros 9) 0 1 6).answer ≡ Err (refusal 11 0))
    × ((run_traced_call tiny asked begun (zeros 9) 65535 65533).answer ≡ Ok (Budget, 0))
