-- Traces computed: stamps that pass 65,535, a record left out, bytes cut, another kind, another length.
use Rattle.std.specs.Prelude.{◌≡◌, ℕ, List, [], ◌∷◌, ◌++◌, take, drop, Err, Ok}
use Rattle.parlog.specs.Load.{refusal}
use Rattle.trace.specs.Trace.{record_bytes, trace_tested}

-- four steps of process 0 with the stamps FFFD, FFFE, FFFF and 0000, and a supply of 1 to variable 0 with stamp 0001
abbrev pub five_records : List ℕ
five_records = record_bytes 32 0 11 65533 ++ record_bytes 32 1 16 65534 ++ record_bytes 32 2 20 65535 ++ record_bytes 32 3 1 0 ++ record_bytes 33 0 1 1

-- Traces 2, 4: all follow; the third left out is a gap at its place; cut to 45 bytes, the last is cut; a late cut goes before an early gap
pub record StampsFollow : Type 0 where
  pub all_right : trace_tested five_records ≡ Ok 5
  pub third_left_out : trace_tested (take 20 five_records ++ drop 30 five_records) ≡ Err (refusal 19 20)
  pub last_cut : trace_tested (take 45 five_records) ≡ Err (refusal 2 40)
  pub cut_before_gap : trace_tested (take 20 five_records ++ take 15 (drop 30 five_records)) ≡ Err (refusal 2 30)
  pub plain_next : trace_tested (record_bytes 32 0 1 65535 ++ record_bytes 32 0 1 65535) ≡ Err (refusal 19 10)

-- Traces 4: another kind is 3, another length 4, by record
pub record OtherRecords : Type 0 where
  pub nothing : trace_tested (take 0 five_records) ≡ Ok 0
  pub kind_34 : trace_tested (record_bytes 32 0 1 5 ++ record_bytes 34 0 1 6) ≡ Err (refusal 3 10)
  pub longer : trace_tested (record_bytes 32 0 1 5 ++ 11 ∷ drop 1 (record_bytes 32 0 1 6) ++ 0 ∷ []) ≡ Err (refusal 4 10)
