-- The verdict of a record, the part of it that reads the fields, what is told with it, and the refusal that an answer holds.
use Rattle.parlog.specs.Answer.{Answer}
use Rattle.std.specs.Prelude.{not, List, ℕ, Result, Ok, Err}
use Rattle.parlog.specs.Body.{body_right}
use Rattle.parlog.specs.Load.{block_full, progressed, refusal, refuse_if, verdict}
use Rattle.parlog.specs.Names.{names_right}
use Rattle.parlog.specs.Records.{cut}
use Rattle.parlog.specs.declared.Progress.{Progress}
use Rattle.parlog.specs.declared.Refusal.{Refusal}

-- 4 for the whole record, then 5, then the ninth-clause part of 6
abbrev pub fields_verdict : List ℕ → Progress → ℕ → ℕ → Result Progress ℕ
fields_verdict s g at kind =
    refuse_if (not (body_right s at kind)) 4
    (refuse_if (not (names_right s g at kind)) 5
    (refuse_if (block_full s g at kind) 6
    (Ok (progressed s g at kind))))

-- 2 before the tests of a whole record
abbrev pub record_verdict : List ℕ → Progress → ℕ → Result Progress ℕ
record_verdict s g at = refuse_if (cut s at) 2 (verdict s g at)

-- a verdict, with where the body of a clause that goes begins
abbrev pub told : Result Progress ℕ → ℕ → Result (Progress × ℕ) ℕ
told (Ok g) p = Ok (g, p)
told (Err n) p = Err n

-- 0 at 0 for an answer that is none
abbrev pub refusal_of : Answer (ℕ × ℕ) → Refusal
refusal_of (Ok (r, c)) = refusal 0 0
refusal_of (Err r) = r
