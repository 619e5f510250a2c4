-- The refusal of a call whose counts have another size.
use Rattle.std.specs.Prelude.{ℕ, Err, Ok}
use Rattle.parlog.specs.Answer.{Answer}
use Rattle.parlog.specs.Load.{refusal}
use Rattle.parlog.specs.declared.Refusal.{Refusal}

-- Refusals 20, 21: the image's refusal first, then that of the size
abbrev pub away_of : Answer (ℕ × ℕ) → Refusal
away_of (Err r) = r
away_of (Ok (r, c)) = refusal 8 0
