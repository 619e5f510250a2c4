-- The numbers of a save and a resume, and what of them can be told.
use Rattle.parlog.specs.Answer.{Answer}
use Rattle.std.specs.Prelude.{cond, ◌≤◌, ℕ, ltb, ⊤, Err, Ok}
use Rattle.parlog.specs.Load.{refusal}
use Rattle.parlog.specs.Numbers.{Numbers, refused_as}
use Rattle.parlog.specs.declared.Refusal.{Refusal}
use Rattle.words.specs.Fits.{RefusalFits}

-- Saved 12: an offset over 32 bits is told as the largest number
abbrev pub told_offset : ℕ → ℕ
told_offset o = cond (ltb 4294967295 o) 4294967295 o

-- Saved 12: a refusal as it is told
abbrev pub told_refusal : Refusal → Refusal
told_refusal r = refusal r.number (told_offset r.offset)

-- Saved 4: of a save: how many bytes the saved run has
abbrev pub save_numbers : Answer ℕ → Numbers
save_numbers (Ok n) = record { refused = 0; a = 0; b = 0; c = n }
save_numbers (Err r) = refused_as r

-- Saved 10: of a resume: nothing to tell
abbrev pub resume_numbers : Answer ⊤ → Numbers
resume_numbers (Ok tt) = record { refused = 0; a = 0; b = 0; c = 0 }
resume_numbers (Err r) = refused_as (told_refusal r)

-- a save whose numbers fit into a word
abbrev pub SaveFits : Answer ℕ → Type 0
SaveFits (Ok n) = n ≤ 4294967295
SaveFits (Err r) = RefusalFits r
