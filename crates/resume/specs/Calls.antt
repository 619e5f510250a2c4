-- A save and a resume: from an image, lent tables and a lent row to an answer and the bytes afterwards.
use Rattle.parlog.specs.Answer.{Answer}
use Rattle.std.specs.Prelude.{◌&&◌, Bool, false, true, List, ℕ, eqb, ltb, length, Err, Ok, ⊤}
use Rattle.parlog.specs.Calls.{enter, entered, Entry, turned_away}
use Rattle.parlog.specs.Limits.{Limits}
use Rattle.parlog.specs.Load.{load_of, refusal}
use Rattle.parlog.specs.Program.{Program, program_of}
use Rattle.parlog.specs.TableRules.{full_size, lent_ok}
use Rattle.parlog.specs.Tables.{Lent, written}
use Rattle.saved.specs.Form.{saved_bytes}
use Rattle.saved.specs.Reading.{read_saved}
use Rattle.saved.specs.Restored.{counts_agree, image_length, resumed_lent}

-- ---- a save

-- what a save answers, and the row that it leaves; the tables it only reads
pub record SaveCall : Type 0 where
  pub answer : Answer ℕ
  pub row : List ℕ

-- Saved 4: ROOM where the row is shorter; else these bytes at its front, every byte behind them as it was
abbrev pub save_by : Bool → List ℕ → List ℕ → SaveCall
save_by true bytes row = record { answer = Err (refusal 11 0); row = row }
save_by false bytes row = record { answer = Ok (length bytes); row = written bytes row }

-- Saved 4: a call that was let in saves its run
abbrev pub save_entry : Entry → List ℕ → Lent → List ℕ → SaveCall
save_entry (turned_away r) s l row = record { answer = Err r; row = row }
save_entry (entered pr t) s l row = save_by (ltb (length row) (length (saved_bytes l (length s)))) (saved_bytes l (length s)) row

-- Saved 4: the save
unfoldable pub save_call : Limits → List ℕ → Lent → List ℕ → SaveCall
save_call lim s l row = save_entry (enter lim s l) s l row

-- ---- a resume

-- what a resume answers and leaves; the row with the saved run it only reads
pub record ResumeCall : Type 0 where
  pub answer : Answer ⊤
  pub lent : Lent

-- Saved 9: the lent rows have their full sizes, the counts agree, and what was read keeps the table rules
unfoldable pub resumable : Limits → Program → Lent → List ℕ → ℕ → ℕ → Bool
resumable lim pr l x a b = full_size lim l && (counts_agree x a b && lent_ok lim pr (resumed_lent lim x a b))

-- Saved 9, 10: STATE, or the tables of the saved run
abbrev pub resume_by : Bool → Limits → Lent → List ℕ → ℕ → ℕ → ResumeCall
resume_by false lim l x a b = record { answer = Err (refusal 8 0); lent = l }
resume_by true lim l x a b = record { answer = Ok tt; lent = resumed_lent lim x a b }

-- Saved 8: FOREIGN where the image has another length
abbrev pub resume_image : Bool → Limits → Program → Lent → List ℕ → ℕ → ℕ → ResumeCall
resume_image false lim pr l x a b = record { answer = Err (refusal 15 0); lent = l }
resume_image true lim pr l x a b = resume_by (resumable lim pr l x a b) lim l x a b

-- Saved 5: the records first
abbrev pub resume_read : Answer (ℕ × ℕ) → Limits → Program → ℕ → Lent → List ℕ → ResumeCall
resume_read (Err r) lim pr image l x = record { answer = Err r; lent = l }
resume_read (Ok (a, b)) lim pr image l x = resume_image (eqb (image_length x) image) lim pr l x a b

-- Saved 5: and before them the image
abbrev pub resume_loaded : Answer (ℕ × ℕ) → Limits → List ℕ → Lent → List ℕ → ResumeCall
resume_loaded (Err r) lim s l x = record { answer = Err r; lent = l }
resume_loaded (Ok (r, c)) lim s l x = resume_read (read_saved x) lim (program_of s r c) (length s) l x

-- Saved 5: the resume
unfoldable pub resume_call : Limits → List ℕ → Lent → List ℕ → ResumeCall
resume_call lim s l x = resume_loaded (load_of s) lim s l x
