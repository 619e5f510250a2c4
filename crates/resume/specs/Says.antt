-- What a save and a resume promise: the answer, and each lent row afterwards, byte for byte.
use Rattle.parlog.specs.Answer.{Answer}
use Rattle.std.specs.Prelude.{◌≡◌, List, ◌*◌, ◌≤◌, ℕ, length, ⊤, Ok, Err}
use Rattle.parlog.specs.Limits.{Limits}
use Rattle.parlog.specs.Program.{Program}
use Rattle.parlog.specs.Tables.{cell_size, head_size, Lent, row_size}
use Rattle.resume.specs.Calls.{ResumeCall, resume_call, resume_read, save_call}
use Rattle.saved.specs.Form.{saved_size}
use Rattle.saved.specs.Reading.{read_saved}
use Rattle.saved.specs.Restored.{resumed_lent}

-- a size of 32 bits
abbrev pub StoredFew : Answer ℕ → Type 0
StoredFew (Ok n) = n ≤ 4294967295
StoredFew (Err r) = Unit {0}

-- Saved 4, 11: the whole save
pub record SaveSays (lim : Limits) (s : List ℕ) (l : Lent) (row : List ℕ) (a : Answer ℕ) (row' : List ℕ) : Type 0 where
  pub answer : a ≡ (save_call lim s l row).answer
  pub row_is : row' ≡ (save_call lim s l row).row
  pub few : StoredFew a

-- an answer of the tests read as the whole resume
abbrev pub resume_of : Answer (ℕ × ℕ) → Limits → Lent → List ℕ → ResumeCall
resume_of (Err r) lim l x = record { answer = Err r; lent = l }
resume_of (Ok (a, b)) lim l x = record { answer = Ok tt; lent = resumed_lent lim x a b }

-- what the writing may count on
pub record Restores (lim : Limits) (l : Lent) (x : List ℕ) (a b : ℕ) : Type 0 where
  pub inside : saved_size a b ≤ length x
  pub procs_most : a ≤ lim.procs
  pub vars_most : b ≤ lim.vars
  pub head : length l.head ≡ head_size
  pub procs : length l.procs ≡ lim.procs * row_size
  pub vars : length l.vars ≡ lim.vars * cell_size

-- that, where there is something to write
abbrev pub RestoresOf : Answer (ℕ × ℕ) → Limits → Lent → List ℕ → Type 0
RestoresOf (Err r) lim l x = Unit {0}
RestoresOf (Ok (a, b)) lim l x = Restores lim l x a b

-- Saved 5, 8, 9: what is decided for a program, the image being of this length
pub record TestedSays (lim : Limits) (pr : Program) (image : ℕ) (l : Lent) (x : List ℕ) (a : Answer (ℕ × ℕ)) : Type 0 where
  pub call : resume_read (read_saved x) lim pr image l x ≡ resume_of a lim l x
  pub restores : RestoresOf a lim l x

-- Saved 5: what is decided before anything is written
pub record DecidedSays (lim : Limits) (s : List ℕ) (l : Lent) (x : List ℕ) (a : Answer (ℕ × ℕ)) : Type 0 where
  pub call : resume_call lim s l x ≡ resume_of a lim l x
  pub restores : RestoresOf a lim l x

-- Saved 10, 11: the whole resume
pub record ResumeSays (lim : Limits) (s : List ℕ) (l : Lent) (x : List ℕ) (a : Answer ⊤) (h p v : List ℕ) : Type 0 where
  pub answer : a ≡ (resume_call lim s l x).answer
  pub head : h ≡ (resume_call lim s l x).lent.head
  pub procs : p ≡ (resume_call lim s l x).lent.procs
  pub vars : v ≡ (resume_call lim s l x).lent.vars
