-- What a start promises: its answer, and each table afterwards, byte for byte.
use Rattle.parlog.specs.Answer.{Answer}
use Rattle.std.specs.Prelude.{◌≡◌, List, ◌*◌, ◌≤◌, ℕ, length, ⊤, Ok, Err}
use Rattle.parlog.specs.Calls.{StartCall, start_call}
use Rattle.parlog.specs.Limits.{Limits}
use Rattle.parlog.specs.Load.{load_of}
use Rattle.parlog.specs.Program.{Program, program_of}
use Rattle.parlog.specs.Tables.{cell_size, head_size, Lent, row_size, started_lent}

-- an answer of the first tests read as the whole call
abbrev pub start_of : Answer (ℕ × ℕ) → Limits → List ℕ → Lent → StartCall
start_of (Err r) lim s l = record { answer = Err r; lent = l }
start_of (Ok (r, c)) lim s l = record { answer = Ok tt; lent = started_lent lim (program_of s r c) }

-- the sizes, where a start is to be made
abbrev pub SizedOf : Answer (ℕ × ℕ) → Limits → Lent → Type 0
SizedOf (Err r) lim l = Unit {0}
SizedOf (Ok (r, c)) lim l = (r ≤ 32) × (c ≤ 64) × (length l.head ≡ head_size) × (length l.procs ≡ lim.procs * row_size) × (length l.vars ≡ lim.vars * cell_size)

-- the image was accepted, where a start is to be made
abbrev pub LoadedOf : Answer (ℕ × ℕ) → List ℕ → Type 0
LoadedOf (Err r) s = Unit {0}
LoadedOf (Ok (r, c)) s = load_of s ≡ Ok (r, c)

-- Refusals 20, 21: the refusal of the image or of the sizes, else the counts
pub record StartableSays (lim : Limits) (s : List ℕ) (l : Lent) (a : Answer (ℕ × ℕ)) : Type 0 where
  pub call : start_call lim s l ≡ start_of a lim s l
  pub sized : SizedOf a lim l
  pub loaded : LoadedOf a s

-- Tables 2: the bytes that a start leaves
pub record BeginSays (lim : Limits) (pr : Program) (h p v : List ℕ) : Type 0 where
  pub head : h ≡ (started_lent lim pr).head
  pub procs : p ≡ (started_lent lim pr).procs
  pub vars : v ≡ (started_lent lim pr).vars

-- Tables 2, Refusals 23: the whole call
pub record StartSays (lim : Limits) (s : List ℕ) (l : Lent) (r : Answer ⊤) (h p v : List ℕ) : Type 0 where
  pub answer : r ≡ (start_call lim s l).answer
  pub head : h ≡ (start_call lim s l).lent.head
  pub procs : p ≡ (start_call lim s l).lent.procs
  pub vars : v ≡ (start_call lim s l).lent.vars
