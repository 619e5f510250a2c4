-- What a C program gets: the word of an answer, and each lent row afterwards, byte for byte.
use Rattle.std.specs.Prelude.{◌≡◌, List, ◌/◌, ℕ, length}
use Rattle.bound.specs.Calls.{step_bound_call, supply_bound_call, turn_bound_call}
use Rattle.parlog.specs.Calls.{run_call, start_call, step_call, supply_call, turn_call, value_call}
use Rattle.parlog.specs.Limits.{Limits}
use Rattle.parlog.specs.Load.{load_of}
use Rattle.parlog.specs.Numbers.{load_numbers, Numbers, run_numbers, start_numbers, step_numbers, supply_numbers, value_numbers, watch_numbers, word}
use Rattle.parlog.specs.Run.{watch_of}
use Rattle.parlog.specs.Tables.{Lent, procs_of, row_size}
use Rattle.replay.specs.Replay.{replay_call, replay_numbers}
use Rattle.resume.specs.Calls.{resume_call, save_call}
use Rattle.run_traced.specs.Traced.{run_traced_call}
use Rattle.text_program.specs.Parsing.{parse_call}
use Rattle.text_program.specs.Printing.{print_call}
use Rattle.text_words.specs.Numbers.{parse_numbers, print_numbers}
use Rattle.traced.specs.Traced.{step_traced_call, supply_traced_call}
use Rattle.values.specs.Values.{values_call, values_numbers}
use Rattle.words.specs.Fits.{reached}
use Rattle.words.specs.Nights.{resume_numbers, save_numbers}

-- Turns 10: the word of these numbers, and these rows
pub record Tells (n : Numbers) (l : Lent) (r : ℕ) (h p v : List ℕ) : Type 0 where
  pub answer : r ≡ word n
  pub head : h ≡ l.head
  pub procs : p ≡ l.procs
  pub vars : v ≡ l.vars

-- of a load: nothing is written
abbrev pub LoadTells : List ℕ → ℕ → Type 0
LoadTells s r = r ≡ word (load_numbers (load_of s))

-- of a start
abbrev pub StartTells : Limits → List ℕ → Lent → ℕ → List ℕ → List ℕ → List ℕ → Type 0
StartTells lim s l r h p v = Tells (start_numbers (start_call lim s l).answer) (start_call lim s l).lent r h p v

-- of the step of process i
abbrev pub StepTells : Limits → List ℕ → Lent → ℕ → ℕ → List ℕ → List ℕ → List ℕ → Type 0
StepTells lim s l i r h p v = Tells (step_numbers (step_call lim s l i).answer) (step_call lim s l i).lent r h p v

-- of a turn
abbrev pub TurnTells : Limits → List ℕ → Lent → ℕ → List ℕ → List ℕ → List ℕ → Type 0
TurnTells lim s l r h p v = Tells (step_numbers (turn_call lim s l).answer) (turn_call lim s l).lent r h p v

-- of a run of at most so many moves
abbrev pub RunTells : Limits → List ℕ → Lent → ℕ → ℕ → List ℕ → List ℕ → List ℕ → Type 0
RunTells lim s l limit r h p v = Tells (run_numbers (run_call lim s l limit).answer) (run_call lim s l limit).lent r h p v

-- of a supply of c for variable x of the goal
abbrev pub SupplyTells : Limits → List ℕ → Lent → ℕ → ℕ → ℕ → List ℕ → List ℕ → List ℕ → Type 0
SupplyTells lim s l x c r h p v = Tells (supply_numbers (supply_call lim s l x c).answer) (supply_call lim s l x c).lent r h p v

-- of a look at variable x of the goal: nothing is written
abbrev pub ValueTells : Limits → List ℕ → Lent → ℕ → ℕ → Type 0
ValueTells lim s l x r = r ≡ word (value_numbers (value_call lim s l x))

-- Values 1 to 4: of a look at all variables of the goal: the word, and the row afterwards
pub record ValuesTells (lim : Limits) (s : List ℕ) (l : Lent) (row : List ℕ) (r : ℕ) (after : List ℕ) : Type 0 where
  pub answer : r ≡ word (values_numbers (values_call lim s l row).answer)
  pub row_is : after ≡ (values_call lim s l row).row

-- Turns 5: of a watch over bytes: any row of processes, as far as a word can tell its number
abbrev pub WatchTells : List ℕ → ℕ → Type 0
WatchTells p r = r ≡ word (watch_numbers (reached (watch_of (procs_of p (length p / row_size)))))

-- ---- the variables bound, told in a row more

-- Turns 10, Bound 3: the word of these numbers, and these rows
pub record RowTells (n : Numbers) (l : Lent) (q : List ℕ) (r : ℕ) (h p v w : List ℕ) : Type 0 where
  pub answer : r ≡ word n
  pub head : h ≡ l.head
  pub procs : p ≡ l.procs
  pub vars : v ≡ l.vars
  pub row : w ≡ q

-- of the step of process i
abbrev pub StepBoundTells : Limits → List ℕ → Lent → List ℕ → ℕ → ℕ → List ℕ → List ℕ → List ℕ → List ℕ → Type 0
StepBoundTells lim s l row i r h p v w =
    RowTells (step_numbers (step_bound_call lim s l row i).answer) (step_bound_call lim s l row i).lent (step_bound_call lim s l row i).row r h p v w

-- of a turn
abbrev pub TurnBoundTells : Limits → List ℕ → Lent → List ℕ → ℕ → List ℕ → List ℕ → List ℕ → List ℕ → Type 0
TurnBoundTells lim s l row r h p v w =
    RowTells (step_numbers (turn_bound_call lim s l row).answer) (turn_bound_call lim s l row).lent (turn_bound_call lim s l row).row r h p v w

-- of a supply of c for variable x of the goal
abbrev pub SupplyBoundTells : Limits → List ℕ → Lent → List ℕ → ℕ → ℕ → ℕ → List ℕ → List ℕ → List ℕ → List ℕ → Type 0
SupplyBoundTells lim s l row x c r h p v w =
    RowTells (supply_numbers (supply_bound_call lim s l row x c).answer) (supply_bound_call lim s l row x c).lent (supply_bound_call lim s l row x c).row r h p v w

-- ---- the moves recorded, in a row more

-- Traces 9, 10: of the step of process i
abbrev pub StepTracedTells : Limits → List ℕ → Lent → List ℕ → ℕ → ℕ → ℕ → List ℕ → List ℕ → List ℕ → List ℕ → Type 0
StepTracedTells lim s l row i stamp r h p v w =
    RowTells (step_numbers (step_traced_call lim s l row i stamp).answer) (step_traced_call lim s l row i stamp).lent (step_traced_call lim s l row i stamp).row r h p v w

-- Traces 9, 10: of a supply of c for variable x of the goal
abbrev pub SupplyTracedTells : Limits → List ℕ → Lent → List ℕ → ℕ → ℕ → ℕ → ℕ → List ℕ → List ℕ → List ℕ → List ℕ → Type 0
SupplyTracedTells lim s l row x c stamp r h p v w =
    RowTells (supply_numbers (supply_traced_call lim s l row x c stamp).answer) (supply_traced_call lim s l row x c stamp).lent (supply_traced_call lim s l row x c stamp).row r h p v w

-- Traces 11: of a run of at most so many moves
abbrev pub RunTracedTells : Limits → List ℕ → Lent → List ℕ → ℕ → ℕ → ℕ → List ℕ → List ℕ → List ℕ → List ℕ → Type 0
RunTracedTells lim s l row limit stamp r h p v w =
    RowTells (run_numbers (run_traced_call lim s l row limit stamp).answer) (run_traced_call lim s l row limit stamp).lent (run_traced_call lim s l row limit stamp).row r h p v w

-- ---- a run saved, and gone on with

-- Saved 4, 11: of a save: the word, and the row afterwards; the tables are lent to read only
pub record SaveTells (lim : Limits) (s : List ℕ) (l : Lent) (row : List ℕ) (r : ℕ) (row' : List ℕ) : Type 0 where
  pub answer : r ≡ word (save_numbers (save_call lim s l row).answer)
  pub row_is : row' ≡ (save_call lim s l row).row

-- Saved 10, 11: of a resume from the saved run x, which is lent to read only
abbrev pub ResumeTells : Limits → List ℕ → Lent → List ℕ → ℕ → List ℕ → List ℕ → List ℕ → Type 0
ResumeTells lim s l x r h p v = Tells (resume_numbers (resume_call lim s l x).answer) (resume_call lim s l x).lent r h p v

-- ---- a trace played again

-- Traces 6, 7: of a replay of a trace, which is lent to read only
abbrev pub ReplayTells : Limits → List ℕ → Lent → List ℕ → ℕ → List ℕ → List ℕ → List ℕ → Type 0
ReplayTells lim s l trace r h p v = Tells (replay_numbers (replay_call lim s l trace).answer) (replay_call lim s l trace).lent r h p v

-- ---- clause text

-- Text 27, 28: of a print: the word, and the row afterwards; image and names are lent to read only
pub record PrintTells (image names text : List ℕ) (r : ℕ) (text' : List ℕ) : Type 0 where
  pub answer : r ≡ word (print_numbers (print_call text image names).answer)
  pub text_is : text' ≡ (print_call text image names).text

-- Text 20, 21: of a parse: the word, and both rows afterwards; the text is lent to read only
pub record ParseTells (image names text : List ℕ) (r : ℕ) (image' names' : List ℕ) : Type 0 where
  pub answer : r ≡ word (parse_numbers (parse_call image names text).answer)
  pub image_is : image' ≡ (parse_call image names text).image
  pub names_is : names' ≡ (parse_call image names text).names
