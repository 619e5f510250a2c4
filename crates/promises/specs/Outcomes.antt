-- What a C program sees of a call: a word, and the lent bytes afterwards. An outcome is one that meets the contract of the call.
use Rattle.parlog.specs.declared.Move.{Move}
use Rattle.parlog.specs.Answer.{Answer}
use Rattle.std.specs.Prelude.{◌≡◌, List, ◌%◌, ◌/◌, ℕ, Option}
use Rattle.capi.specs.Tells.{LoadTells, ReplayTells, ResumeTells, RunTells, SaveTells, StartTells, StepTells, SupplyTells, TurnTells, ValuesTells, ValueTells, WatchTells}
use Rattle.parlog.specs.Limits.{Limits}
use Rattle.parlog.specs.Run.{watch_of}
use Rattle.parlog.specs.Tables.{Lent}
use Rattle.parlog.specs.declared.Marker.{Marker}
use Rattle.parlog.specs.declared.Process.{Process}
use Rattle.turn_forms.specs.Turned.{turned_from, TurnedSays}

-- ---- a word taken apart: bits 0 to 7, 8 to 15, 16 to 23, and 32 to 63

-- the refusal, 0 where there is none
abbrev pub refusal_in : ℕ → ℕ
refusal_in w = w % 256

-- the first small value
abbrev pub first_in : ℕ → ℕ
first_in w = w / 256 % 256

-- the second small value
abbrev pub second_in : ℕ → ℕ
second_in w = w / 65536 % 256

-- the large value; of a refusal, the offset
abbrev pub large_in : ℕ → ℕ
large_in w = w / 4294967296

-- ---- an outcome meets the contract of the exported call: s is the image, l what is lent, w the word, l' the lent bytes afterwards

-- of rissobarm_load
pub record LoadMeets (s : List ℕ) (w : ℕ) : Type 0 where
  pub contract : LoadTells s w

-- of rissobarm_start
pub record StartMeets (lim : Limits) (s : List ℕ) (l : Lent) (w : ℕ) (l' : Lent) : Type 0 where
  pub contract : StartTells lim s l w l'.head l'.procs l'.vars

-- of rissobarm_step, for process p
pub record StepMeets (lim : Limits) (s : List ℕ) (l : Lent) (p w : ℕ) (l' : Lent) : Type 0 where
  pub contract : StepTells lim s l p w l'.head l'.procs l'.vars

-- of rissobarm_turn
pub record TurnMeets (lim : Limits) (s : List ℕ) (l : Lent) (w : ℕ) (l' : Lent) : Type 0 where
  pub contract : TurnTells lim s l w l'.head l'.procs l'.vars

-- of rissobarm_run, with a step limit
pub record RunMeets (lim : Limits) (s : List ℕ) (l : Lent) (limit w : ℕ) (l' : Lent) : Type 0 where
  pub contract : RunTells lim s l limit w l'.head l'.procs l'.vars

-- of rissobarm_supply, of the constant k to the goal variable v
pub record SupplyMeets (lim : Limits) (s : List ℕ) (l : Lent) (v k w : ℕ) (l' : Lent) : Type 0 where
  pub contract : SupplyTells lim s l v k w l'.head l'.procs l'.vars

-- of rissobarm_value, for the goal variable v: it is lent the bytes to read only
pub record ValueMeets (lim : Limits) (s : List ℕ) (l : Lent) (v w : ℕ) : Type 0 where
  pub contract : ValueTells lim s l v w

-- of rissobarm_values, lent a row besides: it is lent the tables to read only, and row' is the row afterwards
pub record ValuesMeets (lim : Limits) (s : List ℕ) (l : Lent) (row : List ℕ) (w : ℕ) (row' : List ℕ) : Type 0 where
  pub contract : ValuesTells lim s l row w row'

-- of rissobarm_watch, over rows of processes: it is lent the bytes to read only
pub record WatchMeets (rows : List ℕ) (w : ℕ) : Type 0 where
  pub contract : WatchTells rows w

-- of rissobarm_save, lent the tables to read only and a row: the word, and that row afterwards
pub record SaveMeets (lim : Limits) (s : List ℕ) (l : Lent) (row : List ℕ) (w : ℕ) (row' : List ℕ) : Type 0 where
  pub contract : SaveTells lim s l row w row'

-- of rissobarm_resume, lent the saved run x to read only
pub record ResumeMeets (lim : Limits) (s : List ℕ) (l : Lent) (x : List ℕ) (w : ℕ) (l' : Lent) : Type 0 where
  pub contract : ResumeTells lim s l x w l'.head l'.procs l'.vars

-- of rissobarm_replay, lent the trace x to read only
pub record ReplayMeets (lim : Limits) (s : List ℕ) (l : Lent) (x : List ℕ) (w : ℕ) (l' : Lent) : Type 0 where
  pub contract : ReplayTells lim s l x w l'.head l'.procs l'.vars

-- ---- and the contract of the two calls that no C program reaches

-- of turn_forms::turn, lent the counts cs, the rows ps and vs and the marker m: the answer a, and what is lent afterwards
pub record MarkerMeets (lim : Limits) (s cs ps vs : List ℕ) (m : Marker) (a : Answer Move) (cs' ps' vs' : List ℕ) (m' : Marker) : Type 0 where
  pub contract : TurnedSays lim s cs ps vs m (turned_from m' a) cs' ps' vs'

-- of watch_records::watch, over records of processes, with the answer f
pub record RecordsMeet (rows : List Process) (f : Option ℕ) : Type 0 where
  pub contract : f ≡ watch_of rows
