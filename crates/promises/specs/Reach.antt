-- Demand 3 over outcomes: the bytes that come from a fresh start, calls that follow one another, and who is served by them.
use Rattle.std.specs.Prelude.{◌≡◌, List, ◌*◌, ◌-◌, ◌≤◌, suc, ℕ, get_or, take}
use Rattle.parlog.specs.Codes.{dormant}
use Rattle.parlog.specs.Limits.{Limits}
use Rattle.parlog.specs.Notions.{HasMode}
use Rattle.parlog.specs.Program.{Program, program_of}
use Rattle.parlog.specs.Tables.{cell_size, fresh_tables, Lent, proc_count, row_size, started_lent, tables_in, var_count}
use Rattle.promises.specs.Moves.{Moves, no_turn, one_turn, Turns}
use Rattle.promises.specs.Outcomes.{large_in, refusal_in, ReplayMeets, ResumeMeets, RunMeets, SaveMeets, StartMeets, StepMeets, SupplyMeets, TurnMeets}
use Rattle.promises.specs.Refusals.{LetIn, state_in}
use Rattle.refusals.specs.Right.{RightImage}
use Rattle.refusals.specs.Ruled.{Sizes}

-- Tables 2: the bytes of a fresh start of the image s: they hold the tables of a start, and zeros in every unused row
pub record Begins (lim : Limits) (s : List ℕ) (l : Lent) : Type 0 where
  pub relations : ℕ
  pub clauses : ℕ
  pub image : RightImage s relations clauses
  pub read : tables_in l ≡ fresh_tables (program_of s relations clauses)
  pub bytes : l ≡ started_lent lim (program_of s relations clauses)

-- ---- a night

-- Saved 4, 10: the run in l is saved to some row, and what the save tells is read back with its image into rows of the full size, whatever they held: l'
pub record Night (lim : Limits) (s : List ℕ) (l l' : Lent) : Type 0 where
  pub row : List ℕ
  pub stored : List ℕ
  pub evening : ℕ
  pub saves : SaveMeets lim s l row evening stored
  pub accepted : refusal_in evening ≡ 0
  pub other : Lent
  pub full : Sizes lim other
  pub morning : ℕ
  pub resumes : ResumeMeets lim s other (take (large_in evening) stored) morning l'

-- Saved 10: a run read back: the same tables, zeros in every unused row, and let in by every call
pub record ReadBack (lim : Limits) (s : List ℕ) (r c : ℕ) (l : Lent) (w : ℕ) (l' : Lent) : Type 0 where
  pub accepted : refusal_in w ≡ 0
  pub tables : tables_in l' ≡ tables_in l
  pub head : l'.head ≡ l.head
  pub procs : (j : ℕ) → proc_count l.head * row_size ≤ j → get_or l'.procs j 0 ≡ 0
  pub vars : (j : ℕ) → var_count l.head * cell_size ≤ j → get_or l'.vars j 0 ≡ 0
  pub enters : LetIn lim s l' r c

-- what any outcomes of steps by number, turns, runs, supplies and replays, refused ones too, and nights leave of the bytes l
pub data Later (lim : Limits) (s : List ℕ) (l : Lent) : Lent → Type 0 where
  no_call : Later lim s l l
  then_step : {m m' : Lent} {w : ℕ} (p : ℕ) → Later lim s l m → StepMeets lim s m p w m' → Later lim s l m'
  then_turn : {m m' : Lent} {w : ℕ} → Later lim s l m → TurnMeets lim s m w m' → Later lim s l m'
  then_run : {m m' : Lent} {w : ℕ} (limit : ℕ) → Later lim s l m → RunMeets lim s m limit w m' → Later lim s l m'
  then_supply : {m m' : Lent} {w : ℕ} (v k : ℕ) → Later lim s l m → SupplyMeets lim s m v k w m' → Later lim s l m'
  then_replay : {m m' : Lent} {w : ℕ} (x : List ℕ) → Later lim s l m → ReplayMeets lim s m x w m' → Later lim s l m'
  then_night : {m m' : Lent} → Later lim s l m → Night lim s m m' → Later lim s l m'

-- Tables 2: bytes that came: a start of the image s wrote some, and these are left of them
pub data Came (lim : Limits) (s : List ℕ) : Lent → Type 0 where
  from_start : {l l' m : Lent} {w : ℕ} → StartMeets lim s l w l' → refusal_in w ≡ 0 → Later lim s l' m → Came lim s m

-- ---- turn order

-- turn calls, runs, supplies and nights, each from the bytes that the one before left
pub data Follow (lim : Limits) (s : List ℕ) : Lent → Type 0 where
  no_more_calls : {l : Lent} → Follow lim s l
  a_turn_call : {l l' : Lent} {w : ℕ} → TurnMeets lim s l w l' → Follow lim s l' → Follow lim s l
  a_run_call : {l l' : Lent} {limit w : ℕ} → RunMeets lim s l limit w l' → Follow lim s l' → Follow lim s l
  a_supply_call : {l l' : Lent} {v k w : ℕ} → SupplyMeets lim s l v k w l' → Follow lim s l' → Follow lim s l
  a_night : {l l' : Lent} → Night lim s l l' → Follow lim s l' → Follow lim s l

-- these turn calls, and behind them those calls
unfoldable pub turns_then : {lim : Limits} {s : List ℕ} {l l' : Lent} {n : ℕ} → Turns lim s l n l' → Follow lim s l' → Follow lim s l
turns_then no_turn f = f
turns_then (one_turn live e z ts) f = a_turn_call e (turns_then ts f)

-- demand 3: within how many of the next steps made: as many as there may be processes, which at the exports is 512
abbrev pub bound : Limits → ℕ
bound lim = lim.procs

-- ServedBy lim s pr p n l f: of the next n steps made as the calls f follow, one is a move of p by some rule, or p is dormant before that.
-- A run counts as the turn calls that it is. A turn refused for room makes no step, so that it does not count; neither does a night, through which
-- the count goes on. Calls that are over while steps are left ask for nothing more.
pub data ServedBy (lim : Limits) (s : List ℕ) (pr : Program) (p : ℕ) : ℕ → (l : Lent) → Follow lim s l → Type 0 where
  is_dormant : {n : ℕ} {l : Lent} {f : Follow lim s l} → HasMode (state_in l) p dormant → ServedBy lim s pr p n l f
  it_moves : {n w : ℕ} {l l' : Lent} {e : TurnMeets lim s l w l'} {f : Follow lim s l'} → Moves lim pr l p w l' → ServedBy lim s pr p (suc n) l (a_turn_call e f)
  another_does : {n w : ℕ} {l l' : Lent} {e : TurnMeets lim s l w l'} {f : Follow lim s l'} → refusal_in w ≡ 0 → ServedBy lim s pr p n l' f → ServedBy lim s pr p (suc n) l (a_turn_call e f)
  for_room : {n w : ℕ} {l l' : Lent} {e : TurnMeets lim s l w l'} {f : Follow lim s l'} → refusal_in w ≡ 11 → ServedBy lim s pr p n l' f → ServedBy lim s pr p n l (a_turn_call e f)
  run_is_turns : {n limit w : ℕ} {l l' : Lent} {e : RunMeets lim s l limit w l'} {f : Follow lim s l'} (ts : Turns lim s l (large_in w) l') → ServedBy lim s pr p n l (turns_then ts f)
      → ServedBy lim s pr p n l (a_run_call e f)
  a_supply_between : {n v k w : ℕ} {l l' : Lent} {e : SupplyMeets lim s l v k w l'} {f : Follow lim s l'} → ServedBy lim s pr p n l' f → ServedBy lim s pr p n l (a_supply_call e f)
  a_night_between : {n : ℕ} {l l' : Lent} {e : Night lim s l l'} {f : Follow lim s l'} → ServedBy lim s pr p n l' f → ServedBy lim s pr p n l (a_night e f)
  calls_over : {n : ℕ} {l : Lent} → ServedBy lim s pr p (suc n) l no_more_calls
