-- Demand 2 of an outcome: a step made is the move of the rules, a run is repeated moves, a supply binds a value.
use Rattle.std.specs.Prelude.{◌≡◌, ◌↔◌, ◌≢◌, ◌⊎◌, List, ◌*◌, ◌/◌, ◌<◌, ◌≤◌, suc, ℕ, get_or, length, None}
use Rattle.parlog.specs.Codes.{dormant, failure, mode_code, result_code, success, suspended}
use Rattle.parlog.specs.Demands.{Ended-at}
use Rattle.parlog.specs.Limits.{Limits}
use Rattle.parlog.specs.Notions.{HasMode, Leads, me}
use Rattle.parlog.specs.Numbers.{end_number, rule_number, term_numbers, touched}
use Rattle.parlog.specs.Program.{Program, program_of}
use Rattle.parlog.specs.Relation.{Fits, Rule}
use Rattle.parlog.specs.Run.{counted, supplied}
use Rattle.parlog.specs.Tables.{binding_of, cell_size, Lent, number_at, process_at, put_tables, row_size, sort_at, State, Tables, tables_in, written}
use Rattle.parlog.specs.declared.End.{End}
use Rattle.parlog.specs.declared.End.TheVariants.{Budget, Failure, Room, Success, Waiting}
use Rattle.parlog.specs.declared.Move.{Move}
use Rattle.parlog.specs.declared.Term.{Term}
use Rattle.parlog.specs.declared.Term.TheVariants.{Var}
use Rattle.promises.specs.Outcomes.{first_in, large_in, refusal_in, second_in, TurnMeets}
use Rattle.promises.specs.Refusals.{CanMove, LacksRoom, Resumes, state_in, Turn}
use Rattle.refusals.specs.Right.{RightImage}
use Rattle.rows.specs.Rows.{Bytes}
use Rattle.saved.specs.Form.{saved_bytes}
use Rattle.saved.specs.Formed.{Formed}
use Rattle.saved.specs.Restored.{image_length, resumed_lent}

-- Turns 3: the tables after a step of p that left the state s'
abbrev pub after_step : Tables → ℕ → State → Tables
after_step t p s' = record { state = s'; last = p; steps = counted t.steps }

-- the lent bytes hold these tables, row by row, and every byte past their rows is as it was
pub record Holds (l : Lent) (t : Tables) (l' : Lent) : Type 0 where
  pub read : tables_in l' ≡ t
  pub bytes : l' ≡ put_tables l t

-- Turns 9: the word of a step made: the rule, and what it touched
pub record MoveTold (m : Move) (w : ℕ) : Type 0 where
  pub accepted : refusal_in w ≡ 0
  pub rule : first_in w ≡ rule_number m
  pub sort : second_in w ≡ (touched m).sort
  pub number : large_in w ≡ (touched m).number

-- the rule m moved p, with room, to the state s'; word and bytes tell it
pub record Shows (lim : Limits) (pr : Program) (l : Lent) (p : ℕ) (m : Move) (s' : State) (w : ℕ) (l' : Lent) : Type 0 where
  pub holds : Rule pr (state_in l) p m s'
  pub fits : Fits lim s'
  pub tells : MoveTold m w
  pub tables : Holds l (after_step (tables_in l) p s') l'

-- some rule moved p
pub record Moves (lim : Limits) (pr : Program) (l : Lent) (p w : ℕ) (l' : Lent) : Type 0 where
  pub rule : Move
  pub after : State
  pub shows : Shows lim pr l p rule after w l'

-- the step of p is exactly the move of the rules: the one that holds and has room is made, what is made is one that holds and has room,
-- STILL is given exactly where no rule applies, ROOM exactly where one applies without room
pub record MovesExactly (lim : Limits) (pr : Program) (l : Lent) (p w : ℕ) (l' : Lent) : Type 0 where
  pub does : {m : Move} {s' : State} → Rule pr (state_in l) p m s' → Fits lim s' → Shows lim pr l p m s' w l'
  pub only : refusal_in w ≡ 0 → Moves lim pr l p w l'
  pub still : (refusal_in w ≡ 10) ↔ (CanMove pr (state_in l) p → ⊥)
  pub room : (refusal_in w ≡ 11) ↔ LacksRoom lim pr (state_in l) p
  pub nothing_else : (refusal_in w ≡ 0) ⊎ (refusal_in w ≡ 10) ⊎ (refusal_in w ≡ 11)

-- ---- a run

-- each number that is lent is a byte: what the type of a lent row says
pub record AllBytes (l : Lent) : Type 0 where
  pub head : Bytes l.head
  pub procs : Bytes l.procs
  pub vars : Bytes l.vars

-- Tags 39: the goal has ended
abbrev pub GoalEnded : Lent → Type 0
GoalEnded l = HasMode (state_in l) 0 dormant

-- n turn calls one after the other, each of them made, none of them after the goal's end
pub data Turns (lim : Limits) (s : List ℕ) : Lent → ℕ → Lent → Type 0 where
  no_turn : {l : Lent} → Turns lim s l 0 l
  one_turn : {l l' l'' : Lent} {w n : ℕ} → (GoalEnded l → ⊥) → TurnMeets lim s l w l' → refusal_in w ≡ 0 → Turns lim s l' n l'' → Turns lim s l (suc n) l''

-- Turns 7: why a run with this step limit ends after n moves, in the bytes l: the goal has ended, with its result; nobody can move; the limit is
-- used up, though somebody can; or the one whose turn it is has no room
pub data StopsBy (lim : Limits) (pr : Program) (limit n : ℕ) (l : Lent) : End → Type 0 where
  by_success : GoalEnded l → (me (state_in l) 0).result ≡ result_code success → StopsBy lim pr limit n l Success
  by_failure : GoalEnded l → (me (state_in l) 0).result ≡ result_code failure → StopsBy lim pr limit n l Failure
  by_waiting : (GoalEnded l → ⊥) → ((p : ℕ) → CanMove pr (state_in l) p → ⊥) → StopsBy lim pr limit n l Waiting
  by_budget : {p : ℕ} → (GoalEnded l → ⊥) → CanMove pr (state_in l) p → n ≡ limit → StopsBy lim pr limit n l Budget
  by_room : {p : ℕ} → (GoalEnded l → ⊥) → Turn pr (tables_in l) p → n < limit → LacksRoom lim pr (state_in l) p → StopsBy lim pr limit n l Room

-- Turns 7, 8: a run is repeated moves: as many turn calls as its word counts come to the same bytes, and it ends there for the reason that its word has
pub record RunsExactly (lim : Limits) (s : List ℕ) (pr : Program) (l : Lent) (limit w : ℕ) (l' : Lent) : Type 0 where
  pub accepted : refusal_in w ≡ 0
  pub turns : Turns lim s l (large_in w) l'
  pub within : large_in w ≤ limit
  pub end : End
  pub told : first_in w ≡ end_number end
  pub stops : StopsBy lim pr limit (large_in w) l' end

-- ---- a supply and a look

-- Turns 6: the value of v, an unbound variable u, is bound to the constant k; nothing else changes
pub record Supplies (l : Lent) (v k w : ℕ) (l' : Lent) : Type 0 where
  pub accepted : refusal_in w ≡ 0
  pub unbound : ℕ
  pub value : Leads (state_in l).vars (Var v) (Var unbound)
  pub free : binding_of (state_in l).vars unbound ≡ None
  pub tables : Holds l (supplied (tables_in l) unbound k) l'

-- Tables 5: what the word of a look says is the value of v
pub record Sees (l : Lent) (v w : ℕ) : Type 0 where
  pub accepted : refusal_in w ≡ 0
  pub value : Term
  pub leads : Leads (state_in l).vars (Var v) value
  pub ends : Ended-at (state_in l).vars value
  pub sort : first_in w ≡ (term_numbers value).a
  pub number : large_in w ≡ (term_numbers value).c

-- Values 1: what row v says is the value of v
pub record SeesIn (l : Lent) (v : ℕ) (row : List ℕ) : Type 0 where
  pub value : Term
  pub leads : Leads (state_in l).vars (Var v) value
  pub ends : Ended-at (state_in l).vars value
  pub sort : sort_at row v ≡ (term_numbers value).a
  pub number : number_at row v ≡ (term_numbers value).c

-- Values 1, 2, 4: a look at all goal variables, of which there are n: how many they are, the value of each, and every byte behind as it was
pub record SeesAll (n : ℕ) (l : Lent) (row : List ℕ) (w : ℕ) (row' : List ℕ) : Type 0 where
  pub accepted : refusal_in w ≡ 0
  pub count : large_in w ≡ n
  pub size : length row' ≡ length row
  pub each : (v : ℕ) → v < n → SeesIn l v row'
  pub behind : (j : ℕ) → n * cell_size ≤ j → get_or row' j 0 ≡ get_or row j 0

-- ---- a watch

-- Turns 5: the lowest number of a row that is suspended, or none; whatever the rows hold
pub data Watched (rows : List ℕ) (w : ℕ) : Type 0 where
  one_waits : {i : ℕ} → i < length rows / row_size → (process_at rows i).mode ≡ mode_code suspended → ((j : ℕ) → j < i → (process_at rows j).mode ≢ mode_code suspended)
      → first_in w ≡ 1 → large_in w ≡ i → Watched rows w
  none_waits : ((j : ℕ) → j < length rows / row_size → (process_at rows j).mode ≢ mode_code suspended) → first_in w ≡ 0 → large_in w ≡ 0 → Watched rows w

-- ---- a run saved, and gone on with

-- Saved 4: the saved run stands at the front of the row, its size is told, and every byte behind is as it was
pub record SavesRun (s : List ℕ) (l : Lent) (row : List ℕ) (w : ℕ) (row' : List ℕ) : Type 0 where
  pub size : large_in w ≡ length (saved_bytes l (length s))
  pub fits : length (saved_bytes l (length s)) ≤ length row
  pub bytes : row' ≡ written (saved_bytes l (length s)) row

-- Saved 10: the saved run was without fault, of this image, and every byte of the tables is written
pub record ResumesRun (lim : Limits) (s : List ℕ) (l : Lent) (x : List ℕ) (l' : Lent) : Type 0 where
  pub relations : ℕ
  pub clauses : ℕ
  pub image : RightImage s relations clauses
  pub processes : ℕ
  pub variables : ℕ
  pub formed : Formed x processes variables
  pub own : image_length x ≡ length s
  pub may : Resumes lim (program_of s relations clauses) l x processes variables
  pub bytes : l' ≡ resumed_lent lim x processes variables
