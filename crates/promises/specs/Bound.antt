-- Request 1: which variables a step, a turn or a supply bound: outcomes of the calls that tell them, when they are refused, and what they tell.
use Rattle.parlog.specs.declared.Term.{Term}
use Rattle.std.specs.Prelude.{◌≡◌, ◌≢◌, [], ◌++◌, ◌∷◌, List, ◌*◌, ◌+◌, ◌<◌, ◌≤◌, ℕ, drop, get_or, length, Option, None}
use Rattle.bound_row.specs.Row.{bound_bytes}
use Rattle.capi.specs.Tells.{StepBoundTells, SupplyBoundTells, TurnBoundTells}
use Rattle.parlog.specs.Limits.{Limits}
use Rattle.parlog.specs.Listed.{Among}
use Rattle.parlog.specs.Notions.{Leads, Unifies}
use Rattle.parlog.specs.Numbers.{rule_number}
use Rattle.parlog.specs.Program.{Literal, Program, program_of}
use Rattle.parlog.specs.Relation.{Equating, Fits, Matching, Rule}
use Rattle.parlog.specs.Tables.{binding_of, Lent, State, tables_in}
use Rattle.parlog.specs.declared.Change.{Change}
use Rattle.parlog.specs.declared.Move.{Move}
use Rattle.parlog.specs.declared.Pair.{Pair}
use Rattle.parlog.specs.declared.Term.TheVariants.{Var}
use Rattle.promises.specs.Moves.{Shows, Supplies}
use Rattle.promises.specs.Outcomes.{refusal_in}
use Rattle.promises.specs.Refusals.{LetIn, RefusesBy, state_in, StepRefused, SupplyRefused, Turn, TurnRefused}
use Rattle.unify.specs.Pending.{vars_bound}

-- ---- outcomes: row is the row lent besides, row' that row afterwards

-- of rissobarm_step_bound, for process p
pub record StepBoundMeets (lim : Limits) (s : List ℕ) (l : Lent) (row : List ℕ) (p w : ℕ) (l' : Lent) (row' : List ℕ) : Type 0 where
  pub contract : StepBoundTells lim s l row p w l'.head l'.procs l'.vars row'

-- of rissobarm_turn_bound
pub record TurnBoundMeets (lim : Limits) (s : List ℕ) (l : Lent) (row : List ℕ) (w : ℕ) (l' : Lent) (row' : List ℕ) : Type 0 where
  pub contract : TurnBoundTells lim s l row w l'.head l'.procs l'.vars row'

-- of rissobarm_supply_bound, of the constant k to the goal variable v
pub record SupplyBoundMeets (lim : Limits) (s : List ℕ) (l : Lent) (row : List ℕ) (v k w : ℕ) (l' : Lent) (row' : List ℕ) : Type 0 where
  pub contract : SupplyBoundTells lim s l row v k w l'.head l'.procs l'.vars row'

-- ---- what is bound

-- Bound 2: told are exactly the variables unbound before and bound after, each once
pub record NewlyBound (before after : List (Option Term)) (told : List ℕ) : Type 0 where
  pub free : (i : ℕ) → i < length told → binding_of before (get_or told i 0) ≡ None
  pub bound : (i : ℕ) → i < length told → binding_of after (get_or told i 0) ≢ None
  pub all : (v : ℕ) → binding_of before v ≡ None → binding_of after v ≢ None → Among v told
  pub once : (i j : ℕ) → i < j → j < length told → get_or told i 0 ≢ get_or told j 0

-- Bound 1, 2: what the move m binds, in order: where an input-match (rule 26) or an equate (rule 33) succeeds what its unifier binds, else nothing
pub data BindsBy (pr : Program) (s : State) (p : ℕ) (m : Move) : List Change → Type 0 where
  by_match : {call : Literal} {es : List Pair} {cs : List Change} → rule_number m ≡ 26 → Matching pr s p call es → Unifies s.vars es cs → BindsBy pr s p m cs
  by_equate : {e : Pair} {cs : List Change} → rule_number m ≡ 33 → Equating pr s p e → Unifies s.vars (e ∷ []) cs → BindsBy pr s p m cs
  by_none : rule_number m ≢ 26 → rule_number m ≢ 33 → BindsBy pr s p m []

-- ---- refusals: those of the plain call, then 11 for the row

-- Bound 4: the bytes that tell n variables
abbrev pub bytes_for : ℕ → ℕ
bytes_for n = 2 + 2 * n

-- Bound 5: the step of p has a rule and room, and the row is too short for what it binds
pub record StepUntold (lim : Limits) (s : List ℕ) (l : Lent) (row : List ℕ) (p : ℕ) : Type 0 where
  pub relations : ℕ
  pub clauses : ℕ
  pub inside : LetIn lim s l relations clauses
  pub rule : Move
  pub after : State
  pub holds : Rule (program_of s relations clauses) (state_in l) p rule after
  pub fits : Fits lim after
  pub changes : List Change
  pub binds : BindsBy (program_of s relations clauses) (state_in l) p rule changes
  pub short : length row < bytes_for (length changes)

-- Bound 5: the same of the process whose turn it is
pub record TurnUntold (lim : Limits) (s : List ℕ) (l : Lent) (row : List ℕ) : Type 0 where
  pub process : ℕ
  pub step : StepUntold lim s l row process
  pub turn : Turn (program_of s step.relations step.clauses) (tables_in l) process

-- Bound 5: the supply finds an unbound variable, and the row has no room for one
pub record SupplyUntold (lim : Limits) (s : List ℕ) (l : Lent) (row : List ℕ) (v k : ℕ) : Type 0 where
  pub relations : ℕ
  pub clauses : ℕ
  pub inside : LetIn lim s l relations clauses
  pub variable : v < (program_of s relations clauses).goal_vars
  pub constant : k ≤ 32767
  pub unbound : ℕ
  pub value : Leads (state_in l).vars (Var v) (Var unbound)
  pub short : length row < bytes_for 1

-- Bound 3, 5: why the step of p is refused
pub data StepBoundRefused (lim : Limits) (s : List ℕ) (l : Lent) (row : List ℕ) (p : ℕ) : ℕ → ℕ → Type 0 where
  as_step : {n o : ℕ} → StepRefused lim s l p n o → StepBoundRefused lim s l row p n o
  untold_step : StepUntold lim s l row p → StepBoundRefused lim s l row p 11 0

-- Bound 3, 5: a turn
pub data TurnBoundRefused (lim : Limits) (s : List ℕ) (l : Lent) (row : List ℕ) : ℕ → ℕ → Type 0 where
  as_turn : {n o : ℕ} → TurnRefused lim s l n o → TurnBoundRefused lim s l row n o
  untold_turn : TurnUntold lim s l row → TurnBoundRefused lim s l row 11 0

-- Bound 3, 5: a supply
pub data SupplyBoundRefused (lim : Limits) (s : List ℕ) (l : Lent) (row : List ℕ) (v k : ℕ) : ℕ → ℕ → Type 0 where
  as_supply : {n o : ℕ} → SupplyRefused lim s l v k n o → SupplyBoundRefused lim s l row v k n o
  untold_supply : SupplyUntold lim s l row v k → SupplyBoundRefused lim s l row v k 11 0

-- demand 1: refused exactly where there is a reason, and then every lent byte is as it was, those of the further row among them
pub record RefusingRow (Why : ℕ → ℕ → Type 0) (l : Lent) (row : List ℕ) (w : ℕ) (l' : Lent) (row' : List ℕ) : Type 0 where
  pub by : RefusesBy 14 Why w
  pub kept : refusal_in w ≢ 0 → l' ≡ l
  pub row_kept : refusal_in w ≢ 0 → row' ≡ row

-- ---- what is told

-- Bound 4: the row holds these variables, and behind them what it held
pub record RowHolds (row : List ℕ) (told : List ℕ) (row' : List ℕ) : Type 0 where
  pub room : bytes_for (length told) ≤ length row
  pub bytes : row' ≡ bound_bytes told ++ drop (bytes_for (length told)) row

-- the step of p is the plain one, and what it bound stands in the row, in the unifier's order
pub record StepTold (lim : Limits) (pr : Program) (l : Lent) (row : List ℕ) (p w : ℕ) (l' : Lent) (row' : List ℕ) : Type 0 where
  pub rule : Move
  pub after : State
  pub shows : Shows lim pr l p rule after w l'
  pub changes : List Change
  pub binds : BindsBy pr (state_in l) p rule changes
  pub exactly : NewlyBound (state_in l).vars after.vars (vars_bound changes)
  pub holds : RowHolds row (vars_bound changes) row'

-- the supply is the plain one, and the variable that takes the binding stands in the row
pub record SupplyTold (l : Lent) (row : List ℕ) (v k w : ℕ) (l' : Lent) (row' : List ℕ) : Type 0 where
  pub supplies : Supplies l v k w l'
  pub exactly : NewlyBound (state_in l).vars (state_in l').vars (supplies.unbound ∷ [])
  pub holds : RowHolds row (supplies.unbound ∷ []) row'
