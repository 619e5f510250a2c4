-- When a call is refused, in the words of docs/MACHINE.md: the number, and the offset that it carries.
use Rattle.std.specs.Prelude.{◌≡◌, ◌≢◌, List, ◌*◌, ◌<◌, ◌≤◌, ℕ, length}
use Rattle.parlog.specs.Limits.{Limits}
use Rattle.parlog.specs.Notions.{Leads}
use Rattle.parlog.specs.Program.{Program, program_of}
use Rattle.parlog.specs.Relation.{Fits, Rule}
use Rattle.parlog.specs.Tables.{cell_size, Lent, proc_count, State, Tables, tables_in, var_count}
use Rattle.parlog.specs.declared.Move.{Move}
use Rattle.parlog.specs.declared.Term.TheVariants.{Const, Var}
use Rattle.promises.specs.Outcomes.{large_in, refusal_in}
use Rattle.refusals.specs.Refused.{RefusedAt}
use Rattle.refusals.specs.Right.{RightImage}
use Rattle.refusals.specs.Ruled.{LentRuled, Sizes}
use Rattle.saved.specs.Form.{saved_bytes}
use Rattle.saved.specs.Formed.{BadSaved, Formed}
use Rattle.saved.specs.Restored.{head_in, image_length, resumed_lent}
use Rattle.words.specs.Nights.{told_offset}

-- the state that lent bytes hold
abbrev pub state_in : Lent → State
state_in l = (tables_in l).state

-- ---- who can move, and whose turn it is

-- Turns 1: some rule applies, whether there is room or not
pub record CanMove (pr : Program) (s : State) (p : ℕ) : Type 0 where
  pub rule : Move
  pub after : State
  pub holds : Rule pr s p rule after

-- Refusals 11: a rule applies that needs more processes or variables than are left
pub record LacksRoom (lim : Limits) (pr : Program) (s : State) (p : ℕ) : Type 0 where
  pub rule : Move
  pub after : State
  pub holds : Rule pr s p rule after
  pub full : Fits lim after → ⊥

-- Turns 2: the first that can move behind the one last stepped, or, where there is none, the first of all, up to that one itself
pub data Turn (pr : Program) (t : Tables) (p : ℕ) : Type 0 where
  behind_last : t.last < p → CanMove pr t.state p → ((i : ℕ) → t.last < i → i < p → CanMove pr t.state i → ⊥) → Turn pr t p
  from_front : ((i : ℕ) → t.last < i → CanMove pr t.state i → ⊥) → p ≤ t.last → CanMove pr t.state p
      → ((i : ℕ) → i < p → CanMove pr t.state i → ⊥) → Turn pr t p

-- ---- refusals 1 to 8

-- Refusals 1 to 7: the image is refused: too long, or its first record that is not right, or no goal
abbrev pub BadImage : List ℕ → ℕ → ℕ → Type 0
BadImage s n o = RefusedAt s n o

-- Refusals 20, 21: what a call may count on that was let in, r relations and c clauses being in its image
pub record LetIn (lim : Limits) (s : List ℕ) (l : Lent) (r c : ℕ) : Type 0 where
  pub image : RightImage s r c
  pub tables : LentRuled lim (program_of s r c) l

-- Refusals 20, 21: the image is refused, or the tables break a rule
pub data TurnedAway (lim : Limits) (s : List ℕ) (l : Lent) : ℕ → ℕ → Type 0 where
  for_image : {n o : ℕ} → BadImage s n o → TurnedAway lim s l n o
  for_tables : {r c : ℕ} → RightImage s r c → (LentRuled lim (program_of s r c) l → ⊥) → TurnedAway lim s l 8 0

-- ---- of each call

-- Refusals 21: a start is refused for its image or for the sizes of what is lent
pub data StartRefused (lim : Limits) (s : List ℕ) (l : Lent) : ℕ → ℕ → Type 0 where
  start_image : {n o : ℕ} → BadImage s n o → StartRefused lim s l n o
  start_sizes : {r c : ℕ} → RightImage s r c → (Sizes lim l → ⊥) → StartRefused lim s l 8 0

-- Refusals 9, 10, 11, 22: the step of process p
pub data StepRefused (lim : Limits) (s : List ℕ) (l : Lent) (p : ℕ) : ℕ → ℕ → Type 0 where
  step_away : {n o : ℕ} → TurnedAway lim s l n o → StepRefused lim s l p n o
  no_process : {r c : ℕ} → LetIn lim s l r c → proc_count l.head ≤ p → StepRefused lim s l p 9 0
  no_rule_for : {r c : ℕ} → LetIn lim s l r c → p < proc_count l.head → (CanMove (program_of s r c) (state_in l) p → ⊥) → StepRefused lim s l p 10 0
  no_room_for : {r c : ℕ} → LetIn lim s l r c → p < proc_count l.head → LacksRoom lim (program_of s r c) (state_in l) p → StepRefused lim s l p 11 0

-- Refusals 10, 11, Turns 2: a turn
pub data TurnRefused (lim : Limits) (s : List ℕ) (l : Lent) : ℕ → ℕ → Type 0 where
  turn_away : {n o : ℕ} → TurnedAway lim s l n o → TurnRefused lim s l n o
  nobody : {r c : ℕ} → LetIn lim s l r c → ((p : ℕ) → CanMove (program_of s r c) (state_in l) p → ⊥) → TurnRefused lim s l 10 0
  no_room_in_turn : {r c p : ℕ} → LetIn lim s l r c → Turn (program_of s r c) (tables_in l) p → LacksRoom lim (program_of s r c) (state_in l) p → TurnRefused lim s l 11 0

-- Turns 7: a run is turned away or it ends; room is an end, no refusal
pub data RunRefused (lim : Limits) (s : List ℕ) (l : Lent) : ℕ → ℕ → Type 0 where
  run_away : {n o : ℕ} → TurnedAway lim s l n o → RunRefused lim s l n o

-- Refusals 12, 14, 13: a supply of the constant k to the goal variable v
pub data SupplyRefused (lim : Limits) (s : List ℕ) (l : Lent) (v k : ℕ) : ℕ → ℕ → Type 0 where
  supply_away : {n o : ℕ} → TurnedAway lim s l n o → SupplyRefused lim s l v k n o
  no_variable : {r c : ℕ} → LetIn lim s l r c → (program_of s r c).goal_vars ≤ v → SupplyRefused lim s l v k 12 0
  no_constant : {r c : ℕ} → LetIn lim s l r c → v < (program_of s r c).goal_vars → 32767 < k → SupplyRefused lim s l v k 14 0
  has_constant : {r c j : ℕ} → LetIn lim s l r c → v < (program_of s r c).goal_vars → k ≤ 32767 → Leads (state_in l).vars (Var v) (Const j) → SupplyRefused lim s l v k 13 0

-- Refusals 12: a look at the goal variable v
pub data ValueRefused (lim : Limits) (s : List ℕ) (l : Lent) (v : ℕ) : ℕ → ℕ → Type 0 where
  value_away : {n o : ℕ} → TurnedAway lim s l n o → ValueRefused lim s l v n o
  no_variable_seen : {r c : ℕ} → LetIn lim s l r c → (program_of s r c).goal_vars ≤ v → ValueRefused lim s l v 12 0

-- Values 3: a look at all goal variables, into a row
pub data ValuesRefused (lim : Limits) (s : List ℕ) (l : Lent) (row : List ℕ) : ℕ → ℕ → Type 0 where
  values_away : {n o : ℕ} → TurnedAway lim s l n o → ValuesRefused lim s l row n o
  row_short : {r c : ℕ} → LetIn lim s l r c → length row < (program_of s r c).goal_vars * cell_size → ValuesRefused lim s l row 11 0

-- Saved 4: a save to a row
pub data SaveRefused (lim : Limits) (s : List ℕ) (l : Lent) (row : List ℕ) : ℕ → ℕ → Type 0 where
  save_away : {n o : ℕ} → TurnedAway lim s l n o → SaveRefused lim s l row n o
  row_too_short : {r c : ℕ} → LetIn lim s l r c → length row < length (saved_bytes l (length s)) → SaveRefused lim s l row 11 0

-- Saved 9: what all of STATE is about: the sizes of what is lent, the counts, and the tables of the saved run
pub record Resumes (lim : Limits) (pr : Program) (l : Lent) (x : List ℕ) (a b : ℕ) : Type 0 where
  pub sizes : Sizes lim l
  pub processes : proc_count (head_in x) ≡ a
  pub variables : var_count (head_in x) ≡ b
  pub ruled : LentRuled lim pr (resumed_lent lim x a b)

-- Saved 5, 8, 9, 12: a resume from the saved run x
pub data ResumeRefused (lim : Limits) (s : List ℕ) (l : Lent) (x : List ℕ) : ℕ → ℕ → Type 0 where
  resume-image : {n o : ℕ} → BadImage s n o → ResumeRefused lim s l x n o
  resume_record : {r c n o : ℕ} → RightImage s r c → BadSaved x n o → ResumeRefused lim s l x n (told_offset o)
  is_foreign : {r c a b : ℕ} → RightImage s r c → Formed x a b → image_length x ≢ length s → ResumeRefused lim s l x 15 0
  no_tables : {r c a b : ℕ} → RightImage s r c → Formed x a b → image_length x ≡ length s → (Resumes lim (program_of s r c) l x a b → ⊥) → ResumeRefused lim s l x 8 0

-- ---- demand 1 of a word

-- it is a refusal exactly where there is a reason, and then has the number and the offset of that; no number is above the highest that the call has
pub record RefusesBy (most : ℕ) (Why : ℕ → ℕ → Type 0) (w : ℕ) : Type 0 where
  pub numbered : {n o : ℕ} → Why n o → (1 ≤ n) × (n ≤ most)
  pub given : {n o : ℕ} → Why n o → (refusal_in w ≡ n) × (large_in w ≡ o)
  pub only : refusal_in w ≢ 0 → Why (refusal_in w) (large_in w)

-- and a refusal leaves every lent byte as it was, in the tables or in the row that a call writes
pub record Refusing {A : Type 0} (most : ℕ) (Why : ℕ → ℕ → Type 0) (l : A) (w : ℕ) (l' : A) : Type 0 where
  pub by : RefusesBy most Why w
  pub kept : refusal_in w ≢ 0 → l' ≡ l
