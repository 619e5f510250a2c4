-- The table rules 3a to 3l as facts: refusal 8 a second time, beside the test that the calls make (parlog/specs/TableRules).
-- x is the row of a process, z the places that it names, n the count of variables.
use Rattle.std.specs.Prelude.{◌≡◌, ◌≢◌, ◌⊎◌, List, ◌*◌, ◌+◌, ◌<◌, ◌≤◌, ℕ, get_or, length, Some}
use Rattle.parlog.specs.Clauses.{HasBlock, HasVars}
use Rattle.parlog.specs.Codes.{and_par, and_seq, as_written, dormant, equate, guard_eval, input_match, kind_code, none, or_par, or_search, reporting, result_code, seq_search, success, suspended, Tag, tag_code, the_body, the_goal, the_guard, try_clause, waiting}
use Rattle.parlog.specs.Limits.{Limits}
use Rattle.parlog.specs.Notions.{AtSplit, AtStage, HasMode, HasTag, Is, me, Reports, Works}
use Rattle.parlog.specs.Program.{clause_at, Goal, Literal, no_literal, Program, tag_of_goal}
use Rattle.parlog.specs.Tables.{binding_of, cell_size, head_size, Lent, noted, number_at, rank, row_size, sort_at, State, Tables, tables_in, var_count}
use Rattle.parlog.specs.declared.Process.{Process}
use Rattle.parlog.specs.declared.Spot.{Spot}
use Rattle.parlog.specs.declared.Term.TheVariants.{Const, Var}

-- ---- numbers and results

-- Tables 3b: every number of a row stands for something
pub record RowKnown (x : Process) : Type 0 where
  pub tag : x.tag < 9
  pub mode : x.mode < 6
  pub result : x.result < 3
  pub kind : x.spot.kind < 4

-- Tables 3c: it reports, or is process 0 and dormant
pub data MustTell (s : State) (i : ℕ) : Type 0 where
  it_reports : HasMode s i reporting → MustTell s i
  goal_sleeps : i ≡ 0 → HasMode s i dormant → MustTell s i

-- ---- kin

-- Tables 3d: process 0 is for the image's goal and has no parent
pub record GoalProcess (pr : Program) (x : Process) : Type 0 where
  pub tag : x.tag ≡ tag_code (tag_of_goal pr.goal)
  pub parent : x.parent ≡ 0
  pub kind : x.spot.kind ≡ kind_code the_goal

-- tags of a literal
pub data LiteralTag : Tag → Type 0 where
  a_call_tag : LiteralTag or_par
  an_equality_tag : LiteralTag equate

-- tags of a stage
pub data StageTag : Tag → Type 0 where
  one_literal : {t : Tag} → LiteralTag t → StageTag t
  more_literals : StageTag and_par

-- tags of a goal
pub data GoalTag : Tag → Type 0 where
  only_stage : {t : Tag} → StageTag t → GoalTag t
  in_sequence : GoalTag and_seq

-- Tables 3e: which tags the rules of a tag make
pub data MakesTag : Tag → Tag → Type 0 where
  per_literal : {t : Tag} → LiteralTag t → MakesTag and_par t
  for_whole_body : MakesTag and_par and_seq
  for_stage : {t : Tag} → StageTag t → MakesTag and_seq t
  for_search : MakesTag or_par seq_search
  for_body : {t : Tag} → GoalTag t → MakesTag or_par t
  for_block : MakesTag seq_search or_search
  per_clause : MakesTag or_search try_clause
  to_match : MakesTag try_clause input_match
  to_guard : MakesTag try_clause guard_eval
  for_guard : {t : Tag} → GoalTag t → MakesTag guard_eval t

-- Tables 3e: process i has a parent of a lower number, whose rules make its tag
pub record HasParent (s : State) (i : ℕ) : Type 0 where
  pub lower : rank s.procs (me s i).parent < rank s.procs i
  pub above : Tag
  pub own : Tag
  pub parent_tag : HasTag s (me s i).parent above
  pub own_tag : HasTag s i own
  pub makes : MakesTag above own

-- ---- places

-- Tables 3j: clause k is there, and so are its variables from v on
pub record ClauseUsed (pr : Program) (n k v : ℕ) : Type 0 where
  pub there : k < length pr.clauses
  pub vars : ℕ
  pub has : HasVars pr k vars
  pub used : v + vars ≤ n

-- Tables 3j: the goal that z names is there, and its variables: the image's, a guard, a committed body, or a body as it is written
pub data GoalUsed (pr : Program) (n : ℕ) (z : Spot) : Type 0 where
  of_image : z.kind ≡ kind_code the_goal → z.base ≡ 0 → pr.goal_vars ≤ n → GoalUsed pr n z
  of_guard : z.kind ≡ kind_code the_guard → ClauseUsed pr n z.clause z.base → GoalUsed pr n z
  of_body : z.kind ≡ kind_code the_body → ClauseUsed pr n z.clause z.base → GoalUsed pr n z
  of_written : z.kind ≡ kind_code as_written → ClauseUsed pr n z.clause z.base → GoalUsed pr n z

-- Tables 3f, 3j: a stage of that goal, or with `past` the one behind the last too
pub record StageNamed (pr : Program) (z : Spot) (past : ℕ) : Type 0 where
  pub goal : Goal
  pub works : Works pr z goal
  pub there : z.stage < length goal + past

-- Tables 3f, 3j: a literal of a stage; r is its relation
pub record LiteralUsed (pr : Program) (n : ℕ) (z : Spot) (r : ℕ) : Type 0 where
  pub goal : GoalUsed pr n z
  pub stage : List Literal
  pub in_stage : AtStage pr z stage
  pub there : z.literal < length stage
  pub relation : (get_or stage z.literal no_literal).rel ≡ r

-- Tables 3g: it is a call
pub record CallUsed (pr : Program) (n : ℕ) (z : Spot) : Type 0 where
  pub relation : ℕ
  pub literal : LiteralUsed pr n z relation
  pub call : relation ≢ 255

-- Tables 3g: it is a call, and the relation called has the block
pub record BlockUsed (pr : Program) (n : ℕ) (z : Spot) : Type 0 where
  pub relation : ℕ
  pub literal : LiteralUsed pr n z relation
  pub call : relation ≢ 255
  pub block : HasBlock pr relation z.block

-- Tables 3g: it is a call, and the clause is of the relation called
pub record TrialUsed (pr : Program) (n : ℕ) (z : Spot) : Type 0 where
  pub relation : ℕ
  pub literal : LiteralUsed pr n z relation
  pub call : relation ≢ 255
  pub clause : ClauseUsed pr n z.found z.first
  pub same : (clause_at pr z.found).rel ≡ relation

-- Tables 3f, 3g: what the rules of a tag read; no and-seq is at the equations of a split clause
abbrev pub Places : Tag → Program → ℕ → Spot → Type 0
Places and_par pr n z = GoalUsed pr n z × StageNamed pr z 0
Places and_seq pr n z = GoalUsed pr n z × (StageNamed pr z 1 × (AtSplit pr z → ⊥))
Places or_par pr n z = CallUsed pr n z
Places seq_search pr n z = CallUsed pr n z
Places or_search pr n z = BlockUsed pr n z
Places try_clause pr n z = TrialUsed pr n z
Places input_match pr n z = TrialUsed pr n z
Places guard_eval pr n z = ClauseUsed pr n z.found z.first
Places equate pr n z = LiteralUsed pr n z 255

-- ---- all rules

-- Tables 3, 3a to 3k: counts, processes and variables
pub record StateRuled (lim : Limits) (pr : Program) (s : State) : Type 0 where
  -- Tables 3a
  pub a_process : 1 ≤ length s.procs
  pub few_procs : length s.procs ≤ lim.procs
  pub few-vars : length s.vars ≤ lim.vars
  pub goal-vars : pr.goal_vars ≤ length s.vars
  -- Tables 3b
  pub known : (i : ℕ) → i < length s.procs → RowKnown (me s i)
  -- Tables 3c
  pub tells : (i : ℕ) → i < length s.procs → MustTell s i → (me s i).result ≢ result_code none
  -- Tables 3d
  pub goal-process : GoalProcess pr (me s 0)
  -- Tables 3e
  pub parents : (i : ℕ) → i < length s.procs → i ≢ 0 → HasParent s i
  -- Tables 3f, 3g, 3j
  pub places : (i : ℕ) (t : Tag) → i < length s.procs → HasTag s i t → Places t pr (length s.vars) (me s i).spot
  -- Tables 3h
  pub at_stage : (i : ℕ) → i < length s.procs → Is s i and_seq waiting → StageNamed pr (me s i).spot 0
  pub at_block : (i : ℕ) → i < length s.procs → Is s i seq_search waiting → BlockUsed pr (length s.vars) (me s i).spot
  pub found : (i : ℕ) → i < length s.procs → HasTag s i seq_search ⊎ HasTag s i or_search → Reports s i success
      → ClauseUsed pr (length s.vars) (me s i).spot.found (me s i).spot.first
  -- Tables 3i
  pub constants : (v c : ℕ) → v < length s.vars → binding_of s.vars v ≡ Some (Const c) → c ≤ 32767
  pub downward : (v w : ℕ) → v < length s.vars → binding_of s.vars v ≡ Some (Var w) → w < v
  -- Tables 3k
  pub few_notes : (i : ℕ) → i < length s.procs → HasMode s i suspended → (me s i).count ≤ 4
  pub notes : (i j : ℕ) → i < length s.procs → HasMode s i suspended → j < length (noted (me s i)) → get_or (noted (me s i)) j 0 < length s.vars

-- Tables 3, 3l: and the marker
pub record Ruled (lim : Limits) (pr : Program) (t : Tables) : Type 0 where
  pub state : StateRuled lim pr t.state
  pub marker : t.last < length t.state.procs

-- ---- over lent bytes

-- Refusals 21: each lent row has its full size
pub record Sizes (lim : Limits) (l : Lent) : Type 0 where
  pub head : length l.head ≡ head_size
  pub procs : length l.procs ≡ lim.procs * row_size
  pub vars : length l.vars ≡ lim.vars * cell_size

-- Refusals 8, 21, Tables 3b: what is not 8: the sizes, known sorts of variables with 0 behind unbound, and the table rules
pub record LentRuled (lim : Limits) (pr : Program) (l : Lent) : Type 0 where
  pub sizes : Sizes lim l
  pub sorts : (v : ℕ) → v < var_count l.head → sort_at l.vars v < 3
  pub unbound : (v : ℕ) → v < var_count l.head → sort_at l.vars v ≡ 0 → number_at l.vars v ≡ 0
  pub tables : Ruled lim pr (tables_in l)
