-- The unifier that the code carries, and what its pending bindings say.
use Rattle.std.specs.Prelude.{[], cond, eqb, get_or, length, List, map, None, Option, Some, suc, take, ℕ, ◌<◌, ◌∷◌, ◌≤◌}
use Rattle.parlog.specs.Tables.{number_code, vars_in}
use Rattle.parlog.specs.Unify.{bound, changed, clash, Outcome}
use Rattle.parlog.specs.declared.Change.{Change}
use Rattle.parlog.specs.declared.Pair.{Pair}
use Rattle.parlog.specs.declared.Term.{Term}
use Rattle.parlog.specs.declared.Term.TheVariants.{Const, Var}
use Rattle.unify.specs.declared.waiting.Changes.{Changes}
use Rattle.unify.specs.declared.waiting.Noted.{Noted}

-- one more than the variable that a term is, 0 for a constant
unfoldable pub top : Term → ℕ
top (Const c) = 0
top (Var v) = suc v

-- ---- pending bindings

-- bindings that wait, in the order made
unfoldable pub pending : Changes → List Change
pending cs = take cs.count cs.list

-- what a unifier came to so far; at a clash there is none
unfoldable pub outcome : Option Changes → Outcome
outcome None = clash
outcome (Some cs) = bound (pending cs)

-- the variables noted, in order
unfoldable pub noted_in : Noted → List ℕ
noted_in s = take s.count s.notes

-- ---- what is told: the variables bound

-- the variables of changes, in their order
abbrev pub vars_bound : List Change → List ℕ
vars_bound cs = map (λ c. c.var) cs

-- Bound 1: the variables that unifying binds, in order; a clash binds none
unfoldable pub bound_vars : Outcome → List ℕ
bound_vars clash = []
bound_vars (bound cs) = vars_bound cs

-- the variables that a unifier tells
unfoldable pub bound_in : Option Changes → List ℕ
bound_in None = []
bound_in (Some cs) = vars_bound (pending cs)

-- ---- the table under changes

-- the binding of v after one change, where it was b
unfoldable pub newer_of : Change → Option Term → ℕ → Option Term
newer_of c b v = cond (eqb c.var v) (Some c.to) b

-- the binding of v after changes, where it was b
unfoldable pub latest : List Change → Option Term → ℕ → Option Term
latest [] b v = b
latest (c ∷ cs) b v = latest cs (newer_of c b v) v

-- the table's bindings after changes
unfoldable pub under : List ℕ → ℕ → List Change → List (Option Term)
under l n cs = changed (vars_in l n) cs

-- ---- bounds

-- what stands past the end of changes and of pairs
abbrev pub no_change : Change
no_change = record { var = 0; to = Const 0 }

abbrev pub no_pair : Pair
no_pair = record { left = Const 0; right = Const 0 }

-- the variables of the first pairs are below n
abbrev pub Below : ℕ → ℕ → List Pair → Type 0
Below n count es = (k : ℕ) → k < count → (top (get_or es k no_pair).left ≤ n) × (top (get_or es k no_pair).right ≤ n)

-- it binds a variable below n, to a constant or a lower variable
abbrev pub Lowers : ℕ → Change → Type 0
Lowers n c = (c.var < n) × (top c.to ≤ c.var)

abbrev pub AllLower : ℕ → List Change → Type 0
AllLower n [] = Unit {0}
AllLower n (c ∷ cs) = Lowers n c × AllLower n cs

abbrev pub OutcomeLowers : ℕ → Outcome → Type 0
OutcomeLowers n clash = Unit {0}
OutcomeLowers n (bound cs) = AllLower n cs

-- what a writer of the table asks of changes: every variable among the first n, every number one of three bytes
pub record Writable (n : ℕ) (cs : List Change) : Type 0 where
  pub rows : (k : ℕ) → k < length cs → (get_or cs k no_change).var < n
  pub numbers : (k : ℕ) → k < length cs → number_code (Some (get_or cs k no_change).to) < 16777216
