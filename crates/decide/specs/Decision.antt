-- What an answer of the code tells, and the structs that it works with.
use Rattle.std.specs.Prelude.{◌≡◌, ◌||◌, Bool, [], ◌∷◌, List, ◌+◌, ◌<◌, ◌≤◌, ℕ, ltb, get_or, take, Option}
use Rattle.decide.specs.declared.Decision.{Decision}
use Rattle.decide.specs.declared.Decision.TheVariants.{Binds, Fails, Suspends}
use Rattle.decide.specs.declared.Held.{Held}
use Rattle.parlog.specs.Unify.{binds, Decided, fails, input_value, suspends}
use Rattle.parlog.specs.declared.Change.{Change}
use Rattle.parlog.specs.declared.Term.{Term}
use Rattle.parlog.specs.declared.Term.TheVariants.{Const}
use Rattle.unify.specs.Pending.{noted_in, pending, top}
use Rattle.unify.specs.declared.waiting.Noted.{Noted}

-- ---- answers

-- what suspends notes at least one variable
unfoldable pub suspended_by : List ℕ → Decided
suspended_by [] = fails
suspended_by (v ∷ ns) = suspends v ns

-- what an answer tells
unfoldable pub decided_of : Decision → Decided
decided_of Fails = fails
decided_of (Suspends s) = suspended_by (noted_in s)
decided_of (Binds cs) = binds (pending cs)

-- what an answer wants bound
unfoldable pub to_bind : Decision → List Change
to_bind Fails = []
to_bind (Suspends s) = []
to_bind (Binds cs) = pending cs

-- what a decision binds
abbrev pub changes_of : Decided → List Change
changes_of fails = []
changes_of (suspends v ns) = []
changes_of (binds cs) = cs

-- the code's answer r to the decision d
pub record Decides (d : Decided) (r : Decision) : Type 0 where
  pub told : decided_of r ≡ d
  pub some : {s : Noted} → r ≡ Suspends s → 0 < s.count

-- ---- variables noted

-- v is not to be bound
unfoldable pub held_by : List (Option Term) → Held → ℕ → Bool
held_by vs h v = ltb v h.bar || input_value vs (take h.call.arity h.call.modes) (take h.call.arity h.call.args) h.call.base v

-- ---- bounds

-- the first terms, numbered from base, have variables below n
abbrev pub Shifted : List Term → ℕ → ℕ → ℕ → Type 0
Shifted ts base count n = (k : ℕ) → k < count → top (get_or ts k (Const 0)) + base ≤ n
