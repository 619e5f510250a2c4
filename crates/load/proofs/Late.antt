-- What the tests of KIND and MANY say by the kind of a record.
use Rattle.std.specs.Prelude.{MatchOption}
use mathlib.Core.Path.{refl, ◌≡◌}
use mathlib.Core.Bool.{Bool, false, not, true, ◌||◌}
use mathlib.Core.List.{List}
use Prim.Native.Nat.{suc, zero, ℕ}
use lib.Dec.{eqb, ltb}
use borrow.Author.Tests.{le-ltb, lt-ltb}
use native.Mathlib.Omega.{arith}
use Rattle.load_names.specs.Reading.{kind_number}
use Rattle.load_names.specs.declared.Kind.{Kind}
use Rattle.load_names.specs.declared.Kind.TheVariants.{Clause, Goal, Relation}
use Rattle.parlog.specs.Load.{block_full, kind_fault}
use Rattle.parlog.specs.declared.Progress.{Progress}
use Rattle.std.specs.Bool.{then_some}

-- any other number is refused
pub no-kind : (g : Progress) (n : ℕ) → (n ≡ 1 → ⊥) × (n ≡ 2 → ⊥) × (n ≡ 3 → ⊥) → kind_fault g n ≡ true
unfolding kind_fault
no-kind g zero h = refl
no-kind g (suc n) h = rw (le-ltb (suc n) 1 (omega arith), lt-ltb 3 (suc n) (omega (arith, h.0, h.1, h.2))) refl

-- one of the three is where it steps back or stands behind the goal
late-kind : (g : Progress) (n : ℕ) (k : Kind) → kind_number k ≡ n → kind_fault g n ≡ (ltb n g.kind || eqb g.kind 3)
unfolding kind_fault
late-kind g n Relation e = rw (← e) refl
late-kind g n Clause e = rw (← e) refl
late-kind g n Goal e = rw (← e) refl

pub kind-told : (g : Progress) (n : ℕ) (k : Kind) → kind_number k ≡ n → MatchOption (then_some (not (ltb n g.kind || eqb g.kind 3)) k) (kind_fault g n ≡ true) (λ j. (kind_number j ≡ n) × (kind_fault g n ≡ false))
kind-told g n k e = rw (late-kind g n k e) (go (ltb n g.kind || eqb g.kind 3))
  where
    go : (b : Bool) → MatchOption (then_some (not b) k) (b ≡ true) (λ j. (kind_number j ≡ n) × (b ≡ false))
    go true = refl
    go false = (e, refl)

-- a block is of clauses alone
pub none-full : (s : List ℕ) (g : Progress) (at : ℕ) (k : Kind) → (k ≡ Clause → ⊥) → false ≡ block_full s g at (kind_number k)
unfolding block_full
none-full s g at Relation h = refl
none-full s g at Clause h = absurd (h refl)
none-full s g at Goal h = refl
