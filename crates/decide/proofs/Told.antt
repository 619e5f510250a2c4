-- What the calls of a decision require.
use mathlib.Core.Path.{◌≡◌, refl}
use mathlib.Core.Bool.{true}
use mathlib.Core.List.{[], ◌∷◌, List}
use Prim.Native.Nat.{◌+◌, ◌≤◌, suc, zero, ℕ}
use lib.ListN.{get_or}
use borrow.Author.Tests.{ltb-true}
use native.Mathlib.Omega.{arith}
use Rattle.decide.specs.Decision.{Shifted}
use Rattle.parlog.proofs.Sane.{all-of-at}
use Rattle.parlog.specs.Sane.{term_in, terms_in}
use Rattle.parlog.specs.declared.Term.{Term}
use Rattle.parlog.specs.declared.Term.TheVariants.{Const, Var}
use Rattle.unify.specs.Pending.{top}

-- terms of a goal or clause with m variables that are numbered from base
pub shifted_in : (n m base count : ℕ) (ts : List Term) → base + m ≤ n → terms_in m ts ≡ true → Shifted ts base count n
shifted_in n m base count ts h e k l = go (get_or ts k (Const 0)) (all-of-at (term_in m) (Const 0) refl ts e k)
  where
    go : (t : Term) → term_in m t ≡ true → top t + base ≤ n
    go (Const c) e = unfold top in (omega arith)
    go (Var v) e = unfold top in (omega (arith, ltb-true v m e))

-- the same where a list fills four places
pub shifted-four : (n base : ℕ) (ts : List Term) → Shifted ts base 4 n → Shifted (get_or ts 0 (Const 0) ∷ get_or ts 1 (Const 0) ∷ get_or ts 2 (Const 0) ∷ get_or ts 3 (Const 0) ∷ []) base 4 n
shifted-four n base ts h zero l = h 0 l
shifted-four n base ts h (suc zero) l = h 1 l
shifted-four n base ts h (suc (suc zero)) l = h 2 l
shifted-four n base ts h (suc (suc (suc zero))) l = h 3 l
shifted-four n base ts h (suc (suc (suc (suc k)))) l = absurd (omega arith)
