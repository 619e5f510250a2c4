-- The least of names one behind the other.
use mathlib.Core.Path.{◌≡◌, refl, sym}
use mathlib.Core.Bool.{Bool}
use mathlib.Core.List.{[], ◌++◌, ◌∷◌, List}
use Prim.Native.Nat.{ℕ}
use lib.ListN.{take}
use Rattle.missing_call.specs.Least.{least, missing, seen}
use Rattle.missing_call.specs.Sees.{least_of, one_at}
use Rattle.missing_call.specs.declared.Asked.{Asked}
use Rattle.missing_call.specs.declared.Seen.{Seen}
use Rattle.read_names.specs.Tables.{names_at}
use Rattle.text_names.specs.Names.{Name}

least-append : (asked : Name → Bool) (m xs ys : List Name) → least asked m (xs ++ ys) ≡ least asked (least asked m xs) ys
unfolding least
least-append asked m [] ys = refl
least-append asked m (x ∷ xs) ys = least-append asked (seen asked m x) xs ys

-- what was seen of the first ones, and then the others
pub least_on : (s t : List ℕ) (a : Asked) (w v : Seen) (xs ys : List Name) → one_at s v.at ≡ least_of s t a w xs → least_of s t a v ys ≡ least_of s t a w (xs ++ ys)
least_on s t a w v xs ys e =
    rw (e)
    (sym (least-append (missing a.class (names_at s (take a.count t)) (one_at s a.bound)) (one_at s w.at) xs ys))

-- none more
pub least-none : (s t : List ℕ) (a : Asked) (w : Seen) → least_of s t a w [] ≡ one_at s w.at
unfolding least
least-none s t a w = refl
