-- The least name of a class, above a bound, that a table does not have.
use Rattle.std.specs.Prelude.{◌&&◌, ◌||◌, Bool, cond, false, not, true, [], ◌∷◌, List, ◌/◌, ℕ, eqb, leb, ltb}
use Rattle.name_index.specs.Index.{chain_of}
use Rattle.text_names.specs.Names.{known, Name}

-- the order of names: byte by byte, and a name that another one begins with comes before it
unfoldable pub before : Name → Name → Bool
before x [] = false
before [] (b ∷ y) = true
before (a ∷ x) (b ∷ y) = ltb a b || (eqb a b && before x y)

-- a bound is one name or none; above none stands every name
abbrev pub above : List Name → Name → Bool
above [] x = true
above (b ∷ bs) x = before b x

-- classes 0 to 15 have 32 chains each; from 16 on a number stands for all of them
abbrev pub in_class : ℕ → ℕ → Bool
in_class k h = leb 16 k || eqb (h / 32) k

-- a name has the class of its chain
abbrev pub of_class : ℕ → Name → Bool
of_class k x = in_class k (chain_of x)

-- a name that is looked for: of a class, above the bound, and not in the table
unfoldable pub missing : ℕ → List Name → List Name → Name → Bool
missing k ts bs x = of_class k x && (above bs x && not (known ts x))

-- one name, or none so far, and another one: the lesser
abbrev pub lesser : List Name → Name → List Name
lesser [] x = x ∷ []
lesser (y ∷ ys) x = cond (before x y) (x ∷ []) (y ∷ ys)

-- one name more, which counts where it is looked for
abbrev pub seen : (Name → Bool) → List Name → Name → List Name
seen asked m x = cond (asked x) (lesser m x) m

-- the least of the names that are looked for, and of the one so far
unfoldable pub least : (Name → Bool) → List Name → List Name → List Name
least asked m [] = m
least asked m (x ∷ xs) = least asked (seen asked m x) xs
