-- Names, and their numbers by first appearance.
use Rattle.std.specs.Prelude.{◌≡◌, ◌&&◌, Bool, cond, false, true, [], ◌++◌, ◌∷◌, List, ◌<◌, suc, ℕ, eqb, ltb, length, Option, Some, None}

-- a name is a row of bytes
abbrev pub Name : Type 0
Name = List ℕ

-- two names are the same, byte by byte
unfoldable pub same_name : Name → Name → Bool
same_name [] [] = true
same_name [] (b ∷ y) = false
same_name (a ∷ x) [] = false
same_name (a ∷ x) (b ∷ y) = eqb a b && same_name x y

-- where a name first stands in a row of names, or how many there are
unfoldable pub look : List Name → Name → ℕ
look [] x = 0
look (y ∷ ys) x = cond (same_name y x) 0 (suc (look ys x))

-- the name is one of them
abbrev pub known : List Name → Name → Bool
known ys x = ltb (look ys x) (length ys)

-- the number of a name among some names, or none where it is none of them
abbrev pub FoundAt : List Name → Name → Option ℕ → Type 0
FoundAt ys x (Some k) = (k ≡ look ys x) × (k < length ys)
FoundAt ys x None = look ys x ≡ length ys

-- the names with one more, if it is new
unfoldable pub add : List Name → Name → List Name
add ys x = cond (known ys x) ys (ys ++ (x ∷ []))

-- the names with those of a row, each once, by first appearance
unfoldable pub adds : List Name → List Name → List Name
adds ys [] = ys
adds ys (x ∷ xs) = adds (add ys x) xs
