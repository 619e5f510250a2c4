-- The beginning of a text: blanks, names, marks. Past the end there is the byte 0.
use Rattle.std.specs.Prelude.{◌||◌, Bool, cond, [], ◌∷◌, List, ℕ, eqb, drop, get_or}
use Rattle.spell.specs.Forms.{in_span}

-- Text 1: a to z
unfoldable pub is_small : ℕ → Bool
is_small b = in_span 97 25 b

-- Text 1: A to Z
unfoldable pub is_capital : ℕ → Bool
is_capital b = in_span 65 25 b

-- Text 1: letters, digits and `_`
unfoldable pub is_name : ℕ → Bool
is_name b = is_small b || (is_capital b || (in_span 48 9 b || eqb b 95))

-- Text 2: blanks and line ends
unfoldable pub is_blank : ℕ → Bool
is_blank b = in_span 9 1 b || (eqb b 13 || eqb b 32)

-- the first byte
abbrev pub first : List ℕ → ℕ
first s = get_or s 0 0

-- Text 2: the text behind the blanks that it begins with
unfoldable pub skip : List ℕ → List ℕ
skip [] = []
skip (b ∷ s) = cond (is_blank b) (skip s) (b ∷ s)

-- Text 1: the name that a text begins with
unfoldable pub front : List ℕ → List ℕ
front [] = []
front (b ∷ s) = cond (is_name b) (b ∷ front s) []

-- the text behind that name
unfoldable pub back : List ℕ → List ℕ
back [] = []
back (b ∷ s) = cond (is_name b) (back s) (b ∷ s)

-- Text 2: behind a name and the blanks there
abbrev pub past : List ℕ → List ℕ
past s = skip (back s)

-- Text 2: behind a mark and the blanks there
abbrev pub next : List ℕ → List ℕ
next s = skip (drop 1 s)
