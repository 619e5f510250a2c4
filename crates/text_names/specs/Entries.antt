-- A row of names as bytes: each name and a byte 10.
use Rattle.std.specs.Prelude.{◌&&◌, Bool, cond, [], ◌++◌, ◌∷◌, List, suc, zero, ℕ, eqb}
use Rattle.text_names.specs.Bytes.{back, first, front, is_small}
use Rattle.text_names.specs.Names.{Name}

-- Text 15: what ends an entry
abbrev pub line_end : ℕ
line_end = 10

-- the row behind its first entry
unfoldable pub behind_entry : List ℕ → List ℕ
behind_entry [] = []
behind_entry (b ∷ s) = cond (eqb b line_end) s (behind_entry s)

-- Text 15: the row from entry k on
unfoldable pub entry_from : List ℕ → ℕ → List ℕ
entry_from s zero = s
entry_from s (suc k) = entry_from (behind_entry s) k

-- Text 15: the name in entry k
abbrev pub entry_name : List ℕ → ℕ → Name
entry_name s k = front (entry_from s k)

-- Text 26: entry k is there and is a lower-case name
unfoldable pub is_entry : List ℕ → ℕ → Bool
is_entry s k = is_small (first (entry_from s k)) && eqb (first (back (entry_from s k))) line_end

-- Text 15: names as entries
unfoldable pub entries : List Name → List ℕ
entries [] = []
entries (x ∷ xs) = x ++ (line_end ∷ entries xs)
