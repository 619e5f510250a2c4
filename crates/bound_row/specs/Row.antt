-- The bytes that tell variables: their count, then each.
use Rattle.std.specs.Prelude.{[], ◌++◌, ◌∷◌, List, ℕ, length}
use Rattle.lay.specs.Lay.{two}

-- Bound 4: two bytes for each
unfoldable pub twos : List ℕ → List ℕ
twos [] = []
twos (v ∷ vs) = two v ++ twos vs

-- Bound 4: the count in front
unfoldable pub bound_bytes : List ℕ → List ℕ
bound_bytes vs = two (length vs) ++ twos vs
