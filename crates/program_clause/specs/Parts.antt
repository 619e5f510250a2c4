-- The outputs in a row of modes.
use Rattle.std.specs.Prelude.{Bool, not, List, ◌+◌, ℕ, eqb}
use Rattle.parlog.specs.Image.{byte_at}

-- whether mode k of the modes at a place is an output
abbrev pub is_out : List ℕ → ℕ → ℕ → Bool
is_out s at k = not (eqb (byte_at s (at + k)) 0)
