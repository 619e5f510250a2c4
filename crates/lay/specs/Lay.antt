-- Bytes laid into a lent row, as far as there is room.
use Rattle.std.specs.Prelude.{◌≡◌, [], ◌++◌, ◌∷◌, List, ◌%◌, ◌+◌, ◌/◌, suc, ℕ, length, set}

-- out with the bytes from place `at` on; past the end of out nothing is written, so its length and every other byte stay
unfoldable pub laid : List ℕ → ℕ → List ℕ → List ℕ
laid out at [] = out
laid out at (b ∷ bs) = laid (set out at b) (suc at) bs

-- a number's two low bytes, the lowest first
abbrev pub two : ℕ → List ℕ
two n = n % 256 ∷ n / 256 % 256 ∷ []

-- a number's four low bytes, the lowest first
abbrev pub four : ℕ → List ℕ
four n = two n ++ two (n / 65536)

-- what a writer does: the row with the bytes laid in, and the place behind them
pub record Lays (before after : List ℕ) (at : ℕ) (bytes : List ℕ) (next : ℕ) : Type 0 where
  pub row : after ≡ laid before at bytes
  pub place : next ≡ at + length bytes
