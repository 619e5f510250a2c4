-- What is laid of a text: the low byte of each number; and the test of a call.
use Rattle.std.specs.Prelude.{Bool, cond, true, [], ◌∷◌, List, ◌%◌, ℕ, eqb, length}
use Rattle.read_names.specs.Tables.{arity_for, mode_names}
use Rattle.text_names.specs.Names.{known}
use Rattle.text_program.specs.Source.{calls, equals, ModeLine, Said}

-- the low byte of each number
unfoldable pub lows : List ℕ → List ℕ
lows [] = []
lows (b ∷ bs) = b % 256 ∷ lows bs

-- a call has the arity of its mode line, or it has a mode line
unfoldable pub literal_fits : Bool → List ModeLine → Said → Bool
literal_fits arity ms (calls p ts) = cond arity (eqb (length ts) (arity_for ms p)) (known (mode_names ms) p)
literal_fits arity ms (equals a b) = true
