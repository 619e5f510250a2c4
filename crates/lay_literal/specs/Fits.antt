-- The test of each call of a goal.
use Rattle.std.specs.Prelude.{Bool, List}
use Rattle.lay_literal.specs.Lows.{literal_fits}
use Rattle.text_program.specs.Parsing.{all_of}
use Rattle.text_program.specs.Source.{ModeLine, Said}

-- each call of a stage
unfoldable pub stage_fits : Bool → List ModeLine → List Said → Bool
stage_fits arity ms st = all_of (literal_fits arity ms) st

-- each call of a goal
unfoldable pub goal_fits : Bool → List ModeLine → List (List Said) → Bool
goal_fits arity ms g = all_of (stage_fits arity ms) g
