-- Literals, stages and goals as they are taken from a text.
use Rattle.std.specs.Prelude.{false, true, List, map, ℕ, length}
use Rattle.lay_literal.specs.Fits.{goal_fits, stage_fits}
use Rattle.lay_literal.specs.Lows.{literal_fits}
use Rattle.read_names.specs.Tables.{mode_names}
use Rattle.take_term.specs.Takes.{numbers_by, Rows, Takes}
use Rattle.take_term.specs.declared.Reading.{Reading}
use Rattle.text_program.specs.Encoded.{goal_bytes, literal_bytes, stage_bytes}
use Rattle.text_program.specs.Numbered.{goal_numbered, goal_terms, joined, literal_numbered, said_terms}
use Rattle.text_program.specs.Source.{Got, ModeLine, Said}

-- a literal; its items are its terms
abbrev pub TakesLiteral : List ℕ → List ModeLine → Rows → Reading → Got Said → Rows → Reading → Type 0
TakesLiteral s ms a w g b x =
    Takes s a w g.rest (length (said_terms g.value)) (said_terms g.value) (λ cs vs. literal_bytes (literal_numbered (numbers_by (mode_names ms) cs vs) g.value)) (literal_fits true ms g.value)
    (literal_fits false ms g.value) b x

-- an equality, with any mode lines
abbrev pub TakesEquality : List ℕ → Rows → Reading → Got Said → Rows → Reading → Type 0
TakesEquality s a w g b x = (ms : List ModeLine) → TakesLiteral s ms a w g b x

-- a stage; its items are its literals
abbrev pub TakesStage : List ℕ → List ModeLine → Rows → Reading → Got (List Said) → Rows → Reading → Type 0
TakesStage s ms a w g b x =
    Takes s a w g.rest (length g.value) (joined said_terms g.value) (λ cs vs. stage_bytes (map (literal_numbered (numbers_by (mode_names ms) cs vs)) g.value)) (stage_fits true ms g.value)
    (stage_fits false ms g.value) b x

-- a goal; its items are its stages
abbrev pub TakesGoal : List ℕ → List ModeLine → Rows → Reading → Got (List (List Said)) → Rows → Reading → Type 0
TakesGoal s ms a w g b x =
    Takes s a w g.rest (length g.value) (goal_terms g.value) (λ cs vs. goal_bytes (goal_numbered (numbers_by (mode_names ms) cs vs) g.value)) (goal_fits true ms g.value)
    (goal_fits false ms g.value) b x
