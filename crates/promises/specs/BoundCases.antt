-- Request 1, worked examples, computed from the bytes of their images: what stands in a row of ten bytes 255 after a call.
use Rattle.std.specs.Prelude.{◌≡◌, [], ◌∷◌, List, ℕ, replicate, Err}
use Rattle.bound.specs.Calls.{step_bound_call, supply_bound_call, turn_bound_call}
use Rattle.parlog.specs.Calls.{run_call}
use Rattle.parlog.specs.Cases.{ask_one}
use Rattle.parlog.specs.Load.{refusal}
use Rattle.parlog.specs.Tables.{Lent}
use Rattle.refusals.specs.CallInstances.{asked, begun, tiny}

-- p(X1,X0) with two input arguments, asked of two constants
abbrev pub crossed : List ℕ
crossed =
    7 ∷ 0 ∷ 1 ∷ 0 ∷ 2 ∷ 0 ∷ 0
    ∷ 14 ∷ 0 ∷ 2 ∷ 0 ∷ 0 ∷ 2 ∷ 0 ∷ 2 ∷ 1 ∷ 128 ∷ 0 ∷ 128 ∷ 0 ∷ 0
    ∷ 13 ∷ 0 ∷ 3 ∷ 0 ∷ 0 ∷ 1 ∷ 1 ∷ 0 ∷ 2 ∷ 7 ∷ 0 ∷ 8 ∷ 0 ∷ []

-- the bytes after n turns from a start
abbrev pub after : List ℕ → ℕ → Lent
after s n = (run_call tiny s (begun tiny s) n).lent

-- n bytes 255
abbrev pub full : ℕ → List ℕ
full n = replicate n 255

-- the row after the step of process p, made after n turns, and that after the turn there
abbrev pub step_row : List ℕ → ℕ → ℕ → List ℕ
step_row s n p = (step_bound_call tiny s (after s n) (full 10) p).row

abbrev pub turn_row : List ℕ → ℕ → List ℕ
turn_row s n = (turn_bound_call tiny s (after s n) (full 10)).row

-- Bound 2, 4: the unifier's order; a match and an equation of the plan s(^); a suspension, and the supply that ends it
abbrev pub BoundShown : Type 0
BoundShown =
    (step_row crossed 7 4 ≡ 2 ∷ 0 ∷ 1 ∷ 0 ∷ 0 ∷ 0 ∷ 255 ∷ 255 ∷ 255 ∷ 255 ∷ [])
    × (turn_row crossed 7 ≡ 2 ∷ 0 ∷ 1 ∷ 0 ∷ 0 ∷ 0 ∷ 255 ∷ 255 ∷ 255 ∷ 255 ∷ [])
    × (step_row (ask_one 1 5) 7 4 ≡ 1 ∷ 0 ∷ 1 ∷ 0 ∷ full 6)
    × (step_row (ask_one 1 5) 13 6 ≡ 1 ∷ 0 ∷ 0 ∷ 0 ∷ full 6)
    × (step_row asked 7 4 ≡ 0 ∷ 0 ∷ full 8)
    × ((supply_bound_call tiny asked (after asked 9) (full 10) 0 1).row ≡ 1 ∷ 0 ∷ 0 ∷ 0 ∷ full 6)

-- Bound 5: two variables want six bytes, none want two; STILL comes before the row
abbrev pub BoundRefused : Type 0
BoundRefused =
    (step_bound_call tiny crossed (after crossed 7) (full 5) 4 ≡ record { answer = Err (refusal 11 0); lent = after crossed 7; row = full 5 })
    × ((step_bound_call tiny crossed (after crossed 7) (full 6) 4).row ≡ 2 ∷ 0 ∷ 1 ∷ 0 ∷ 0 ∷ 0 ∷ [])
    × ((step_bound_call tiny asked (after asked 7) (full 1) 4).answer ≡ Err (refusal 11 0))
    × ((turn_bound_call tiny asked (after asked 9) []).answer ≡ Err (refusal 10 0))
    × ((supply_bound_call tiny asked (after asked 9) (full 3) 0 1).answer ≡ Err (refusal 11 0))
