-- Worked examples of clause texts, and of texts that are none.
use Rattle.std.specs.Prelude.{[], ◌∷◌, List, ◌≡◌, ℕ, Ok, Err}
use Rattle.spell.specs.Stuck.{spelling_of}

-- `p <- .`: a body without a literal has no `<-`
abbrev pub no_body : List ℕ
no_body = 109 ∷ 111 ∷ 100 ∷ 101 ∷ 32 ∷ 112 ∷ 46 ∷ 10 ∷ 112 ∷ 32 ∷ 60 ∷ 45 ∷ 32 ∷ 46 ∷ []

-- `p < q.`: half of an arrow
abbrev pub half_arrow : List ℕ
half_arrow = 109 ∷ 111 ∷ 100 ∷ 101 ∷ 32 ∷ 112 ∷ 46 ∷ 10 ∷ 112 ∷ 32 ∷ 60 ∷ 32 ∷ 113 ∷ 46 ∷ []

-- a mode line behind a clause
abbrev pub late_mode : List ℕ
late_mode = 109 ∷ 111 ∷ 100 ∷ 101 ∷ 32 ∷ 112 ∷ 46 ∷ 10 ∷ 112 ∷ 46 ∷ 10 ∷ 109 ∷ 111 ∷ 100 ∷ 101 ∷ 32 ∷ 113 ∷ 46 ∷ []

-- a goal line that ends too early
abbrev pub no_end : List ℕ
no_end = 109 ∷ 111 ∷ 100 ∷ 101 ∷ 32 ∷ 112 ∷ 46 ∷ 10 ∷ 60 ∷ 45 ∷ 32 ∷ 112 ∷ []

-- no bytes at all
abbrev pub empty : List ℕ
empty = []

-- `p <- : q.`: a guard without a literal has no `:`
abbrev pub no_guard : List ℕ
no_guard = 109 ∷ 111 ∷ 100 ∷ 101 ∷ 32 ∷ 112 ∷ 46 ∷ 10 ∷ 112 ∷ 32 ∷ 60 ∷ 45 ∷ 32 ∷ 58 ∷ 32 ∷ 113 ∷ 46 ∷ []

-- a name that begins with a digit
abbrev pub digit_first : List ℕ
digit_first = 109 ∷ 111 ∷ 100 ∷ 101 ∷ 32 ∷ 112 ∷ 40 ∷ 63 ∷ 41 ∷ 46 ∷ 10 ∷ 112 ∷ 40 ∷ 53 ∷ 41 ∷ 46 ∷ []

-- `mode p <- ..`: behind `mode` and a name stands a mode line
abbrev pub open_mode_line : List ℕ
open_mode_line = 109 ∷ 111 ∷ 100 ∷ 101 ∷ 32 ∷ 112 ∷ 32 ∷ 60 ∷ 45 ∷ 32 ∷ 112 ∷ 32 ∷ 58 ∷ 32 ∷ 46 ∷ []

-- something behind the goal line
abbrev pub behind_goal : List ℕ
behind_goal = 60 ∷ 45 ∷ 32 ∷ 46 ∷ 10 ∷ 60 ∷ 45 ∷ 32 ∷ 46 ∷ []

-- a mode line, a clause and a goal line
abbrev pub one_fact : List ℕ
one_fact = 109 ∷ 111 ∷ 100 ∷ 101 ∷ 32 ∷ 115 ∷ 40 ∷ 94 ∷ 41 ∷ 46 ∷ 10 ∷ 115 ∷ 40 ∷ 102 ∷ 105 ∷ 118 ∷ 101 ∷ 41 ∷ 46 ∷ 10 ∷ 60 ∷ 45 ∷ 32 ∷ 115 ∷ 40 ∷ 65 ∷ 41 ∷ 46 ∷ 10 ∷ []

-- a relation called `mode`; an empty body; blanks wherever they may stand
abbrev pub many_forms : List ℕ
many_forms = 109 ∷ 111 ∷ 100 ∷ 101 ∷ 32 ∷ 109 ∷ 111 ∷ 100 ∷ 101 ∷ 32 ∷ 40 ∷ 32 ∷ 63 ∷ 32 ∷ 44 ∷ 32 ∷ 94 ∷ 32 ∷ 41 ∷ 32 ∷ 46 ∷ 13 ∷ 10 ∷ 9 ∷ 109 ∷ 111 ∷ 100 ∷ 101 ∷ 40 ∷ 97 ∷ 44 ∷ 32 ∷ 66 ∷ 95 ∷ 49 ∷ 41 ∷ 32 ∷ 60 ∷ 45 ∷ 32 ∷ 65 ∷ 32 ∷ 61 ∷ 32 ∷ 98 ∷ 32 ∷ 38 ∷ 32 ∷ 109 ∷ 111 ∷ 100 ∷ 101 ∷ 32 ∷ 58 ∷ 32 ∷ 59 ∷ 10 ∷ 109 ∷ 111 ∷ 100 ∷ 101 ∷ 46 ∷ 10 ∷ 60 ∷ 45 ∷ 32 ∷ 46 ∷ []

-- Text 9: where each of them is stuck, or that it is a clause text
pub record Spellings : Type 0 where
  pub no_body_is : spelling_of no_body ≡ Err 13
  pub half_arrow_is : spelling_of half_arrow ≡ Err 11
  pub late_mode_is : spelling_of late_mode ≡ Err 16
  pub no_end_is : spelling_of no_end ≡ Err 12
  pub empty_is : spelling_of empty ≡ Err 0
  pub no_guard_is : spelling_of no_guard ≡ Err 13
  pub digit_first_is : spelling_of digit_first ≡ Err 13
  pub open_mode_line_is : spelling_of open_mode_line ≡ Err 7
  pub behind_goal_is : spelling_of behind_goal ≡ Err 5
  pub one_fact_is : spelling_of one_fact ≡ Ok tt
  pub many_forms_is : spelling_of many_forms ≡ Ok tt
