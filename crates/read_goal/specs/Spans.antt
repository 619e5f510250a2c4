-- What stands in a text, by places; and whether an image may have so many terms, literals and stages.
use Rattle.std.specs.Prelude.{◌≡◌, ◌&&◌, Bool, [], ◌∷◌, List, ◌+◌, ◌≤◌, ℕ, leb, drop, length}
use Rattle.read_goal.specs.declared.Span.{Span}
use Rattle.text_program.specs.Numbered.{said_terms}
use Rattle.text_program.specs.Parsing.{all_of}
use Rattle.text_program.specs.Source.{Said}

-- the text behind it, how many items it has, and whether it is right
pub record Spans (s rest : List ℕ) (n : ℕ) (ok : Bool) (r : Span) : Type 0 where
  pub end : drop r.end s ≡ rest
  pub inside : r.end ≤ length s
  pub count : r.count ≡ n
  pub right : r.right ≡ ok

-- Image 11: a literal has up to four terms
unfoldable pub literal_right : Said → Bool
literal_right l = leb (length (said_terms l)) 4

-- Image 10: no stage is empty
unfoldable pub stage_right : List Said → Bool
stage_right st = leb 1 (length st) && all_of literal_right st

-- Image 10: the literals of some stages together
unfoldable pub literals_in : {A : Type 0} → List (List A) → ℕ
literals_in [] = 0
literals_in (st ∷ g) = length st + literals_in g

-- stages that are right and have no more than n literals together
unfoldable pub stages_right : ℕ → List (List Said) → Bool
stages_right n g = all_of stage_right g && leb (literals_in g) n

-- Image 10: up to 8 stages, and up to 8 literals over all of them
unfoldable pub goal_right : List (List Said) → Bool
goal_right g = leb (length g) 8 && stages_right 8 g
