-- What a parse answers and leaves.
use Rattle.parlog.specs.Answer.{Answer}
use Rattle.std.specs.Prelude.{◌≡◌, ◌&&◌, Bool, false, true, List, ℕ, leb, length, Ok}
use Rattle.parlog.specs.Load.{refusal}
use Rattle.parlog.specs.Tables.{written}
use Rattle.text_program.specs.Parsing.{ParseCall, parse_call, unread}

-- the answer and the rows afterwards are those of a call
pub record Tells (call : ParseCall) (answer : Answer (ℕ × ℕ)) (image names : List ℕ) : Type 0 where
  pub answers : answer ≡ call.answer
  pub imaged : image ≡ call.image
  pub named : names ≡ call.names

-- Text 21: and the call is that of the definitions
abbrev pub ParseSays : List ℕ → List ℕ → List ℕ → Answer (ℕ × ℕ) → List ℕ → List ℕ → Type 0
ParseSays image names text answer after others = Tells (parse_call image names text) answer after others

-- these bytes and these names where the rows are long enough
abbrev pub fitted_by : Bool → List ℕ → List ℕ → List ℕ → List ℕ → ParseCall
fitted_by false image names bytes entries = unread image names (refusal 11 0)
fitted_by true image names bytes entries = record { answer = Ok ((length bytes), (length entries)); image = written bytes image; names = written entries names }

unfoldable pub fitted : List ℕ → List ℕ → List ℕ → List ℕ → ParseCall
fitted image names bytes entries = fitted_by (leb (length bytes) (length image) && leb (length entries) (length names)) image names bytes entries
