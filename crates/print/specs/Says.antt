-- What a print answers and leaves.
use Rattle.parlog.specs.Answer.{Answer}
use Rattle.std.specs.Prelude.{List, ◌≡◌, ℕ}
use Rattle.text_program.specs.Printing.{PrintCall, print_call}

-- the answer and the row afterwards are those of a call
pub record Tells (call : PrintCall) (answer : Answer ℕ) (after : List ℕ) : Type 0 where
  pub answers : answer ≡ call.answer
  pub leaves : after ≡ call.text

-- Text 28: and the call is that of the definitions
abbrev pub PrintSays : List ℕ → List ℕ → List ℕ → Answer ℕ → List ℕ → Type 0
PrintSays image names text answer after = Tells (print_call text image names) answer after
