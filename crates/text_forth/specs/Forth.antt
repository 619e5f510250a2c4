-- Request 4: what was parsed can be printed, and is then parsed to the same.
use Rattle.std.specs.Prelude.{◌≡◌, List, ◌≤◌, ℕ, leb, length, take, Ok}
use Rattle.parlog.specs.Tables.{written}
use Rattle.text_program.specs.Parsing.{parse_call}
use Rattle.text_program.specs.Printing.{print_call, roomy}

-- the image s and the names list nm can be printed: refused is only a row too short for the text; and that text is parsed to them
pub record PrintsAgain (s nm : List ℕ) : Type 0 where
  pub text : List ℕ
  pub printed : (row : List ℕ) → print_call row s nm ≡ roomy row (leb (length text) (length row)) text
  pub parsed : (image names : List ℕ) → length s ≤ length image → length nm ≤ length names →
      parse_call image names text ≡ record { answer = Ok ((length s), (length nm)); image = written s image; names = written nm names }

-- so it is with the image and the names that any parse has given
abbrev pub ParsePrint : Type 0
ParsePrint = (image names text : List ℕ) (n m : ℕ) → (parse_call image names text).answer ≡ Ok (n, m) →
    PrintsAgain (take n (parse_call image names text).image) (take m (parse_call image names text).names)
