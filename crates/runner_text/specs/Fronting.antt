-- What a writer of text does to its buffer: the text is what stands from some place to the end.
use Rattle.std.specs.Prelude.{◌≡◌, ◌++◌, List, ◌+◌, ◌≤◌, ℕ, drop, length, take}
use Rattle.parlog.specs.Text.{decimal, end-word, end_word, equals_word, newline, steps_word, term_text, var_word}
use Rattle.parlog.specs.declared.End.{End}
use Rattle.parlog.specs.declared.Term.{Term}

-- the text of o began at p; now that of o' begins at r, is t, and is at most so much longer; every byte in front of it is as it was
pub record Fronted (o : List ℕ) (p most : ℕ) (t o' : List ℕ) (r : ℕ) : Type 0 where
  pub size : length o' ≡ length o
  pub text : drop r o' ≡ t
  pub front : take r o' ≡ take r o
  pub lower : r ≤ p
  pub near : p ≤ r + most

-- Turns 11: the line of a goal variable with this value
unfoldable pub line_text : ℕ → Term → List ℕ
line_text i t = var_word ++ decimal i (equals_word ++ term_text t)

-- Turns 11: the lines of a run that come before its variables
unfoldable pub ran_text : End → ℕ → List ℕ → List ℕ
ran_text e n rest = steps_word ++ decimal n (newline ++ end-word ++ end_word e ++ newline ++ rest)
