-- Forms of text, and what it is to read one off a text.
use Rattle.std.specs.Prelude.{◌&&◌, Bool, true, ◌∷◌, List, ◌≡◌, ◌+◌, ℕ, leb}

infixr 60 ◌then◌
infixr 50 ◌or◌
-- nothing at all; one byte from a to a + n; one form and then another; either of two; a form any number of times
pub data Form : Type 0 where
  nothing : Form
  span : ℕ → ℕ → Form
  ◌then◌ : Form → Form → Form
  ◌or◌ : Form → Form → Form
  many : Form → Form

-- b is one of the bytes a to a + n
abbrev pub in_span : ℕ → ℕ → ℕ → Bool
in_span a n b = leb a b && leb b (a + n)

-- the form f can be read off s, and t is left
pub data Reads : Form → List ℕ → List ℕ → Type 0 where
  read_none : {s : List ℕ} → Reads nothing s s
  read_byte : {a n b : ℕ} {s : List ℕ} → in_span a n b ≡ true → Reads (span a n) (b ∷ s) s
  read_then : {x y : Form} {s t u : List ℕ} → Reads x s t → Reads y t u → Reads (x then y) s u
  read_left : {x y : Form} {s t : List ℕ} → Reads x s t → Reads (x or y) s t
  read_right : {x y : Form} {s t : List ℕ} → Reads y s t → Reads (x or y) s t
  read-end : {x : Form} {s : List ℕ} → Reads (many x) s s
  read_more : {x : Form} {s t u : List ℕ} → Reads x s t → Reads (many x) t u → Reads (many x) s u
