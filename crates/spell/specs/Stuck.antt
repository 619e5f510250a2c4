-- Where a text leaves the clause texts: as a fact, and computed from the forms that may follow, byte by byte.
use Rattle.std.specs.Prelude.{◌&&◌, ◌||◌, Bool, false, true, [], ◌++◌, ◌∷◌, List, ◌≡◌, ◌+◌, ◌<◌, ◌≤◌, suc, ℕ, length, take, Result, ⊤, Ok, Err}
use Rattle.spell.specs.Forms.{◌or◌, ◌then◌, Form, in_span, many, nothing, span}
use Rattle.spell.specs.Grammar.{ClauseText, text}

-- Text 9: what stands before place i begins a clause text; with the byte there it does not, or there is none and the text is not yet one
pub record StuckAt (s : List ℕ) (i : ℕ) : Type 0 where
  pub within : i ≤ length s
  pub before : (w : List ℕ) × ClauseText (take i s ++ w)
  pub past : i < length s → (w : List ℕ) → ClauseText (take (suc i) s ++ w) → ⊥
  pub short : i ≡ length s → ClauseText s → ⊥

-- the form can be read off nothing
unfoldable pub ends : Form → Bool
ends nothing = true
ends (span a n) = false
ends (x then y) = ends x && ends y
ends (x or y) = ends x || ends y
ends (many x) = true

-- x and then y, as one row of forms
unfoldable pub behind : Form → Form → Form
behind nothing y = y
behind (span a n) y = span a n then y
behind (x then z) y = x then behind z y
behind (x or z) y = (x or z) then y
behind (many x) y = many x then y

-- each of these, and then y
unfoldable pub all_behind : List Form → Form → List Form
all_behind [] y = []
all_behind (x ∷ xs) y = behind x y ∷ all_behind xs y

-- nothing is left of a byte that fits
abbrev pub hit : Bool → List Form
hit true = nothing ∷ []
hit false = []

-- the forms, where the test holds
abbrev pub only : Bool → List Form → List Form
only true xs = xs
only false xs = []

-- what may follow byte b where x may stand
unfoldable pub after : ℕ → Form → List Form
after b nothing = []
after b (span a n) = hit (in_span a n b)
after b (x then y) = let r = after b y in all_behind (after b x) y ++ only (ends x) r
after b (x or y) = after b x ++ after b y
after b (many x) = all_behind (after b x) (many x)

-- where any of these may stand
unfoldable pub afters : ℕ → List Form → List Form
afters b [] = []
afters b (x ∷ xs) = after b x ++ afters b xs

-- one of them can be read off nothing
unfoldable pub any_ends : List Form → Bool
any_ends [] = false
any_ends (x ∷ xs) = ends x || any_ends xs

-- the bytes end at place i
abbrev pub ended : Bool → ℕ → Result ⊤ ℕ
ended true i = Ok tt
ended false i = Err i

-- where nothing may follow, the byte at place i is the one
abbrev pub goes : (List Form → ℕ → Result ⊤ ℕ) → List Form → ℕ → Result ⊤ ℕ
goes f [] i = Err i
goes f (x ∷ xs) i = f (x ∷ xs) (i + 1)

-- what is left of a text from place i on, with one of these forms to be read off it
unfoldable pub spelling : List ℕ → List Form → ℕ → Result ⊤ ℕ
spelling [] xs i = ended (any_ends xs) i
spelling (b ∷ s) xs i = goes (spelling s) (afters b xs) i

-- Text 9: a clause text, or the place of the first byte that no clause text could continue with
unfoldable pub spelling_of : List ℕ → Result ⊤ ℕ
spelling_of s = spelling s (text ∷ []) 0
