-- Rows of items as a loop writes them: what stands before item k, and what is left from it on.
use Rattle.std.specs.Prelude.{[], List, suc, zero, ℕ}
use Rattle.parlog.specs.Image.{term_at, term_end}
use Rattle.parlog.specs.Scan.{list_of}
use Rattle.parlog.specs.declared.Term.{Term}
use Rattle.text_program.specs.Printing.{rest_text, row_text}

-- nothing stands before the first, the mark before every other
unfoldable pub lead_of : List ℕ → ℕ → List ℕ
lead_of mark zero = []
lead_of mark (suc k) = mark

-- a row, of which k items are written
unfoldable pub row_left : {A : Type 0} → (A → List ℕ) → List ℕ → ℕ → List A → List ℕ
row_left text mark zero xs = row_text text mark xs
row_left text mark (suc k) xs = rest_text text mark xs

-- n terms from a place on
abbrev pub terms_at : List ℕ → ℕ → ℕ → List Term
terms_at s n at = list_of (term_at s) term_end n at
