-- Stages and literals at their places: one law for each way through their reads.
use mathlib.Core.Path.{◌∙◌, ◌≡◌, ap, sym}
use mathlib.Core.List.{[], ◌∷◌, List}
use Prim.Native.Nat.{◌+◌, ◌<◌, ◌≤◌, ℕ}
use lib.ListN.{get_or, length}
use native.Mathlib.Omega.{arith}
use Rattle.parlog.proofs.Along.{list_at, list_length, list-past}
use Rattle.parlog.specs.Image.{byte_at, literal_end, stage_end, term_at, term_end}
use Rattle.parlog.specs.Program.{literal_of, no_literal, stage_of}
use Rattle.parlog.specs.Scan.{along, list_of}
use Rattle.parlog.specs.declared.Term.{Term}
use Rattle.parlog.specs.declared.Term.TheVariants.{Const}
use Rattle.program_goal.specs.Parts.{shown, stages_of}

module _ (s : List ℕ) (from : ℕ) where
  stage-length : length (stage_of s from) ≡ byte_at s from
  unfolding stage_of
  stage-length = list_length (literal_of s) (literal_end s) (byte_at s from) (from + 1)

  literal-past : (j : ℕ) → byte_at s from ≤ j → get_or (stage_of s from) j no_literal ≡ no_literal
  unfolding stage_of
  literal-past j h = list-past (literal_of s) (literal_end s) (byte_at s from) (from + 1) j no_literal h

  literal-at : (j : ℕ) → j < byte_at s from → get_or (stage_of s from) j no_literal ≡ literal_of s (along (literal_end s) j (from + 1))
  unfolding stage_of
  literal-at j h = list_at (literal_of s) (literal_end s) (byte_at s from) (from + 1) j no_literal h

-- n stages at a place
module _ (s : List ℕ) (n from i : ℕ) where
  pub stages-length : length (stages_of s n from) ≡ n
  unfolding stages_of
  stages-length = list_length (stage_of s) (stage_end s) n from

  pub stage-past : n ≤ i → get_or (stages_of s n from) i [] ≡ []
  unfolding stages_of
  stage-past h = list-past (stage_of s) (stage_end s) n from i [] h

  -- the ways through literal_in
  pub in-none : (j : ℕ) → n ≤ i → shown no_literal ≡ shown (get_or (get_or (stages_of s n from) i []) j no_literal)
  in-none j h = rw (stage-past h)

  module _ (h : i < n) {st : ℕ} (est : st ≡ along (stage_end s) i from) {m : ℕ} (em : m ≡ byte_at s st) where
    it : get_or (stages_of s n from) i [] ≡ stage_of s st
    unfolding stages_of
    it = list_at (stage_of s) (stage_end s) n from i [] h ∙ ap (stage_of s) (sym est)

    pub in_size : m ≡ length (get_or (stages_of s n from) i [])
    in_size = em ∙ sym (ap length it ∙ stage-length s st)

    pub in-past : (j : ℕ) → m ≤ j → shown no_literal ≡ shown (get_or (get_or (stages_of s n from) i []) j no_literal)
    in-past j g = rw (it, literal-past s st j (omega arith))

    pub in-here : (j : ℕ) → j < m → {l : ℕ} → l ≡ along (literal_end s) j (st + 1) → shown (literal_of s l) ≡ shown (get_or (get_or (stages_of s n from) i []) j no_literal)
    in-here j g e = rw (it, literal-at s st j (omega arith), e)

-- literal_here
pub lit-here : (s : List ℕ) (from : ℕ) {rel n : ℕ} {a b c d : Term} → rel ≡ byte_at s from → n ≡ byte_at s (from + 1)
    → a ≡ get_or (list_of (term_at s) term_end n (from + 2)) 0 (Const 0)
    → b ≡ get_or (list_of (term_at s) term_end n (from + 2)) 1 (Const 0)
    → c ≡ get_or (list_of (term_at s) term_end n (from + 2)) 2 (Const 0)
    → d ≡ get_or (list_of (term_at s) term_end n (from + 2)) 3 (Const 0)
    → record { rel = rel; arity = n; args = a ∷ b ∷ c ∷ d ∷ [] } ≡ shown (literal_of s from)
unfolding shown literal_of
lit-here s from er en ea eb ec ed = rw (ea, eb, ec, ed, er, en, list_length)
