-- The steps of a taking: a number laid, and items taken one behind the other.
use Rattle.std.specs.Prelude.{Bool, false, true, [], ◌∷◌, List, map, ◌≡◌, ◌+◌, ◌≤◌, ℕ, length}
use Rattle.lay.specs.Lay.{laid}
use Rattle.lay_literal.specs.Fits.{stage_fits}
use Rattle.lay_literal.specs.Lows.{literal_fits, lows}
use Rattle.lay_text.specs.Laying.{capped, most}
use Rattle.read_names.specs.Tables.{mode_names}
use Rattle.take_term.specs.Takes.{numbers_by, Rows, stands, Takes}
use Rattle.take_term.specs.declared.Reading.{Reading}
use Rattle.text_names.specs.Names.{Name}
use Rattle.text_program.specs.Encoded.{literal_bytes, stage_bytes}
use Rattle.text_program.specs.Numbered.{joined, literal_numbered, said_terms}
use Rattle.text_program.specs.Parsing.{all_of}
use Rattle.text_program.specs.Source.{Got, ModeLine, Said}

-- a number is laid as a byte
pub record Puts (o : List ℕ) (w : Reading) (n : ℕ) (p : List ℕ) (x : Reading) : Type 0 where
  pub row : p ≡ laid o w.at (lows (n ∷ []))
  pub state : x ≡ stands w w.end w.count (capped (w.at + 1))
  pub small : length o ≤ most
  pub size : length p ≡ length o

-- items one behind the other: what each gives
abbrev pub TakesItems : {A : Type 0} → (A → List Name) → (List Name → List Name → A → List ℕ) → (A → Bool) → (A → Bool) → List ℕ → Rows → Reading → Got (List A) → Rows → Reading → Type 0
TakesItems names bytes right known s a w g b x =
    Takes s a w g.rest (length g.value) (joined names g.value) (λ cs vs. joined (bytes cs vs) g.value) (all_of right g.value) (all_of known g.value) b x

-- the bytes of a literal, by the names of the constants and of the variables
abbrev pub literal_in : List ModeLine → List Name → List Name → Said → List ℕ
literal_in ms cs vs l = literal_bytes (literal_numbered (numbers_by (mode_names ms) cs vs) l)

-- and of a stage
abbrev pub stage_in : List ModeLine → List Name → List Name → List Said → List ℕ
stage_in ms cs vs st = stage_bytes (map (literal_numbered (numbers_by (mode_names ms) cs vs)) st)

-- the literals of a stage
abbrev pub TakesLiterals : List ℕ → List ModeLine → Rows → Reading → Got (List Said) → Rows → Reading → Type 0
TakesLiterals s ms a w g b x = TakesItems said_terms (literal_in ms) (literal_fits true ms) (literal_fits false ms) s a w g b x

-- the stages of a goal
abbrev pub TakesStages : List ℕ → List ModeLine → Rows → Reading → Got (List (List Said)) → Rows → Reading → Type 0
TakesStages s ms a w g b x = TakesItems (joined said_terms) (stage_in ms) (stage_fits true ms) (stage_fits false ms) s a w g b x
