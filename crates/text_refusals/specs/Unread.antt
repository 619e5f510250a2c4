-- When a parse is refused: the number, and the offset that it carries.
use Rattle.std.specs.Prelude.{◌≡◌, ◌↔◌, ◌⊎◌, [], ◌∷◌, List, ◌<◌, ℕ, get_or, length, Err}
use Rattle.parlog.specs.Load.{refusal}
use Rattle.parlog.specs.Records.{record_at}
use Rattle.parlog.specs.declared.Refusal.{Refusal}
use Rattle.refusals.specs.Right.{BodyFits, Few, InBlockAs, NamesFit, record_kind, RightRecord}
use Rattle.spell.specs.Grammar.{ClauseText}
use Rattle.spell.specs.Stuck.{StuckAt}
use Rattle.text_names.specs.Names.{Name}
use Rattle.text_program.specs.Numbered.{relation_names}
use Rattle.text_program.specs.Parsing.{image_in, names_in, parse_call}
use Rattle.text_program.specs.Source.{calls, Said, SaidClause, Source, source_of}

-- ---- 17, UNDECLARED

-- x is one of these
pub data In {A : Type 0} (x : A) : List A → Type 0 where
  in_front : {xs : List A} → In x (x ∷ xs)
  behind : {y : A} {xs : List A} → In x xs → In x (y ∷ xs)

-- Text 16: a literal of the goal is of the relation x
pub data Calls (x : Name) (g : List (List Said)) : Type 0 where
  in_stage : {st : List Said} {ts : List Name} → In st g → In (calls x ts) st → Calls x g

-- Text 16: a clause or a literal, wherever it stands, is
pub data Mentions (x : Name) (p : Source) : Type 0 where
  as_head : {c : SaidClause} → In c p.clauses → c.name ≡ x → Mentions x p
  in_guard : {c : SaidClause} → In c p.clauses → Calls x c.guard → Mentions x p
  in_body : {c : SaidClause} → In c p.clauses → Calls x c.body → Mentions x p
  in_goal : Calls x p.goal → Mentions x p

-- Text 16: and there is no mode line of it
pub record Undeclared (p : Source) : Type 0 where
  pub name : Name
  pub mentioned : Mentions name p
  pub missing : In name (relation_names p) → ⊥

-- ---- 4, 5 and 6

-- Text 17: record k is the mode line of a relation that has one before; relation k is record k
pub record SecondLine (rels : List Name) (s : List ℕ) (k : ℕ) : Type 0 where
  pub relation : record_kind s k ≡ 1
  pub other : ℕ
  pub before : other < k
  pub same : get_or rels other [] ≡ get_or rels k []

-- Text 17: record k is right, and no second mode line
pub record RightLine (rels : List Name) (s : List ℕ) (k : ℕ) : Type 0 where
  pub right : RightRecord s k
  pub once : SecondLine rels s k → ⊥

-- Text 17: which test refuses record k, in the order of a load, and a second mode line behind them
pub data LineRefused (rels : List Name) (s : List ℕ) (k : ℕ) : ℕ → Type 0 where
  one_too_many : (Few s k → ⊥) → LineRefused rels s k 6
  wrong_body : Few s k → (BodyFits s k → ⊥) → LineRefused rels s k 4
  wrong_name : Few s k → BodyFits s k → (NamesFit s k → ⊥) → LineRefused rels s k 5
  ninth_of_block : Few s k → BodyFits s k → NamesFit s k → InBlockAs s k 9 → LineRefused rels s k 6
  second_line : Few s k → BodyFits s k → NamesFit s k → (InBlockAs s k 9 → ⊥) → SecondLine rels s k → LineRefused rels s k 5

-- Text 17: the first record that is refused, and where it would begin
pub data LinesRefused (rels : List Name) (s : List ℕ) : ℕ → ℕ → Type 0 where
  at_record : {k n : ℕ} → ((j : ℕ) → j < k → RightLine rels s j) → record_at s k < length s → LineRefused rels s k n → LinesRefused rels s n (record_at s k)

-- ---- all of them

-- Text 9, 16, 17, 19: 16, then 17, then 4, 5 or 6, then 11
pub data ParseRefused (image names text : List ℕ) : ℕ → ℕ → Type 0 where
  no_text : {i : ℕ} → StuckAt text i → ParseRefused image names text 16 i
  undeclared : ClauseText text → Undeclared (source_of text) → ParseRefused image names text 17 0
  bad_line : {n o : ℕ} → ClauseText text → (Undeclared (source_of text) → ⊥) → LinesRefused (relation_names (source_of text)) (image_in (source_of text)) n o → ParseRefused image names text n o
  no_room : ClauseText text → (Undeclared (source_of text) → ⊥) → ((n o : ℕ) → LinesRefused (relation_names (source_of text)) (image_in (source_of text)) n o → ⊥) →
      (length image < length (image_in (source_of text))) ⊎ (length names < length (names_in (source_of text))) → ParseRefused image names text 11 0

-- ---- exactly

-- Text 9, 16, 17, 19: a parse is refused with a number and an offset exactly where there is that reason
abbrev pub ParseExactly : Type 0
ParseExactly = (image names text : List ℕ) (n o : ℕ) → ((parse_call image names text).answer ≡ Err (refusal n o)) ↔ ParseRefused image names text n o

-- Text 20: and then both rows are as they were
abbrev pub ParseKept : Type 0
ParseKept = (image names text : List ℕ) (f : Refusal) → (parse_call image names text).answer ≡ Err f → ((parse_call image names text).image ≡ image) × ((parse_call image names text).names ≡ names)

-- Text 9, 16, 17, 19: no other number than these is given
abbrev pub ParseNumbers : Type 0
ParseNumbers = (image names text : List ℕ) (n o : ℕ) → ParseRefused image names text n o → In n (16 ∷ 17 ∷ 4 ∷ 5 ∷ 6 ∷ 11 ∷ [])
