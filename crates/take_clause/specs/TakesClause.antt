-- A clause and the goal as they are taken from a text, each with its variables numbered.
use Rattle.std.specs.Prelude.{◌&&◌, Bool, false, true, [], ◌++◌, ◌∷◌, List, map, ◌≡◌, ◌+◌, ◌<◌, ◌≤◌, ℕ, leb, drop, length, take}
use Rattle.judge_said.specs.Said.{ask_right, clause_size}
use Rattle.lay.specs.Lay.{laid}
use Rattle.lay_lines.specs.Fields.{clause_fits, clause_in}
use Rattle.lay_literal.specs.Fits.{goal_fits}
use Rattle.lay_lines.specs.Imaged.{ask_with}
use Rattle.lay_lines.specs.Lines.{clause_right, with_vars}
use Rattle.lay_literal.specs.Lows.{lows}
use Rattle.lay_text.specs.Laying.{most}
use Rattle.name_index.specs.Index.{Indexed}
use Rattle.read_clause.specs.Parts.{part_of}
use Rattle.read_clause.specs.declared.ClauseAt.{ClauseAt}
use Rattle.read_names.specs.Tables.{Adds, mode_names, names_at, sorted}
use Rattle.take_clause.specs.declared.Taken.{Taken}
use Rattle.take_goal.specs.TakesGoal.{TakesGoal}
use Rattle.take_term.specs.Takes.{Extends, numbers_by, Rows, Takes}
use Rattle.take_term.specs.declared.Reading.{Reading}
use Rattle.text_names.specs.Names.{look, Name}
use Rattle.text_program.specs.Encoded.{clause_bytes, goal_bytes, term_bytes, word_bytes}
use Rattle.text_program.specs.Numbered.{clause_terms, goal_numbered, goal_terms, joined, mark_by, Numbering, term_numbered}
use Rattle.text_program.specs.Source.{Got, got, ModeLine, read_brackets, read_term, Said, SaidClause}

-- a line of the text with these terms: it is taken from row o into row p at a place, its constants are added to those in table t, and it passes its tests or not
pub record TakesLine (s : List ℕ) (o t : List ℕ) (at n : ℕ) (rest : List ℕ) (terms : List Name) (bs : List Name → List ℕ) (ok arities known : Bool) (p u l : List ℕ) (r : Taken) : Type 0 where
  pub end : drop r.end s ≡ rest
  pub inside : r.end ≤ length s
  pub consts : Adds s t n u r.consts (sorted false terms)
  pub index : Indexed s u l r.consts
  pub right : r.right ≡ ok
  pub fits : r.fits ≡ arities
  pub declared : r.declared ≡ known
  pub place : ok ≡ true → (cs : List Name) → r.at ≡ at + length (bs cs)
  pub bytes : ok ≡ true → r.consts < length u → (cs : List Name) → Extends (names_at s (take r.consts u)) cs → p ≡ laid o at (lows (bs cs))
  pub small : length o ≤ most
  pub size : length p ≡ length o

-- a clause
pub record TakesClause (s : List ℕ) (ms : List ModeLine) (o t : List ℕ) (at n : ℕ) (opens : Bool) (g : Got SaidClause) (p u l : List ℕ) (r : Taken) : Type 0 where
  pub line : TakesLine s o t at n g.rest (clause_terms g.value) (λ cs. clause_bytes (clause_in (with_vars (mode_names ms) cs g.value) (mark_by opens) g.value)) (clause_right g.value) (clause_fits true ms g.value) (clause_fits false ms g.value) p u l r
  pub number : r.number ≡ look (mode_names ms) g.value.name
  pub semicolon : r.semicolon ≡ g.value.semicolon
  pub long : clause_right g.value ≡ true → r.at ≡ at + clause_size g.value

-- the goal
abbrev pub TakesAsk : List ℕ → List ModeLine → List ℕ → List ℕ → ℕ → ℕ → Got (List (List Said)) → List ℕ → List ℕ → List ℕ → Taken → Type 0
TakesAsk s ms o t at n g p u l r =
    TakesLine s o t at n g.rest (goal_terms g.value) (λ cs. ask_with (mode_names ms) cs g.value) (ask_right g.value) (goal_fits true ms g.value) (goal_fits false ms g.value) p u l r

-- ---- parts of a record

-- the state before the first name of a record
abbrev pub starting : ℕ → ℕ → ℕ → Bool → Bool → Reading
starting end at n fits known = record { end = end; count = 0; at = at; consts = n; vars = 0; fits = fits; declared = known }

-- what was taken behind its last name
abbrev pub taken_as : ℕ → ℕ → Bool → Bool → Reading → Taken
taken_as end number semicolon right x = record {
  end = end;
  at = x.at;
  consts = x.consts;
  number = number;
  semicolon = semicolon;
  right = leb x.vars 16 && right;
  fits = x.fits;
  declared = x.declared;
}

-- terms, guard and body of a clause where they stand
abbrev pub said_at : List ℕ → ClauseAt → SaidClause
said_at s c = record {
  name = [];
  terms = (read_brackets read_term (drop c.terms s)).value;
  guard = part_of s c.guard;
  body = part_of s c.body;
  semicolon = c.semicolon;
}

-- their bytes
abbrev pub parts_bytes : Numbering → SaidClause → List ℕ
parts_bytes n c = joined term_bytes (map (term_numbered n) c.terms) ++ (goal_bytes (goal_numbered n c.guard) ++ goal_bytes (goal_numbered n c.body))

-- a goal of a clause, up to where it was taken
abbrev pub TakesPart : List ℕ → List ModeLine → Rows → Reading → List (List Said) → Rows → Reading → Type 0
TakesPart s ms a w g b x = TakesGoal s ms a w (got g (drop x.end s)) b x

-- terms, guard and body taken
abbrev pub TakesParts : List ℕ → List ModeLine → Rows → Reading → SaidClause → Rows → Reading → Type 0
TakesParts s ms a w c b x =
    Takes s a w (drop x.end s) x.count (clause_terms c) (λ cs vs. parts_bytes (numbers_by (mode_names ms) cs vs) c) (goal_fits true ms c.guard && goal_fits true ms c.body)
    (goal_fits false ms c.guard && goal_fits false ms c.body) b x

-- the front of a record: how long it is, and its kind
abbrev pub front_bytes : ℕ → ℕ → List ℕ
front_bytes size kind = word_bytes size ++ word_bytes kind

-- what stands in a clause's record before its terms
abbrev pub clause_front : ℕ → ℕ → ℕ → Bool → ℕ → List ℕ
clause_front size number arity opens vars = front_bytes size 2 ++ (number ∷ arity ∷ mark_by opens ∷ vars ∷ [])

-- what stands in the goal's record before its stages
abbrev pub ask_front : ℕ → ℕ → List ℕ
ask_front size vars = front_bytes size 3 ++ (vars ∷ [])
