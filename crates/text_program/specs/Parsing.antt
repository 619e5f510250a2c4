-- What parsing a text answers, and the rows that it is lent afterwards.
use Rattle.parlog.specs.Answer.{Answer}
use Rattle.std.specs.Prelude.{◌&&◌, Bool, cond, false, true, [], ◌++◌, ◌∷◌, List, ℕ, eqb, leb, ltb, get_or, length, Result, Ok, Err, ⊤}
use Rattle.parlog.specs.Image.{relation_kind}
use Rattle.parlog.specs.Load.{after, broken, load_end, long, nothing_read, refusal, verdict}
use Rattle.parlog.specs.Records.{kind_at, walk}
use Rattle.parlog.specs.Tables.{written}
use Rattle.parlog.specs.declared.Progress.{Progress}
use Rattle.parlog.specs.declared.Refusal.{Refusal}
use Rattle.spell.specs.Stuck.{spelling_of}
use Rattle.text_names.specs.Entries.{entries}
use Rattle.text_names.specs.Names.{known, look, Name}
use Rattle.text_program.specs.Encoded.{program_bytes}
use Rattle.text_program.specs.Numbered.{constant_names, program_in, relation_names}
use Rattle.text_program.specs.Source.{calls, equals, Said, SaidClause, Source, source_of}

-- Text 14: the image of a text
unfoldable pub image_in : Source → List ℕ
image_in p = program_bytes (program_in p)

-- Text 15: its names, as bytes
unfoldable pub names_in : Source → List ℕ
names_in p = entries (relation_names p ++ constant_names p)

-- ---- 17, UNDECLARED

-- each item passes the test
unfoldable pub all_of : {A : Type 0} → (A → Bool) → List A → Bool
all_of ok [] = true
all_of ok (x ∷ xs) = ok x && all_of ok xs

-- Text 16: a literal calls a relation that has a mode line
abbrev pub literal_declared : List Name → Said → Bool
literal_declared rels (calls p ts) = known rels p
literal_declared rels (equals a b) = true

abbrev pub goal_declared : List Name → List (List Said) → Bool
goal_declared rels g = all_of (all_of (literal_declared rels)) g

abbrev pub clause_declared : List Name → SaidClause → Bool
clause_declared rels c = known rels c.name && (goal_declared rels c.guard && goal_declared rels c.body)

-- Text 16: so does every clause and every literal of the text
unfoldable pub declared : Source → Bool
declared p = all_of (clause_declared (relation_names p)) p.clauses && goal_declared (relation_names p) p.goal

-- ---- 4, 5 and 6

-- Text 17: mode line k is of a relation that has one before
unfoldable pub repeated : List Name → ℕ → Bool
repeated rels k = ltb (look rels (get_or rels k [])) k

-- Text 17: which is 5, once the loader's tests have passed
abbrev pub once_by : Bool → Result Progress ℕ → Result Progress ℕ
once_by again (Err n) = Err n
once_by again (Ok g) = cond again (Err 5) (Ok g)

unfoldable pub text_verdict : List Name → List ℕ → Progress → ℕ → Result Progress ℕ
text_verdict rels s g at = once_by (eqb (kind_at s at) relation_kind && repeated rels g.relations) (verdict s g at)

-- Text 17: the loader's tests of one record after the other
unfoldable pub records_in : List Name → List ℕ → Answer (ℕ × ℕ)
records_in rels s = walk s broken (λ rest at g. after rest at (text_verdict rels s g at)) (load_end s) (length s) 0 nothing_read

-- ---- the call

-- what it answers, and the two rows afterwards
pub record ParseCall : Type 0 where
  pub answer : Answer (ℕ × ℕ)
  pub image : List ℕ
  pub names : List ℕ

module _ (image names : List ℕ) where
  -- Text 20: a refusal changes nothing
  abbrev pub unread : Refusal → ParseCall
  unread r = record { answer = Err r; image = image; names = names }

  -- Text 19, 21: 11 where a row is too short for what is written, else both are written
  abbrev pub fitting : Bool → Source → ParseCall
  fitting false p = unread (refusal 11 0)
  fitting true p = record { answer = Ok ((length (image_in p)), (length (names_in p))); image = written (image_in p) image; names = written (names_in p) names }

  -- Text 18: 1 for an image that would be too long
  abbrev pub not_long : Bool → Source → ParseCall
  not_long true p = unread (refusal 1 0)
  not_long false p = fitting (leb (length (image_in p)) (length image) && leb (length (names_in p)) (length names)) p

  -- Text 17: 4, 5 or 6 with the place of the record in the image
  abbrev pub tested : Answer (ℕ × ℕ) → Source → ParseCall
  tested (Err r) p = unread r
  tested (Ok (k, c)) p = not_long (long (image_in p)) p

  -- Text 16: 17 before them
  abbrev pub sourced : Bool → Source → ParseCall
  sourced false p = unread (refusal 17 0)
  sourced true p = tested (records_in (relation_names p) (image_in p)) p

  -- Text 9: 16 before all
  abbrev pub spelled : Result ⊤ ℕ → List ℕ → ParseCall
  spelled (Err i) s = unread (refusal 16 i)
  spelled (Ok tt) s = sourced (declared (source_of s)) (source_of s)

  -- Text 21: the whole call
  unfoldable pub parse_call : List ℕ → ParseCall
  parse_call s = spelled (spelling_of s) s
