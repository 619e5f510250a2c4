-- A right image as facts over its bytes: refusals 1 to 7 a second time, beside the tests that the loader makes (parlog/specs/Body, Names, Load).
-- Record k begins at recordAt s k; a and b are places in the bytes.
use Rattle.std.specs.Prelude.{◌≡◌, ◌≢◌, List, ◌*◌, ◌+◌, ◌<◌, ◌≤◌, suc, ℕ, eqb, length}
use Rattle.parlog.specs.Records.{byte_at, kind_at, record_at, record_end, word_at}
use Rattle.parlog.specs.Scan.{tally}

-- ---- records by number

-- Image 1: the kind of record k
abbrev pub record_kind : List ℕ → ℕ → ℕ
record_kind s k = kind_at s (record_at s k)

-- how many of the first k records have this kind
abbrev pub how_many : List ℕ → ℕ → ℕ → ℕ
how_many s kind k = tally (λ i. eqb (record_kind s i) kind) k

-- Image 5: the relation of the clause in record k
abbrev pub relation_in : List ℕ → ℕ → ℕ
relation_in s k = byte_at s (record_at s k + 4)

-- Image 5: its block mark
abbrev pub mark_in : List ℕ → ℕ → ℕ
mark_in s k = byte_at s (record_at s k + 6)

-- ---- 2, CUT

-- Refusals 2: four bytes are left, and the length is no less than them and leads no further than the last byte
pub record Whole (s : List ℕ) (k : ℕ) : Type 0 where
  pub begun : record_at s k + 4 ≤ length s
  pub size : 4 ≤ word_at s (record_at s k)
  pub inside : record_end s (record_at s k) ≤ length s

-- ---- 3, KIND

-- Refusals 3: one of the three kinds, not lower than the kind before, and no record after the goal
pub record KindRight (s : List ℕ) (k : ℕ) : Type 0 where
  pub least : 1 ≤ record_kind s k
  pub most : record_kind s k ≤ 3
  pub up : (j : ℕ) → suc j ≡ k → record_kind s j ≤ record_kind s k
  pub before_goal : (j : ℕ) → j < k → record_kind s j ≢ 3

-- ---- 6, MANY

-- Refusals 6: up to 32 relations and up to 64 clauses
pub record Few (s : List ℕ) (k : ℕ) : Type 0 where
  pub relations : record_kind s k ≡ 1 → how_many s 1 k < 32
  pub clauses : record_kind s k ≡ 2 → how_many s 2 k < 64

-- ---- 4, BODY: fields one after the other; P holds of the place of each literal

-- Image 11: a literal from a to b: relation, arity, up to four terms
pub record LiteralFrom (s : List ℕ) (P : ℕ → Type 0) (a b : ℕ) : Type 0 where
  pub arity : byte_at s (a + 1) ≤ 4
  pub ends : b ≡ a + 2 + 2 * byte_at s (a + 1)
  pub also : P a

-- Image 10: n literals from a to b
pub data LiteralsFrom (s : List ℕ) (P : ℕ → Type 0) : ℕ → ℕ → ℕ → Type 0 where
  no-literal : {a : ℕ} → LiteralsFrom s P 0 a a
  a_literal : {n a m b : ℕ} → LiteralFrom s P a m → LiteralsFrom s P n m b → LiteralsFrom s P (suc n) a b

-- Image 10: n stages from a to b, none of them empty, k literals in all
pub data StagesFrom (s : List ℕ) (P : ℕ → Type 0) : ℕ → ℕ → ℕ → ℕ → Type 0 where
  no_stage : {a : ℕ} → StagesFrom s P 0 0 a a
  a_stage : {n k a m b : ℕ} → 1 ≤ byte_at s a → LiteralsFrom s P (byte_at s a) (a + 1) m → StagesFrom s P n k m b → StagesFrom s P (suc n) (byte_at s a + k) a b

-- Image 10: a goal from a to b: up to 8 stages, and up to 8 literals in it
pub record GoalFrom (s : List ℕ) (P : ℕ → Type 0) (a b : ℕ) : Type 0 where
  pub few_stages : byte_at s a ≤ 8
  pub literals : ℕ
  pub stages : StagesFrom s P (byte_at s a) literals (a + 1) b
  pub few_literals : literals ≤ 8

-- Image 3: the fields of a relation's record at a
pub record RelationFields (s : List ℕ) (a : ℕ) : Type 0 where
  pub arity : byte_at s (a + 4) ≤ 4
  pub modes : (i : ℕ) → i < byte_at s (a + 4) → byte_at s (a + 5 + i) ≤ 1
  pub ends : a + 5 + byte_at s (a + 4) ≡ record_end s a

-- Image 5: the fields of a clause's record at a
pub record ClauseFields (s : List ℕ) (P : ℕ → Type 0) (a : ℕ) : Type 0 where
  pub arity : byte_at s (a + 5) ≤ 4
  pub mark : byte_at s (a + 6) ≤ 1
  pub vars : byte_at s (a + 7) ≤ 16
  pub middle : ℕ
  pub guard : GoalFrom s P (a + 8 + 2 * byte_at s (a + 5)) middle
  pub body : GoalFrom s P middle (record_end s a)

-- Image 8: the fields of the goal's record at a
pub record AskFields (s : List ℕ) (P : ℕ → Type 0) (a : ℕ) : Type 0 where
  pub vars : byte_at s (a + 4) ≤ 16
  pub goal : GoalFrom s P (a + 5) (record_end s a)

-- asks for nothing
abbrev pub Any : ℕ → Type 0
Any a = Unit {0}

-- Refusals 4: by its kind, every number of record k in its range, and its fields fill it
pub record BodyFits (s : List ℕ) (k : ℕ) : Type 0 where
  pub relation : record_kind s k ≡ 1 → RelationFields s (record_at s k)
  pub clause : record_kind s k ≡ 2 → ClauseFields s Any (record_at s k)
  pub goal : record_kind s k ≡ 3 → AskFields s Any (record_at s k)

-- ---- 5, NAME: in record k, n being its count of variables

-- Refusals 5: if the term at a is the variable v, then v is below the count
abbrev pub TermNamed : List ℕ → ℕ → ℕ → Type 0
TermNamed s n a = (v : ℕ) → word_at s a ≡ 32768 + v → v < n

-- Refusals 5: each of m terms
abbrev pub TermsNamed : List ℕ → ℕ → ℕ → ℕ → Type 0
TermsNamed s n m a = (i : ℕ) → i < m → TermNamed s n (a + 2 * i)

-- Image 4, Refusals 5: q is a relation that a record before has, which is record q, and m its arity
pub record RelationKnown (s : List ℕ) (k q m : ℕ) : Type 0 where
  pub there : q < how_many s 1 k
  pub arity : m ≡ byte_at s (record_at s q + 4)

-- Image 11, Refusals 5: the literal at a is a call of such a relation, or an equality of two terms
pub data LiteralNamed (s : List ℕ) (k n a : ℕ) : Type 0 where
  a_call : RelationKnown s k (byte_at s a) (byte_at s (a + 1)) → TermsNamed s n (byte_at s (a + 1)) (a + 2) → LiteralNamed s k n a
  an_equality : byte_at s a ≡ 255 → byte_at s (a + 1) ≡ 2 → TermsNamed s n 2 (a + 2) → LiteralNamed s k n a

-- Image 7, Refusals 5: a clause: of a relation that there is, not lower than those before; the first of its relation has mark 0; terms and literals named
pub record ClauseNamed (s : List ℕ) (k n : ℕ) : Type 0 where
  pub known : RelationKnown s k (relation_in s k) (byte_at s (record_at s k + 5))
  pub order : (j : ℕ) → j < k → record_kind s j ≡ 2 → relation_in s j ≤ relation_in s k
  pub first : ((j : ℕ) → j < k → record_kind s j ≡ 2 → relation_in s j ≢ relation_in s k) → mark_in s k ≡ 0
  pub head : TermsNamed s n (byte_at s (record_at s k + 5)) (record_at s k + 8)
  pub literals : ClauseFields s (LiteralNamed s k n) (record_at s k)

-- Refusals 5: by its kind, every name in record k is right
pub record NamesFit (s : List ℕ) (k : ℕ) : Type 0 where
  pub clause : record_kind s k ≡ 2 → ClauseNamed s k (byte_at s (record_at s k + 7))
  pub goal : record_kind s k ≡ 3 → AskFields s (LiteralNamed s k (byte_at s (record_at s k + 4))) (record_at s k)

-- ---- 6, MANY, of a block

-- Image 6: the clause in record j + 1 joins the block of that in record j
pub record JoinsAt (s : List ℕ) (j : ℕ) : Type 0 where
  pub before : record_kind s j ≡ 2
  pub clause : record_kind s (suc j) ≡ 2
  pub relation : relation_in s j ≡ relation_in s (suc j)
  pub mark : mark_in s (suc j) ≡ 0

-- Image 6: the clause in record k is number n of its block, counted from 1
pub data InBlockAs (s : List ℕ) : ℕ → ℕ → Type 0 where
  opens_block : {k : ℕ} → ((j : ℕ) → suc j ≡ k → JoinsAt s j → ⊥) → InBlockAs s k 1
  joins_block : {j n : ℕ} → JoinsAt s j → InBlockAs s j n → InBlockAs s (suc j) (suc n)

-- ---- all of it

-- Refusals 2 to 6: record k is right
pub record RightRecord (s : List ℕ) (k : ℕ) : Type 0 where
  pub whole : Whole s k
  pub kind : KindRight s k
  pub few : Few s k
  pub body : BodyFits s k
  pub names : NamesFit s k
  pub block : InBlockAs s k 9 → ⊥

-- Refusals 1 to 7, 19: up to 32,768 bytes, all of them right records, one of them the goal; r are relations and c clauses
pub record RightImage (s : List ℕ) (r c : ℕ) : Type 0 where
  pub short : length s ≤ 32768
  pub count : ℕ
  pub right : (k : ℕ) → k < count → RightRecord s k
  pub ends : record_at s count ≡ length s
  pub goal : ℕ
  pub there : goal < count
  pub asks : record_kind s goal ≡ 3
  pub relations : how_many s 1 count ≡ r
  pub clauses : how_many s 2 count ≡ c
