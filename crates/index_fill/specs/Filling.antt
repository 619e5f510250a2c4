-- The filling of the index: the words that a record changes, and what they hold between two records.
use Rattle.std.specs.Prelude.{◌≡◌, cond, List, ◌+◌, ◌<◌, ◌≤◌, ℕ, eqb, get_or, length, set}
use Rattle.parlog.specs.Image.{body_at, clause_kind}
use Rattle.parlog.specs.Names.{follows}
use Rattle.parlog.specs.Program.{opens, Program, program_of, vars_of}
use Rattle.parlog.specs.Records.{byte_at, record_at}
use Rattle.parlog.specs.Scan.{tally, those}
use Rattle.parlog.specs.declared.Progress.{Progress}
use Rattle.program_block.specs.Parts.{opens_by}
use Rattle.program_clause.specs.Parts.{is_out}
use Rattle.program_index.specs.Indexed.{Behind, behind_from, blocks_from, bodies_from, Early, first_from, index_size, vars_from}

-- below a place and from another on all is as it was
pub record Kept (lo hi : ℕ) (xs ys : List ℕ) : Type 0 where
  pub below : (i : ℕ) → i < lo → get_or ys i 0 ≡ get_or xs i 0
  pub above : (i : ℕ) → hi ≤ i → get_or ys i 0 ≡ get_or xs i 0
  pub size : length ys ≡ length xs

-- ---- the words that a clause changes

-- the words of clause k and of its relation q
abbrev pub put_clause : List ℕ → ℕ → ℕ → ℕ → ℕ → ℕ → ℕ → List ℕ
put_clause ix k q vars body blocks first =
    set (set (set (set (set ix (vars_from + k) vars) (bodies_from + k) body) (blocks_from + q) blocks) (first_from + q) first) (behind_from + q) (k + 1)

-- its new variables, by its place and that of its relation
abbrev pub vars_word : List ℕ → ℕ → ℕ → ℕ
vars_word s at rec = byte_at s (at + 7) + length (those (is_out s (rec + 5)) (byte_at s (rec + 4)))

-- all of them, for a clause of relation q with this mark
abbrev pub note_words : List ℕ → Progress → ℕ → ℕ → ℕ → ℕ → List ℕ → List ℕ
note_words s g at body q mark ix =
    put_clause ix g.clauses q (vars_word s at (get_or ix q 0)) body
    (cond (opens_by q (follows g q) mark q) (get_or ix (blocks_from + q) 0 + 1) (get_or ix (blocks_from + q) 0))
    (cond (eqb (get_or ix (behind_from + q) 0) 0) g.clauses (get_or ix (first_from + q) 0))

-- the same, read at a place
abbrev pub note_clause : List ℕ → Progress → ℕ → ℕ → List ℕ → List ℕ
note_clause s g at body ix = note_words s g at body (byte_at s (at + 4)) (byte_at s (at + 6)) ix

-- what the writing of them may count on
pub record Fits (s : List ℕ) (g : Progress) (at body : ℕ) (ix : List ℕ) : Type 0 where
  pub size : length ix ≡ index_size
  pub room : g.clauses < 64
  pub place : at ≤ 32768
  pub body_few : body ≤ 65535
  pub relation : byte_at s (at + 4) < 32
  pub record_few : get_or ix (byte_at s (at + 4)) 0 ≤ 65535
  pub blocks_few : get_or ix (blocks_from + byte_at s (at + 4)) 0 ≤ 64
  pub first_few : get_or ix (first_from + byte_at s (at + 4)) 0 ≤ 64

-- a record of this kind
abbrev pub noted : ℕ → List ℕ → Progress → ℕ → ℕ → List ℕ → List ℕ
noted kind s g at body ix = cond (eqb kind clause_kind) (note_clause s g at body ix) ix

-- ---- what they hold

-- the first n records stand in the row
abbrev pub Placed : List ℕ → ℕ → List ℕ → Type 0
Placed s n ix = (k : ℕ) → k < n → (get_or ix k 0 ≡ record_at s k) × (get_or ix k 0 ≤ 32768)

-- the words of a clause, and those of a relation when k clauses are passed
abbrev pub Vars : Program → ℕ → ℕ → Type 0
Vars pr j x = (x ≡ vars_of pr j) × (x ≤ 510)

abbrev pub Bodies : List ℕ → ℕ → ℕ → ℕ → Type 0
Bodies s r j x = (x ≡ body_at s (record_at s (r + j))) × (x ≤ 65535)

abbrev pub Blocks : Program → ℕ → ℕ → ℕ → Type 0
Blocks pr k j x = (x ≡ tally (opens pr j) k) × (x ≤ k)

abbrev pub First : Program → ℕ → ℕ → ℕ → Type 0
First pr k j x = Early pr j x × (x ≤ k)

abbrev pub Last : Program → ℕ → ℕ → ℕ → Type 0
Last pr k j x = Behind pr j k x × (x ≤ k)

-- when r relations and k of c clauses are passed
pub record Filled (s : List ℕ) (r c k : ℕ) (ix : List ℕ) : Type 0 where
  pub vars : (j : ℕ) → j < k → Vars (program_of s r c) j (get_or ix (vars_from + j) 0)
  pub bodies : (j : ℕ) → j < k → Bodies s r j (get_or ix (bodies_from + j) 0)
  pub blocks : (j : ℕ) → j < 32 → Blocks (program_of s r c) k j (get_or ix (blocks_from + j) 0)
  pub first : (j : ℕ) → j < 32 → First (program_of s r c) k j (get_or ix (first_from + j) 0)
  pub behind : (j : ℕ) → j < 32 → Last (program_of s r c) k j (get_or ix (behind_from + j) 0)
