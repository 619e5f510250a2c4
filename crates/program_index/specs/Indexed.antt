-- The index of an image: what stands where in a row of words.
use Rattle.parlog.specs.Answer.{Answer}
use Rattle.std.specs.Prelude.{◌≡◌, false, List, ◌+◌, ◌<◌, ◌≤◌, ℕ, eqb, get_or, length, Err, Ok}
use Rattle.parlog.specs.Image.{body_at, record_at}
use Rattle.parlog.specs.Program.{block_count, clause_at, modes_at, Program, program_of, vars_of}

-- ---- its parts: a word for each record from 0 on, then a word for each clause, then a word for each relation

-- the new variables of a clause
abbrev pub vars_from : ℕ
vars_from = 97

-- where the body of a clause begins
abbrev pub bodies_from : ℕ
bodies_from = 161

-- the blocks of a relation
abbrev pub blocks_from : ℕ
blocks_from = 225

-- the first clause of a relation
abbrev pub first_from : ℕ
first_from = 257

-- the number behind its last clause
abbrev pub behind_from : ℕ
behind_from = 289

-- all in all
abbrev pub index_size : ℕ
index_size = 321

-- ---- what it holds

-- no clause before clause n is of relation q
abbrev pub Early : Program → ℕ → ℕ → Type 0
Early pr q n = (k : ℕ) → k < n → eqb (clause_at pr k).rel q ≡ false

-- none of c clauses from clause n on is
abbrev pub Behind : Program → ℕ → ℕ → ℕ → Type 0
Behind pr q c n = (k : ℕ) → n ≤ k → k < c → eqb (clause_at pr k).rel q ≡ false

-- each clause has a term in its head for every argument of its relation
abbrev pub Headed : Program → Type 0
Headed pr = (k : ℕ) → length (modes_at pr (clause_at pr k).rel) ≤ length (clause_at pr k).head

-- a place for each record; of each clause its new variables and the place of its body; of each relation its blocks and the range of its clauses
pub record Indexed (s : List ℕ) (r c : ℕ) (ix : List ℕ) : Type 0 where
  pub place : (k : ℕ) → k ≤ r + c → get_or ix k 0 ≡ record_at s k
  pub place_few : (k : ℕ) → k ≤ r + c → get_or ix k 0 ≤ 65535
  pub vars : (k : ℕ) → k < c → get_or ix (vars_from + k) 0 ≡ vars_of (program_of s r c) k
  pub vars_few : (k : ℕ) → k < c → get_or ix (vars_from + k) 0 ≤ 510
  pub body : (k : ℕ) → k < c → get_or ix (bodies_from + k) 0 ≡ body_at s (record_at s (r + k))
  pub body_few : (k : ℕ) → k < c → get_or ix (bodies_from + k) 0 ≤ 65535
  pub blocks : (q : ℕ) → q < r → get_or ix (blocks_from + q) 0 ≡ block_count (program_of s r c) q
  pub blocks_few : (q : ℕ) → q < r → get_or ix (blocks_from + q) 0 ≤ 64
  pub first : (q : ℕ) → q < r → Early (program_of s r c) q (get_or ix (first_from + q) 0)
  pub first_few : (q : ℕ) → q < r → get_or ix (first_from + q) 0 ≤ c
  pub behind : (q : ℕ) → q < r → Behind (program_of s r c) q c (get_or ix (behind_from + q) 0)
  pub behind_few : (q : ℕ) → q < r → get_or ix (behind_from + q) 0 ≤ c
  pub heads : Headed (program_of s r c)

-- that of an image that is accepted
abbrev pub IndexedOf : Answer (ℕ × ℕ) → List ℕ → List ℕ → Type 0
IndexedOf (Err r) s ix = Unit {0}
IndexedOf (Ok (r, c)) s ix = Indexed s r c ix
