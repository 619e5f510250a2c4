-- Names of a text at the places of a table, each once, and found in chains by a sum of their bytes.
use Rattle.std.specs.Prelude.{cond, [], ◌∷◌, List, ◌≡◌, ◌%◌, ◌*◌, ◌+◌, ◌<◌, ◌≤◌, suc, zero, ℕ, eqb, drop, get_or, length, take}
use Rattle.name_index.specs.declared.Added.{Added}
use Rattle.name_index.specs.declared.Word.{Word}
use Rattle.read_names.specs.Tables.{Adds, names_at}
use Rattle.text_names.specs.Bytes.{back, front}
use Rattle.text_names.specs.Names.{look, Name}

-- the chain of a name, when its first bytes have come to h
unfoldable pub chain_from : ℕ → Name → ℕ
chain_from h [] = h
chain_from h (b ∷ x) = chain_from ((h * 31 + b) % 512) x

abbrev pub chain_of : Name → ℕ
chain_of x = chain_from 0 x

-- the last one of the first n names that is in chain h, as its number and one more; 0 where there is none
unfoldable pub latest : List Name → ℕ → ℕ → ℕ
latest xs h zero = 0
latest xs h (suc n) = cond (eqb (chain_of (get_or xs n [])) h) (suc n) (latest xs h n)

-- the names at the first n places of table t, each once; row l has the last one of each chain, and behind these for each name the one before it in its chain
pub record Indexed (s t l : List ℕ) (n : ℕ) : Type 0 where
  pub inside : n ≤ length t
  pub small : length t ≤ 65535
  pub size : length l ≡ 512 + length t
  pub once : (i : ℕ) → i < n → look (names_at s (take n t)) (get_or (names_at s (take n t)) i []) ≡ i
  pub heads : (h : ℕ) → h < 512 → get_or l h 0 ≡ latest (names_at s (take n t)) h n
  pub links : (i : ℕ) → i < n → get_or l (512 + i) 0 ≡ latest (names_at s (take n t)) (chain_of (get_or (names_at s (take n t)) i [])) i

-- the name at a place: where it ends, and its chain
pub record Spells (s : List ℕ) (at : ℕ) (r : Word) : Type 0 where
  pub end : drop r.end s ≡ back (drop at s)
  pub inside : r.end ≤ length s
  pub chain : r.chain ≡ chain_of (front (drop at s))

-- a name is added where it is new and there is room; its number is the one that it has, or would have
pub record AddsOne (s t l : List ℕ) (n : ℕ) (x : Name) (u k : List ℕ) (r : Added) : Type 0 where
  pub adds : Adds s t n u r.count (x ∷ [])
  pub index : Indexed s u k r.count
  pub number : r.number ≡ look (names_at s (take n t)) x
