-- The clauses of an image: how many there are, and the record of each.
use mathlib.Core.Path.{◌∙◌, ◌≡◌, ap}
use mathlib.Core.List.{List}
use Prim.Native.Nat.{◌+◌, ◌<◌, ◌≤◌, ℕ}
use lib.ListN.{length}
use Rattle.parlog.proofs.Along.{along-add, list_at, list_length, list-past}
use Rattle.parlog.specs.Image.{record_at, record_end}
use Rattle.parlog.specs.Program.{clause_at, clause_of, no_clause, program_of}

-- the program has as many clauses as the image
pub clause-count : (s : List ℕ) (r c : ℕ) → length (program_of s r c).clauses ≡ c
unfolding program_of
clause-count s r c = list_length (clause_of s) (record_end s) c (record_at s r)

module _ (s : List ℕ) (r c k : ℕ) where
  -- clause k stands in the record behind the relations and the clauses before it
  pub clause-here : k < c → clause_at (program_of s r c) k ≡ clause_of s (record_at s (r + k))
  unfolding program_of
  clause-here h = list_at (clause_of s) (record_end s) c (record_at s r) k no_clause h ∙ ap (clause_of s) (along-add (record_end s) k r 0)

  pub clause-past : c ≤ k → clause_at (program_of s r c) k ≡ no_clause
  unfolding program_of
  clause-past h = list-past (clause_of s) (record_end s) c (record_at s r) k no_clause h
