-- In an accepted image every clause's head has a term for each argument of its relation.
use Rattle.std.specs.Prelude.{Ok}
use mathlib.Core.Path.{◌≡◌}
use mathlib.Core.Bool.{true}
use mathlib.Core.List.{[], List}
use Prim.Native.Nat.{◌+◌, ◌<◌, ◌≤◌, ℕ}
use lib.Dec.{eqb, ltb}
use lib.ListN.{length}
use borrow.Author.Tests.{eqb-true, ltb-false, ltb-true}
use native.Mathlib.Omega.{arith}
use Rattle.load.proofs.Accepted.{accepted, from-records, nothing-reached, Right}
use Rattle.parlog.proofs.Along.{list_at, list_length, list-past}
use Rattle.parlog.proofs.Bools.{and-true, split}
use Rattle.parlog.specs.Image.{equality, mode_end, term_at, term_end}
use Rattle.parlog.specs.Load.{load_of, nothing_read, records}
use Rattle.parlog.specs.Names.{arity_of, relation_named}
use Rattle.parlog.specs.Program.{clause_at, clause_of, modes_at, modes_of, program_of}
use Rattle.parlog.specs.Records.{byte_at, record_at, record_end}
use Rattle.place.proofs.Clauses.{clause-here, clause-past}
use Rattle.program_index.specs.Indexed.{Headed}

module _ (s : List ℕ) (r c : ℕ) (ok : Right s r c) where
  modes-past : (q : ℕ) → r ≤ q → modes_at (program_of s r c) q ≡ []
  unfolding program_of
  modes-past q h = list-past (modes_of s) (record_end s) r 0 q [] h

  modes-size : (q : ℕ) → q < r → length (modes_at (program_of s r c) q) ≡ arity_of s q
  unfolding program_of modes_of
  modes-size q h = rw (list_at (modes_of s) (record_end s) r 0 q [] h) (list_length (byte_at s) mode_end (byte_at s (record_at s q + 4)) (record_at s q + 5))

  record-head : (from : ℕ) → relation_named s r (byte_at s (from + 4)) (byte_at s (from + 5)) ≡ true → length (modes_at (program_of s r c) (clause_of s from).rel) ≤ length (clause_of s from).head
  unfolding relation_named clause_of
  record-head from e =
      let a = and-true (ltb (byte_at s (from + 4)) r) (eqb (byte_at s (from + 5)) (arity_of s (byte_at s (from + 4)))) e in
      let q : byte_at s (from + 5) ≡ arity_of s (byte_at s (from + 4)) = eqb-true (byte_at s (from + 5)) (arity_of s (byte_at s (from + 4))) a.1 in
      let m : length (modes_at (program_of s r c) (byte_at s (from + 4))) ≡ arity_of s (byte_at s (from + 4)) = modes-size (byte_at s (from + 4)) (ltb-true (byte_at s (from + 4)) r a.0) in
      omega (arith, list_length (term_at s) term_end (byte_at s (from + 5)) (from + 8))

  pub right-heads : (k : ℕ) → length (modes_at (program_of s r c) (clause_at (program_of s r c) k).rel) ≤ length (clause_at (program_of s r c) k).head
  right-heads k = split (ltb k c)
      (λ h. let l = ltb-true k c h in rw (clause-here s r c k l) (record-head (record_at s (r + k)) (ok.clause k l).head))
      (λ h. rw (clause-past s r c k (ltb-false k c h), modes-past equality (let f = ok.relations in omega arith)) (omega arith))

-- THE LAW: an accepted image's heads are no shorter than their relations' modes
pub accepted-heads : (s : List ℕ) (r c : ℕ) → load_of s ≡ Ok (r, c) → (k : ℕ) → length (modes_at (program_of s r c) (clause_at (program_of s r c) k).rel) ≤ length (clause_at (program_of s r c) k).head
accepted-heads s r c e = right-heads s r c (accepted s r c e)

-- the same of records that pass their tests
pub passed-heads : (s : List ℕ) (r c : ℕ) → length s ≤ 32768 → records s (length s) 0 nothing_read ≡ Ok (r, c) → Headed (program_of s r c)
passed-heads s r c few e = right-heads s r c (from-records s r c few (length s) 0 nothing_read (omega arith) (nothing-reached s) e)
