-- An accepted image of a program has its relations and its clauses.
use Rattle.std.specs.Prelude.{Ok}
use mathlib.Core.Path.{◌≡◌}
use mathlib.Core.List.{[], ◌++◌, ◌∷◌, List}
use Prim.Native.Nat.{◌+◌, ◌<◌, suc, zero, ℕ}
use lib.Dec.{ltb}
use lib.ListN.{drop, length}
use borrow.Author.Tests.{ltb-false, ltb-true}
use native.Mathlib.Omega.{arith}
use Rattle.load.proofs.Accepted.{accepted, Right}
use Rattle.parlog.proofs.Along.{along-add}
use Rattle.parlog.proofs.Bools.{split}
use Rattle.parlog.specs.Load.{load_of}
use Rattle.parlog.specs.Program.{clause_of, modes_of, Program}
use Rattle.parlog.specs.Records.{kind_at, record_at, record_end}
use Rattle.parlog.specs.Scan.{along}
use Rattle.text_loads.proofs.Decoded.{clauses, clauses-at, clauses-place, from_start, goal-at, goal-place, relations}
use Rattle.text_loads.proofs.Stands.{Decodes}
use Rattle.text_loads.specs.Loads.{ClauseFits}
use Rattle.text_program.proofs.Fields.{record-kind}
use Rattle.text_program.proofs.Here.{items-behind, items-split}
use Rattle.text_program.specs.Encoded.{ask_bytes, clause_bytes, program_bytes, relation_bytes}
use Rattle.text_program.specs.Numbered.{joined}

-- records by kind: r of the first, then c of the second, then one of the third
pub record Kinds (kind : ℕ → ℕ) (r c : ℕ) : Type 0 where
  pub relations : (i : ℕ) → i < r → kind i ≡ 1
  pub clauses : (i : ℕ) → i < c → kind (r + i) ≡ 2
  pub goal : kind (r + c) ≡ 3

module _ (kind : ℕ → ℕ) where
  not-fewer : (r c q d : ℕ) → Kinds kind r c → Kinds kind q d → r < q → ⊥
  not-fewer r zero q d a b h = let z : r + 0 ≡ r = omega arith in let x : kind r ≡ 3 = (rw z at a.goal) in let y = b.relations r h in omega arith
  not-fewer r (suc c) q d a b h = let z : r + 0 ≡ r = omega arith in let x : kind r ≡ 2 = (rw z at (a.clauses 0 (omega arith))) in let y = b.relations r h in omega arith

  none-fewer : (r c d : ℕ) → Kinds kind r c → Kinds kind r d → c < d → ⊥
  none-fewer r c d a b h = let x = a.goal in let y = b.clauses c h in omega arith

  same-relations : (r c q d : ℕ) → Kinds kind r c → Kinds kind q d → r ≡ q
  same-relations r c q d a b = split (ltb r q) (λ e. absurd (not-fewer r c q d a b (ltb-true r q e))) (λ e. split (ltb q r) (λ f. absurd (not-fewer q d r c b a (ltb-true q r f))) (λ f. let x = ltb-false r q e in let y = ltb-false q r f in omega arith))

  same-clauses : (r c d : ℕ) → Kinds kind r c → Kinds kind r d → c ≡ d
  same-clauses r c d a b = split (ltb c d) (λ e. absurd (none-fewer r c d a b (ltb-true c d e))) (λ e. split (ltb d c) (λ f. absurd (none-fewer r d c b a (ltb-true d c f))) (λ f. let x = ltb-false c d e in let y = ltb-false d c f in omega arith))

right-kinds : (s : List ℕ) (r c : ℕ) → Right s r c → Kinds (λ k. kind_at s (record_at s k)) r c
right-kinds s r c R = record { relations = λ i h. (R.relation i h).kind; clauses = λ i h. (R.clause i h).kind; goal = R.goal.kind }

-- ---- of encoded programs

pub record At {A : Type 0} (s : List ℕ) (bytes : A → List ℕ) (at : ℕ) : Type 0 where
  pub what : A
  pub rest : List ℕ
  pub stands : drop at s ≡ bytes what ++ rest

module _ {A : Type 0} (s : List ℕ) (bytes : A → List ℕ) (read : ℕ → A) (next : ℕ → ℕ) (Ok : A → Type 0) (d : Decodes s bytes read next Ok) where
  pub row_at : (xs : List A) (at i : ℕ) (rest : List ℕ) → i < length xs → drop at s ≡ joined bytes xs ++ rest → At s bytes (along next i at)
  unfolding joined along
  row_at [] at i rest h e = absurd (omega arith)
  row_at (x ∷ xs) at zero rest h e = record { what = x; rest = joined bytes xs ++ rest; stands = items-split s bytes next d.end x xs at rest e }
  row_at (x ∷ xs) at (suc i) rest h e = row_at xs (next at) i rest (omega arith) (items-behind s bytes next d.end x xs at rest e)

relation-kind : (s : List ℕ) (at : ℕ) → At s relation_bytes at → kind_at s at ≡ 1
unfolding relation_bytes
relation-kind s at a = record-kind s 1 (length a.what ∷ a.what) at a.rest a.stands

clause-kind : (s : List ℕ) (at : ℕ) → At s clause_bytes at → kind_at s at ≡ 2
unfolding clause_bytes
clause-kind s at a = record-kind s 2 _ at a.rest a.stands

module _ (pr : Program) where
  abbrev s : List ℕ
  s = program_bytes pr

  goal-kind : kind_at s (length (joined relation_bytes pr.relations) + length (joined clause_bytes pr.clauses)) ≡ 3
  unfolding ask_bytes
  goal-kind = record-kind s 3 _ _ [] (goal-at pr)

  pub encoded-kinds : Kinds (λ k. kind_at s (record_at s k)) (length pr.relations) (length pr.clauses)
  encoded-kinds = record {
    relations = λ i h. relation-kind s _ (row_at s relation_bytes (modes_of s) (record_end s) (λ ms. Unit) (relations s) pr.relations 0 i _ h (from_start pr));
    clauses = λ i h. rw (← along-add (record_end s) i (length pr.relations) 0, clauses-place pr) (clause-kind s _ (row_at s clause_bytes (clause_of s) (record_end s) ClauseFits (clauses s) pr.clauses _ i _ h (clauses-at pr)));
    goal = rw (goal-place pr) goal-kind;
  }

  -- THE LAW: the counts of an accepted image are those of the program
  pub counted : (r c : ℕ) → load_of s ≡ Ok (r, c) → (r ≡ length pr.relations) × (c ≡ length pr.clauses)
  counted r c e =
      let a = right-kinds s r c (accepted s r c e) in
      let q = same-relations (λ k. kind_at s (record_at s k)) r c (length pr.relations) (length pr.clauses) a encoded-kinds in
      (q, same-clauses (λ k. kind_at s (record_at s k)) (length pr.relations) c (length pr.clauses) (rw q at a) encoded-kinds)
