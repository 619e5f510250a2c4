-- What the names of a relation, a literal, a stage and a clause come to by their parts.
use mathlib.Core.Path.{refl, sym, ◌∙◌, ◌≡◌}
use mathlib.Core.Bool.{Bool, cond, false, true, ◌&&◌}
use mathlib.Core.List.{List}
use Prim.Native.Nat.{ℕ, ◌*◌, ◌+◌, ◌<◌, ◌≤◌}
use lib.Dec.{eqb, ltb}
use borrow.Author.Tests.{le-ltb, lt-ltb, ltb-false, ltb-true}
use native.Mathlib.Omega.{arith}
use Rattle.load_names.specs.Reading.{word_of}
use Rattle.parlog.proofs.Bools.{split}
use Rattle.parlog.specs.Image.{body_at, equality, goal_end, guard_at, literals_end, number_of, stage_end, term_at}
use Rattle.parlog.specs.Names.{arity_of, clause_inside, goal_named, literal_named, literals_named, relation_named, stage_named, term_named, term_named_at, terms_named}
use Rattle.parlog.specs.Records.{byte_at}
use Rattle.parlog.specs.declared.Term.{Term}
use Rattle.parlog.specs.declared.Term.TheVariants.{Const, Var}
use Rattle.place.proofs.Grows.{goal-grows}
use Rattle.std.specs.Bool.{then_some}

-- ---- terms

pub term-read : (s : List ℕ) (vars at : ℕ) (t : Term) (b : Bool) → t ≡ term_at s at → b ≡ term_named vars t → term_named_at s vars at ≡ b
unfolding term_named_at
term-read s vars at t b e q = rw (← e, ← q)

-- constants have the lower numbers, so one comparison tells
pub word_below : (vars : ℕ) (t : Term) → number_of t ≤ 32767 → ltb (word_of t) (32768 + vars) ≡ term_named vars t
word_below vars (Const c) h = lt-ltb c (32768 + vars) (omega arith)
word_below vars (Var v) h =
    split (ltb v vars)
    (λ e. let l = ltb-true v vars e in lt-ltb (32768 + v) (32768 + vars) (omega arith) ∙ sym e)
    (λ e. let l = ltb-false v vars e in le-ltb (32768 + v) (32768 + vars) (omega arith) ∙ sym e)

-- ---- relations by the table of arities

pub relation-known : (s t : List ℕ) (rels r a : ℕ) → byte_at t r ≡ arity_of s r → r < rels → eqb a (byte_at t r) ≡ relation_named s rels r a
unfolding relation_named
relation-known s t rels r a h l = rw (lt-ltb r rels l, h)

pub relation-unknown : (s : List ℕ) (rels r a : ℕ) → rels ≤ r → false ≡ relation_named s rels r a
unfolding relation_named
relation-unknown s rels r a h = rw (le-ltb r rels h)

-- ---- stages

pub stage-named-read : (s : List ℕ) (rels vars at k : ℕ) → k ≡ byte_at s at → then_some (literals_named s rels vars k (at + 1)) (literals_end s k (at + 1)) ≡ then_some (stage_named s rels vars at) (stage_end s at)
unfolding stage_end
stage-named-read s rels vars at k e = rw e

-- ---- literals and clauses by their parts

module _ (s : List ℕ) (rels vars at r a : ℕ) (er : r ≡ byte_at s at) (ea : a ≡ byte_at s (at + 1)) where
  pub literal-fault : cond (eqb r equality) (eqb a 2) (relation_named s rels r a) ≡ false → false ≡ literal_named s rels vars at
  unfolding literal_named
  literal-fault h = rw (← er, ← ea, h)

  pub literal-right : cond (eqb r equality) (eqb a 2) (relation_named s rels r a) ≡ true → terms_named s vars a (at + 2) ≡ literal_named s rels vars at
  unfolding literal_named
  literal-right h = rw (← er, ← ea, h)

module _ (s : List ℕ) (rels at : ℕ) where
  pub inside-fault : goal_named s rels (byte_at s (at + 7)) (guard_at s at) ≡ false → false ≡ clause_inside s rels at
  unfolding clause_inside
  inside-fault h = rw h (neither (terms_named s (byte_at s (at + 7)) (byte_at s (at + 5)) (at + 8)))
    where
      neither : (b : Bool) → false ≡ (b && false)
      neither true = refl
      neither false = refl

  pub inside-right : goal_named s rels (byte_at s (at + 7)) (guard_at s at) ≡ true → (terms_named s (byte_at s (at + 7)) (byte_at s (at + 5)) (at + 8) && goal_named s rels (byte_at s (at + 7)) (body_at s at)) ≡ clause_inside s rels at
  unfolding clause_inside
  inside-right h = rw h

-- the guard and the body of a clause that ends inside
module _ (s : List ℕ) (at a to : ℕ) (e : a ≡ byte_at s (at + 5)) (h : goal_end s (body_at s at) ≤ to) where
  pub guard-in : (goal_end s (at + 8 + 2 * a) ≤ to) × (at + 8 + 2 * a ≤ to)
  guard-in = rw e (let g = goal-grows s (guard_at s at) in let b = goal-grows s (body_at s at) in (omega arith, omega arith))
