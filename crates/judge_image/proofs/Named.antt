-- The names in records, read where they were written.
use mathlib.Core.Path.{◌∙◌, ◌≡◌, refl}
use mathlib.Core.Bool.{◌&&◌, Bool, false, true}
use mathlib.Core.List.{[], ◌++◌, ◌∷◌, append_assoc, List}
use Prim.Native.Nat.{◌+◌, ◌<◌, suc, zero, ℕ}
use lib.Dec.{eqb, ltb}
use lib.ListN.{drop, get_or, length}
use borrow.Author.Tests.{ltb-true}
use native.Mathlib.Omega.{arith}
use Rattle.judge_image.proofs.Fields.{terms-known}
use Rattle.judge_image.specs.Judged.{goal_known, literal_known, relation_known}
use Rattle.parlog.specs.Image.{byte_at, literal_end, record_end, relation_arity, stage_end}
use Rattle.parlog.specs.Names.{arity_of, goal_named, literal_named, relation_named}
use Rattle.parlog.specs.Program.{Goal, Literal}
use Rattle.parlog.specs.Scan.{along, each}
use Rattle.text_program.proofs.Fields.{goal-size, goal-stages, literal-arity, literal-relation, literal-step, literal-terms, relation-arity, relation-step, stage-literals, stage-size, stage-step}
use Rattle.text_program.proofs.Here.{items-each, skip_by}
use Rattle.text_program.specs.Encoded.{goal_bytes, literal_bytes, relation_bytes, stage_bytes}
use Rattle.text_program.specs.Numbered.{joined}
use Rattle.text_program.specs.Parsing.{all_of}

module _ (s : List ℕ) where
  arity-at : (rels : List (List ℕ)) (q k : ℕ) (r : List ℕ) → drop q s ≡ joined relation_bytes rels ++ r → k < length rels → relation_arity s (along (record_end s) k q) ≡ length (get_or rels k [])
  unfolding joined along
  arity-at [] q k r e h = absurd (omega arith)
  arity-at (m ∷ rels) q zero r e h = relation-arity s m q (joined relation_bytes rels ++ r) (e ∙ append_assoc (relation_bytes m) (joined relation_bytes rels) r)
  arity-at (m ∷ rels) q (suc k) r e h =
      let d = e ∙ append_assoc (relation_bytes m) (joined relation_bytes rels) r in
      arity-at rels (record_end s q) k r (rw (relation-step s m q (joined relation_bytes rels ++ r) d) (skip_by s q (relation_bytes m) (joined relation_bytes rels ++ r) d)) (omega arith)

  module _ (rels : List (List ℕ)) (tail : List ℕ) (all : s ≡ joined relation_bytes rels ++ tail) where
    pub relation-known : (n k a : ℕ) → n ≡ length rels → relation_named s n k a ≡ relation_known rels k a
    unfolding relation_named relation_known
    relation-known n k a e = rw e (go (ltb k (length rels)) refl)
      where
        go : (b : Bool) → ltb k (length rels) ≡ b → (ltb k (length rels) && eqb a (arity_of s k)) ≡ (ltb k (length rels) && eqb a (length (get_or rels k [])))
        go true h = rw (h, arity-at rels 0 k tail all (ltb-true k (length rels) h))
        go false h = rw h

    module _ (n vars : ℕ) (count : n ≡ length rels) where
      literal-known : (l : Literal) (q : ℕ) (r : List ℕ) → drop q s ≡ literal_bytes l ++ r → literal_named s n vars q ≡ literal_known rels vars l
      unfolding literal_named literal_known
      literal-known l q r e =
          rw (literal-relation s l q r e, literal-arity s l q r e, relation-known n l.rel (length l.args) count, terms-known s vars l.args (q + 2) r (literal-terms s l q r e))

      stage-known : (st : List Literal) (q : ℕ) (r : List ℕ) → drop q s ≡ stage_bytes st ++ r → each (literal_named s n vars) (literal_end s) (byte_at s q) (q + 1) ≡ all_of (literal_known rels vars) st
      stage-known st q r e =
          rw (stage-size s st q r e) (items-each s literal_bytes (literal_end s) (literal-step s) (literal_named s n vars) (literal_known rels vars) literal-known st (q + 1) r (stage-literals s st q r e))

      pub goal-known : (g : Goal) (q : ℕ) (r : List ℕ) → drop q s ≡ goal_bytes g ++ r → goal_named s n vars q ≡ goal_known rels vars g
      unfolding goal_named goal_known
      goal-known g q r e =
          rw (goal-size s g q r e)
          (items-each s stage_bytes (stage_end s) (stage-step s) (λ (at : ℕ). each (literal_named s n vars) (literal_end s) (byte_at s at) (at + 1)) (all_of (literal_known rels vars)) stage-known g (q + 1) r (goal-stages s g q r e))
