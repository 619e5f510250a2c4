-- The ranges of the fields of records, and the names of terms, read where they were written.
use mathlib.Core.Path.{◌≡◌, ap, refl}
use mathlib.Core.List.{◌++◌, List}
use Prim.Native.Nat.{◌+◌, ℕ}
use lib.Dec.{leb}
use lib.ListN.{drop, length}
use Rattle.judge_image.specs.Judged.{goal_sized, literal_sized, literals_of, stage_sized, term_known, word_of}
use Rattle.parlog.specs.Body.{goal_range, literal_range, stage_range}
use Rattle.parlog.specs.Image.{literal_end, stage_end, stage_size, term_end, term_of}
use Rattle.parlog.specs.Names.{term_named, term_named_at}
use Rattle.parlog.specs.Program.{Goal, Literal}
use Rattle.parlog.specs.Scan.{each}
use Rattle.parlog.specs.declared.Term.{Term}
use Rattle.parlog.specs.declared.Term.TheVariants.{Const, Var}
use Rattle.text_program.proofs.Fields.{goal-size, goal-stages, literal-arity, literal-step, stage-literals, stage-size, stage-step, term-step}
use Rattle.text_program.proofs.Here.{items-each, items-total, word-here}
use Rattle.text_program.specs.Encoded.{goal_bytes, literal_bytes, stage_bytes, term_bytes, word_bytes}
use Rattle.text_program.specs.Numbered.{joined}
use Rattle.text_program.specs.Parsing.{all_of}

-- ---- terms

term-bytes : (t : Term) → term_bytes t ≡ word_bytes (word_of t)
unfolding term_bytes
term-bytes (Const c) = refl
term-bytes (Var v) = refl

module _ (s : List ℕ) where
  term-known : (vars : ℕ) (t : Term) (q : ℕ) (r : List ℕ) → drop q s ≡ term_bytes t ++ r → term_named_at s vars q ≡ term_known vars t
  unfolding term_named_at
  term-known vars t q r e = ap (λ (w : ℕ). term_named vars (term_of w)) (word-here s q (word_of t) r (rw (term-bytes t) at e))

  pub terms-known : (vars : ℕ) (ts : List Term) (q : ℕ) (r : List ℕ) → drop q s ≡ joined term_bytes ts ++ r → each (term_named_at s vars) term_end (length ts) q ≡ all_of (term_known vars) ts
  terms-known vars ts q r e = items-each s term_bytes term_end (term-step s) (term_named_at s vars) (term_known vars) (term-known vars) ts q r e

  -- ---- literals

  literal-sized : (l : Literal) (q : ℕ) (r : List ℕ) → drop q s ≡ literal_bytes l ++ r → literal_range s q ≡ literal_sized l
  literal-sized l q r e = ap (λ (n : ℕ). leb n 4) (literal-arity s l q r e)

  -- ---- stages and goals

  stage-sized : (st : List Literal) (q : ℕ) (r : List ℕ) → drop q s ≡ stage_bytes st ++ r → stage_range s q ≡ stage_sized st
  unfolding stage_range stage_sized
  stage-sized st q r e = rw (stage-size s st q r e, items-each s literal_bytes (literal_end s) (literal-step s) (literal_range s) literal_sized literal-sized st (q + 1) r (stage-literals s st q r e))

  pub goal-sized : (g : Goal) (q : ℕ) (r : List ℕ) → drop q s ≡ goal_bytes g ++ r → goal_range s q ≡ goal_sized g
  unfolding goal_range goal_sized literals_of
  goal-sized g q r e =
      rw (
        goal-size s g q r e,
        items-each s stage_bytes (stage_end s) (stage-step s) (stage_range s) stage_sized stage-sized g (q + 1) r (goal-stages s g q r e),
        items-total s stage_bytes (stage_end s) (stage-step s) (stage_size s) (λ (st : List Literal). length st) literals_of refl (λ x xs. refl) (stage-size s) g (q + 1) r (goal-stages s g q r e),
      )
