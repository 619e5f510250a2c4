-- An accepted image holds a sane program: its terms are constants of an image or variables of their own clause or goal.
use Rattle.std.specs.Prelude.{Ok}
use mathlib.Core.Path.{◌∙◌, ◌≡◌, refl}
use mathlib.Core.Bool.{Bool, cond, false, true}
use mathlib.Core.List.{[], List}
use Prim.Native.Nat.{◌+◌, ◌-◌, ◌≤◌, ℕ}
use lib.Dec.{eqb, leb, ltb}
use lib.ListN.{length}
use borrow.Author.Tests.{le-leb, leb-true, ltb-false, ltb-true}
use native.Mathlib.Omega.{arith}
use Rattle.load.proofs.Accepted.{accepted, Right}
use Rattle.parlog.proofs.Along.{along-add, each-up, list_at, list_length, list-past}
use Rattle.parlog.proofs.Bools.{and-true, split}
use Rattle.parlog.proofs.Sane.{all-of-listed}
use Rattle.parlog.specs.Body.{relation_body}
use Rattle.parlog.specs.Image.{body_at, equality, guard_at, literal_end, mode_end, stage_end, term_at, term_end}
use Rattle.parlog.specs.Load.{load_of}
use Rattle.parlog.specs.Names.{clause_inside, goal_named, literal_named, relation_named, stage_named, term_named, term_named_at, terms_named}
use Rattle.parlog.specs.Program.{clause_at, clause_of, goal_of, literal_of, modes_at, modes_of, no_clause, program_of, stage_of}
use Rattle.parlog.specs.Records.{byte_at, record_at, record_end, word_at}
use Rattle.parlog.specs.Sane.{all_of, args_in, ClauseSane, goal_terms, Sane, stage_terms, term_in, terms_in}
use Rattle.parlog.specs.Scan.{list_of}
use Rattle.parlog.specs.declared.Term.TheVariants.{Const, Var}

-- ---- terms

word_in : (n w : ℕ) (b : Bool) → ltb w 32768 ≡ b → term_named n (cond b (Const w) (Var (w - 32768))) ≡ true → term_in n (cond b (Const w) (Var (w - 32768))) ≡ true
word_in n w true e h = le-leb w 32767 (let l = ltb-true w 32768 e in omega arith)
word_in n w false e h = h

term_in_lem : (s : List ℕ) (n i : ℕ) → term_named_at s n i ≡ true → term_in n (term_at s i) ≡ true
unfolding term_named_at
term_in_lem s n i h = word_in n (word_at s i) (ltb (word_at s i) 32768) refl h

terms-in : (s : List ℕ) (n k from : ℕ) → terms_named s n k from ≡ true → terms_in n (list_of (term_at s) term_end k from) ≡ true
terms-in s n k from h = all-of-listed (term_in n) (term_at s) term_end k from ∙ each-up (term_named_at s n) (λ j. term_in n (term_at s j)) term_end (term_in_lem s n) k from h

-- ---- literals, stages, goals

literal-in : (s : List ℕ) (r n from : ℕ) → literal_named s r n from ≡ true → args_in n (literal_of s from) ≡ true
unfolding literal_named literal_of
literal-in s r n from h = terms-in s n (byte_at s (from + 1)) (from + 2) (and-true (cond (eqb (byte_at s from) equality) (eqb (byte_at s (from + 1)) 2) (relation_named s r (byte_at s from) (byte_at s (from + 1)))) _ h).1

stage-in : (s : List ℕ) (r n from : ℕ) → stage_named s r n from ≡ true → stage_terms n (stage_of s from) ≡ true
unfolding stage_of
stage-in s r n from h =
    all-of-listed (args_in n) (literal_of s) (literal_end s) (byte_at s from) (from + 1)
    ∙ each-up (literal_named s r n) (λ j. args_in n (literal_of s j)) (literal_end s) (literal-in s r n) (byte_at s from) (from + 1) h

goal-in : (s : List ℕ) (r n from : ℕ) → goal_named s r n from ≡ true → goal_terms n (goal_of s from) ≡ true
unfolding goal_named goal_of
goal-in s r n from h =
    all-of-listed (stage_terms n) (stage_of s) (stage_end s) (byte_at s from) (from + 1)
    ∙ each-up (stage_named s r n) (λ j. stage_terms n (stage_of s j)) (stage_end s) (stage-in s r n) (byte_at s from) (from + 1) h

-- ---- clauses and relations

clause-in : (s : List ℕ) (r from : ℕ) → clause_inside s r from ≡ true → ClauseSane (clause_of s from)
unfolding clause_inside clause_of
clause-in s r from h =
    let a = and-true (terms_named s (byte_at s (from + 7)) (byte_at s (from + 5)) (from + 8)) _ h in
    let b = and-true (goal_named s r (byte_at s (from + 7)) (guard_at s from)) (goal_named s r (byte_at s (from + 7)) (body_at s from)) a.1 in
    record {
      head = terms-in s (byte_at s (from + 7)) (byte_at s (from + 5)) (from + 8) a.0;
      guard = goal-in s r (byte_at s (from + 7)) (guard_at s from) b.0;
      body = goal-in s r (byte_at s (from + 7)) (body_at s from) b.1;
    }

none_in : ClauseSane no_clause
unfolding all_of
none_in = record { head = refl; guard = refl; body = refl }

arity-small : (s : List ℕ) (from : ℕ) → relation_body s from ≡ true → byte_at s (from + 4) ≤ 4
unfolding relation_body
arity-small s from h = leb-true (byte_at s (from + 4)) 4 (and-true (leb (byte_at s (from + 4)) 4) _ h).0

module _ (s : List ℕ) (r c : ℕ) (ok : Right s r c) where
  clause-sane : (k : ℕ) → ClauseSane (clause_at (program_of s r c) k)
  unfolding program_of
  clause-sane k = split (ltb k c)
      (λ h. rw (list_at (clause_of s) (record_end s) c (record_at s r) k no_clause (ltb-true k c h), along-add (record_end s) k r 0) (clause-in s r (record_at s (r + k)) (ok.clause k (ltb-true k c h)).names))
      (λ h. rw (list-past (clause_of s) (record_end s) c (record_at s r) k no_clause (ltb-false k c h)) none_in)

  modes-few : (q : ℕ) → length (modes_at (program_of s r c) q) ≤ 4
  unfolding program_of modes_of
  modes-few q = split (ltb q r)
      (λ h. let l = ltb-true q r h in
      rw (list_at (modes_of s) (record_end s) r 0 q [] l, list_length (byte_at s) mode_end (byte_at s (record_at s q + 4)) (record_at s q + 5)) (arity-small s (record_at s q) (ok.relation q l).body))
      (λ h. rw (list-past (modes_of s) (record_end s) r 0 q [] (ltb-false q r h)) (omega arith))

  goal-sane : goal_terms (program_of s r c).goal_vars (program_of s r c).goal ≡ true
  unfolding program_of
  goal-sane = goal-in s r (byte_at s (record_at s (r + c) + 4)) (record_at s (r + c) + 5) ok.goal.names

  pub right-sane : Sane (program_of s r c)
  right-sane = record { goal = goal-sane; clause = clause-sane; modes = modes-few }

-- THE LAW: an accepted image holds a sane program
pub accepted-sane : (s : List ℕ) (r c : ℕ) → load_of s ≡ Ok (r, c) → Sane (program_of s r c)
accepted-sane s r c e = right-sane s r c (accepted s r c e)
