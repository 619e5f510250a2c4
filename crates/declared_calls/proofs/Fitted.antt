-- Each name that a text calls is known where each call of it has a mode line.
use mathlib.Core.Path.{◌∙◌, ◌≡◌, ap, ap₂, refl, sym}
use mathlib.Core.Bool.{◌&&◌, ◌||◌, and-true as true-right, Bool, false, not, true}
use mathlib.Core.List.{[], ◌++◌, ◌∷◌, List}
use Prim.Native.Nat.{◌-◌, ◌/◌, ◌<◌, ℕ}
use lib.Dec.{eqb, leb}
use lib.ListN.{drop, length}
use borrow.Author.Tests.{eq-eqb}
use native.Mathlib.Omega.{arith}
use Rattle.declared_calls.specs.Declares.{class_declared, declared_behind, declared_for, declared_in}
use Rattle.lay_lines.specs.Fields.{clause_fits}
use Rattle.lay_literal.specs.Fits.{goal_fits, stage_fits}
use Rattle.lay_literal.specs.Lows.{literal_fits}
use Rattle.missing_call.specs.Called.{calls_from, clause_calls, goal_calls, said_calls}
use Rattle.missing_call.specs.Least.{of_class}
use Rattle.name_index.proofs.Chains.{chain-small}
use Rattle.name_index.specs.Index.{chain_of}
use Rattle.parlog.proofs.Bools.{and-true, never, not_so, or_right, true-and}
use Rattle.read_names.proofs.Lined.{lines-fuel}
use Rattle.read_names.specs.Tables.{mode_names, modes_from}
use Rattle.text_names.specs.Names.{known, Name}
use Rattle.text_program.proofs.Joined.{all_append}
use Rattle.text_program.specs.Numbered.{joined}
use Rattle.text_program.specs.Parsing.{all_of}
use Rattle.text_program.specs.Source.{behind_arrow, calls, equals, Got, is_clause, is_mode_line, lines, lines_for, ModeLine, read_body, read_clause, read_mode_line, Said, SaidClause}

all-joined : {A B : Type 0} (f : A → List B) (ok : B → Bool) (is : A → Bool) → ((x : A) → all_of ok (f x) ≡ is x) → (xs : List A) → all_of ok (joined f xs) ≡ all_of is xs
unfolding all_of joined
all-joined f ok is h [] = refl
all-joined f ok is h (x ∷ xs) = all_append ok (f x) (joined f xs) ∙ ap₂ (λ (a b : Bool). a && b) (h x) (all-joined f ok is h xs)

module _ (ms : List ModeLine) where
  abbrev told : Name → Bool
  told x = known (mode_names ms) x

  said_fits : (l : Said) → all_of told (said_calls l) ≡ literal_fits false ms l
  unfolding all_of literal_fits
  said_fits (calls p ts) = true-right (told p)
  said_fits (equals a b) = refl

  stage-fits : (st : List Said) → all_of told (joined said_calls st) ≡ stage_fits false ms st
  unfolding stage_fits
  stage-fits st = all-joined said_calls told (literal_fits false ms) said_fits st

  goal-fits : (g : List (List Said)) → all_of told (goal_calls g) ≡ goal_fits false ms g
  unfolding goal_fits
  goal-fits g = all-joined (joined said_calls) told (stage_fits false ms) stage-fits g

  clause-fits : (c : SaidClause) → all_of told (clause_calls c) ≡ clause_fits false ms c
  unfolding all_of clause_fits literal_fits
  clause-fits c =
      ap (λ (b : Bool). told c.name && b)
      (all_append told (goal_calls c.guard) (goal_calls c.body) ∙ ap₂ (λ (a b : Bool). a && b) (goal-fits c.guard) (goal-fits c.body))

-- ---- the calls of a text

calls-in : (s : List ℕ) (m : ℕ) (c : Got (List SaidClause)) →
    all_of (known (mode_names (modes_from s m))) (joined clause_calls c.value ++ goal_calls (read_body (behind_arrow c.rest)).value) ≡ declared_in s m c
calls-in s m c =
    let g = (read_body (behind_arrow c.rest)).value in
    let ms = modes_from s m in
    all_append (told ms) (joined clause_calls c.value) (goal_calls g)
    ∙ ap₂ (λ (a b : Bool). a && b) (all-joined clause_calls (told ms) (clause_fits false ms) (clause-fits ms) c.value) (goal-fits ms g)

-- class 16 is every class
pub calls-fit : (s : List ℕ) (m from n : ℕ) → class_declared s m 16 from n ≡ declared_for s m from n
calls-fit s m from n = calls-in s m (lines_for n is_clause read_clause (drop from s))

-- the clauses behind the mode lines
pub fit-behind : (s : List ℕ) (m from : ℕ) → drop from s ≡ (lines is_mode_line read_mode_line (drop m s)).rest → declared_for s m from (length s - from) ≡ declared_behind s m
fit-behind s m from e = ap (declared_in s m) (lines-fuel is_clause read_clause s from ∙ ap (lines is_clause read_clause) e)

-- ---- class by class

own-class : (x : Name) → of_class (chain_of x / 32) x ≡ true
own-class x = or_right (leb 16 (chain_of x / 32)) (eqb (chain_of x / 32) (chain_of x / 32)) (eq-eqb (chain_of x / 32) (chain_of x / 32) refl)

module _ (ok : Name → Bool) where
  abbrev within : ℕ → Name → Bool
  within k x = not (of_class k x) || ok x

  -- what holds for the names of each of the sixteen classes holds for all names
  all-classes : (xs : List Name) → ((k : ℕ) → k < 16 → all_of (within k) xs ≡ true) → all_of ok xs ≡ true
  unfolding all_of
  all-classes [] h = refl
  all-classes (x ∷ xs) h = true-and (ok x) (all_of ok xs) (rw (own-class x) at (parts (chain_of x / 32) (let c = chain-small x in omega arith)).0) (all-classes xs (λ k l. (parts k l).1))
    where
      parts : (k : ℕ) → k < 16 → (within k x ≡ true) × (all_of (within k) xs ≡ true)
      parts k l = and-true (within k x) (all_of (within k) xs) (h k l)

  -- and the other way round
  each-class : (k : ℕ) (xs : List Name) → all_of ok xs ≡ true → all_of (within k) xs ≡ true
  unfolding all_of
  each-class k [] h = refl
  each-class k (x ∷ xs) h =
      let w = and-true (ok x) (all_of ok xs) h in
      true-and (within k x) (all_of (within k) xs) (or_right (not (of_class k x)) (ok x) w.0) (each-class k xs w.1)

module _ (s : List ℕ) (m from n : ℕ) where
  pub classes-all : ((k : ℕ) → k < 16 → class_declared s m k from n ≡ true) → true ≡ declared_for s m from n
  classes-all h = sym (all-classes (known (mode_names (modes_from s m))) (calls_from s from n) h) ∙ calls-fit s m from n

  pub class-stops : (k : ℕ) → class_declared s m k from n ≡ false → false ≡ declared_for s m from n
  class-stops k e =
      sym (not_so (all_of (known (mode_names (modes_from s m))) (calls_from s from n)) (λ h. never (sym e ∙ each-class (known (mode_names (modes_from s m))) k (calls_from s from n) h)))
      ∙ calls-fit s m from n
