-- The fields of a clause: one law for each way through their reads.
use mathlib.Core.Path.{◌∙◌, ◌≡◌, ap, sym}
use mathlib.Core.List.{[], List}
use Prim.Native.Nat.{◌*◌, ◌+◌, ◌<◌, ◌≤◌, ℕ}
use lib.ListN.{get_or, length}
use native.Mathlib.Omega.{arith}
use Rattle.parlog.proofs.Along.{along-terms, list_at, list-past}
use Rattle.parlog.specs.Image.{byte_at, mode_end, record_at, record_end, term_at, term_end}
use Rattle.parlog.specs.Program.{Clause, clause_at, clause_of, modes_at, modes_of, no_clause, out_count, program_of, vars_of}
use Rattle.parlog.specs.Scan.{list_of, those}
use Rattle.parlog.specs.declared.Term.{Term}
use Rattle.parlog.specs.declared.Term.TheVariants.{Const}
use Rattle.place.proofs.Clauses.{clause-here, clause-past}
use Rattle.program_clause.proofs.Modes.{outs-count, these}
use Rattle.program_clause.specs.Parts.{is_out}

-- the ways through term_of
module _ (s : List ℕ) (n from k : ℕ) where
  pub term-some : k < n → term_at s (from + 2 * k) ≡ get_or (list_of (term_at s) term_end n from) k (Const 0)
  term-some h = sym (list_at (term_at s) term_end n from k (Const 0) h ∙ ap (term_at s) (along-terms k from))

  pub term-none : n ≤ k → Const 0 ≡ get_or (list_of (term_at s) term_end n from) k (Const 0)
  term-none h = sym (list-past (term_at s) term_end n from k (Const 0) h)

module _ (s : List ℕ) (r c k : ℕ) where
  -- past the end
  module _ (h : c ≤ k) where
    past : clause_at (program_of s r c) k ≡ no_clause
    past = clause-past s r c k h

    pub relation-none : 255 ≡ (clause_at (program_of s r c) k).rel
    relation-none = sym (ap (λ (z : Clause). z.rel) past)

    pub vars-none : 0 ≡ (clause_at (program_of s r c) k).vars
    vars-none = sym (ap (λ (z : Clause). z.vars) past)

    pub head-term-none : (i : ℕ) → Const 0 ≡ get_or (clause_at (program_of s r c) k).head i (Const 0)
    head-term-none i = sym (ap (λ (z : Clause). get_or z.head i (Const 0)) past)

    no-modes : r ≤ 32 → modes_at (program_of s r c) 255 ≡ []
    unfolding program_of
    no-modes hr = list-past (modes_of s) (record_end s) r 0 255 [] (omega arith)

    pub all-vars-none : r ≤ 32 → 0 ≡ vars_of (program_of s r c) k
    unfolding vars_of out_count
    all-vars-none hr = sym (rw (past, no-modes hr))

  -- at its place
  module _ (h : k < c) {from : ℕ} (e : from ≡ record_at s (r + k)) where
    pub clause-some : clause_at (program_of s r c) k ≡ clause_of s from
    clause-some = clause-here s r c k h ∙ ap (clause_of s) (sym e)

    pub relation-some : {x : ℕ} → x ≡ byte_at s (from + 4) → x ≡ (clause_at (program_of s r c) k).rel
    unfolding clause_of
    relation-some ex = ex ∙ sym (ap (λ (z : Clause). z.rel) clause-some)

    pub mark-some : {x : ℕ} → x ≡ byte_at s (from + 6) → x ≡ (clause_at (program_of s r c) k).mark
    unfolding clause_of
    mark-some ex = ex ∙ sym (ap (λ (z : Clause). z.mark) clause-some)

    pub vars-some : {x : ℕ} → x ≡ byte_at s (from + 7) → x ≡ (clause_at (program_of s r c) k).vars
    unfolding clause_of
    vars-some ex = ex ∙ sym (ap (λ (z : Clause). z.vars) clause-some)

    pub head-term-some : (i : ℕ) {n : ℕ} {t : Term} → n ≡ byte_at s (from + 5) → t ≡ get_or (list_of (term_at s) term_end n (from + 8)) i (Const 0) → t ≡ get_or (clause_at (program_of s r c) k).head i (Const 0)
    unfolding clause_of
    head-term-some i en et = et ∙ ap (λ (m : ℕ). get_or (list_of (term_at s) term_end m (from + 8)) i (Const 0)) en ∙ sym (ap (λ (z : Clause). get_or z.head i (Const 0)) clause-some)

    pub all-vars : {q : ℕ} → q ≡ byte_at s (from + 4) → (n at : ℕ) → list_of (byte_at s) mode_end n at ≡ get_or (list_of (modes_of s) (record_end s) r 0) q []
        → {o v : ℕ} → o ≡ length (those (is_out s at) n) → v ≡ byte_at s (from + 7) → v + o ≡ vars_of (program_of s r c) k
    unfolding vars_of
    all-vars {q} eq n at em eo ev = rw (eo, ← outs-count s n at, these s r c q n at em, relation-some eq, vars-some ev)

pub goal-vars : (s : List ℕ) (r c : ℕ) {from x : ℕ} → from ≡ record_at s (r + c) → x ≡ byte_at s (from + 4) → x ≡ (program_of s r c).goal_vars
unfolding program_of
goal-vars s r c e ex = rw (ex, e)
