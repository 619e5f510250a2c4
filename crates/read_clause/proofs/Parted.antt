-- The ways through the readers of clauses.
use mathlib.Core.Path.{◌∙◌, ◌≡◌, ap, refl, sym}
use mathlib.Core.Bool.{◌&&◌, Bool, true}
use mathlib.Core.List.{[], List}
use Prim.Native.Nat.{◌+◌, ◌-◌, ◌<◌, ◌≤◌, ℕ}
use lib.Dec.{eqb, leb}
use lib.ListN.{drop, drop_of_length-le, get_or, length, length-drop}
use lib.Seq.{drop-drop, drop-length}
use borrow.Author.Tests.{eq-eqb, ne_eqb}
use native.Mathlib.Omega.{arith}
use Rattle.read_clause.specs.Parts.{ClauseIn, PartsIn}
use Rattle.read_clause.specs.declared.Part.TheVariants.{Absent, Body, Goal}
use Rattle.read_clause.specs.declared.Parts.{Parts}
use Rattle.read_goal.specs.Spans.{goal_right, literals_in, Spans, stages_right}
use Rattle.read_goal.specs.declared.Span.{Span}
use Rattle.text_names.proofs.Rest.{first-at}
use Rattle.text_names.specs.Bytes.{first, next, past, skip}
use Rattle.text_program.specs.Parsing.{all_of}
use Rattle.text_program.specs.Source.{behind_arrow, read_body, read_brackets, read_clause, read_goal, read_halves, read_term}

-- ---- `<-`

module _ (s : List ℕ) (at : ℕ) where
  pub arrow-short : length s - at < 2 → (drop (length s) s ≡ behind_arrow (drop at s)) × (length s ≤ length s)
  unfolding skip
  arrow-short h =
      let l = length-drop at s in
      let e : drop 2 (drop at s) ≡ [] = drop_of_length-le (drop at s) {i = 2} (omega arith) in
      (drop-length s ∙ sym (ap skip e), omega arith)

  pub arrow-long : (r : ℕ) → drop r s ≡ skip (drop (at + 2) s) → drop r s ≡ behind_arrow (drop at s)
  arrow-long r e = e ∙ sym (ap skip (drop-drop 2 at s))

-- ---- halves

module _ (s : List ℕ) (at b : ℕ) (i : at ≤ length s) (is : b ≡ get_or s at 0) where
  pub no_halves : (b ≡ 60 → ⊥) → PartsIn s (read_halves (drop at s)) (record { guard = Absent; body = Absent; right = true; end = at })
  unfolding read_halves goal_right stages_right all_of literals_in
  no_halves h = rw (first-at s at, ← is, ne_eqb b 60 h) (record { guard = refl; body = refl; right = refl; end = refl; guard_in = tt; body_in = tt; end_in = i })

  module _ (from e c : ℕ) (arrow : b ≡ 60) (behind : drop from s ≡ behind_arrow (drop at s)) (from_in : from ≤ length s) (end : drop e s ≡ (read_goal (drop from s)).rest) (end_in : e ≤ length s) (mark : c ≡ get_or s e 0) where
    colon : first (read_goal (behind_arrow (drop at s))).rest ≡ c
    colon = ap (λ (y : List ℕ). first (read_goal y).rest) (sym behind) ∙ ap first (sym end) ∙ first-at s e ∙ sym mark

    pub body-only : (ok : Bool) → (c ≡ 58 → ⊥) → ok ≡ goal_right (read_goal (drop from s)).value → PartsIn s (read_halves (drop at s)) (record { guard = Absent; body = Goal from; right = ok; end = e })
    unfolding read_halves goal_right stages_right all_of literals_in
    body-only ok h told =
        rw (first-at s at, ← is, eq-eqb b 60 arrow, colon, ne_eqb c 58 h)
        (record { guard = refl; body = ap (λ (y : List ℕ). (read_goal y).value) behind; right = told ∙ ap (λ (y : List ℕ). goal_right (read_goal y).value) behind; end = end ∙ ap (λ (y : List ℕ). (read_goal y).rest) behind; guard_in = tt; body_in = from_in; end_in = end_in })

    pub both_halves : (n f : ℕ) (x y : Bool) → c ≡ 58 → drop n s ≡ next (drop e s) → n ≤ length s → drop f s ≡ (read_body (drop n s)).rest → f ≤ length s → x ≡ goal_right (read_goal (drop from s)).value → y ≡ goal_right (read_body (drop n s)).value →
        PartsIn s (read_halves (drop at s)) (record { guard = Goal from; body = Body n; right = x && y; end = f })
    unfolding read_halves
    both_halves n f x y h g k l m told other =
        let z : drop n s ≡ next (read_goal (behind_arrow (drop at s))).rest = g ∙ ap next (end ∙ ap (λ (y : List ℕ). (read_goal y).rest) behind) in
        rw (first-at s at, ← is, eq-eqb b 60 arrow, colon, eq-eqb c 58 h)
        (record { guard = ap (λ (y : List ℕ). (read_goal y).value) behind; body = ap (λ (y : List ℕ). (read_body y).value) z; right = rw (told, other, behind, z) refl; end = l ∙ ap (λ (y : List ℕ). (read_body y).rest) z; guard_in = from_in; body_in = k; end_in = m })

-- ---- a clause

module _ (s : List ℕ) (at t : ℕ) (h : Span) (p : Parts) (b n : ℕ) where
  pub clause-in : drop t s ≡ past (drop at s) → t ≤ length s → Spans s (read_brackets read_term (drop t s)).rest (length (read_brackets read_term (drop t s)).value) true h →
      PartsIn s (read_halves (drop h.end s)) p → b ≡ get_or s p.end 0 → drop n s ≡ next (drop p.end s) → n ≤ length s →
      ClauseIn s at (read_clause (drop at s)) (record { terms = t; arity = h.count; guard = p.guard; body = p.body; right = leb h.count 4 && p.right; semicolon = eqb b 59; next = n })
  unfolding read_clause
  clause-in e i v f g k l =
      let z : drop h.end s ≡ (read_brackets read_term (past (drop at s))).rest = v.end ∙ ap (λ (y : List ℕ). (read_brackets read_term y).rest) e in
      let r : drop p.end s ≡ (read_halves (read_brackets read_term (past (drop at s))).rest).rest = f.end ∙ ap (λ (y : List ℕ). (read_halves y).rest) z in
      record {
        name = refl;
        terms = ap (λ (y : List ℕ). (read_brackets read_term y).value) e;
        arity = v.count ∙ ap (λ (y : List ℕ). length (read_brackets read_term y).value) e;
        guard = f.guard ∙ ap (λ (y : List ℕ). (read_halves y).value.guard) z;
        body = f.body ∙ ap (λ (y : List ℕ). (read_halves y).value.body) z;
        right = rw (v.count, f.right, e, z) refl;
        semicolon = ap (λ (k : ℕ). eqb k 59) (g ∙ sym (first-at s p.end) ∙ ap first r);
        next = k ∙ ap next r;
        terms_in = i;
        guard_in = f.guard_in;
        body_in = f.body_in;
        next_in = l;
      }
