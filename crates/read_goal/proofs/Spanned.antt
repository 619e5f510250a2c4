-- What is left of a row while its items are counted, and the ways through the readers.
use mathlib.Core.Path.{◌∙◌, ◌≡◌, ap, refl, sym}
use mathlib.Core.Bool.{◌&&◌, ◌||◌, and_assoc, and-true as true-right, Bool, false, true}
use mathlib.Core.List.{[], ◌∷◌, List}
use Prim.Native.Nat.{◌+◌, ◌-◌, ◌<◌, ◌≤◌, ℕ}
use lib.Dec.{eqb, leb}
use lib.ListN.{drop, get_or, length}
use borrow.Author.Tests.{eq-eqb, le-leb, leb-false, leb-true, lt-leb, ne_eqb}
use native.Mathlib.Omega.{arith}
use Rattle.read_goal.specs.Spans.{goal_right, literal_right, literals_in, Spans, stage_right, stages_right}
use Rattle.read_goal.specs.declared.Span.{Span}
use Rattle.text_names.proofs.Rest.{first-at}
use Rattle.text_names.specs.Bytes.{next, past}
use Rattle.text_program.specs.Numbered.{said_terms}
use Rattle.text_program.specs.Parsing.{all_of}
use Rattle.text_program.specs.Source.{cons_got, Got, got, read_body, read_brackets, Reader, read_goal, read_literal, read_term, row, Said}

-- of the row W there is left Y, behind n items and at place q; `was` is what the whole passes, `now` what is known and what is left
pub record SpanLeft {A : Type 0} (s : List ℕ) (W Y : Got (List A)) (was now : Bool) (q n left : ℕ) : Type 0 where
  pub rest : Y.rest ≡ W.rest
  pub count : n + length Y.value ≡ length W.value
  pub right : now ≡ was
  pub inside : q ≤ length s
  pub budget : n + left ≤ length s

module _ {A : Type 0} (s : List ℕ) where
  pub span-start : {W Y : Got (List A)} {was now : Bool} {at left : ℕ} → at ≤ length s → left ≡ length s - at → Y ≡ W → now ≡ was → SpanLeft s W Y was now at 0 left
  span-start h l e f =
      let c = ap (λ (g : Got (List A)). length g.value) e in
      record { rest = ap (λ (g : Got (List A)). g.rest) e; count = omega arith; right = f; inside = h; budget = omega arith }

  pub span-on : {W Y Y' : Got (List A)} {was now now' : Bool} {q n left f : ℕ} (x : A) → Y ≡ cons_got x Y' → now' ≡ now → 0 < left → f ≤ length s →
      SpanLeft s W Y was now q n left → SpanLeft s W Y' was now' f (n + 1) (left - 1)
  span-on {n = n} x e g h i l =
      let z = l.count in
      let c = ap (λ (v : Got (List A)). length v.value) e in
      let r = l.budget in
      record {
        rest = sym (ap (λ (v : Got (List A)). v.rest) e) ∙ l.rest;
        count = omega arith;
        right = g ∙ l.right;
        inside = i;
        budget = omega arith;
      }

  pub span_last : {W Y : Got (List A)} {was now : Bool} {q n left e : ℕ} {r : Bool} (x : A) → Y ≡ got (x ∷ []) (drop e s) → r ≡ now → e ≤ length s →
      SpanLeft s W Y was now q n left → Spans s W.rest (length W.value) was (record { end = e; count = n + 1; right = r })
  span_last x e g i l =
      let z = l.count in
      let c = ap (λ (v : Got (List A)). length v.value) e in
      record { end = sym (ap (λ (v : Got (List A)). v.rest) e) ∙ l.rest; inside = i; count = omega arith; right = g ∙ l.right }

  pub span-done : {W Y : Got (List A)} {was now : Bool} {q n left : ℕ} {r : Bool} → Y ≡ got [] (drop q s) → r ≡ now →
      SpanLeft s W Y was now q n left → Spans s W.rest (length W.value) was (record { end = q; count = n; right = r })
  span-done e g l =
      let z = l.count in
      let c = ap (λ (v : Got (List A)). length v.value) e in
      record { end = sym (ap (λ (v : Got (List A)). v.rest) e) ∙ l.rest; inside = l.inside; count = omega arith; right = g ∙ l.right }

-- ---- what the items pass

module _ {A : Type 0} (ok : A → Bool) where
  pub all-on : (r t : Bool) (x : A) (xs : List A) → t ≡ ok x → ((r && t) && all_of ok xs) ≡ (r && all_of ok (x ∷ xs))
  unfolding all_of
  all-on r t x xs e = rw (← e) (and_assoc r t (all_of ok xs))

  pub all-last : (r t : Bool) (x : A) → t ≡ ok x → (r && t) ≡ (r && all_of ok (x ∷ []))
  unfolding all_of
  all-last r t x e = rw (← e, true-right t)

  pub all_done : (r : Bool) → r ≡ (r && all_of ok [])
  unfolding all_of
  all_done r = sym (true-right r)

spend : (c m budget : ℕ) (a b : Bool) → ((a && b) && leb (c + m) budget) ≡ ((a && leb c budget) && (b && leb m (budget - c)))
spend c m budget a b = go a b (leb c budget) refl
  where
    same : (f : Bool) → c ≤ budget → leb m (budget - c) ≡ f → leb (c + m) budget ≡ f
    same true h g = le-leb (c + m) budget (let l = leb-true m (budget - c) g in omega arith)
    same false h g = lt-leb (c + m) budget (let l = leb-false m (budget - c) g in omega arith)

    more : (d : Bool) → leb c budget ≡ d → leb (c + m) budget ≡ (d && leb m (budget - c))
    more true e = same (leb m (budget - c)) (leb-true c budget e) refl
    more false e = lt-leb (c + m) budget (let h = leb-false c budget e in omega arith)

    go : (a b d : Bool) → leb c budget ≡ d → ((a && b) && leb (c + m) budget) ≡ ((a && leb c budget) && (b && leb m (budget - c)))
    go true true d e = more d e ∙ rw e
    go true false true e = rw e
    go true false false e = rw e
    go false b d e = refl

pub stages-done : (r : Bool) (budget : ℕ) → r ≡ (r && stages_right budget [])
unfolding stages_right all_of literals_in
stages-done r budget = rw (le-leb 0 budget (omega arith)) (sym (true-right r))

module _ (r t : Bool) (c budget : ℕ) (x : List Said) (e : t ≡ stage_right x) (n : c ≡ length x) where
  pub stages-on : (xs : List (List Said)) → ((r && (t && leb c budget)) && stages_right (budget - c) xs) ≡ (r && stages_right budget (x ∷ xs))
  unfolding stages_right all_of literals_in
  stages-on xs = rw (← e, ← n, spend c (literals_in xs) budget t (all_of stage_right xs)) (and_assoc r (t && leb c budget) (all_of stage_right xs && leb (literals_in xs) (budget - c)))

  pub stages-last : (r && (t && leb c budget)) ≡ (r && stages_right budget (x ∷ []))
  stages-last = stages-done (r && (t && leb c budget)) (budget - c) ∙ stages-on []

-- ---- one item

module _ (s : List ℕ) (at e : ℕ) where
  pub term-rest : drop e s ≡ past (drop at s) → drop e s ≡ (read_term (drop at s)).rest
  unfolding read_term
  term-rest h = h

  pub no_brackets : {A : Type 0} (read : Reader A) (b : ℕ) → at ≤ length s → b ≡ get_or s at 0 → (b ≡ 40 → ⊥) →
      Spans s (read_brackets read (drop at s)).rest (length (read_brackets read (drop at s)).value) true (record { end = at; count = 0; right = true })
  unfolding read_brackets
  no_brackets read b i h n = rw (first-at s at, ← h, ne_eqb b 40 n) (record { end = refl; inside = i; count = refl; right = refl })

  pub in_brackets : {A : Type 0} (read : Reader A) (b from : ℕ) (r : Span) → b ≡ get_or s at 0 → b ≡ 40 → drop from s ≡ next (drop at s) →
      Spans s (row read 44 (drop from s)).rest (length (row read 44 (drop from s)).value) true r → drop e s ≡ next (drop r.end s) → e ≤ length s →
      Spans s (read_brackets read (drop at s)).rest (length (read_brackets read (drop at s)).value) true (record { end = e; count = r.count; right = true })
  unfolding read_brackets
  in_brackets read b from r h n f v g i =
      rw (first-at s at, ← h, eq-eqb b 40 n, ← f) (record { end = g ∙ ap next v.end; inside = i; count = v.count; right = refl })

module _ (s : List ℕ) (at p b : ℕ) (behind : drop p s ≡ past (drop at s)) (is : b ≡ get_or s p 0) where
  pub equality-span : (from e : ℕ) → b ≡ 61 → drop from s ≡ next (drop p s) → drop e s ≡ past (drop from s) → e ≤ length s →
      Spans s (read_literal (drop at s)).rest (length (said_terms (read_literal (drop at s)).value)) (literal_right (read_literal (drop at s)).value) (record { end = e; count = 2; right = true })
  unfolding read_literal read_term literal_right
  equality-span from e m f g i = rw (← behind, first-at s p, ← is, eq-eqb b 61 m) (record { end = g ∙ ap past (f ∙ ap next behind); inside = i; count = refl; right = refl })

  pub call-span : (t : Span) → (b ≡ 61 → ⊥) → Spans s (read_brackets read_term (drop p s)).rest (length (read_brackets read_term (drop p s)).value) true t →
      Spans s (read_literal (drop at s)).rest (length (said_terms (read_literal (drop at s)).value)) (literal_right (read_literal (drop at s)).value) (record { end = t.end; count = t.count; right = leb t.count 4 })
  unfolding read_literal literal_right
  call-span t m v =
      rw (← behind, first-at s p, ← is, ne_eqb b 61 m)
      (record {
        end = v.end ∙ ap (λ (z : List ℕ). (read_brackets read_term z).rest) behind;
        inside = v.inside;
        count = v.count ∙ ap (λ (z : List ℕ). length (read_brackets read_term z).value) behind;
        right = ap (λ (n : ℕ). leb n 4) v.count ∙ ap (λ (z : List ℕ). leb (length (read_brackets read_term z).value) 4) behind;
      })

-- ---- stages and goals

-- read_goal is a row of rows
pub goal-row : (s : List ℕ) → read_goal s ≡ row (row read_literal 44) 38 s
unfolding read_goal
goal-row s = refl

module _ (s : List ℕ) (at b : ℕ) (is : b ≡ get_or s at 0) where
  pub body-none : at ≤ length s → (eqb b 46 || eqb b 59) ≡ true →
      Spans s (read_body (drop at s)).rest (length (read_body (drop at s)).value) (goal_right (read_body (drop at s)).value) (record { end = at; count = 0; right = true })
  unfolding read_body goal_right stages_right all_of literals_in
  body-none i m = rw (first-at s at, ← is, m) (record { end = refl; inside = i; count = refl; right = refl })

  pub body-some : (t : Span) → (eqb b 46 || eqb b 59) ≡ false → Spans s (read_goal (drop at s)).rest (length (read_goal (drop at s)).value) (goal_right (read_goal (drop at s)).value) t →
      Spans s (read_body (drop at s)).rest (length (read_body (drop at s)).value) (goal_right (read_body (drop at s)).value) t
  unfolding read_body
  body-some t m v = rw (first-at s at, ← is, m) v
