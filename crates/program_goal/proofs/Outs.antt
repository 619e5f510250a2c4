-- The output equations of a clause: they are those of the arguments that are outputs, in order.
use mathlib.Core.Path.{◌∙◌, ◌≡◌, ap, refl, sym}
use mathlib.Core.Bool.{◌&&◌, Bool, cond, false, not, true}
use mathlib.Core.List.{[], ◌++◌, ◌∷◌, List}
use Prim.Native.Nat.{◌*◌, ◌+◌, ◌<◌, ◌≤◌, min, suc, zero, ℕ}
use lib.Dec.{eqb, leb}
use lib.ListN.{get_or, length}
use borrow.Author.Tests.{eqb-false, eqb-true, leb-false, leb-true, ne_eqb}
use native.Mathlib.Omega.{arith}
use native.Mathlib.Nat.{le_of_suc-le-suc, not-suc-le-zero}
use Rattle.parlog.proofs.Bools.{never, split}
use Rattle.parlog.specs.Image.{byte_at, is_input, mode_end, record_end, term_at}
use Rattle.parlog.specs.Program.{equation, Literal, modes_of, no_literal, out_count, outputs}
use Rattle.parlog.specs.Scan.{list_of, those}
use Rattle.parlog.specs.declared.Term.{Term}
use Rattle.program_clause.proofs.Turns.{item_by, size-by}
use Rattle.program_clause.specs.Parts.{is_out}
use Rattle.program_goal.specs.Parts.{clause_outs, front, outs_of}

pub no-terms : (ms : List ℕ) (v : ℕ) → outputs ms [] v ≡ []
unfolding outputs
no-terms [] v = refl
no-terms (m ∷ ms) v = refl

-- ---- one mode and one term more: in front, and behind

outs-cons : (s : List ℕ) (n mat m tat v : ℕ)
    → outs_of s (suc n) mat (suc m) tat v ≡ cond (is_input (byte_at s mat)) (outs_of s n (mat + 1) m (tat + 2) v) (equation (term_at s tat) v ∷ outs_of s n (mat + 1) m (tat + 2) (suc v))
unfolding outs_of outputs list_of
outs-cons s n mat m tat v = refl

-- the equations with one more behind them where the argument is an output
abbrev joined : Bool → List Literal → Term → ℕ → List Literal
joined b es t v = cond b (es ++ (equation t (v + length es) ∷ [])) es

last_one : (a : Bool) (t : Term) (v : ℕ) → cond a [] (equation t v ∷ []) ≡ cond (not a) (equation t v ∷ []) []
last_one true t v = refl
last_one false t v = refl

swap : (a b : Bool) (es fs : List Literal) (t u : Term) (v : ℕ) → cond a (joined (not b) es u v) (equation t v ∷ joined (not b) fs u (suc v)) ≡ joined (not b) (cond a es (equation t v ∷ fs)) u v
swap true b es fs t u v = refl
swap false true es fs t u v = refl
swap false false es fs t u v = let e : suc v + length fs ≡ v + suc (length fs) = omega arith in ap (λ (z : ℕ). equation t v ∷ (fs ++ (equation u z ∷ []))) e

outs-snoc : (s : List ℕ) (n mat tat v : ℕ) → outs_of s (suc n) mat (suc n) tat v ≡ joined (is_out s mat n) (outs_of s n mat n tat v) (term_at s (tat + 2 * n)) v
unfolding outs_of outputs list_of
outs-snoc s zero mat tat v =
    let y : mat + 0 ≡ mat = omega arith in
    let z : tat + 2 * 0 ≡ tat = omega arith in
    let w : v + 0 ≡ v = omega arith in
    rw (y, z, w) (last_one (eqb (byte_at s mat) 0) (term_at s tat) v)
outs-snoc s (suc n) mat tat v =
    let y : mat + 1 + n ≡ mat + suc n = omega arith in
    let z : tat + 2 + 2 * n ≡ tat + 2 * suc n = omega arith in
    let a = is_input (byte_at s mat) in
    let t = term_at s tat in
    let es = outs_of s n (mat + 1) n (tat + 2) v in
    let fs = outs_of s n (mat + 1) n (tat + 2) (suc v) in
    outs-cons s (suc n) mat (suc n) tat v
    ∙ ap (λ (l : List Literal). cond a l (equation t v ∷ outs_of s (suc n) (mat + 1) (suc n) (tat + 2) (suc v))) (outs-snoc s n (mat + 1) (tat + 2) v)
    ∙ ap (λ (l : List Literal). cond a (joined (is_out s (mat + 1) n) es (term_at s (tat + 2 + 2 * n)) v) (equation t v ∷ l)) (outs-snoc s n (mat + 1) (tat + 2) (suc v))
    ∙ swap a (eqb (byte_at s (mat + 1 + n)) 0) es fs t (term_at s (tat + 2 + 2 * n)) v
    ∙ ap (λ (i : ℕ). joined (not (eqb (byte_at s i) 0)) (cond a es (equation t v ∷ fs)) (term_at s (tat + 2 + 2 * n)) v) y
    ∙ ap (λ (i : ℕ). joined (is_out s mat (suc n)) (cond a es (equation t v ∷ fs)) (term_at s i) v) z
    ∙ ap (λ (l : List Literal). joined (is_out s mat (suc n)) l (term_at s (tat + 2 * suc n)) v) (sym (outs-cons s n mat n tat v))

-- ---- as the scan of the modes finds them

outs-length : (s : List ℕ) (n mat tat v : ℕ) → length (outs_of s n mat n tat v) ≡ length (those (is_out s mat) n)
unfolding outs_of outputs list_of those
outs-length s zero mat tat v = refl
outs-length s (suc n) mat tat v =
    ap length (outs-snoc s n mat tat v)
    ∙ size-by (is_out s mat n) (outs_of s n mat n tat v) (equation (term_at s (tat + 2 * n)) (v + length (outs_of s n mat n tat v)))
    ∙ ap (λ (z : ℕ). cond (is_out s mat n) (z + 1) z) (outs-length s n mat tat v)
    ∙ sym (size-by (is_out s mat n) (those (is_out s mat) n) n)

seam : (b : Bool) (l j : ℕ) → (b && eqb l j) ≡ true → l ≡ j
seam true l j e = eqb-true l j e
seam false l j e = never e

below : (b : Bool) (l j : ℕ) → (b && eqb l j) ≡ false → j < cond b (l + 1) l → j < l
below true l j e h = let ne = eqb-false l j e in omega (arith, ne)
below false l j e h = h

module _ (s : List ℕ) (tat v j : ℕ) where
  item-step : (b : Bool) (n : ℕ) (es : List Literal) (ks : List ℕ) → length es ≡ length ks → (j < length ks → equation (term_at s (tat + 2 * get_or ks j 0)) (v + j) ≡ get_or es j no_literal) → (t : Bool) → (b && eqb (length ks) j) ≡ t → j < cond b (length ks + 1) (length ks)
      → equation (term_at s (tat + 2 * get_or (cond b (ks ++ (n ∷ [])) ks) j 0)) (v + j) ≡ get_or (joined b es (term_at s (tat + 2 * n)) v) j no_literal
  item-step b n es ks el ih true e h =
      rw (item_by b ks n j 0, item_by b es (equation (term_at s (tat + 2 * n)) (v + length es)) j no_literal, el, e) (ap (λ (z : ℕ). equation (term_at s (tat + 2 * n)) (v + z)) (sym (seam b (length ks) j e)))
  item-step b n es ks el ih false e h =
      rw (item_by b ks n j 0, item_by b es (equation (term_at s (tat + 2 * n)) (v + length es)) j no_literal, el, e) (ih (below b (length ks) j e h))

outs-item : (s : List ℕ) (n mat tat v j : ℕ) → j < length (those (is_out s mat) n) → equation (term_at s (tat + 2 * get_or (those (is_out s mat) n) j 0)) (v + j) ≡ get_or (outs_of s n mat n tat v) j no_literal
unfolding those
outs-item s zero mat tat v j h = absurd (omega arith)
outs-item s (suc n) mat tat v j h =
    let ks = those (is_out s mat) n in
    item-step s tat v j (is_out s mat n) n (outs_of s n mat n tat v) ks (outs-length s n mat tat v) (outs-item s n mat tat v j) (is_out s mat n && eqb (length ks) j) refl (rw (size-by (is_out s mat n) ks n) at h)
    ∙ ap (λ (l : List Literal). get_or l j no_literal) (sym (outs-snoc s n mat tat v))

-- ---- where there are more modes than terms, or fewer

few-modes : (s : List ℕ) (n m mat tat v : ℕ) → n ≤ m → outs_of s n mat m tat v ≡ outs_of s n mat n tat v
unfolding outs_of outputs list_of
few-modes s zero m mat tat v h = refl
few-modes s (suc n) zero mat tat v h = absurd (omega arith)
few-modes s (suc n) (suc m) mat tat v h =
    ap (λ (l : List Literal). cond (is_input (byte_at s mat)) l (equation (term_at s tat) v ∷ outs_of s n (mat + 1) m (tat + 2) (suc v))) (few-modes s n m (mat + 1) (tat + 2) v (omega arith))
    ∙ ap (λ (l : List Literal). cond (is_input (byte_at s mat)) (outs_of s n (mat + 1) n (tat + 2) v) (equation (term_at s tat) v ∷ l)) (few-modes s n m (mat + 1) (tat + 2) (suc v) (omega arith))

few-terms : (s : List ℕ) (n m mat tat v : ℕ) → m ≤ n → outs_of s n mat m tat v ≡ outs_of s m mat m tat v
unfolding outs_of outputs list_of
few-terms s n zero mat tat v h = no-terms (list_of (byte_at s) mode_end n mat) v
few-terms s zero (suc m) mat tat v h = absurd (omega arith)
few-terms s (suc n) (suc m) mat tat v h =
    ap (λ (l : List Literal). cond (is_input (byte_at s mat)) l (equation (term_at s tat) v ∷ outs_of s n (mat + 1) m (tat + 2) (suc v))) (few-terms s n m (mat + 1) (tat + 2) v (omega arith))
    ∙ ap (λ (l : List Literal). cond (is_input (byte_at s mat)) (outs_of s m (mat + 1) m (tat + 2) v) (equation (term_at s tat) v ∷ l)) (few-terms s n m (mat + 1) (tat + 2) (suc v) (omega arith))

few : (s : List ℕ) (n m k mat tat v : ℕ) → k ≡ min m n → outs_of s n mat m tat v ≡ outs_of s k mat k tat v
few s n m k mat tat v e = split (leb n m)
    (λ b. let h = leb-true n m b in let z : k ≡ n = omega arith in rw z (few-modes s n m mat tat v h))
    (λ b. let h : m ≤ n = omega (arith, leb-false n m b) in let z : k ≡ m = omega arith in rw z (few-terms s n m mat tat v h))

-- ---- one for each output argument, where the head has a term for each argument

pub outs-whole : (ms : List ℕ) (ts : List Term) (v : ℕ) → length ms ≤ length ts → length (outputs ms ts v) ≡ out_count ms
unfolding outputs out_count
outs-whole [] ts v h = refl
outs-whole (m ∷ ms) [] v h = absurd (not-suc-le-zero h)
outs-whole (m ∷ ms) (t ∷ ts) v h = go (is_input m) (outs-whole ms ts v (le_of_suc-le-suc h)) (outs-whole ms ts (suc v) (le_of_suc-le-suc h))
  where
    go : (b : Bool) → length (outputs ms ts v) ≡ out_count ms → length (outputs ms ts (suc v)) ≡ out_count ms
        → length (cond b (outputs ms ts v) (equation t v ∷ outputs ms ts (suc v))) ≡ cond b (out_count ms) (suc (out_count ms))
    go true a o = a
    go false a o = ap suc o

-- ---- the ways through outs_before

module _ (body : Bool) (i : ℕ) (s : List ℕ) (r from : ℕ) {t : Bool} (et : t ≡ (body && eqb i 0)) where
  front-off : (b : Bool) (k : ℕ) → (b && eqb k 0) ≡ false → front b k s r from ≡ []
  unfolding front
  front-off false k e = refl
  front-off true zero e = never (sym e)
  front-off true (suc k) e = refl

  front-on : (b : Bool) (k : ℕ) → (b && eqb k 0) ≡ true → front b k s r from ≡ clause_outs s r from
  unfolding front
  front-on false k e = never e
  front-on true zero e = refl
  front-on true (suc k) e = never (sym (ne_eqb (suc k) 0 (λ z. omega arith)) ∙ e)

  pub before-none : t ≡ false → 0 ≡ length (front body i s r from)
  before-none e = sym (ap length (front-off body i (sym et ∙ e)))

  module _ (e : t ≡ true) {q m few-of : ℕ} (eq : q ≡ byte_at s (from + 4)) (em : m ≡ byte_at s (from + 5)) (n mat : ℕ)
      (es : list_of (byte_at s) mode_end n mat ≡ get_or (list_of (modes_of s) (record_end s) r 0) q []) (ef : few-of ≡ min m n) where
    all : outs_of s n mat m (from + 8) (byte_at s (from + 7)) ≡ clause_outs s r from
    unfolding outs_of clause_outs
    all = rw (es, eq, em)

    these : front body i s r from ≡ outs_of s few-of mat few-of (from + 8) (byte_at s (from + 7))
    these = front-on body i (sym et ∙ e) ∙ sym all ∙ few s n m few-of mat (from + 8) (byte_at s (from + 7)) ef

    pub before-count : {count : ℕ} → count ≡ length (those (is_out s mat) few-of) → count ≡ length (front body i s r from)
    before-count ec = ec ∙ sym (ap length these ∙ outs-length s few-of mat (from + 8) (byte_at s (from + 7)))

    pub before-item : (j : ℕ) {count number : ℕ} → count ≡ length (those (is_out s mat) few-of) → number ≡ get_or (those (is_out s mat) few-of) j 0
        → j < count → equation (term_at s (from + 8 + 2 * number)) (byte_at s (from + 7) + j) ≡ get_or (front body i s r from) j no_literal
    before-item j ec en h = rw (these, en) (outs-item s few-of mat (from + 8) (byte_at s (from + 7)) j (rw ec at h))
