-- The scans by number, a turn of their loop at a time.
use mathlib.Core.Path.{◌∙◌, ◌≡◌, ap, refl, sym}
use mathlib.Core.Bool.{◌&&◌, Bool, cond, false, true}
use mathlib.Core.List.{[], ◌++◌, ◌∷◌, List}
use Prim.Native.Nat.{◌+◌, ◌≤◌, ℕ}
use lib.Dec.{eqb, ltb}
use lib.ListN.{get_or, length, length-append, get_or-append, get_or-eq_default}
use lib.Seq.{get_or-append_seam}
use borrow.Author.Tests.{eqb-false, eqb-true, ltb-false, ltb-true}
use native.Mathlib.Omega.{arith}
use native.Mathlib.Numerals.{add-one}
use Rattle.parlog.specs.Scan.{those}

-- a list with one more behind it: its length, and its items at the seam and elsewhere
module _ {A : Type 0} where
  pub size-by : (b : Bool) (l : List A) (x : A) → length (cond b (l ++ (x ∷ [])) l) ≡ cond b (length l + 1) (length l)
  size-by true l x = length-append l (x ∷ [])
  size-by false l x = refl

  elsewhere : (l : List A) (x : A) (j : ℕ) (d : A) (near : Bool) → ltb j (length l) ≡ near → (length l ≡ j → ⊥) → get_or (l ++ (x ∷ [])) j d ≡ get_or l j d
  elsewhere l x j d true e ne = get_or-append l (x ∷ []) d j (ltb-true j (length l) e)
  elsewhere l x j d false e ne =
      let h : length l ≤ j = ltb-false j (length l) e in
      let g : length (l ++ (x ∷ [])) ≡ length l + 1 = length-append l (x ∷ []) in
      get_or-eq_default (l ++ (x ∷ [])) d (omega (arith, ne)) ∙ sym (get_or-eq_default l d h)

  snoc-by : (l : List A) (x : A) (j : ℕ) (d : A) (seam : Bool) → eqb (length l) j ≡ seam → get_or (l ++ (x ∷ [])) j d ≡ cond seam x (get_or l j d)
  snoc-by l x j d true e = ap (λ (i : ℕ). get_or (l ++ (x ∷ [])) i d) (sym (eqb-true (length l) j e)) ∙ get_or-append_seam l x [] d
  snoc-by l x j d false e = elsewhere l x j d (ltb j (length l)) refl (eqb-false (length l) j e)

  pub item_by : (b : Bool) (l : List A) (x : A) (j : ℕ) (d : A) → get_or (cond b (l ++ (x ∷ [])) l) j d ≡ cond (b && eqb (length l) j) x (get_or l j d)
  item_by true l x j d = snoc-by l x j d (eqb (length l) j) refl
  item_by false l x j d = refl

-- the numbers that pass a test, one number more
module _ (test : ℕ → Bool) (k : ℕ) where
  pub size-more : length (those test (k + 1)) ≡ cond (test k) (length (those test k) + 1) (length (those test k))
  unfolding those
  size-more = rw (add-one k) (size-by (test k) (those test k) k)

  item-more : (j d : ℕ) → get_or (those test (k + 1)) j d ≡ cond (test k && eqb (length (those test k)) j) k (get_or (those test k) j d)
  unfolding those
  item-more j d = rw (add-one k) (item_by (test k) (those test k) k j d)

  module _ {new : Bool} (e : new ≡ test k) where
    pub size-turn : {n m : ℕ} → n ≡ length (those test k) → m ≡ cond new (n + 1) n → m ≡ length (those test (k + 1))
    size-turn {n} en em = em ∙ ap (λ (z : Bool). cond z (n + 1) n) e ∙ ap (λ (z : ℕ). cond (test k) (z + 1) z) en ∙ sym size-more

    pub item-turn : (j d : ℕ) {n x y : ℕ} → n ≡ length (those test k) → x ≡ get_or (those test k) j d → y ≡ cond (new && eqb n j) k x → y ≡ get_or (those test (k + 1)) j d
    item-turn j d {n} {x} en ex ey =
        ey ∙ ap (λ (z : Bool). cond (z && eqb n j) k x) e
        ∙ ap (λ (z : ℕ). cond (test k && eqb z j) k x) en
        ∙ ap (λ (z : ℕ). cond (test k && eqb (length (those test k)) j) k z) ex
        ∙ sym (item-more j d)

-- before the first
module _ (test : ℕ → Bool) where
  pub size-start : 0 ≡ length (those test 0)
  unfolding those
  size-start = refl

  pub item-start : (j d : ℕ) → d ≡ get_or (those test 0) j d
  unfolding those
  item-start j d = refl
