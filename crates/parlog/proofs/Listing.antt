-- Laws of lists by what is in them: there is one for each notion, and a scan gives it.
use mathlib.Core.Path.{◌∙◌, ◌≡◌, ap, refl, sym}
use mathlib.Core.Logic.{◌⊎◌, inl, inr}
use mathlib.Core.Bool.{Bool, cond, false, true}
use mathlib.Core.List.{[], ◌++◌, ◌∷◌, List}
use Prim.Native.Nat.{◌<◌, suc, zero, ℕ}
use lib.ListN.{get_or, length}
use native.Mathlib.Omega.{arith}
use native.Mathlib.Nat.{le_of_suc-le-suc, not-suc-le-zero}
use Rattle.parlog.proofs.Bools.{never}
use Rattle.parlog.proofs.Scans.{below_suc}
use Rattle.parlog.specs.Listed.{Among, at_head, further, Listed, lower_first, no_number, Rising}
use Rattle.parlog.specs.Scan.{those}

-- ---- who is among them

none-among : {k : ℕ} {ks : List ℕ} → Among k ks → ks ≡ [] → ⊥
none-among at_head e = let z : ◌≡◌ {A = ℕ} 0 1 = cc in absurd (omega arith)
none-among (further a) e = let z : ◌≡◌ {A = ℕ} 0 1 = cc in absurd (omega arith)

head-or : {k j : ℕ} {ks : List ℕ} → Among k (j ∷ ks) → (k ≡ j) ⊎ Among k ks
head-or at_head = inl refl
head-or (further a) = inr a

among-front : {k : ℕ} {ks : List ℕ} (js : List ℕ) → Among k ks → Among k (ks ++ js)
among-front js at_head = at_head
among-front js (further a) = further (among-front js a)

among-back : {k : ℕ} (ks : List ℕ) {js : List ℕ} → Among k js → Among k (ks ++ js)
among-back [] a = a
among-back (j ∷ ks) a = further (among-back ks a)

on-either : {k j : ℕ} {ks js : List ℕ} → Among k ks ⊎ Among k js → Among k (j ∷ ks) ⊎ Among k js
on-either (inl a) = inl (further a)
on-either (inr a) = inr a

among-either : {k : ℕ} (ks : List ℕ) {js : List ℕ} → Among k (ks ++ js) → Among k ks ⊎ Among k js
among-either [] a = inr a
among-either (j ∷ ks) at_head = inl at_head
among-either (j ∷ ks) (further a) = on-either (among-either ks a)

pub among-at : {k : ℕ} {ks : List ℕ} → Among k ks → (i : ℕ) × (i < length ks) × (get_or ks i 0 ≡ k)
among-at at_head = (0, omega arith, refl)
among-at (further a) = let (i, h, e) = among-at a in (suc i, omega arith, e)

-- ---- one list for each notion

rises-first : {k : ℕ} {ks : List ℕ} → Rising (k ∷ ks) → (j : ℕ) → Among j ks → k < j
rises-first (lower_first f r) = f

rises-rest : {k : ℕ} {ks : List ℕ} → Rising (k ∷ ks) → Rising ks
rises-rest (lower_first f r) = r

same_head : {k j : ℕ} {ks js : List ℕ} → Rising (k ∷ ks) → Rising (j ∷ js) → (k ≡ j) ⊎ Among k js → (j ≡ k) ⊎ Among j ks → k ≡ j
same_head r q (inl e) b = e
same_head r q (inr a) (inl e) = sym e
same_head {k} {j} r q (inr a) (inr b) = let x = rises-first q k a in let y = rises-first r j b in absurd (omega arith)

past_head : {k j i : ℕ} {ks js : List ℕ} → Rising (k ∷ ks) → k ≡ j → Among i ks → Among i (j ∷ js) → Among i js
past_head {k} r e a at_head = let x = rises-first r _ a in absurd (omega arith)
past_head r e a (further b) = b

same_numbers : (ks js : List ℕ) → Rising ks → Rising js → ((i : ℕ) → Among i ks → Among i js) → ((i : ℕ) → Among i js → Among i ks) → ks ≡ js
same_numbers [] [] r q f g = refl
same_numbers [] (j ∷ js) r q f g = absurd (none-among (g j at_head) refl)
same_numbers (k ∷ ks) [] r q f g = absurd (none-among (f k at_head) refl)
same_numbers (k ∷ ks) (j ∷ js) r q f g =
    let e : k ≡ j = same_head r q (head-or (f k at_head)) (head-or (g j at_head)) in
    let t : ks ≡ js = same_numbers ks js (rises-rest r) (rises-rest q) (λ i a. past_head r e a (f i (further a))) (λ i a. past_head q (sym e) a (g i (further a))) in
    rw (e, t)

pub listed_same : {P : ℕ → Type 0} {ks js : List ℕ} → Listed P ks → Listed P js → ks ≡ js
listed_same {ks = ks} {js} a b = same_numbers ks js a.rising b.rising (λ i q. b.all i (a.inside i q)) (λ i q. a.all i (b.inside i q))

pub listed-as : {P Q : ℕ → Type 0} {ks : List ℕ} → ((k : ℕ) → P k → Q k) → ((k : ℕ) → Q k → P k) → Listed P ks → Listed Q ks
listed-as f g a = record { rising = a.rising; inside = λ k q. f k (a.inside k q); all = λ k q. a.all k (g k q) }

pub none-listed : {P : ℕ → Type 0} → ((k : ℕ) → P k → ⊥) → Listed P []
none-listed n = record { rising = no_number; inside = λ k a. absurd (none-among a refl); all = λ k p. absurd (n k p) }

-- ---- the numbers that pass a test

rising-last : (ks : List ℕ) (n : ℕ) → Rising ks → ((j : ℕ) → Among j ks → j < n) → Rising (ks ++ (n ∷ []))
rising-last [] n r h = lower_first (λ j a. absurd (none-among a refl)) no_number
rising-last (k ∷ ks) n r h = lower_first (λ j a. go (among-either ks a)) (rising-last ks n (rises-rest r) (λ j a. h j (further a)))
  where
    go : {j : ℕ} → Among j ks ⊎ Among j (n ∷ []) → k < j
    go {j} (inl a) = rises-first r j a
    go (inr at_head) = h k at_head
    go (inr (further a)) = absurd (none-among a refl)

-- below n, and passes
abbrev pub Passes : (ℕ → Bool) → ℕ → ℕ → Type 0
Passes t n k = (k < n) × (t k ≡ true)

those-more : (t : ℕ → Bool) (n : ℕ) → t n ≡ true → {ks : List ℕ} → Listed (Passes t n) ks → Listed (Passes t (suc n)) (ks ++ (n ∷ []))
those-more t n e {ks} a = record {
  rising = rising-last ks n a.rising (λ j q. (a.inside j q).0);
  inside = λ k q. here k (among-either ks q);
  all = λ k q. below_suc k n q.0 (λ z. among-back ks (rw z at_head)) (λ l. among-front (n ∷ []) (a.all k (l, q.1)));
}
  where
    here : (k : ℕ) → Among k ks ⊎ Among k (n ∷ []) → Passes t (suc n) k
    here k (inl q) = let p = a.inside k q in (omega (arith, p.0), p.1)
    here k (inr at_head) = (omega arith, e)
    here k (inr (further q)) = absurd (none-among q refl)

those-same : (t : ℕ → Bool) (n : ℕ) → t n ≡ false → {ks : List ℕ} → Listed (Passes t n) ks → Listed (Passes t (suc n)) ks
those-same t n e a = listed-as (λ k p. (omega (arith, p.0), p.1)) (λ k p. below_suc k n p.0 (λ z. never (sym e ∙ (rw z at p.1))) (λ l. (l, p.1))) a

pub those-listed : (t : ℕ → Bool) (n : ℕ) → Listed (Passes t n) (those t n)
unfolding those
those-listed t zero = none-listed (λ k p. let l = p.0 in omega arith)
those-listed t (suc n) = go (t n) refl (those-listed t n)
  where
    go : (b : Bool) → t n ≡ b → Listed (Passes t n) (those t n) → Listed (Passes t (suc n)) (cond b (those t n ++ (n ∷ [])) (those t n))
    go true e a = those-more t n e a
    go false e a = those-same t n e a

-- ---- numbers that count on by one

unfoldable pub sucs : List ℕ → List ℕ
sucs [] = []
sucs (k ∷ ks) = suc k ∷ sucs ks

sucs-among : {k : ℕ} {ks : List ℕ} → Among k ks → Among (suc k) (sucs ks)
unfolding sucs
sucs-among at_head = at_head
sucs-among (further a) = further (sucs-among a)

among-sucs : {j : ℕ} (ks : List ℕ) → Among j (sucs ks) → (k : ℕ) × (j ≡ suc k) × Among k ks
unfolding sucs
among-sucs [] a = absurd (none-among a refl)
among-sucs (k ∷ ks) at_head = (k, refl, at_head)
among-sucs (k ∷ ks) (further a) = let (i, e, b) = among-sucs ks a in (i, e, further b)

sucs-rising : (ks : List ℕ) → Rising ks → Rising (sucs ks)
unfolding sucs
sucs-rising [] r = no_number
sucs-rising (k ∷ ks) r = lower_first {k = suc k} (λ j a. let (i, e, b) = among-sucs ks a in let l = rises-first r i b in omega arith) (sucs-rising ks (rises-rest r))

pub sucs-length : (ks : List ℕ) → length (sucs ks) ≡ length ks
unfolding sucs
sucs-length [] = refl
sucs-length (k ∷ ks) = ap suc (sucs-length ks)

pub sucs-at : (ks : List ℕ) (j : ℕ) → j < length ks → get_or (sucs ks) j 0 ≡ suc (get_or ks j 0)
unfolding sucs
sucs-at [] j h = absurd (not-suc-le-zero h)
sucs-at (k ∷ ks) zero h = refl
sucs-at (k ∷ ks) (suc j) h = sucs-at ks j (le_of_suc-le-suc h)

-- a notion that does not hold of 0, and one that does
module _ (P : ℕ → Type 0) {ks : List ℕ} (a : Listed (λ k. P (suc k)) ks) where
  from_suc : (k : ℕ) → Among k (sucs ks) → P k
  from_suc k q = let (i, e, b) = among-sucs ks q in rw e (a.inside i b)

  pub listed-skip : (P 0 → ⊥) → Listed P (sucs ks)
  listed-skip n = record { rising = sucs-rising ks a.rising; inside = from_suc; all = go }
    where
      go : (k : ℕ) → P k → Among k (sucs ks)
      go zero p = absurd (n p)
      go (suc k) p = sucs-among (a.all k p)

  pub listed-take : P 0 → Listed P (0 ∷ sucs ks)
  listed-take z = record { rising = lower_first {k = 0} (λ j q. let (i, e, b) = among-sucs ks q in omega arith) (sucs-rising ks a.rising); inside = on; all = go }
    where
      on : (k : ℕ) → Among k (0 ∷ sucs ks) → P k
      on k at_head = z
      on k (further q) = from_suc k q

      go : (k : ℕ) → P k → Among k (0 ∷ sucs ks)
      go zero p = at_head
      go (suc k) p = further (sucs-among (a.all k p))
