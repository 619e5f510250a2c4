-- The tests of one record, as the code makes them.
use Rattle.std.specs.Prelude.{None, Some}
use mathlib.Core.Path.{◌∙◌, ◌≡◌, refl, sym}
use mathlib.Core.Bool.{◌&&◌, ◌||◌, Bool, cond, false, not, true}
use mathlib.Core.List.{List}
use Prim.Native.Nat.{◌+◌, ◌-◌, ◌<◌, ◌≤◌, ℕ}
use lib.Dec.{eqb, ltb}
use lib.ListN.{length}
use borrow.Author.Tests.{eq-eqb, eqb-false, eqb-true, le-ltb, lt-ltb, ltb-false, ltb-true, ne_eqb, not-false}
use native.Mathlib.Omega.{arith}
use Rattle.parlog.proofs.Bools.{or-false, split}
use Rattle.parlog.proofs.Walk.{whole}
use Rattle.parlog.specs.Records.{cut, kind_at, record_end, word_at}
use Rattle.saved.specs.Form.{current_rule, former_length, head_kind, length_of}
use Rattle.saved.specs.Reading.{fault_at, former, form_fault, kind_wrong, length_wrong, rule_at, rule_wrong, some_fault}

left_over : (n at w : ℕ) → at ≤ n → ltb (n - at) w ≡ ltb n (at + w)
left_over n at w h = split (ltb (n - at) w)
    (λ e. let u : n - at < w = ltb-true (n - at) w e in e ∙ sym (lt-ltb n (at + w) (omega arith)))
    (λ e. let u : w ≤ n - at = ltb-false (n - at) w e in e ∙ sym (le-ltb n (at + w) (omega arith)))

module _ (s : List ℕ) (at : ℕ) (h : at < length s) where
  -- fewer than four bytes are left
  pub cut_short : length s - at < 4 → true ≡ cut s at
  unfolding cut
  cut_short u =
      let e : ltb (length s) (at + 4) ≡ true = lt-ltb (length s) (at + 4) (omega arith) in
      rw e

  pub cut-long : {w : ℕ} {b : Bool} → 4 ≤ length s - at → w ≡ word_at s at → b ≡ (ltb w 4 || ltb (length s - at) w) → b ≡ cut s at
  unfolding cut
  cut-long {w} u ew eb =
      let e : ltb (length s) (at + 4) ≡ false = le-ltb (length s) (at + 4) (omega arith) in
      eb ∙ rw (left_over (length s) at w (omega arith), e, ew)

-- a record that is not cut has its front
pub begun : (s : List ℕ) (at : ℕ) → cut s at ≡ false → at + 4 ≤ length s
unfolding cut
begun s at e = ltb-false (length s) (at + 4) (or-false (ltb (length s) (at + 4)) (ltb (word_at s at) 4 || ltb (length s) (record_end s at)) e).0

-- ---- 2, 3, 4, or none

module _ (s : List ℕ) (before at : ℕ) where
  pub fault-two : {b : Bool} → b ≡ cut s at → b ≡ true → 2 ≡ fault_at s before at
  unfolding fault_at
  fault-two e t = rw (sym e ∙ t)

  module _ {b : Bool} (e : b ≡ cut s at) (t : b ≡ false) {k : ℕ} (ek : k ≡ kind_at s at) {q : Bool} (eq : q ≡ kind_wrong before k) where
    pub fault-three : q ≡ true → 3 ≡ fault_at s before at
    unfolding fault_at
    fault-three u = let z : kind_wrong before (kind_at s at) ≡ true = rw ek at (sym eq ∙ u) in rw (sym e ∙ t, z)

    pub fault-form : q ≡ false → {n : ℕ} → n ≡ form_fault s at → n ≡ fault_at s before at
    unfolding fault_at
    fault-form u en = let y : kind_wrong before (kind_at s at) ≡ false = rw ek at (sym eq ∙ u) in rw (sym e ∙ t, y) en

-- a number is told or not
module _ {n : ℕ} where
  pub fault-told : {k : ℕ} → Some k ≡ some_fault n → (k ≡ n) × (k ≡ 0 → ⊥)
  fault-told {k} e = go (eqb n 0) refl e
    where
      go : (b : Bool) → eqb n 0 ≡ b → Some k ≡ cond b None (Some n) → (k ≡ n) × (k ≡ 0 → ⊥)
      go true eb z = let w : ◌≡◌ {A = ℕ} 0 1 = cc in absurd (omega arith)
      go false eb z = let w : k ≡ n = cc in (w, λ q. eqb-false n 0 eb (sym w ∙ q))

  pub fault-untold : None ≡ some_fault n → 0 ≡ n
  fault-untold e = go (eqb n 0) refl e
    where
      go : (b : Bool) → eqb n 0 ≡ b → None ≡ cond b None (Some n) → 0 ≡ n
      go true eb z = sym (eqb-true n 0 eb)
      go false eb z = let w : ◌≡◌ {A = ℕ} 0 1 = cc in absurd (omega arith)

-- ---- the form of a record

module _ (s : List ℕ) (at : ℕ) {k : ℕ} (ek : k ≡ kind_at s at) {w : ℕ} (ew : w ≡ word_at s at) {b : Bool} (eb : b ≡ (eqb k head_kind && eqb w former_length)) where
  same-former : former s at ≡ b
  unfolding former
  same-former = sym (eb ∙ rw (ek, ew))

  pub form-former : b ≡ true → 18 ≡ form_fault s at
  unfolding form_fault
  form-former t = rw (same-former, t)

  module _ (t : b ≡ false) {z : ℕ} (ez : z ≡ length_of k) where
    pub form-long : (w ≡ z → ⊥) → 4 ≡ form_fault s at
    unfolding form_fault length_wrong
    form-long n =
        let v : eqb (word_at s at) (length_of (kind_at s at)) ≡ false = ne_eqb (word_at s at) (length_of (kind_at s at)) (λ x. n (ew ∙ x ∙ rw (← ek) (sym ez))) in
        rw (same-former, t, v)

    module _ (n : w ≡ z) where
      rightly : eqb (word_at s at) (length_of (kind_at s at)) ≡ true
      rightly = eq-eqb (word_at s at) (length_of (kind_at s at)) (sym ew ∙ n ∙ ez ∙ rw ek)

      pub form-other : (k ≡ head_kind → ⊥) → 0 ≡ form_fault s at
      unfolding form_fault length_wrong rule_wrong
      form-other o = rw (same-former, t, rightly, ne_eqb (kind_at s at) head_kind (λ x. o (ek ∙ x)))

      pub form-rule : k ≡ head_kind → {m r : ℕ} → m ≡ rule_at s at → r ≡ cond (not (eqb m current_rule)) 18 0 → r ≡ form_fault s at
      unfolding form_fault length_wrong rule_wrong
      form-rule o em er = rw (same-former, t, rightly, eq-eqb (kind_at s at) head_kind (sym ek ∙ o), ← em) er

      pub rule-inside : k ≡ head_kind → cut s at ≡ false → at + 17 < length s
      rule-inside o u =
          let a = whole s at u in
          let y : length_of k ≡ 18 = rw o in
          omega arith

-- ---- and back

-- a record without fault
pub record Passes (s : List ℕ) (before at : ℕ) : Type 0 where
  pub uncut : cut s at ≡ false
  pub kind : kind_wrong before (kind_at s at) ≡ false
  pub form : form_fault s at ≡ 0

pub passes : (s : List ℕ) (before at : ℕ) → fault_at s before at ≡ 0 → Passes s before at
unfolding fault_at
passes s before at e = go (cut s at) refl (kind_wrong before (kind_at s at)) refl e
  where
    go : (b : Bool) → cut s at ≡ b → (k : Bool) → kind_wrong before (kind_at s at) ≡ k → cond b 2 (cond k 3 (form_fault s at)) ≡ 0 → Passes s before at
    go true eb k ek z = absurd (omega arith)
    go false eb true ek z = absurd (omega arith)
    go false eb false ek z = record { uncut = eb; kind = ek; form = z }

-- what each test of the form tells
pub data Form (s : List ℕ) (at : ℕ) : ℕ → Type 0 where
  is-former : former s at ≡ true → Form s at 18
  is-wrong : former s at ≡ false → length_wrong s at ≡ true → Form s at 4
  is-old : former s at ≡ false → length_wrong s at ≡ false → rule_wrong s at ≡ true → Form s at 18
  is_right : former s at ≡ false → length_wrong s at ≡ false → rule_wrong s at ≡ false → Form s at 0

pub form_of : (s : List ℕ) (at : ℕ) → Form s at (form_fault s at)
unfolding form_fault
form_of s at = go (former s at) refl (length_wrong s at) refl (rule_wrong s at) refl
  where
    go : (a : Bool) → former s at ≡ a → (q : Bool) → length_wrong s at ≡ q → (r : Bool) → rule_wrong s at ≡ r → Form s at (cond a 18 (cond q 4 (cond r 18 0)))
    go true ea q eq r er = is-former ea
    go false ea true eq r er = is-wrong ea eq
    go false ea false eq true er = is-old ea eq er
    go false ea false eq false er = is_right ea eq er

pub record Right (s : List ℕ) (at : ℕ) : Type 0 where
  pub unformer : former s at ≡ false
  pub long : length_wrong s at ≡ false
  pub rule : rule_wrong s at ≡ false

pub form-right : (s : List ℕ) (at n : ℕ) → n ≡ 0 → Form s at n → Right s at
form-right s at n e (is-former a) = absurd (omega arith)
form-right s at n e (is-wrong a b) = absurd (omega arith)
form-right s at n e (is-old a b d) = absurd (omega arith)
form-right s at n e (is_right a b d) = record { unformer = a; long = b; rule = d }

pub long-is : (s : List ℕ) (at : ℕ) → form_fault s at ≡ 0 → word_at s at ≡ length_of (kind_at s at)
unfolding length_wrong
long-is s at e =
    eqb-true (word_at s at) (length_of (kind_at s at)) (not-false (eqb (word_at s at) (length_of (kind_at s at))) (form-right s at (form_fault s at) e (form_of s at)).long)

pub rule_is : (s : List ℕ) (at : ℕ) → rule_wrong s at ≡ false → kind_at s at ≡ head_kind → rule_at s at ≡ current_rule
unfolding rule_wrong
rule_is s at e k =
    let a : not (eqb (rule_at s at) current_rule) ≡ false = rw (eq-eqb (kind_at s at) head_kind k) at e in
    eqb-true (rule_at s at) current_rule (not-false (eqb (rule_at s at) current_rule) a)
