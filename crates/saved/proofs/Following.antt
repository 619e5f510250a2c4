-- Which kind may stand behind which.
use Rattle.std.specs.Prelude.{◌≡◌, ◌&&◌, ◌||◌, Bool, cond, eqb, false, is_some, leb, ltb, None, not, Option, Some, true, ℕ}
use Rattle.std.proofs.Common.{arith, eqb-true, ltb-false, refl, sym}
use borrow.Author.Tests.{eqb-false, not-false}
use Rattle.parlog.proofs.Bools.{never, or-false, split}
use Rattle.saved.specs.Form.{head_kind, process_kind, variable_kind}
use Rattle.saved.specs.Formed.{is_first, is_later, KindFits}
use Rattle.saved.specs.Kinds.{kind_of, number_before, number_of}
use Rattle.saved.specs.Reading.{kind_behind, kind_wrong}
use Rattle.saved.specs.declared.Kind.{Kind}
use Rattle.saved.specs.declared.Kind.TheVariants.{Head, Process, Variable}

pub follows-none : (k : Kind) → eqb (number_of k) head_kind ≡ not (kind_wrong 0 (number_of k))
unfolding kind_wrong
follows-none Head = refl
follows-none Process = refl
follows-none Variable = refl

pub follows-some : (b k : Kind) {h : Bool} → h ≡ eqb (number_of k) head_kind → (not h && leb (number_of b) (number_of k)) ≡ not (kind_wrong (number_of b) (number_of k))
unfolding kind_wrong
follows-some Head Head e = rw e
follows-some Head Process e = rw e
follows-some Head Variable e = rw e
follows-some Process Head e = rw e
follows-some Process Process e = rw e
follows-some Process Variable e = rw e
follows-some Variable Head e = rw e
follows-some Variable Process e = rw e
follows-some Variable Variable e = rw e

pub kind_fits : (before kind : ℕ) → kind_wrong before kind ≡ false → KindFits before kind
unfolding kind_wrong
kind_fits before kind e = split (eqb before 0)
    (λ z. let q : not (eqb kind head_kind) ≡ false = rw z at e in is_first (eqb-true before 0 z) (eqb-true kind head_kind (not-false (eqb kind head_kind) q)))
    (λ z. let q : (ltb kind process_kind || (ltb variable_kind kind || ltb kind before)) ≡ false = rw z at e in
    let a = or-false (ltb kind process_kind) (ltb variable_kind kind || ltb kind before) q in
    let b = or-false (ltb variable_kind kind) (ltb kind before) a.1 in
    is_later (eqb-false before 0 z) (ltb-false kind process_kind a.0) (ltb-false variable_kind kind b.0) (ltb-false kind before b.1))

-- ---- a kind and its number

abbrev IsOf : ℕ → Option Kind → Type 0
IsOf n None = (n ≡ head_kind → ⊥) × (n ≡ process_kind → ⊥) × (n ≡ variable_kind → ⊥)
IsOf n (Some k) = n ≡ number_of k

is-of : (n : ℕ) → IsOf n (kind_of n)
is-of n = split (eqb n head_kind)
    (λ a. rw a (eqb-true n head_kind a))
    (λ a. split (eqb n process_kind)
    (λ b. rw (a, b) (eqb-true n process_kind b))
    (λ b. split (eqb n variable_kind)
    (λ d. rw (a, b, d) (eqb-true n variable_kind d))
    (λ d. rw (a, b, d) (eqb-false n head_kind a, eqb-false n process_kind b, eqb-false n variable_kind d))))

-- a kind that fits is one
fits-some : (m n : ℕ) → KindFits m n → (n ≡ head_kind → ⊥) × (n ≡ process_kind → ⊥) × (n ≡ variable_kind → ⊥) → ⊥
fits-some m n (is_first z q) o = o.0 q
fits-some m n (is_later z lo hi up) o = omega (arith, o.1, o.2)

module _ (m n : ℕ) where
  pub behind-none : None ≡ kind_behind m n → kind_wrong m n ≡ true
  behind-none e = split (kind_wrong m n) (λ w. w) (λ w.
      let t : kind_of n ≡ None = sym (rw w at e) in
      absurd (fits-some m n (kind_fits m n w) (rw t at (is-of n))))

  pub behind-some : {k : Kind} → Some k ≡ kind_behind m n → (kind_wrong m n ≡ false) × (n ≡ number_of k)
  behind-some {k} e = go (kind_wrong m n) refl e
    where
      go : (b : Bool) → kind_wrong m n ≡ b → Some k ≡ cond b None (kind_of n) → (kind_wrong m n ≡ false) × (n ≡ number_of k)
      go true w z = let y : ◌≡◌ {A = ℕ} 0 1 = cc in absurd (omega arith)
      go false w z = (w, rw (← z) at (is-of n))

-- ---- the kind before

pub before-none : (b : Option Kind) {q : Bool} → is_some b ≡ not q → q ≡ true → number_before b ≡ 0
before-none None e t = refl
before-none (Some k) e t = never (sym (rw t at e))

pub before-some : (b : Option Kind) {q : Bool} → is_some b ≡ not q → q ≡ false → number_before b ≡ 0 → ⊥
before-some None e t z = never (rw t at e)
before-some (Some Head) e t z = omega arith
before-some (Some Process) e t z = omega arith
before-some (Some Variable) e t z = omega arith
