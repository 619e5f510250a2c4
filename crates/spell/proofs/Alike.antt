-- Bytes that a form does not tell apart.
use mathlib.Core.Path.{◌≡◌, refl}
use mathlib.Core.Bool.{◌&&◌, Bool, beq, false, true}
use mathlib.Core.List.{[], ◌++◌, ◌∷◌, List}
use Prim.Native.Nat.{ℕ}
use native.Mathlib.Omega.{arith}
use Rattle.std.proofs.lemmas.Bool.{and_parts}
use Rattle.spell.proofs.Language.{both}
use Rattle.spell.specs.Forms.{◌or◌, ◌then◌, Form, in_span, many, nothing, span}
use Rattle.spell.specs.Stuck.{after, afters, all_behind, behind, ends, hit, only}

-- each span of the form has both bytes or neither
unfoldable pub alike : ℕ → ℕ → Form → Bool
alike b r nothing = true
alike b r (span a n) = beq (in_span a n b) (in_span a n r)
alike b r (x then y) = alike b r x && alike b r y
alike b r (x or y) = alike b r x && alike b r y
alike b r (many x) = alike b r x

unfoldable pub alikes : ℕ → ℕ → List Form → Bool
alikes b r [] = true
alikes b r (x ∷ xs) = alike b r x && alikes b r xs

pub beq-is : (a b : Bool) → beq a b ≡ true → a ≡ b
beq-is true true e = refl
beq-is true false e = absurd (let z : ◌≡◌ {A = ℕ} 0 1 = cc in omega arith)
beq-is false true e = absurd (let z : ◌≡◌ {A = ℕ} 0 1 = cc in omega arith)
beq-is false false e = refl

module _ (b r : ℕ) where
  pub after-alike : (x : Form) → alike b r x ≡ true → after b x ≡ after r x
  unfolding alike after
  after-alike nothing e = refl
  after-alike (span a n) e = rw (beq-is (in_span a n b) (in_span a n r) e)
  after-alike (x then y) e = let w = and_parts (alike b r x) (alike b r y) e in rw (after-alike x w.0, after-alike y w.1)
  after-alike (x or y) e = let w = and_parts (alike b r x) (alike b r y) e in rw (after-alike x w.0, after-alike y w.1)
  after-alike (many x) e = rw (after-alike x e)

  pub afters-alike : (xs : List Form) → alikes b r xs ≡ true → afters b xs ≡ afters r xs
  unfolding alikes afters
  afters-alike [] e = refl
  afters-alike (x ∷ xs) e = let w = and_parts (alike b r x) (alikes b r xs) e in rw (after-alike x w.0, afters-alike xs w.1)

  -- what may follow tells no more apart
  append-alikes : (xs ys : List Form) → alikes b r xs ≡ true → alikes b r ys ≡ true → alikes b r (xs ++ ys) ≡ true
  unfolding alikes
  append-alikes [] ys e f = f
  append-alikes (x ∷ xs) ys e f = let w = and_parts (alike b r x) (alikes b r xs) e in both w.0 (append-alikes xs ys w.1 f)

  behind-alike : (x y : Form) → alike b r x ≡ true → alike b r y ≡ true → alike b r (behind x y) ≡ true
  unfolding alike behind
  behind-alike nothing y e f = f
  behind-alike (span a n) y e f = both e f
  behind-alike (x then z) y e f = let w = and_parts (alike b r x) (alike b r z) e in both w.0 (behind-alike z y w.1 f)
  behind-alike (x or z) y e f = both e f
  behind-alike (many x) y e f = both e f

  all-alikes : (xs : List Form) (y : Form) → alikes b r xs ≡ true → alike b r y ≡ true → alikes b r (all_behind xs y) ≡ true
  unfolding alikes all_behind
  all-alikes [] y e f = refl
  all-alikes (x ∷ xs) y e f = let w = and_parts (alike b r x) (alikes b r xs) e in both (behind-alike x y w.0 f) (all-alikes xs y w.1 f)

  hit-alikes : (h : Bool) → alikes b r (hit h) ≡ true
  unfolding alikes alike
  hit-alikes true = refl
  hit-alikes false = refl

  only-alikes : (h : Bool) (xs : List Form) → alikes b r xs ≡ true → alikes b r (only h xs) ≡ true
  unfolding alikes
  only-alikes true xs e = e
  only-alikes false xs e = refl

  after-keeps : (d : ℕ) (x : Form) → alike b r x ≡ true → alikes b r (after d x) ≡ true
  unfolding alike after
  after-keeps d nothing e = hit-alikes false
  after-keeps d (span a n) e = hit-alikes (in_span a n d)
  after-keeps d (x then y) e =
      let w = and_parts (alike b r x) (alike b r y) e in
      append-alikes (all_behind (after d x) y) (only (ends x) (after d y)) (all-alikes (after d x) y (after-keeps d x w.0) w.1) (only-alikes (ends x) (after d y) (after-keeps d y w.1))
  after-keeps d (x or y) e =
      let w = and_parts (alike b r x) (alike b r y) e in append-alikes (after d x) (after d y) (after-keeps d x w.0) (after-keeps d y w.1)
  after-keeps d (many x) e = all-alikes (after d x) (many x) (after-keeps d x e) e

  pub afters-keep : (d : ℕ) (xs : List Form) → alikes b r xs ≡ true → alikes b r (afters d xs) ≡ true
  unfolding alikes afters
  afters-keep d [] e = refl
  afters-keep d (x ∷ xs) e = let w = and_parts (alike b r x) (alikes b r xs) e in append-alikes (after d x) (afters d xs) (after-keeps d x w.0) (afters-keep d xs w.1)
