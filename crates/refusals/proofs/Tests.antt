-- A test and the fact that it decides.
use mathlib.Core.Path.{◌∙◌, ◌≡◌, refl, sym}
use mathlib.Core.Logic.{◌↔◌, ◌⊎◌, inl, inr, ⊎_elim}
use mathlib.Core.Bool.{◌&&◌, ◌||◌, Bool, false, not, true}
use Prim.Native.Nat.{◌<◌, ◌≤◌, suc, zero, ℕ}
use lib.Dec.{eqb, leb, ltb}
use borrow.Author.Tests.{eq-eqb, eqb-true, le-leb, leb-true, lt-ltb, ltb-true, not-true}
use native.Mathlib.Omega.{arith}
use Rattle.parlog.proofs.Along.{each_at}
use Rattle.std.proofs.lemmas.Bool.{and_parts, false_from_ne_true, or_left, or_right, or_cases, and_from}
use Rattle.parlog.proofs.Bools.{implies_true, never, true_implies}
use Rattle.parlog.proofs.Scans.{every-at, every-is}
use Rattle.parlog.specs.Scan.{along, each, every, implies}

-- the test passes exactly where the fact holds
abbrev pub Decides : Bool → Type 0 → Type 0
Decides b P = (b ≡ true) ↔ P

pub less : (a b : ℕ) → Decides (ltb a b) (a < b)
less a b = (λ e. ltb-true a b e, λ h. lt-ltb a b h)

pub at_most : (a b : ℕ) → Decides (leb a b) (a ≤ b)
at_most a b = (λ e. leb-true a b e, λ h. le-leb a b h)

pub equal : (a b : ℕ) → Decides (eqb a b) (a ≡ b)
equal a b = (λ e. eqb-true a b e, λ h. eq-eqb a b h)

pub refuted : {b : Bool} {P : Type 0} → Decides b P → b ≡ false → P → ⊥
refuted d e p = never (sym e ∙ d.1 p)

pub refutes : (b : Bool) {P : Type 0} → Decides b P → (P → ⊥) → b ≡ false
refutes b d h = false_from_ne_true b (λ e. h (d.0 e))

pub and-too : (a b : Bool) {P Q : Type 0} → Decides a P → Decides b Q → Decides (a && b) (P × Q)
and-too a b d f = (λ e. let q = and_parts a b e in (d.0 q.0, f.0 q.1), λ h. and_from a b (d.1 h.0) (f.1 h.1))

pub not-that : (a : Bool) {P : Type 0} → Decides a P → Decides (not a) (P → ⊥)
not-that a d = (λ e. refuted d (not-true a e), λ h. rw (refutes a d h))

pub if-so : (a b : Bool) {P Q : Type 0} → Decides a P → (P → Decides b Q) → Decides (implies a b) (P → Q)
if-so a b d f = (λ e p. (f p).0 (implies_true a b e (d.1 p)), λ h. true_implies a b (λ e. let p = d.0 e in (f p).1 (h p)))

pub either : (a b : Bool) {P Q : Type 0} → Decides a P → Decides b Q → Decides (a || b) (P ⊎ Q)
either a b d f = (λ e. ⊎_elim (λ q. inl (d.0 q)) (λ q. inr (f.0 q)) (or_cases a b e), ⊎_elim (λ p. or_left a b (d.1 p)) (λ q. or_right a b (f.1 q)))

pub for-all : (t : ℕ → Bool) (P : ℕ → Type 0) (n : ℕ) → ((i : ℕ) → i < n → Decides (t i) (P i)) → Decides (every t n) ((i : ℕ) → i < n → P i)
for-all t P n d = (λ e i h. (d i h).0 (every-at t n i e h), λ f. every-is t n (λ i h. (d i h).1 (f i h)))

-- where each item of a row passes
pub each-is : (ok : ℕ → Bool) (next : ℕ → ℕ) (n at : ℕ) → ((i : ℕ) → i < n → ok (along next i at) ≡ true) → each ok next n at ≡ true
unfolding each along
each-is ok next zero at h = refl
each-is ok next (suc n) at h = and_from (ok at) (each ok next n (next at)) (h 0 (omega arith)) (each-is ok next n (next at) (λ i l. h (suc i) (omega arith)))

pub for-each : (ok : ℕ → Bool) (next : ℕ → ℕ) (P : ℕ → Type 0) (n at : ℕ) → ((i : ℕ) → Decides (ok (along next i at)) (P i)) → Decides (each ok next n at) ((i : ℕ) → i < n → P i)
for-each ok next P n at d = (λ e i h. (d i).0 (each_at ok next n at i e h), λ f. each-is ok next n at (λ i h. (d i).1 (f i h)))
