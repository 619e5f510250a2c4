-- What may follow a byte is what the grammar reads.
use mathlib.Core.Path.{◌≡◌, refl}
use mathlib.Core.Bool.{◌&&◌, ◌||◌, Bool, false, true}
use mathlib.Core.List.{[], ◌++◌, ◌∷◌, append_assoc, List}
use Prim.Native.Nat.{◌+◌, ℕ}
use borrow.Author.Tests.{le-leb}
use native.Mathlib.Omega.{arith}
use Rattle.std.proofs.lemmas.Bool.{and_parts}
use Rattle.spell.specs.Forms.{◌or◌, ◌then◌, Form, in_span, many, nothing, read_byte, read-end, read_left, read_more, read_none, read_right, read_then, Reads, span}
use Rattle.spell.specs.Stuck.{after, afters, all_behind, any_ends, behind, ends, hit, only}

-- ---- Booleans

pub both : {a b : Bool} → a ≡ true → b ≡ true → (a && b) ≡ true
both e f = rw (e, f)

left_or : {a : Bool} (b : Bool) → a ≡ true → (a || b) ≡ true
left_or b e = rw e

right_or : (a : Bool) {b : Bool} → b ≡ true → (a || b) ≡ true
right_or true e = refl
right_or false e = e

pub or_cases : {P : Type 0} (a b : Bool) → (a || b) ≡ true → (a ≡ true → P) → (b ≡ true → P) → P
or_cases true b e f g = f refl
or_cases false b e f g = g e

-- ---- one of a list of forms is read

pub data Off : List Form → List ℕ → List ℕ → Type 0 where
  here : {x : Form} {xs : List Form} {s t : List ℕ} → Reads x s t → Off (x ∷ xs) s t
  there : {x : Form} {xs : List Form} {s t : List ℕ} → Off xs s t → Off (x ∷ xs) s t

pub off_nil : {P : Type 0} (xs : List Form) {s t : List ℕ} → Off xs s t → xs ≡ [] → P
off_nil xs (here p) e = absurd (let z : ◌≡◌ {A = ℕ} 0 1 = cc in omega arith)
off_nil xs (there p) e = absurd (let z : ◌≡◌ {A = ℕ} 0 1 = cc in omega arith)

off-left : {xs : List Form} {s t : List ℕ} (ys : List Form) → Off xs s t → Off (xs ++ ys) s t
off-left ys (here p) = here p
off-left ys (there p) = there (off-left ys p)

off-right : (xs : List Form) {ys : List Form} {s t : List ℕ} → Off ys s t → Off (xs ++ ys) s t
off-right [] p = p
off-right (x ∷ xs) p = there (off-right xs p)

off-cases : {P : Type 0} (xs ys : List Form) {s t : List ℕ} → Off (xs ++ ys) s t → (Off xs s t → P) → (Off ys s t → P) → P
off-cases [] ys p f g = g p
off-cases (x ∷ xs) ys (here p) f g = f (here p)
off-cases (x ∷ xs) ys (there p) f g = off-cases xs ys p (λ o. f (there o)) g

-- ---- rows of forms

behind-reads : {x y : Form} {s t u : List ℕ} → Reads x s t → Reads y t u → Reads (behind x y) s u
unfolding behind
behind-reads read_none q = q
behind-reads (read_byte e) q = read_then (read_byte e) q
behind-reads (read_then a b) q = read_then a (behind-reads b q)
behind-reads (read_left a) q = read_then (read_left a) q
behind-reads (read_right a) q = read_then (read_right a) q
behind-reads read-end q = read_then read-end q
behind-reads (read_more a b) q = read_then (read_more a b) q

rejoin : {x z y : Form} {s t u : List ℕ} → Reads x s t → Reads (z then y) t u → Reads ((x then z) then y) s u
rejoin a (read_then b d) = read_then (read_then a b) d

behind-back : (x : Form) {y : Form} {s u : List ℕ} → Reads (behind x y) s u → Reads (x then y) s u
unfolding behind
behind-back nothing p = read_then read_none p
behind-back (span a n) p = p
behind-back (x then z) (read_then a b) = rejoin a (behind-back z b)
behind-back (x or z) p = p
behind-back (many x) p = p

all-behind : {xs : List Form} {y : Form} {s t u : List ℕ} → Off xs s t → Reads y t u → Off (all_behind xs y) s u
unfolding all_behind
all-behind (here p) q = here (behind-reads p q)
all-behind (there p) q = there (all-behind p q)

-- what Off (allBehind xs y) holds
data Behind (xs : List Form) (y : Form) (s u : List ℕ) : Type 0 where
  parts : {t : List ℕ} → Off xs s t → Reads y t u → Behind xs y s u

behind-there : {x : Form} {xs : List Form} {y : Form} {s u : List ℕ} → Behind xs y s u → Behind (x ∷ xs) y s u
behind-there (parts a b) = parts (there a) b

behind-here : {x : Form} {xs : List Form} {y : Form} {s u : List ℕ} → Reads (x then y) s u → Behind (x ∷ xs) y s u
behind-here (read_then a b) = parts (here a) b

all_back : (xs : List Form) {y : Form} {s u : List ℕ} → Off (all_behind xs y) s u → Behind xs y s u
unfolding all_behind
all_back [] p = off_nil [] p refl
all_back (x ∷ xs) (here p) = behind-here (behind-back x p)
all_back (x ∷ xs) (there p) = behind-there (all_back xs p)

-- ---- what may follow a byte can be read behind it

pub ends-reads : (x : Form) → ends x ≡ true → {s : List ℕ} → Reads x s s
unfolding ends
ends-reads nothing e = read_none
ends-reads (span a n) e = absurd (let z : ◌≡◌ {A = ℕ} 0 1 = cc in omega arith)
ends-reads (x then y) e =
    let w = and_parts (ends x) (ends y) e in read_then (ends-reads x w.0) (ends-reads y w.1)
ends-reads (x or y) e = or_cases (ends x) (ends y) e (λ f. read_left (ends-reads x f)) (λ f. read_right (ends-reads y f))
ends-reads (many x) e = read-end

hit-back : (a n b : ℕ) (h : Bool) → in_span a n b ≡ h → {s t : List ℕ} → Off (hit h) s t → Reads (span a n) (b ∷ s) t
hit-back a n b true e (here read_none) = read_byte e
hit-back a n b true e (there p) = off_nil [] p refl
hit-back a n b false e p = off_nil [] p refl

only-back : {P : Type 0} (h : Bool) {xs : List Form} {s t : List ℕ} → Off (only h xs) s t → (h ≡ true → Off xs s t → P) → P
only-back true p f = f refl p
only-back false p f = off_nil [] p refl

then-back : {x y : Form} {xs : List Form} {b : ℕ} {s u : List ℕ} → Behind xs y s u → ((t : List ℕ) → Off xs s t → Reads x (b ∷ s) t) → Reads (x then y) (b ∷ s) u
then-back (parts {t} a q) f = read_then (f t a) q

more-back : {x : Form} {xs : List Form} {b : ℕ} {s u : List ℕ} → Behind xs (many x) s u → ((t : List ℕ) → Off xs s t → Reads x (b ∷ s) t) → Reads (many x) (b ∷ s) u
more-back (parts {t} a q) f = read_more (f t a) q

pub after-back : (b : ℕ) (x : Form) {s t : List ℕ} → Off (after b x) s t → Reads x (b ∷ s) t
unfolding after
after-back b nothing p = off_nil [] p refl
after-back b (span a n) p = hit-back a n b (in_span a n b) refl p
after-back b (x then y) {s} {t} p =
    off-cases (all_behind (after b x) y) (only (ends x) (after b y)) p
    (λ o. then-back (all_back (after b x) o) (λ u q. after-back b x q))
    (λ o. only-back (ends x) o (λ e q. read_then (ends-reads x e) (after-back b y q)))
after-back b (x or y) p = off-cases (after b x) (after b y) p (λ o. read_left (after-back b x o)) (λ o. read_right (after-back b y o))
after-back b (many x) p = more-back (all_back (after b x) p) (λ u q. after-back b x q)

-- ---- and the other way: a form reads nothing, or what may follow the first byte is read behind that

pub data Went : Form → List ℕ → List ℕ → Type 0 where
  still : {x : Form} {w : List ℕ} → ends x ≡ true → Went x w w
  on : {x : Form} {b : ℕ} {s t : List ℕ} → Off (after b x) s t → Went x (b ∷ s) t

hit-off : {h : Bool} {s : List ℕ} → h ≡ true → Off (hit h) s s
hit-off {h} {s} e = rw e (here read_none)

only-off : {h : Bool} {xs : List Form} {s t : List ℕ} → h ≡ true → Off xs s t → Off (only h xs) s t
only-off e p = rw e p

went_then : {x y : Form} {w t u : List ℕ} → Went x w t → Reads y t u → Went y t u → Went (x then y) w u
unfolding ends after
went_then (still e) q (still f) = still (both e f)
went_then {x} {y} (still e) q (on {b = b} o) = on (off-right (all_behind (after b x) y) (only-off e o))
went_then {x} {y} (on {b = b} o) q k = on (off-left (only (ends x) (after b y)) (all-behind o q))

went-left : {x y : Form} {w t : List ℕ} → Went x w t → Went (x or y) w t
unfolding ends after
went-left {x} {y} (still e) = still (left_or (ends y) e)
went-left {x} {y} (on {b = b} o) = on (off-left (after b y) o)

went-right : {x y : Form} {w t : List ℕ} → Went y w t → Went (x or y) w t
unfolding ends after
went-right {x} {y} (still e) = still (right_or (ends x) e)
went-right {x} {y} (on {b = b} o) = on (off-right (after b x) o)

went-more : {x : Form} {w t u : List ℕ} → Went x w t → Reads (many x) t u → Went (many x) t u → Went (many x) w u
unfolding ends after
went-more (still e) q k = k
went-more (on o) q k = on (all-behind o q)

pub went : {x : Form} {w t : List ℕ} → Reads x w t → Went x w t
unfolding ends after
went read_none = still refl
went (read_byte e) = on (hit-off e)
went (read_then p q) = went_then (went p) q (went q)
went (read_left p) = went-left (went p)
went (read_right p) = went-right (went p)
went read-end = still refl
went (read_more p q) = went-more (went p) q (went q)

-- ---- lists of forms

pub afters-back : (b : ℕ) (xs : List Form) {s t : List ℕ} → Off (afters b xs) s t → Off xs (b ∷ s) t
unfolding afters
afters-back b [] p = off_nil [] p refl
afters-back b (x ∷ xs) p = off-cases (after b x) (afters b xs) p (λ o. here (after-back b x o)) (λ o. there (afters-back b xs o))

went_on : {x : Form} {b : ℕ} {s : List ℕ} → Went x (b ∷ s) [] → Off (after b x) s []
went_on (on o) = o

pub afters-off : (b : ℕ) (xs : List Form) {s : List ℕ} → Off xs (b ∷ s) [] → Off (afters b xs) s []
unfolding afters
afters-off b [] {s = s} x' = elim x' [ ]
afters-off b (x ∷ xs) (here p) = off-left (afters b xs) (went_on (went p))
afters-off b (x ∷ xs) (there p) = off-right (after b x) (afters-off b xs p)

went-ends : {x : Form} {t : List ℕ} → Went x [] t → ends x ≡ true
went-ends (still e) = e

pub any-ends : (xs : List Form) {t : List ℕ} → Off xs [] t → any_ends xs ≡ true
unfolding any_ends
any-ends [] {t = t} x' = elim x' [ ]
any-ends (x ∷ xs) (here p) = left_or (any_ends xs) (went-ends (went p))
any-ends (x ∷ xs) (there p) = right_or (ends x) (any-ends xs p)

pub ends-any : (xs : List Form) → any_ends xs ≡ true → {s : List ℕ} → Off xs s s
unfolding any_ends
ends-any [] e = absurd (let z : ◌≡◌ {A = ℕ} 0 1 = cc in omega arith)
ends-any (x ∷ xs) e = or_cases (ends x) (any_ends xs) e (λ f. here (ends-reads x f)) (λ f. there (ends-any xs f))

-- ---- each form can be read off something

pub finish : Form → List ℕ
finish nothing = []
finish (span a n) = a ∷ []
finish (x then y) = finish x ++ finish y
finish (x or y) = finish x
finish (many x) = []

pub finish-reads : (x : Form) {s : List ℕ} → Reads x (finish x ++ s) s
unfolding finish
finish-reads nothing = read_none
finish-reads (span a n) = read_byte (both (le-leb a a (omega arith)) (le-leb a (a + n) (omega arith)))
finish-reads (x then y) {s} = rw append_assoc (read_then (finish-reads x) (finish-reads y))
finish-reads (x or y) = read_left (finish-reads x)
finish-reads (many x) = read-end
