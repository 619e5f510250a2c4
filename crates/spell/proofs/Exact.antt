-- Where `spelling` stops is the first byte with which no text goes on.
use Rattle.std.specs.Prelude.{Result, ⊤, Ok, Err}
use mathlib.Core.Path.{◌∙◌, ◌≡◌, ap, refl}
use mathlib.Core.Bool.{Bool, false, true}
use mathlib.Core.List.{[], ◌++◌, ◌∷◌, append_assoc, List}
use Prim.Native.Nat.{◌+◌, ◌-◌, ◌<◌, ◌≤◌, suc, zero, ℕ}
use lib.Dec.{ltb}
use lib.ListN.{drop, length, take, take-append-drop}
use lib.Seq.{take-add}
use borrow.Author.Tests.{ltb-false, ltb-true}
use native.Mathlib.Omega.{arith}
use Rattle.spell.proofs.Language.{afters-back, afters-off, any-ends, ends-any, finish, finish-reads, here, Off, off_nil, there}
use Rattle.spell.specs.Forms.{Form, Reads}
use Rattle.spell.specs.Grammar.{ClauseText, text}
use Rattle.spell.specs.Stuck.{afters, any_ends, ended, goes, spelling, spelling_of, StuckAt}

-- ---- nothing is found exactly where the text can be read

ended-none : (h : Bool) (i : ℕ) → ended h i ≡ Ok tt → h ≡ true
ended-none true i e = refl
ended-none false i e = absurd (let z : ◌≡◌ {A = ℕ} 0 1 = cc in omega arith)

pub none_read : (s : List ℕ) (xs : List Form) (i : ℕ) → spelling s xs i ≡ Ok tt → Off xs s []
unfolding spelling
none_read [] xs i e = ends-any xs (ended-none (any_ends xs) i e)
none_read (b ∷ s) xs i e = afters-back b xs (go (λ ys j. none_read s ys j) (afters b xs) e)
  where
    go : ((ys : List Form) (j : ℕ) → spelling s ys j ≡ Ok tt → Off ys s []) → (l : List Form) → goes (spelling s) l i ≡ Ok tt → Off l s []
    go f [] e = absurd (let z : ◌≡◌ {A = ℕ} 0 1 = cc in omega arith)
    go f (y ∷ ys) e = f (y ∷ ys) (i + 1) e

pub read_none : (s : List ℕ) (xs : List Form) (i : ℕ) → Off xs s [] → spelling s xs i ≡ Ok tt
unfolding spelling
read_none [] xs i p = rw (any-ends xs p)
read_none (b ∷ s) xs i p = go (λ ys j. read_none s ys j) (afters b xs) (afters-off b xs p)
  where
    go : ((ys : List Form) (j : ℕ) → Off ys s [] → spelling s ys j ≡ Ok tt) → (l : List Form) → Off l s [] → goes (spelling s) l i ≡ Ok tt
    go f [] p = off_nil [] p refl
    go f (y ∷ ys) p = f (y ∷ ys) (i + 1) p

-- ---- what is found

-- as StuckAt, of a list of forms, and with the offset counted from here
pub record Here (xs : List Form) (s : List ℕ) (k : ℕ) : Type 0 where
  pub within : k ≤ length s
  pub before : (w : List ℕ) × Off xs (take k s ++ w) []
  pub past : k < length s → (w : List ℕ) → Off xs (take (suc k) s ++ w) [] → ⊥
  pub short : k ≡ length s → Off xs s [] → ⊥

abbrev Spelt-here : List Form → List ℕ → ℕ → ℕ → Type 0
Spelt-here xs s i j = (k : ℕ) × (j ≡ i + k) × Here xs s k

begins : (x : Form) (xs : List Form) → Off (x ∷ xs) (finish x ++ []) []
begins x xs = here (finish-reads x)

at-end : (x : Form) (xs : List Form) (i j : ℕ) (h : Bool) → any_ends (x ∷ xs) ≡ h → ended h i ≡ Err j → Spelt-here (x ∷ xs) [] i j
at-end x xs i j true e f = absurd (let z : ◌≡◌ {A = ℕ} 0 1 = cc in omega arith)
at-end x xs i j false e f = (
  zero,
  (let g : i ≡ j = cc in omega arith),
  record {
    within = omega arith;
    before = (finish x ++ [], begins x xs);
    past = λ l w p. absurd (omega arith);
    short = λ l p. let a = any-ends (x ∷ xs) p in let z : ◌≡◌ {A = ℕ} 0 1 = cc in omega arith;
  },
)

module _ (x : Form) (xs : List Form) (b : ℕ) (s : List ℕ) where
  at_byte : (i j : ℕ) → afters b (x ∷ xs) ≡ [] → ◌≡◌ {A = Result ⊤ ℕ} (Err i) (Err j) → Spelt-here (x ∷ xs) (b ∷ s) i j
  at_byte i j e f = (
    zero,
    (let g : i ≡ j = cc in omega arith),
    record {
      within = omega arith;
      before = (finish x ++ [], begins x xs);
      past = λ l w p. off_nil (afters b (x ∷ xs)) (afters-off b (x ∷ xs) p) e;
      short = λ l p. absurd (omega arith);
    },
  )

  further : (l : List Form) (i j : ℕ) → afters b (x ∷ xs) ≡ l → Spelt-here l s (i + 1) j → Spelt-here (x ∷ xs) (b ∷ s) i j
  further l i j e (k, f, g) = (
    suc k,
    omega arith,
    record {
      within = let h = g.within in omega arith;
      before = (g.before.0, afters-back b (x ∷ xs) (rw e g.before.1));
      past = λ h w p. g.past (omega arith) w (rw e at (afters-off b (x ∷ xs) p));
      short = λ h p. g.short (omega arith) (rw e at (afters-off b (x ∷ xs) p));
    },
  )

pub found_here : (s : List ℕ) (x : Form) (xs : List Form) (i j : ℕ) → spelling s (x ∷ xs) i ≡ Err j → Spelt-here (x ∷ xs) s i j
unfolding spelling
found_here [] x xs i j e = at-end x xs i j (any_ends (x ∷ xs)) refl e
found_here (b ∷ s) x xs i j e = go (λ y ys k. found_here s y ys k j) (afters b (x ∷ xs)) refl e
  where
    go : ((y : Form) (ys : List Form) (k : ℕ) → spelling s (y ∷ ys) k ≡ Err j → Spelt-here (y ∷ ys) s k j) →
        (l : List Form) → afters b (x ∷ xs) ≡ l → goes (spelling s) l i ≡ Err j → Spelt-here (x ∷ xs) (b ∷ s) i j
    go f [] d e = at_byte x xs b s i j d e
    go f (y ∷ ys) d e = further x xs b s (y ∷ ys) i j d (f y ys (i + 1) e)

-- ---- of clause texts

off-one : {x : Form} {s t : List ℕ} → Off (x ∷ []) s t → Reads x s t
off-one (here p) = p
off-one (there p) = off_nil [] p refl

pub accepted-right : (s : List ℕ) → spelling_of s ≡ Ok tt → ClauseText s
unfolding spelling_of ClauseText
accepted-right s e = off-one (none_read s (text ∷ []) 0 e)

pub right-accepted : (s : List ℕ) → ClauseText s → spelling_of s ≡ Ok tt
unfolding spelling_of ClauseText
right-accepted s p = read_none s (text ∷ []) 0 (here p)

pub stuck-exact : (s : List ℕ) (i : ℕ) → spelling_of s ≡ Err i → StuckAt s i
unfolding spelling_of ClauseText
stuck-exact s i e = go (found_here s text [] 0 i e)
  where
    go : Spelt-here (text ∷ []) s 0 i → StuckAt s i
    go (k, f, g) =
        let h : k ≡ i = omega arith in
        rw⁻¹ h (record {
          within = g.within;
          before = (g.before.0, off-one g.before.1);
          past = λ l w p. g.past l w (here p);
          short = λ l p. g.short l (here p);
        })

-- ---- and no other place is

not-before : (s : List ℕ) (i j : ℕ) → StuckAt s i → StuckAt s j → i < j → ⊥
not-before s i j a b h =
    let l = b.within in
    let m : j ≡ suc i + (j - suc i) = omega arith in
    let e : take j s ≡ take (suc i) s ++ take (j - suc i) (drop (suc i) s) = ap (λ (k : ℕ). take k s) m ∙ take-add (suc i) (j - suc i) s in
    a.past (omega arith) (take (j - suc i) (drop (suc i) s) ++ b.before.0) (rw (e, append_assoc) at b.before.1)

pub stuck-only : (s : List ℕ) (i j : ℕ) → StuckAt s i → StuckAt s j → i ≡ j
stuck-only s i j a b = go (ltb i j) refl (ltb j i) refl
  where
    go : (x : Bool) → ltb i j ≡ x → (y : Bool) → ltb j i ≡ y → i ≡ j
    go true e y f = absurd (not-before s i j a b (ltb-true i j e))
    go false e true f = absurd (not-before s j i b a (ltb-true j i f))
    go false e false f = let g = ltb-false i j e in let h = ltb-false j i f in omega arith

-- exactly: a text is spelling where the definition says
pub stuck-found : (s : List ℕ) (i : ℕ) → StuckAt s i → spelling_of s ≡ Err i
stuck-found s i a = go (spelling_of s) refl
  where
    go : (r : Result ⊤ ℕ) → spelling_of s ≡ r → spelling_of s ≡ Err i
    go (Err j) e = e ∙ ap Err (stuck-only s j i (stuck-exact s j e) a)
    go (Ok tt) e = absurd (wrong (accepted-right s e) (ltb i (length s)) refl)
      where
        wrong : ClauseText s → (b : Bool) → ltb i (length s) ≡ b → ⊥
        wrong p true f = a.past (ltb-true i (length s) f) (drop (suc i) s) (rw (take-append-drop (suc i) s) p)
        wrong p false f = let g = ltb-false i (length s) f in let h = a.within in a.short (omega arith) p
