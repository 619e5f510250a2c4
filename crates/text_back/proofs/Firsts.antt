-- Names by first appearance have the numbers by which they were named.
use mathlib.Core.Path.{◌∙◌, ◌≡◌, ap, refl}
use mathlib.Core.Logic.{◌≢◌}
use mathlib.Core.Bool.{false}
use mathlib.Core.List.{[], ◌∷◌, List, map}
use Prim.Native.Nat.{◌<◌, ◌≤◌, suc, zero, ℕ}
use lib.ListN.{length, length-append}
use borrow.Author.Tests.{le-ltb, lt-ltb}
use native.Mathlib.Omega.{arith}
use Rattle.std.proofs.lemmas.Bool.{false_from_ne_true}
use Rattle.parlog.proofs.Scans.{below_suc}
use Rattle.parlog.specs.Orders.{Each}
use Rattle.text_back.specs.Back.{Appear, Distinct, first_time, firsts, met_before, no_more}
use Rattle.text_names.proofs.Looked.{look-behind, look-front, look-here, same-is}
use Rattle.text_names.specs.Names.{add, adds, look, Name, same_name}

-- ---- the same name

not_same : (x y : Name) → x ≢ y → same_name x y ≡ false
not_same x y h = false_from_ne_true (same_name x y) (λ e. h (same-is x y e))

look-other : (y x : Name) → y ≢ x → look (y ∷ []) x ≡ 1
unfolding look
look-other y x h = rw (not_same y x h)

-- ---- a row of first names

pub firsts-length : (f : ℕ → Name) (n : ℕ) → length (firsts f n) ≡ n
unfolding firsts
firsts-length f zero = refl
firsts-length f (suc n) = omega (arith, length-append (firsts f n) (f n ∷ []), firsts-length f n)

-- a name that is none of them
pub look_none : (f : ℕ → Name) (n : ℕ) (x : Name) → ((i : ℕ) → i < n → f i ≢ x) → look (firsts f n) x ≡ n
unfolding firsts
look_none f zero x h = unfold look in refl
look_none f (suc n) x h =
    let l = firsts-length f n in
    let i = look_none f n x (λ j g. h j (omega arith)) in
    let e = look-behind (firsts f n) (f n ∷ []) x (omega arith) in
    let o = look-other (f n) x (h n (omega arith)) in
    omega arith

-- one of them
pub look-first : (f : ℕ → Name) (n k : ℕ) → Distinct f n → k < n → look (firsts f n) (f k) ≡ k
unfolding firsts
look-first f zero k d h = absurd (omega arith)
look-first f (suc n) k d h =
    let l = firsts-length f n in
    below_suc k n h
    (λ e. rw e (let i = look_none f n (f n) (λ j g. d j n g (omega arith)) in let b = look-here (firsts f n) [] (f n) in omega arith))
    (λ g. let i = look-first f n k (λ a b u v. d a b u (omega arith)) g in look-front (firsts f n) (f n ∷ []) (f k) (omega arith) ∙ i)

add-known : (f : ℕ → Name) (m k : ℕ) → Distinct f m → k < m → add (firsts f m) (f k) ≡ firsts f m
unfolding add
add-known f m k d h = rw (look-first f m k d h, firsts-length f m, lt-ltb k m h)

add-new : (f : ℕ → Name) (m : ℕ) → Distinct f (suc m) → add (firsts f m) (f m) ≡ firsts f (suc m)
unfolding add firsts
add-new f m d = rw (look_none f m (f m) (λ i h. d i m h (omega arith)), firsts-length f m, le-ltb m m (omega arith))

pub appear-up : {m n : ℕ} {ks : List ℕ} → Appear m n ks → m ≤ n
appear-up no_more = omega arith
appear-up (met_before h a) = appear-up a
appear-up (first_time a) = let h = appear-up a in omega arith

abbrev pub Below : ℕ → ℕ → Type 0
Below n k = k < n

pub appear-below : {m n : ℕ} {ks : List ℕ} → Appear m n ks → Each (Below n) ks
appear-below no_more = tt
appear-below (met_before h a) = let u = appear-up a in (omega arith, appear-below a)
appear-below (first_time a) = let u = appear-up a in (omega arith, appear-below a)

-- THE LAW: names that appear in order are added in order
pub adds-appear : (f : ℕ → Name) {m n : ℕ} {ks : List ℕ} → Distinct f n → Appear m n ks → adds (firsts f m) (map f ks) ≡ firsts f n
unfolding adds
adds-appear f d no_more = refl
adds-appear f {m} {n} d (met_before {k = k} {ks} h a) =
    let u = appear-up a in
    ap (λ (ys : List Name). adds ys (map f ks)) (add-known f m k (λ i j x y. d i j x (omega arith)) h) ∙ adds-appear f d a
adds-appear f {m} {n} d (first_time {ks = ks} a) =
    let u = appear-up a in
    ap (λ (ys : List Name). adds ys (map f ks)) (add-new f m (λ i j x y. d i j x (omega arith))) ∙ adds-appear f d a
