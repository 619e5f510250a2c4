-- Names added to a row of names, each once.
use mathlib.Core.Path.{◌∙◌, ◌≡◌, ap, refl, sym}
use mathlib.Core.Bool.{Bool, cond, false, true}
use mathlib.Core.List.{[], ◌++◌, ◌∷◌, List}
use Prim.Native.Nat.{◌+◌, ◌≤◌, suc, ℕ}
use lib.Dec.{leb}
use lib.ListN.{length, length-append, take}
use lib.Seq.{length-take-le, take_all, take-append-le, take-take}
use borrow.Author.Tests.{leb-false, leb-true, ltb-true}
use native.Mathlib.Omega.{arith}
use Rattle.text_names.proofs.Looked.{known-left, known-own, look-front, look-here}
use Rattle.text_names.specs.Names.{add, adds, known, look, Name}

pub add-old : (ys : List Name) (x : Name) → known ys x ≡ true → add ys x ≡ ys
unfolding add
add-old ys x e = rw e

pub add-fresh : (ys : List Name) (x : Name) → known ys x ≡ false → add ys x ≡ ys ++ (x ∷ [])
unfolding add
add-fresh ys x e = rw e

-- ---- numbers

-- a name that was added is known, by the number that it had or would have
pub look-added : (ys : List Name) (x : Name) → look (add ys x) x ≡ look ys x
unfolding add
look-added ys x = go (known ys x)
  where
    go : (b : Bool) → look (cond b ys (ys ++ (x ∷ []))) x ≡ look ys x
    go true = refl
    go false = look-here ys [] x

pub known-added : (ys : List Name) (x : Name) → known (add ys x) x ≡ true
unfolding add
known-added ys x = go (known ys x) refl
  where
    go : (b : Bool) → known ys x ≡ b → known (cond b ys (ys ++ (x ∷ []))) x ≡ true
    go true e = e
    go false e = known-own ys x

-- a name that is known stays so, with its number
look-add : (ys : List Name) (x z : Name) → known ys z ≡ true → (look (add ys x) z ≡ look ys z) × (known (add ys x) z ≡ true)
unfolding add
look-add ys x z e = go (known ys x)
  where
    go : (b : Bool) → (look (cond b ys (ys ++ (x ∷ []))) z ≡ look ys z) × (known (cond b ys (ys ++ (x ∷ []))) z ≡ true)
    go true = (refl, e)
    go false = (look-front ys (x ∷ []) z (ltb-true (look ys z) (length ys) e), known-left ys (x ∷ []) z e)

pub look-adds : (xs ys : List Name) (z : Name) → known ys z ≡ true → (look (adds ys xs) z ≡ look ys z) × (known (adds ys xs) z ≡ true)
unfolding adds
look-adds [] ys z e = (refl, e)
look-adds (x ∷ xs) ys z e = let p = look-add ys x z e in let q = look-adds xs (add ys x) z p.1 in (q.0 ∙ p.0, q.1)

-- ---- how many there are

add-length : (ys : List Name) (x : Name) → (length ys ≤ length (add ys x)) × (length (add ys x) ≤ suc (length ys))
unfolding add
add-length ys x = go (known ys x)
  where
    go : (b : Bool) → (length ys ≤ length (cond b ys (ys ++ (x ∷ [])))) × (length (cond b ys (ys ++ (x ∷ []))) ≤ suc (length ys))
    go true = (omega arith, omega arith)
    go false = let h = length-append ys (x ∷ []) in (omega arith, omega arith)

pub adds-length : (xs ys : List Name) → length (adds ys xs) ≤ length ys + length xs
unfolding adds
adds-length [] ys = omega arith
adds-length (x ∷ xs) ys = let a = adds-length xs (add ys x) in let b = (add-length ys x).1 in omega arith

pub adds-grow : (xs ys : List Name) → length ys ≤ length (adds ys xs)
unfolding adds
adds-grow [] ys = omega arith
adds-grow (x ∷ xs) ys = let a = adds-grow xs (add ys x) in let b = (add-length ys x).0 in omega arith

-- ---- two rows added, and room for n names

pub adds-append : (xs zs ys : List Name) → adds (adds ys xs) zs ≡ adds ys (xs ++ zs)
unfolding adds
adds-append [] zs ys = refl
adds-append (x ∷ xs) zs ys = adds-append xs zs (add ys x)

pub full-add : (n : ℕ) (ys : List Name) (x : Name) → n ≤ length ys → take n (add ys x) ≡ take n ys
unfolding add
full-add n ys x h = go (known ys x)
  where
    go : (b : Bool) → take n (cond b ys (ys ++ (x ∷ []))) ≡ take n ys
    go true = refl
    go false = take-append-le n ys (x ∷ []) h

cap-add : (n : ℕ) (ys : List Name) (x : Name) → take n (add (take n ys) x) ≡ take n (add ys x)
cap-add n ys x = go (leb (length ys) n) refl
  where
    go : (b : Bool) → leb (length ys) n ≡ b → take n (add (take n ys) x) ≡ take n (add ys x)
    go true e = ap (λ (l : List Name). take n (add l x)) (take_all n ys (leb-true (length ys) n e))
    go false e =
        let h = leb-false (length ys) n e in
        let l = length-take-le n ys (omega arith) in
        full-add n (take n ys) x (omega arith) ∙ take-take n n ys (omega arith) ∙ sym (full-add n ys x (omega arith))

pub cap-adds : (n : ℕ) (xs ys : List Name) → take n (adds (take n ys) xs) ≡ take n (adds ys xs)
unfolding adds
cap-adds n [] ys = take-take n n ys (omega arith)
cap-adds n (x ∷ xs) ys =
    sym (cap-adds n xs (add (take n ys) x)) ∙ ap (λ (l : List Name). take n (adds l xs)) (cap-add n ys x) ∙ cap-adds n xs (add ys x)
