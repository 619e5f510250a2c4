-- Names by first appearance: what is known, and how large a number can be.
use mathlib.Core.Path.{◌≡◌, refl, sym}
use mathlib.Core.Bool.{◌&&◌, Bool, cond, false, true}
use mathlib.Core.List.{[], ◌++◌, ◌∷◌, List}
use Prim.Native.Nat.{◌≤◌}
use lib.Dec.{ltb}
use lib.ListN.{length}
use borrow.Author.Tests.{lt-ltb, ltb-true}
use native.Mathlib.Omega.{arith}
use Rattle.judge_said.proofs.Known.{term_okay}
use Rattle.parlog.proofs.Bools.{and-true}
use Rattle.text_names.proofs.Added.{adds-append, adds-length, known-added, look-adds}
use Rattle.text_names.specs.Names.{add, adds, known, look, Name}
use Rattle.text_program.proofs.Joined.{all_from, all-parts, lowers-length}
use Rattle.text_program.specs.Numbered.{is_upper, lowers, Numbering, uppers, variable_names}
use Rattle.text_program.specs.Parsing.{all_of}

all_known : (xs ys : List Name) → all_of (λ (x : Name). known (adds ys xs) x) xs ≡ true
unfolding adds all_of
all_known [] ys = refl
all_known (x ∷ xs) ys = rw (look-adds xs (add ys x) x (known-added ys x)).1 (all_known xs (add ys x))

-- ---- terms that an image may name

uppers-okay : (ok : Name → Bool) (ts : List Name) → all_of ok (uppers ts) ≡ true → all_of (λ (x : Name). cond (is_upper x) (ok x) true) ts ≡ true
unfolding uppers all_of
uppers-okay ok [] e = refl
uppers-okay ok (t ∷ ts) e = go (is_upper t) e (λ h. uppers-okay ok ts h)
  where
    go : (b : Bool) → all_of ok (cond b (t ∷ uppers ts) (uppers ts)) ≡ true → (all_of ok (uppers ts) ≡ true → all_of (λ (x : Name). cond (is_upper x) (ok x) true) ts ≡ true) →
        (cond b (ok t) true && all_of (λ (x : Name). cond (is_upper x) (ok x) true) ts) ≡ true
    go true h k = let r = and-true (ok t) (all_of ok (uppers ts)) h in rw r.0 (k r.1)
    go false h k = k h

lowers-okay : (ok : Name → Bool) (ts : List Name) → all_of ok (lowers ts) ≡ true → all_of (λ (x : Name). cond (is_upper x) true (ok x)) ts ≡ true
unfolding lowers all_of
lowers-okay ok [] e = refl
lowers-okay ok (t ∷ ts) e = go (is_upper t) e (λ h. lowers-okay ok ts h)
  where
    go : (b : Bool) → all_of ok (cond b (lowers ts) (t ∷ lowers ts)) ≡ true → (all_of ok (lowers ts) ≡ true → all_of (λ (x : Name). cond (is_upper x) true (ok x)) ts ≡ true) →
        (cond b true (ok t) && all_of (λ (x : Name). cond (is_upper x) true (ok x)) ts) ≡ true
    go true h k = k h
    go false h k = let r = and-true (ok t) (all_of ok (lowers ts)) h in rw r.0 (k r.1)

vars-okay : (ts : List Name) → all_of (λ (x : Name). cond (is_upper x) (known (variable_names ts) x) true) ts ≡ true
vars-okay ts = uppers-okay (λ (x : Name). known (variable_names ts) x) ts (all_known (uppers ts) [])

consts-okay : (ts rest : List Name) → length ts ≤ 32767 → all_of (λ (x : Name). cond (is_upper x) true (ltb (look (adds [] (lowers ts ++ rest)) x) 32768)) ts ≡ true
consts-okay ts rest h =
    let few = lowers-length ts in
    let size = adds-length (lowers ts) [] in
    lowers-okay (λ (x : Name). ltb (look (adds [] (lowers ts ++ rest)) x) 32768) ts
    (all_from (λ (x : Name). known (adds [] (lowers ts)) x) (λ (x : Name). ltb (look (adds [] (lowers ts ++ rest)) x) 32768)
    (λ x e. rw (sym (adds-append (lowers ts) rest []), (look-adds rest (adds [] (lowers ts)) x e).0) (lt-ltb (look (adds [] (lowers ts)) x) 32768 (let l = ltb-true (look (adds [] (lowers ts)) x) (length (adds [] (lowers ts))) e in omega arith)))
    (lowers ts) (all_known (lowers ts) []))

both-okay : (n : Numbering) (ts : List Name) → all_of (λ (x : Name). cond (is_upper x) (known n.variables x) true) ts ≡ true → all_of (λ (x : Name). cond (is_upper x) true (ltb (look n.constants x) 32768)) ts ≡ true → all_of (term_okay n) ts ≡ true
unfolding all_of term_okay
both-okay n [] e f = refl
both-okay n (t ∷ ts) e f =
    let r = and-true (cond (is_upper t) (known n.variables t) true) (all_of (λ (x : Name). cond (is_upper x) (known n.variables x) true) ts) e in
    let q = and-true (cond (is_upper t) true (ltb (look n.constants t) 32768)) (all_of (λ (x : Name). cond (is_upper x) true (ltb (look n.constants x) 32768)) ts) f in
    rw (go (is_upper t) r.0 q.0) (both-okay n ts r.1 q.1)
  where
    go : (b : Bool) → cond b (known n.variables t) true ≡ true → cond b true (ltb (look n.constants t) 32768) ≡ true → cond b (known n.variables t) (ltb (look n.constants t) 32768) ≡ true
    go true a c = a
    go false a c = c

-- THE LAW: the terms of a clause or of the goal, behind few terms
pub terms-okay-in : (n : Numbering) (before ts rest : List Name) → length (before ++ ts) ≤ 32767 → n.variables ≡ variable_names ts → n.constants ≡ adds [] (lowers (before ++ ts) ++ rest) → all_of (term_okay n) ts ≡ true
terms-okay-in n before ts rest h v c =
    both-okay n ts (rw v (vars-okay ts))
    (rw c (all-parts (λ (x : Name). cond (is_upper x) true (ltb (look (adds [] (lowers (before ++ ts) ++ rest)) x) 32768)) before ts (consts-okay (before ++ ts) rest h)).1)
