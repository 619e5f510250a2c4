-- Names that are added by first appearance are different, and have their numbers in order of first appearance.
use mathlib.Core.Path.{◌∙◌, ◌≡◌, ap, refl, subst, sym}
use mathlib.Core.Bool.{Bool, cond, false, true}
use mathlib.Core.List.{[], ◌++◌, ◌∷◌, List, map}
use Prim.Native.Nat.{◌<◌, suc, ℕ}
use lib.ListN.{get_or, length, length-append, get_or-append}
use lib.Seq.{get_or-append_seam}
use borrow.Author.Tests.{ltb-false, ltb-true}
use native.Mathlib.Omega.{arith}
use Rattle.parlog.proofs.Bools.{never, split}
use Rattle.parlog.proofs.Scans.{below_suc}
use Rattle.parlog.specs.Orders.{Each}
use Rattle.std.proofs.Common.{⊎_elim}
use Rattle.std.proofs.lemmas.Bool.{or_cases}
use Rattle.text_back.proofs.Begin.{Lower, Spelt}
use Rattle.text_back.proofs.Numbers.{each-join}
use Rattle.text_back.specs.Back.{Appear, Distinct, first_time, met_before, no_more}
use Rattle.text_names.proofs.Added.{add-fresh, add-old, look-adds}
use Rattle.text_names.proofs.Looked.{known-own, look-front, look-here, look-within, not_known}
use Rattle.text_names.specs.Bytes.{first, is_capital, is_small}
use Rattle.text_names.specs.Names.{add, adds, known, look, Name}
use Rattle.text_program.specs.Numbered.{is_upper, lowers}
use Rattle.text_program.specs.Parsing.{repeated}

-- ---- one name more

one-longer : (ys : List Name) (x : Name) → length (ys ++ (x ∷ [])) ≡ suc (length ys)
one-longer ys x = omega (arith, length-append ys (x ∷ []))

-- the new name is the last one
look-last : (ys : List Name) (x : Name) → known ys x ≡ false → look (ys ++ (x ∷ [])) x ≡ length ys
look-last ys x e = look-here ys [] x ∙ not_known ys x e

-- ---- in order

step-old : (ys : List Name) (x : Name) (xs : List Name) → known ys x ≡ true → Appear (length ys) (length (adds ys xs)) (map (look (adds ys xs)) xs) → Appear (length ys) (length (adds ys xs)) (map (look (adds ys xs)) (x ∷ xs))
step-old ys x xs e a =
    let h = ltb-true (look ys x) (length ys) e in
    let k = (look-adds xs ys x e).0 in
    let q : look (adds ys xs) x < length ys = omega arith in
    met_before q a

step-fresh : (ys : List Name) (x : Name) (xs : List Name) → known ys x ≡ false → (let zs = adds (ys ++ (x ∷ [])) xs in Appear (length (ys ++ (x ∷ []))) (length zs) (map (look zs) xs) → Appear (length ys) (length zs) (map (look zs) (x ∷ xs)))
step-fresh ys x xs e a =
    let l = one-longer ys x in
    let k = (look-adds xs (ys ++ (x ∷ [])) x (known-own ys x)).0 ∙ look-last ys x e in
    rw k (first_time (rw l at a))

-- THE LAW: names have their numbers in order of first appearance
pub appear-adds : (xs ys : List Name) → Appear (length ys) (length (adds ys xs)) (map (look (adds ys xs)) xs)
unfolding adds
appear-adds [] ys = no_more
appear-adds (x ∷ xs) ys =
    let go = λ (zs : List Name) (q : add ys x ≡ zs) (a : Appear (length ys) (length (adds zs xs)) (map (look (adds zs xs)) (x ∷ xs))).
    subst (λ (ws : List Name). Appear (length ys) (length ws) (map (look ws) (x ∷ xs))) (sym (ap (λ (ws : List Name). adds ws xs) q)) a in
    split (known ys x) (λ e. go ys (add-old ys x e) (step-old ys x xs e (appear-adds xs ys)))
    (λ e. go (ys ++ (x ∷ [])) (add-fresh ys x e) (step-fresh ys x xs e (appear-adds xs (ys ++ (x ∷ [])))))

-- ---- different names

abbrev pub Unique : List Name → Type 0
Unique ys = (k : ℕ) → k < length ys → look ys (get_or ys k []) ≡ k

unique-last : (ys : List Name) (x : Name) → known ys x ≡ false → Unique ys → Unique (ys ++ (x ∷ []))
unique-last ys x e u k h =
    let l = one-longer ys x in
    below_suc k (length ys) (omega arith)
    (λ z. rw z (rw (get_or-append_seam ys x [] []) (look-last ys x e)))
    (λ g. let i = u k g in rw (get_or-append ys (x ∷ []) [] k g) (look-front ys (x ∷ []) (get_or ys k []) (omega arith) ∙ i))

unique-add : (ys : List Name) (x : Name) → Unique ys → Unique (add ys x)
unique-add ys x u = split (known ys x) (λ e. rw (add-old ys x e) u) (λ e. rw (add-fresh ys x e) (unique-last ys x e u))

pub unique-adds : (xs ys : List Name) → Unique ys → Unique (adds ys xs)
unfolding adds
unique-adds [] ys u = u
unique-adds (x ∷ xs) ys u = unique-adds xs (add ys x) (unique-add ys x u)

pub none-unique : Unique []
none-unique k h = absurd (omega arith)

pub unique-distinct : (ys : List Name) → Unique ys → Distinct (λ i. get_or ys i []) (length ys)
unique-distinct ys u i j h l e =
    let a = u i (omega arith) in
    let b = u j l in
    let c : look ys (get_or ys i []) ≡ look ys (get_or ys j []) = ap (look ys) e in
    omega arith

-- ---- relations that are not repeated

pub once-distinct : (ys : List Name) → ((k : ℕ) → k < length ys → repeated ys k ≡ false) → Distinct (λ i. get_or ys i []) (length ys)
unfolding repeated
once-distinct ys o i j h l e =
    let a = ltb-false (look ys (get_or ys j [])) j (o j l) in
    let b = look-within ys i (omega arith) in
    let c : look ys (get_or ys i []) ≡ look ys (get_or ys j []) = ap (look ys) e in
    omega arith

-- ---- lower-case names

add-each : (P : Name → Type 0) (ys : List Name) (x : Name) → Each P ys → P x → Each P (add ys x)
add-each P ys x e p = split (known ys x) (λ f. rw (add-old ys x f) e) (λ f. rw (add-fresh ys x f) (each-join P ys (x ∷ []) e (p, tt)))

pub adds-each : (P : Name → Type 0) (xs ys : List Name) → Each P ys → Each P xs → Each P (adds ys xs)
unfolding adds
adds-each P [] ys e p = e
adds-each P (x ∷ xs) ys e p = adds-each P xs (add ys x) (add-each P ys x e p.0) p.1

spelt-lower : (x : Name) → Spelt x → is_upper x ≡ false → Lower x
spelt-lower x p e = record { all = p.all; small = ⊎_elim (λ f. f) (λ f. never (sym e ∙ f)) (or_cases (is_small (first x)) (is_capital (first x)) p.letter) }

pub lowers-lower : (xs : List Name) → Each Spelt xs → Each Lower (lowers xs)
unfolding lowers
lowers-lower [] e = tt
lowers-lower (x ∷ xs) e = go (is_upper x) refl (lowers-lower xs e.1)
  where
    go : (b : Bool) → is_upper x ≡ b → Each Lower (lowers xs) → Each Lower (cond b (lowers xs) (x ∷ lowers xs))
    go true f i = i
    go false f i = (spelt-lower x e.0 f, i)
