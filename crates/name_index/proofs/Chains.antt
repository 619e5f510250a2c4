-- Chains of names: a name found by its chain, and a name added to its chain.
use mathlib.Core.Path.{◌∙◌, ◌≡◌, ap, refl, sym}
use mathlib.Core.Bool.{Bool, cond, false, true}
use mathlib.Core.List.{[], ◌++◌, ◌∷◌, List}
use Prim.Native.Nat.{◌%◌, ◌*◌, ◌+◌, ◌-◌, ◌<◌, ◌≤◌, suc, zero, ℕ}
use lib.Dec.{eqb, leb}
use lib.ListN.{drop, get_or, get_or-replicate, length, length-replicate, length-set, get_or-append, replicate, set, take}
use lib.Seq.{get_or_at, get_or-set_other, get_or-set_same, get_or-take, length-take-le, take-suc-set}
use borrow.Author.Tests.{eqb-false, eqb-true, leb-false, leb-true}
use native.Mathlib.Omega.{arith}
use native.Mathlib.Nat.{mod-lt}
use native.Mathlib.Numerals.{add-one}
use Rattle.name_index.specs.Index.{AddsOne, chain_from, chain_of, Indexed, latest}
use Rattle.std.specs.Prelude.{None, Some}
use Rattle.parlog.proofs.Bools.{never}
use Rattle.parlog.proofs.Scans.{below_suc}
use Rattle.read_names.proofs.Tabled.{add-full, add-known, add-new, names-append, names_fit, names-length}
use Rattle.read_names.specs.Tables.{names_at}
use Rattle.text_names.proofs.Looked.{look-front, look-here, look_none, same-is}
use Rattle.text_names.specs.Bytes.{front}
use Rattle.text_names.specs.Names.{FoundAt, look, Name, same_name}

-- ---- chains

chain-from : (h : ℕ) (x : Name) → h < 512 → chain_from h x < 512
unfolding chain_from
chain-from h [] l = l
chain-from h (b ∷ x) l = chain-from ((h * 31 + b) % 512) x (mod-lt (h * 31 + b) (omega arith))

pub chain-small : (x : Name) → chain_of x < 512
chain-small x = chain-from 0 x (omega arith)

-- what shows that a chain's number is an index of the links
pub ruleset in_links = (chain-small, length-set)

module _ (xs : List Name) (h : ℕ) where
  latest-most : (n : ℕ) → latest xs h n ≤ n
  unfolding latest
  latest-most zero = omega arith
  latest-most (suc n) = go (eqb (chain_of (get_or xs n [])) h) (latest-most n)
    where
      go : (b : Bool) → latest xs h n ≤ n → cond b (suc n) (latest xs h n) ≤ suc n
      go true i = omega arith
      go false i = omega arith

  -- the last one is the last one of those up to it
  latest-again : (n : ℕ) → latest xs h (latest xs h n) ≡ latest xs h n
  unfolding latest
  latest-again zero = refl
  latest-again (suc n) = go (eqb (chain_of (get_or xs n [])) h) refl (latest-again n)
    where
      go : (b : Bool) → eqb (chain_of (get_or xs n [])) h ≡ b → latest xs h (latest xs h n) ≡ latest xs h n → latest xs h (cond b (suc n) (latest xs h n)) ≡ cond b (suc n) (latest xs h n)
      go true e i = rw e
      go false e i = i

  -- behind it there is none
  latest-none : (n j : ℕ) → latest xs h n ≤ j → j < n → chain_of (get_or xs j []) ≡ h → ⊥
  unfolding latest
  latest-none zero j l g e = absurd (omega arith)
  latest-none (suc n) j l g e = go (eqb (chain_of (get_or xs n [])) h) refl l (λ a m. latest-none n j a m e)
    where
      go : (b : Bool) → eqb (chain_of (get_or xs n [])) h ≡ b → cond b (suc n) (latest xs h n) ≤ j → (latest xs h n ≤ j → j < n → ⊥) → ⊥
      go true f l more = omega arith
      go false f l more = below_suc j n g (λ q. eqb-false (chain_of (get_or xs n [])) h f (ap (λ (i : ℕ). chain_of (get_or xs i [])) (sym q) ∙ e)) (λ m. more l m)

  -- it is in the chain
  latest-in : (k : ℕ) → 0 < k → latest xs h k ≡ k → chain_of (get_or xs (k - 1) []) ≡ h
  unfolding latest
  latest-in zero l e = absurd (omega arith)
  latest-in (suc k) l e = let z : suc k - 1 ≡ k = omega arith in rw z (go (eqb (chain_of (get_or xs k [])) h) refl e)
    where
      go : (b : Bool) → eqb (chain_of (get_or xs k [])) h ≡ b → cond b (suc k) (latest xs h k) ≡ suc k → chain_of (get_or xs k []) ≡ h
      go true f e = eqb-true (chain_of (get_or xs k [])) h f
      go false f e = absurd (let m = latest-most k in omega arith)

  -- names behind do not count
  latest-front : (ys : List Name) (n : ℕ) → n ≤ length xs → latest (xs ++ ys) h n ≡ latest xs h n
  unfolding latest
  latest-front ys zero l = refl
  latest-front ys (suc n) l = rw (get_or-append xs ys [] n (let g : n < length xs = omega arith in g), latest-front ys n (let g : n ≤ length xs = omega arith in g))

-- ---- a name found

names-get : (s ps : List ℕ) (i : ℕ) → i < length ps → get_or (names_at s ps) i [] ≡ front (drop (get_or ps i 0) s)
unfolding names_at
names-get s [] i l = absurd (omega arith)
names-get s (p ∷ ps) zero l = refl
names-get s (p ∷ ps) (suc i) l = names-get s ps i (omega arith)

-- of n names the last k are left to be looked at, and the last of these is in the chain
pub record Left (s t : List ℕ) (n : ℕ) (x : Name) (k : ℕ) : Type 0 where
  pub inside : k ≤ n
  pub last : latest (names_at s (take n t)) (chain_of x) k ≡ k
  pub none : (j : ℕ) → k ≤ j → j < n → same_name (get_or (names_at s (take n t)) j []) x ≡ true → ⊥

-- the same when all names were looked at from the last of the first m on
left-latest : (s t : List ℕ) (n : ℕ) (x : Name) (m : ℕ) → m ≤ n → ((j : ℕ) → m ≤ j → j < n → same_name (get_or (names_at s (take n t)) j []) x ≡ true → ⊥) →
    Left s t n x (latest (names_at s (take n t)) (chain_of x) m)
left-latest s t n x m l none =
    let xs = names_at s (take n t) in
    let b = latest-most xs (chain_of x) m in
    record {
      inside = omega arith;
      last = latest-again xs (chain_of x) m;
      none = λ j g i e. go j g i e (leb m j) refl;
    }
  where
    go : (j : ℕ) → latest (names_at s (take n t)) (chain_of x) m ≤ j → j < n → same_name (get_or (names_at s (take n t)) j []) x ≡ true → (b : Bool) → leb m j ≡ b → ⊥
    go j g i e true f = none j (leb-true m j f) i e
    go j g i e false f = latest-none (names_at s (take n t)) (chain_of x) m j g (leb-false m j f) (ap chain_of (same-is (get_or (names_at s (take n t)) j []) x e))

module _ (s t l : List ℕ) (n : ℕ) (x : Name) (ix : Indexed s t l n) where
  -- the first one to look at
  pub left-start : (h k : ℕ) → h ≡ chain_of x → k ≡ get_or l h 0 → Left s t n x k
  left-start h k e f =
      let z : k ≡ latest (names_at s (take n t)) (chain_of x) n = f ∙ ap (λ (c : ℕ). get_or l c 0) e ∙ ix.heads (chain_of x) (chain-small x) in
      rw z (left-latest s t n x n (omega arith) (λ j g i o. absurd (omega arith)))

  module _ (p k : ℕ) (b : Bool) (some : 0 < k) (at : drop p s ≡ drop (get_or t (k - 1) 0) s) (told : b ≡ same_name (front (drop p s)) x) (left : Left s t n x k) where
    here : b ≡ same_name (get_or (names_at s (take n t)) (k - 1) []) x
    here =
        let v = left.inside in
        let w = ix.inside in
        let g : k - 1 < n = omega arith in
        let z = length-take-le n t w in
        told ∙ rw (names-get s (take n t) (k - 1) (omega arith), get_or-take n t (k - 1) 0 g, at)

    -- it is the name
    pub left-found : b ≡ true → FoundAt (names_at s (take n t)) x (Some (k - 1))
    left-found e =
        let v = left.inside in
        let o = ix.once (k - 1) (omega arith) in
        let f = names_fit s t n ix.inside in
        (sym o ∙ ap (look (names_at s (take n t))) (same-is (get_or (names_at s (take n t)) (k - 1) []) x (sym here ∙ e)), omega arith)

    -- it is another name: the one before it in the chain is next
    pub left-more : (m : ℕ) → b ≡ false → m ≡ get_or l (512 + (k - 1)) 0 → Left s t n x m × (m < k)
    left-more m e f =
        let v = left.inside in
        let z : m ≡ latest (names_at s (take n t)) (chain_of x) (k - 1) =
        f ∙ ix.links (k - 1) (omega arith) ∙ ap (λ (c : ℕ). latest (names_at s (take n t)) c (k - 1)) (latest-in (names_at s (take n t)) (chain_of x) k some left.last) in
        let g = latest-most (names_at s (take n t)) (chain_of x) (k - 1) in
        (rw z (left-latest s t n x (k - 1) (omega arith) more), omega arith)
      where
        more : (j : ℕ) → k - 1 ≤ j → j < n → same_name (get_or (names_at s (take n t)) j []) x ≡ true → ⊥
        more j g i o = go (eqb j (k - 1)) refl
          where
            go : (c : Bool) → eqb j (k - 1) ≡ c → ⊥
            go true a = never (sym e ∙ here ∙ rw (eqb-true j (k - 1) a) at o)
            go false a = let d = eqb-false j (k - 1) a in left.none j (omega arith) i o

  -- none is left
  pub left_end : (k : ℕ) → k ≤ 0 → Left s t n x k → FoundAt (names_at s (take n t)) x None
  left_end k g left =
      let z = length-take-le n t ix.inside in
      let w = names-length s (take n t) in
      let e = look_none (names_at s (take n t)) x (λ j i o. left.none j (omega arith) (omega arith) o) in
      omega arith

-- ---- what was found

module _ (s t : List ℕ) (n : ℕ) (x : Name) (h : n ≤ length t) where
  pub some-less : (k : ℕ) → FoundAt (names_at s (take n t)) x (Some k) → k < n
  some-less k f = let e = names_fit s t n h in let l = f.1 in omega arith

  pub none-look : FoundAt (names_at s (take n t)) x None → n ≡ look (names_at s (take n t)) x
  none-look f = let e = names_fit s t n h in omega arith

-- ---- a name added

module _ (s t l : List ℕ) (n q h k : ℕ) (x : Name) (ix : Indexed s t l n) (is : front (drop q s) ≡ x) (chain : h ≡ chain_of x) (found : k ≡ look (names_at s (take n t)) x) where
  pub one_known : k < n → AddsOne s t l n x t l (record { count = n; number = k })
  one_known g = record { adds = add-known s t n q k x ix.inside found g; index = ix; number = found }

  pub one-full : length t ≤ n → AddsOne s t l n x t l (record { count = n; number = k })
  one-full g = record { adds = add-full s t n q k x ix.inside found g; index = ix; number = found }

  module _ (new : k ≡ n) (room : n < length t) where
    fits : length (names_at s (take n t)) ≡ n
    fits = names_fit s t n ix.inside

    names-new : names_at s (take (n + 1) (set t n q)) ≡ names_at s (take n t) ++ (x ∷ [])
    unfolding names_at
    names-new = rw (add-one, take-suc-set t n q room, names-append s (take n t) (q ∷ []), is)

    name-last : get_or (names_at s (take n t) ++ (x ∷ [])) n [] ≡ x
    name-last = get_or_at (names_at s (take n t)) x [] [] n fits

    name-front : (i : ℕ) → i < n → get_or (names_at s (take n t) ++ (x ∷ [])) i [] ≡ get_or (names_at s (take n t)) i []
    name-front i g = get_or-append (names_at s (take n t)) (x ∷ []) [] i (let f = fits in omega arith)

    once-new : (i : ℕ) → i < n + 1 → look (names_at s (take n t) ++ (x ∷ [])) (get_or (names_at s (take n t) ++ (x ∷ [])) i []) ≡ i
    once-new i g =
        let f = fits in
        below_suc i n (omega arith)
        (λ e. rw (e, name-last) (let a = look-here (names_at s (take n t)) [] x in omega arith))
        (λ j. let o = ix.once i j in rw (name-front i j) (look-front (names_at s (take n t)) (x ∷ []) (get_or (names_at s (take n t)) i []) (omega arith) ∙ o))

    heads-new : (c : ℕ) → c < 512 → get_or (set (set l (512 + n) (get_or l h 0)) h (n + 1)) c 0 ≡ latest (names_at s (take n t) ++ (x ∷ [])) c (n + 1)
    unfolding latest
    heads-new c g = rw (add-one, name-last) (go (eqb (chain_of x) c) refl)
      where
        go : (b : Bool) → eqb (chain_of x) c ≡ b → get_or (set (set l (512 + n) (get_or l h 0)) h (suc n)) c 0 ≡ cond b (suc n) (latest (names_at s (take n t) ++ (x ∷ [])) c n)
        go true e =
            let z : c ≡ h = sym (chain ∙ eqb-true (chain_of x) c e) in
            let v = length-set l (512 + n) (get_or l h 0) in
            let w = ix.size in
            rw z (get_or-set_same (set l (512 + n) (get_or l h 0)) h (suc n) 0 (omega arith))
        go false e =
            get_or-set_other (set l (512 + n) (get_or l h 0)) h c (suc n) 0 (λ z. eqb-false (chain_of x) c e (sym chain ∙ sym z))
            ∙ get_or-set_other l (512 + n) c (get_or l h 0) 0 (λ z. omega arith)
            ∙ ix.heads c g
            ∙ sym (latest-front (names_at s (take n t)) c (x ∷ []) n (let f = fits in omega arith))

    links-new : (i : ℕ) → i < n + 1 →
        get_or (set (set l (512 + n) (get_or l h 0)) h (n + 1)) (512 + i) 0 ≡ latest (names_at s (take n t) ++ (x ∷ [])) (chain_of (get_or (names_at s (take n t) ++ (x ∷ [])) i [])) i
    links-new i g =
        let f = fits in
        let u = chain-small x in
        get_or-set_other (set l (512 + n) (get_or l h 0)) h (512 + i) (n + 1) 0 (λ z. omega arith)
        ∙ below_suc i n (omega arith)
        (λ e. rw (e, name-last)
        (get_or-set_same l (512 + n) (get_or l h 0) 0 (let w = ix.size in omega arith)
        ∙ ap (λ (c : ℕ). get_or l c 0) chain
        ∙ ix.heads (chain_of x) u
        ∙ sym (latest-front (names_at s (take n t)) (chain_of x) (x ∷ []) n (omega arith))))
        (λ j. get_or-set_other l (512 + n) (512 + i) (get_or l h 0) 0 (λ z. omega arith)
        ∙ ix.links i j
        ∙ rw (name-front i j) (sym (latest-front (names_at s (take n t)) (chain_of (get_or (names_at s (take n t)) i [])) (x ∷ []) i (omega arith))))

    pub one-new : AddsOne s t l n x (set t n q) (set (set l (512 + n) (get_or l h 0)) h (n + 1)) (record { count = n + 1; number = k })
    one-new =
        let a = length-set t n q in
        let b = length-set (set l (512 + n) (get_or l h 0)) h (n + 1) in
        let c = length-set l (512 + n) (get_or l h 0) in
        let d = ix.size in
        let e = ix.small in
        record {
          adds = add-new s t n q k x ix.inside found (omega arith) room is;
          index = record {
            inside = omega arith;
            small = omega arith;
            size = omega arith;
            once = λ i g. rw names-new (once-new i g);
            heads = λ i g. rw names-new (heads-new i g);
            links = λ i g. rw names-new (links-new i g);
          };
          number = found;
        }

-- ---- no names

index-none : (s t l : List ℕ) → length t ≤ 65535 → length l ≡ 512 + length t → ((h : ℕ) → h < 512 → get_or l h 0 ≡ 0) → Indexed s t l 0
unfolding latest
index-none s t l a b z = record { inside = omega arith; small = a; size = b; once = λ i g. absurd (omega arith); heads = z; links = λ i g. absurd (omega arith) }

-- rows of zeros have none
pub index-zeros : (s t l : List ℕ) (m : ℕ) → length t ≤ 65535 → m ≡ 512 + length t → l ≡ replicate m 0 → Indexed s t l 0
index-zeros s t l m a b e =
    index-none s t l a (ap length e ∙ length-replicate m 0 ∙ b) (λ h g. ap (λ (r : List ℕ). get_or r h 0) e ∙ get_or-replicate m h 0 0 (omega arith))
