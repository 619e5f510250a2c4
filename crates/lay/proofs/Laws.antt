-- What bytes laid into a row are, and what stays.
use mathlib.Core.Path.{◌∙◌, ◌≡◌, refl, sym}
use mathlib.Core.List.{[], ◌++◌, ◌∷◌, List}
use Prim.Native.Nat.{◌+◌, ◌<◌, ◌≤◌, suc, zero, ℕ}
use lib.ListN.{drop, get_or, length, length-append, length-set, set, take}
use lib.Seq.{get_or-set_other, get_or-set_same, set_out, sets, sets-eq, take-append_seam}
use native.Mathlib.Omega.{arith}
use native.Mathlib.Nat.{add-zero, zero-add}
use Rattle.lay.specs.Lay.{laid, Lays}

-- nothing laid
pub laid_none : (out : List ℕ) (at : ℕ) → laid out at [] ≡ out
unfolding laid
laid_none out at = refl

-- one byte laid
pub laid_one : (out : List ℕ) (at b : ℕ) → laid out at (b ∷ []) ≡ set out at b
unfolding laid
laid_one out at b = refl

pub laid-length : (bs out : List ℕ) (at : ℕ) → length (laid out at bs) ≡ length out
unfolding laid
laid-length [] out at = refl
laid-length (b ∷ bs) out at = laid-length bs (set out at b) (suc at) ∙ length-set out at b

-- bytes laid behind those laid before
pub laid_then : (bs cs out : List ℕ) (at : ℕ) → laid (laid out at bs) (at + length bs) cs ≡ laid out at (bs ++ cs)
unfolding laid
laid_then [] cs out at = rw add-zero
laid_then (b ∷ bs) cs out at =
    let e : at + suc (length bs) ≡ suc at + length bs = omega arith in
    rw e (laid_then bs cs (set out at b) (suc at))

-- where there is no room nothing is written
pub laid-past : (bs out : List ℕ) (at : ℕ) → length out ≤ at → laid out at bs ≡ out
unfolding laid
laid-past [] out at h = refl
laid-past (b ∷ bs) out at h = rw (set_out out at b h) (laid-past bs out (suc at) (omega arith))

-- a row with a byte in front
pub laid-behind : (bs out : List ℕ) (x at : ℕ) → laid (x ∷ out) (suc at) bs ≡ x ∷ laid out at bs
unfolding laid
laid-behind [] out x at = refl
laid-behind (b ∷ bs) out x at = laid-behind bs (set out at b) x (suc at)

-- what is laid where it fits: as much as was there before, the bytes, and the rest
pub laid-sets : (bs out : List ℕ) (at : ℕ) → laid out at bs ≡ sets out at bs
unfolding laid
laid-sets [] out at = refl
laid-sets (b ∷ bs) out at = laid-sets bs (set out at b) (suc at)

pub laid-fits : (bs out : List ℕ) (at : ℕ) → at + length bs ≤ length out → laid out at bs ≡ take at out ++ bs ++ drop (at + length bs) out
laid-fits bs out at h = laid-sets bs out at ∙ sets-eq bs out at h

module _ (bs out : List ℕ) (room : length bs ≤ length out) where
  -- at the start of a row
  pub laid-start : laid out 0 bs ≡ bs ++ drop (length bs) out
  laid-start =
      let r : 0 + length bs ≤ length out = omega arith in
      laid-fits bs out 0 r ∙ rw zero-add

  pub laid-read : take (length bs) (laid out 0 bs) ≡ bs
  laid-read = rw laid-start (take-append_seam bs (drop (length bs) out))

-- every byte before stays
pub laid-before : (bs out : List ℕ) (at i : ℕ) → i < at → get_or (laid out at bs) i 0 ≡ get_or out i 0
unfolding laid
laid-before [] out at i h = refl
laid-before (b ∷ bs) out at i h =
    let apart : i ≡ at → ⊥ = λ e. omega arith in
    laid-before bs (set out at b) (suc at) i (omega arith) ∙ get_or-set_other out at i b 0 apart

-- the byte k of those laid
pub laid-at : (bs out : List ℕ) (at k : ℕ) → k < length bs → at + k < length out → get_or (laid out at bs) (at + k) 0 ≡ get_or bs k 0
unfolding laid
laid-at [] out at k h room = absurd (omega arith)
laid-at (b ∷ bs) out at zero h room =
    let r : at < length out = omega arith in
    rw add-zero (laid-before bs (set out at b) (suc at) at (omega arith) ∙ get_or-set_same out at b 0 r)
laid-at (b ∷ bs) out at (suc k) h room =
    let e : at + suc k ≡ suc at + k = omega arith in
    let r : suc at + k < length (set out at b) = rw length-set (omega arith) in
    rw e (laid-at bs (set out at b) (suc at) k (omega arith) r)

-- two writers one behind the other are one
pub lays-then : {o p q bs cs : List ℕ} {at m n : ℕ} → Lays o p at bs m → Lays p q m cs n → Lays o q at (bs ++ cs) n
lays-then {o} {p} {q} {bs} {cs} {at} f g =
    record {
      row = g.row ∙ rw (f.row, f.place) (laid_then bs cs o at);
      place = g.place ∙ rw f.place (rw length-append (omega arith));
    }

module _ (o p : List ℕ) (at b : ℕ) where
  -- a byte written where there is room
  pub lays-in : p ≡ set o at b → Lays o p at (b ∷ []) (at + 1)
  unfolding laid
  lays-in e = record { row = e; place = refl }

  -- and left out where there is none
  pub lays-out : length o ≤ at → p ≡ o → Lays o p at (b ∷ []) (at + 1)
  lays-out past e = record { row = e ∙ sym (laid-past (b ∷ []) o at past); place = refl }
