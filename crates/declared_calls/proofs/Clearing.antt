-- A row of chains cleared: it is that of a table without names.
use mathlib.Core.Path.{◌∙◌, ◌≡◌, ap}
use mathlib.Core.List.{◌++◌, List}
use Prim.Native.Nat.{◌+◌, ◌≤◌, ℕ}
use lib.ListN.{drop, get_or, get_or-append, get_or-replicate, length, length-append, length-drop, length-replicate, replicate, take}
use lib.Seq.{length-take-le}
use native.Mathlib.Omega.{arith}
use Rattle.declared_calls.specs.Declares.{Cleared}
use Rattle.name_index.specs.Index.{Indexed, latest}

-- the chains filled with 0
pub clear-all : {l z : List ℕ} → 512 ≤ length l → z ≡ replicate (length (take 512 l)) 0 → Cleared l (z ++ drop 512 l)
clear-all {l} {z} h e =
    let n : length z ≡ 512 = ap length e ∙ length-replicate (length (take 512 l)) 0 ∙ length-take-le 512 l h in
    record {
      heads = λ j g. get_or-append z (drop 512 l) 0 j (omega arith) ∙ ap (λ (y : List ℕ). get_or y j 0) e ∙ get_or-replicate (length (take 512 l)) j 0 0 (omega (arith, length-take-le 512 l h));
      size = omega (arith, length-append z (drop 512 l), length-drop 512 l);
    }

-- a table of no name
pub cleared-index : (s t : List ℕ) {l k : List ℕ} → Cleared l k → length l ≡ 512 + length t → length t ≤ 65535 → Indexed s t k 0
unfolding latest
cleared-index s t c e h = record {
  inside = omega arith;
  small = h;
  size = c.size ∙ e;
  once = λ i g. absurd (omega arith);
  heads = λ i g. c.heads i g;
  links = λ i g. absurd (omega arith);
}
