-- One turn of the loop over the bytes of a name.
use mathlib.Core.Path.{◌≡◌}
use mathlib.Core.Bool.{Bool, false, not, true}
use mathlib.Core.List.{List}
use Prim.Native.Nat.{◌%◌, ◌*◌, ◌+◌, ◌<◌, ◌≤◌, ℕ}
use lib.ListN.{drop, drop_of_length-le, get_or, length}
use lib.Seq.{drop-cons}
use borrow.Author.Tests.{not-false, not-true}
use native.Mathlib.Numerals.{add-one}
use Rattle.name_index.specs.Index.{chain_from}
use Rattle.text_names.specs.Bytes.{back, front, is_name}

module _ (s : List ℕ) (i h b : ℕ) (is : b ≡ get_or s i 0) where
  pub name-stop : (r : Bool) → i < length s → r ≡ is_name b → not r ≡ true → (drop i s ≡ back (drop i s)) × (chain_from h (front (drop i s)) ≡ h)
  unfolding back front chain_from
  name-stop r l e f = (rw (drop-cons s i 0 l, ← is, ← e, not-true r f), rw (drop-cons s i 0 l, ← is, ← e, not-true r f))

  pub name-go : (r : Bool) (k : ℕ) → i < length s → r ≡ is_name b → not r ≡ false → k ≡ (h * 31 + b) % 512 →
      (back (drop i s) ≡ back (drop (i + 1) s)) × (chain_from h (front (drop i s)) ≡ chain_from k (front (drop (i + 1) s)))
  unfolding back front chain_from
  name-go r k l e f g = (rw (add-one, drop-cons s i 0 l, ← is, ← e, not-false r f), rw (add-one, drop-cons s i 0 l, ← is, ← e, not-false r f, g))

pub name-none : (s : List ℕ) (i h : ℕ) → length s ≤ i → (drop i s ≡ back (drop i s)) × (chain_from h (front (drop i s)) ≡ h)
unfolding back front chain_from
name-none s i h l = (rw (drop_of_length-le s l), rw (drop_of_length-le s l))
