-- One turn of a loop over a row of items in a text.
use mathlib.Core.Path.{◌∙◌, ◌≡◌, ap, refl, sym}
use mathlib.Core.List.{[], ◌∷◌, List}
use Prim.Native.Nat.{◌-◌, ◌<◌, ◌≤◌, suc, zero, ℕ}
use lib.ListN.{drop, get_or, length, length-drop}
use borrow.Author.Tests.{eq-eqb, ne_eqb}
use native.Mathlib.Omega.{arith}
use Rattle.text_names.proofs.Rest.{first-at}
use Rattle.text_names.specs.Bytes.{first, next}
use Rattle.text_program.specs.Source.{cons_got, got, Reader, row, row_for}

module _ {A : Type 0} (read : Reader A) (mark : ℕ) (s : List ℕ) where
  -- the fuel of a row is what is left of the text
  pub row-fuel : (at left : ℕ) → left ≡ length s - at → row_for left read mark (drop at s) ≡ row read mark (drop at s)
  row-fuel at left e = let h : left ≡ length (drop at s) = omega (arith, length-drop at s) in ap (λ (n : ℕ). row_for n read mark (drop at s)) h

  module _ (left q e b : ℕ) (item : drop e s ≡ (read (drop q s)).rest) (is : b ≡ get_or s e 0) where
    mark-told : first (read (drop q s)).rest ≡ b
    mark-told = ap first (sym item) ∙ first-at s e ∙ sym is

    -- a mark, and the row goes on
    pub row_more : (f : ℕ) → 0 < left → b ≡ mark → drop f s ≡ next (drop e s) →
        row_for left read mark (drop q s) ≡ cons_got (read (drop q s)).value (row_for (left - 1) read mark (drop f s))
    unfolding row_for
    row_more f h m g = go left h
      where
        go : (left : ℕ) → 0 < left → row_for left read mark (drop q s) ≡ cons_got (read (drop q s)).value (row_for (left - 1) read mark (drop f s))
        go zero h = absurd (omega arith)
        go (suc n) h = let z : suc n - 1 ≡ n = omega arith in rw (z, g, item, mark-told, eq-eqb b mark m)

    -- no mark, and this was the last
    pub row_last : 0 < left → (b ≡ mark → ⊥) → row_for left read mark (drop q s) ≡ got ((read (drop q s)).value ∷ []) (drop e s)
    unfolding row_for
    row_last h m = go left h
      where
        go : (left : ℕ) → 0 < left → row_for left read mark (drop q s) ≡ got ((read (drop q s)).value ∷ []) (drop e s)
        go zero h = absurd (omega arith)
        go (suc n) h = rw (item, mark-told, ne_eqb b mark m)

  -- no fuel, nothing more
  pub row-none : (left q : ℕ) → left ≤ 0 → row_for left read mark (drop q s) ≡ got [] (drop q s)
  unfolding row_for
  row-none zero q h = refl
  row-none (suc n) q h = absurd (omega arith)
