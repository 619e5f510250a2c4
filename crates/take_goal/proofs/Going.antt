-- A row of items while it is taken, one item in each turn of a loop.
use mathlib.Core.Path.{◌∙◌, ◌≡◌, ap, refl}
use mathlib.Core.Bool.{Bool}
use mathlib.Core.List.{[], ◌∷◌, List}
use Prim.Native.Nat.{◌+◌, ◌-◌, ◌<◌, ◌≤◌, ℕ}
use lib.ListN.{drop, get_or, length}
use Rattle.lay_text.specs.Laying.{most}
use Rattle.read_goal.proofs.Turn.{row-fuel, row_last, row_more, row-none}
use Rattle.take_goal.specs.Turns.{TakesItems}
use Rattle.take_term.proofs.Laws.{takes-row-done, takes-row-last, takes-row-on, takes-row-start, TakesRow}
use Rattle.take_term.specs.Takes.{moved, Ready, Rows, Takes}
use Rattle.take_term.specs.declared.Reading.{Reading}
use Rattle.text_names.specs.Bytes.{next}
use Rattle.text_names.specs.Names.{Name}
use Rattle.text_program.specs.Source.{got, Reader, row, row_for}

module _ {A : Type 0} (read : Reader A) (mark : ℕ) (names : A → List Name) (bytes : List Name → List Name → A → List ℕ) (right known : A → Bool) (s : List ℕ) (a : Rows) (w : Reading) where
  -- n items of the row are taken, and not more than `left` are to come
  abbrev pub Going : Rows → Reading → ℕ → ℕ → Type 0
  Going b x n left = TakesRow names bytes right known s a w (row read mark (drop w.end s)) b x n (row_for left read mark (drop x.end s))

  -- a row begins
  pub going_start : (left : ℕ) → left ≡ length s - w.end → Ready s a w → length a.out ≤ most → w.at ≤ most → Going a w 0 left
  going_start left e r h i = takes-row-start names bytes right known (row-fuel read mark s w.end left e) r h i

  module _ {b : Rows} {x : Reading} {n left : ℕ} (here : Going b x n left) where
    module _ {c : Rows} {y : Reading} {m : ℕ} (byte : ℕ) (more : 0 < left)
        (item : Takes s b x (read (drop x.end s)).rest m (names (read (drop x.end s)).value) (λ cs vs. bytes cs vs (read (drop x.end s)).value) (right (read (drop x.end s)).value) (known (read (drop x.end s)).value) c y)
        (is : byte ≡ get_or s y.end 0) where
      -- one item more, and the mark behind it
      pub going_on : {z : Reading} (f k : ℕ) → byte ≡ mark → drop f s ≡ next (drop y.end s) → f ≤ length s → z ≡ moved y f k → Going c z (n + 1) (left - 1)
      going_on f k e g h v =
          rw v
          (takes-row-on names bytes right known here (read (drop x.end s)).value (row_for (left - 1) read mark (drop f s)) f k
          (row_more read mark s left x.end y.end byte item.end is f more e g) item refl h)

      -- the last item
      pub going-last : {z : Reading} → (byte ≡ mark → ⊥) → z ≡ moved y y.end (n + 1) → TakesItems names bytes right known s a w (row read mark (drop w.end s)) c z
      going-last e k =
          takes-row-last names bytes right known here (read (drop x.end s)).value
          (row_last read mark s left x.end y.end byte item.end is more e ∙ ap (λ (r : List ℕ). got ((read (drop x.end s)).value ∷ []) r) item.end) item k

    -- no item more
    pub going_done : {z : Reading} → left ≤ 0 → z ≡ moved x x.end n → TakesItems names bytes right known s a w (row read mark (drop w.end s)) b z
    going_done h k = takes-row-done names bytes right known here (row-none read mark s left x.end h) k
