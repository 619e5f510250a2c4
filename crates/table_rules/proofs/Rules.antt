-- The kin of a row, what it says of itself, and the row as a whole.
use mathlib.Core.Path.{◌∙◌, ◌≡◌, refl, sym}
use mathlib.Core.Bool.{◌&&◌, ◌||◌, Bool, false, not, true, and-false}
use mathlib.Core.List.{List}
use Prim.Native.Nat.{◌<◌, ◌≤◌, suc, zero, ℕ}
use lib.Dec.{eqb, leb, ltb}
use lib.ListN.{take}
use borrow.Author.Tests.{le-ltb, lt-ltb}
use Rattle.parlog.specs.Codes.{dormant, is_mode, is_result, kind_of, none, reporting, suspended, tag_code, tag_of}
use Rattle.parlog.specs.Program.{goal_by, Program, tag_of_goal}
use Rattle.parlog.specs.Scan.{implies}
use Rattle.parlog.specs.TableRules.{all_below, going_ok, kin_ok, known, makes_tag, notes_ok, places_ok, result_ok, row_ok}
use Rattle.parlog.specs.Tables.{at, noted}
use Rattle.parlog.specs.declared.Process.{Process}

-- ---- kin

later : (pr : Program) (ps : List Process) (x : Process) (j : ℕ) → (j ≡ 0 → ⊥) → kin_ok pr ps j x ≡ (ltb x.parent j && makes_tag (tag_of (at ps x.parent).tag) (tag_of x.tag))
unfolding kin_ok
later pr ps x zero h = absurd (h refl)
later pr ps x (suc j) h = refl

module _ (pr : Program) (ps : List Process) (x : Process) {i : ℕ} where
  pub kin-first : i ≡ 0 → {g : ℕ} {a b : Bool} → g ≡ tag_code (tag_of_goal (goal_by (kind_of 0) pr 0)) → a ≡ (eqb x.parent 0 && eqb x.spot.kind 0) → b ≡ (eqb x.tag g && a) → b ≡ kin_ok pr ps i x
  unfolding kin_ok goal_by kind_of
  kin-first h eg ea e = rw (h, e, ea, eg)

  pub kin-none : (i ≡ 0 → ⊥) → i ≤ x.parent → false ≡ kin_ok pr ps i x
  kin-none h l = rw (later pr ps x i h, le-ltb x.parent i l)

  pub kin-made : (i ≡ 0 → ⊥) → x.parent < i → {u : ℕ} {b : Bool} → u ≡ (at ps x.parent).tag → b ≡ makes_tag (tag_of u) (tag_of x.tag) → b ≡ kin_ok pr ps i x
  kin-made h l eu e = rw (later pr ps x i h, lt-ltb x.parent i l, e, eu)

-- ---- the row

pub own_is : (n i : ℕ) (x : Process) {k r t a b : Bool} → k ≡ (ltb x.tag 9 && (ltb x.mode 6 && (ltb x.result 3 && ltb x.spot.kind 4)))
    → r ≡ implies (is_mode reporting x.mode || (eqb i 0 && is_mode dormant x.mode)) (not (is_result none x.result))
    → t ≡ implies (is_mode suspended x.mode) (leb x.count 4 && all_below n (take x.count x.notes))
    → a ≡ (r && t) → b ≡ (k && a) → b ≡ (known x && (result_ok i x && notes_ok n x))
unfolding known result_ok notes_ok noted
own_is n i x ek er et ea e = rw (e, ea, ek, er, et)

row-order : (k r t m p g : Bool) → (k && (m && (r && (p && (g && t))))) ≡ ((k && (r && t)) && (m && (p && g)))
row-order false r t m p g = refl
row-order true r t false p g = sym (and-false (r && t))
row-order true false t true p g = refl
row-order true true t true false g = sym (and-false t)
row-order true true t true true false = sym (and-false t)
row-order true true false true true true = refl
row-order true true true true true true = refl

module _ (pr : Program) (ps : List Process) (n i : ℕ) where
  row_is : row_ok pr ps n i
      ≡ ((known (at ps i) && (result_ok i (at ps i) && notes_ok n (at ps i)))
      && (kin_ok pr ps i (at ps i) && (places_ok (tag_of (at ps i).tag) pr n (at ps i).spot && going_ok (tag_of (at ps i).tag) pr n (at ps i))))
  unfolding row_ok
  row_is = row-order (known (at ps i)) (result_ok i (at ps i)) (notes_ok n (at ps i)) (kin_ok pr ps i (at ps i)) (places_ok (tag_of (at ps i).tag) pr n (at ps i).spot) (going_ok (tag_of (at ps i).tag) pr n (at ps i))

  module _ {x : Process} (ex : x ≡ at ps i) {a : Bool} (ea : a ≡ (known x && (result_ok i x && notes_ok n x))) where
    pub row-own : a ≡ false → false ≡ row_ok pr ps n i
    row-own f = rw (row_is, ← ex, sym ea ∙ f)

    module _ (q : a ≡ true) {b : Bool} (eb : b ≡ kin_ok pr ps i x) where
      pub row-kin : b ≡ false → false ≡ row_ok pr ps n i
      row-kin f = rw (row_is, ← ex, sym ea ∙ q, sym eb ∙ f)

      pub row-rest : b ≡ true → {c : Bool} → c ≡ (places_ok (tag_of x.tag) pr n x.spot && going_ok (tag_of x.tag) pr n x) → c ≡ row_ok pr ps n i
      row-rest h e = rw (row_is, ← ex, sym ea ∙ q, sym eb ∙ h) e
