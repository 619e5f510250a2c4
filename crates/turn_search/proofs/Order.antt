-- Turn order over any test: one pass downward finds the lowest row that passes, and the lowest behind the last.
use Rattle.std.specs.Prelude.{Option, Some, None}
use Rattle.std.specs.Option.{option_or}
use mathlib.Core.Path.{◌∙◌, ◌≡◌, ap, refl}
use mathlib.Core.Bool.{◌&&◌, Bool, cond, false, true}
use Prim.Native.Nat.{◌-◌, ◌<◌, suc, ℕ}
use lib.Dec.{ltb}
use native.Mathlib.Omega.{arith}
use Rattle.children.proofs.Noting.{or_nothing}
use Rattle.parlog.specs.Program.{Program}
use Rattle.parlog.specs.Run.{can_move, turn_of}
use Rattle.parlog.specs.Scan.{lowest, or_else}
use Rattle.parlog.specs.Tables.{State}

-- what was found from row q on, and the rows below q, give what all give
abbrev pub Kept : (ℕ → Bool) → ℕ → ℕ → Option ℕ → Type 0
Kept f n q v = or_else (lowest f q) v ≡ lowest f n

kept_by : (g b : Option ℕ) (c : Bool) (q : ℕ) → or_else g (cond c (Some q) b) ≡ or_else (or_else g (cond c (Some q) None)) b
kept_by (Some i) b c q = refl
kept_by None b true q = refl
kept_by None b false q = refl

module _ (f : ℕ → Bool) (n : ℕ) where
  kept-start : Kept f n n None
  kept-start = or_nothing (lowest f n)

  kept_next : (q : ℕ) (v : Option ℕ) → Kept f n (suc q) v → {c : Bool} → c ≡ f q → Kept f n q (cond c (Some q) v)
  unfolding lowest
  kept_next q v so {c} ec = kept_by (lowest f q) v c q ∙ rw ec so

  kept-end : (v : Option ℕ) → Kept f n 0 v → v ≡ lowest f n
  unfolding lowest
  kept-end v so = so

-- the pass so far, whatever the program: v behind the last, w of all
abbrev pub Swept : State → ℕ → ℕ → ℕ → Option ℕ → Option ℕ → Type 0
Swept st n last q v w = (pr : Program) → Kept (λ i. ltb last i && can_move pr st i) n q v × Kept (can_move pr st) n q w

either : (a b : Option ℕ) → option_or a b ≡ or_else a b
either (Some i) b = refl
either None b = refl

both : (a c : Bool) (q v : Option ℕ) → cond c (cond a q v) v ≡ cond (a && c) q v
both true c q v = refl
both false true q v = refl
both false false q v = refl

module _ (st : State) (n last : ℕ) where
  pub sweep-next : (q : ℕ) (v w : Option ℕ) → 0 < q → Swept st n last q v w → {c : Bool} → ((pr : Program) → c ≡ can_move pr st (q - 1))
      → {v' w' : Option ℕ} → v' ≡ cond c (cond (ltb last (q - 1)) (Some (q - 1)) v) v → w' ≡ cond c (Some (q - 1)) w → Swept st n last (q - 1) v' w'
  sweep-next q v w h so {c} is ev ew pr =
      let e : suc (q - 1) ≡ q = omega arith in
      let later : Kept (λ i. ltb last i && can_move pr st i) n (q - 1) (cond (ltb last (q - 1) && c) (Some (q - 1)) v) =
      kept_next (λ i. ltb last i && can_move pr st i) n (q - 1) v (rw e (so pr).0) (ap (λ (x : Bool). ltb last (q - 1) && x) (is pr)) in
      let all : Kept (can_move pr st) n (q - 1) (cond c (Some (q - 1)) w) = kept_next (can_move pr st) n (q - 1) w (rw e (so pr).1) (is pr) in
      (rw (ev, both (ltb last (q - 1)) c (Some (q - 1)) v) later, rw ew all)

  pub sweep-end : (q : ℕ) (v w : Option ℕ) → q ≡ 0 → Swept st n last q v w → {g : Option ℕ} → g ≡ option_or v w → (pr : Program) → g ≡ turn_of (can_move pr st) n last
  unfolding turn_of
  sweep-end q v w e so eg pr =
      let k = rw e at (so pr) in
      eg ∙ either v w ∙ rw (kept-end (λ i. ltb last i && can_move pr st i) n v k.0, kept-end (can_move pr st) n w k.1)
