-- Scans over the rows, and the tables as a whole.
use mathlib.Core.Path.{◌∙◌, ◌≡◌, ap, refl, sym}
use mathlib.Core.Bool.{◌&&◌, Bool, false, true, and-false}
use mathlib.Core.List.{List}
use Prim.Native.Nat.{◌*◌, ◌-◌, ◌<◌, ◌≤◌, suc, zero, ℕ}
use lib.Dec.{eqb, leb, ltb}
use lib.ListN.{length}
use borrow.Author.Tests.{leb-true}
use native.Mathlib.Omega.{arith}
use native.Mathlib.Nat.{not-suc-le-zero}
use Rattle.parlog.proofs.Along.{less_one}
use Rattle.parlog.proofs.Assume.{full-sizes}
use Rattle.std.proofs.lemmas.Bool.{and_parts}
use Rattle.parlog.specs.Limits.{Limits}
use Rattle.parlog.specs.Program.{Program}
use Rattle.parlog.specs.Scan.{every, implies}
use Rattle.parlog.specs.TableRules.{binding_ok, cell_known, counts_ok, full_size, lent_ok, row_ok, state_ok, tables_ok, var_ok}
use Rattle.parlog.specs.Tables.{binding_at, binding_by, cell_size, head_size, Lent, marker_last, number_at, proc_count, procs_of, row_size, sort_at, tables_in, var_count, vars_in}
use Rattle.rows.proofs.Tables.{procs-length}
use Rattle.table_rules.specs.Parts.{cell_ok}
use Rattle.vars.proofs.Tables.{vars-at, vars-length}

-- ---- counting down

module _ (f : ℕ → Bool) where
  pub down_step : (q : ℕ) → 0 < q → {b : Bool} → b ≡ f (q - 1) → b ≡ true → every f q ≡ every f (q - 1)
  unfolding every
  down_step zero h e t = absurd (not-suc-le-zero h)
  down_step (suc q) h e t = rw less_one (rw (sym (rw less_one at e) ∙ t))

  pub down-stop : (q : ℕ) → 0 < q → {b : Bool} → b ≡ f (q - 1) → b ≡ false → every f q ≡ false
  unfolding every
  down-stop zero h e t = absurd (not-suc-le-zero h)
  down-stop (suc q) h e t = rw (sym (rw less_one at e) ∙ t)

  pub down-none : (q : ℕ) → q ≡ 0 → every f q ≡ true
  unfolding every
  down-none q e = rw e

-- ---- variables

four-way : (a b c d : Bool) → ((a && b) && (c && d)) ≡ ((a && c) && (b && d))
four-way false b c d = refl
four-way true false false d = refl
four-way true false true d = refl
four-way true true c d = refl

pub cells-both : (l : List ℕ) (n k : ℕ) → every (cell_ok l n) k ≡ (every (cell_known l) k && every (var_ok (vars_in l n)) k)
unfolding every cell_ok
cells-both l n zero = refl
cells-both l n (suc k) = ap (λ (b : Bool). (cell_known l k && var_ok (vars_in l n) k) && b) (cells-both l n k) ∙ four-way (cell_known l k) (var_ok (vars_in l n) k) (every (cell_known l) k) (every (var_ok (vars_in l n)) k)

pub cell-is : (l : List ℕ) (n v : ℕ) → v < n → {m : ℕ} {b : Bool} → m ≡ number_at l v
    → b ≡ ((ltb (sort_at l v) 3 && implies (eqb (sort_at l v) 0) (eqb m 0)) && binding_ok v (binding_by (sort_at l v) m)) → b ≡ cell_ok l n v
unfolding cell_ok cell_known var_ok binding_at
cell-is l n v h em e = rw (e, em, vars-at l n v h)

-- ---- the tables

whole-order : (k c r v m : Bool) → (k && ((c && (r && v)) && m)) ≡ ((c && m) && ((k && v) && r))
whole-order k false r v m = and-false k
whole-order k true r v false = ap (λ (b : Bool). k && b) (and-false (r && v)) ∙ and-false k
whole-order false true r v true = refl
whole-order true true false v true = sym (and-false v)
whole-order true true true v true = refl

pub size_is : (most cap : ℕ) (h l w : List ℕ) {a b : Bool} → a ≡ (eqb (length l) (most * row_size) && eqb (length w) (cap * cell_size)) → b ≡ (eqb (length h) head_size && a)
    → b ≡ full_size (record { procs = most; vars = cap }) (record { head = h; procs = l; vars = w })
unfolding full_size
size_is most cap h l w ea e = rw (e, ea)

module _ (most cap : ℕ) (pr : Program) (h l w : List ℕ) where
  abbrev lim : Limits
  lim = record { procs = most; vars = cap }

  abbrev lent : Lent
  lent = record { head = h; procs = l; vars = w }

  -- counts and marker in numbers
  abbrev counts_code : ℕ → ℕ → ℕ → ℕ → Bool
  counts_code p v k g = (leb 1 p && (leb p most && (leb v cap && leb g v))) && ltb k p

  abbrev cells_code : ℕ → Bool
  cells_code v = every (cell_known w) v && every (var_ok (vars_in w v)) v

  abbrev rows_code : ℕ → ℕ → Bool
  rows_code p v = every (row_ok pr (procs_of l p) v) p

  lent_is : lent_ok lim pr lent
      ≡ (full_size lim lent && (counts_code (proc_count h) (var_count h) (marker_last h) pr.goal_vars && (cells_code (var_count h) && rows_code (proc_count h) (var_count h))))
  unfolding lent_ok tables_ok state_ok counts_ok tables_in
  lent_is =
      rw (procs-length l (proc_count h), vars-length w (var_count h))
      (ap (λ (b : Bool). full_size lim lent && b)
      (whole-order (every (cell_known w) (var_count h)) (leb 1 (proc_count h) && (leb (proc_count h) most && (leb (var_count h) cap && leb pr.goal_vars (var_count h))))
      (rows_code (proc_count h) (var_count h)) (every (var_ok (vars_in w (var_count h))) (var_count h)) (ltb (marker_last h) (proc_count h))))

  module _ {a : Bool} (ea : a ≡ full_size lim lent) where
    pub lent-size : a ≡ false → false ≡ lent_ok lim pr lent
    lent-size f = rw (lent_is, sym ea ∙ f)

    module _ (q : a ≡ true) where
      -- the sizes themselves
      sizes : (length h ≡ head_size) × (length l ≡ most * row_size) × (length w ≡ cap * cell_size)
      sizes = full-sizes lim lent (sym ea ∙ q)

      pub head-fits : head_size ≤ length h
      head-fits = omega (arith, sizes.0)

      module _ (p v k g : ℕ) {b : Bool} (eb : b ≡ counts_code p v k g) where
        counts : b ≡ true → (p ≤ most) × (v ≤ cap)
        counts t =
            let x = and_parts (leb 1 p && (leb p most && (leb v cap && leb g v))) (ltb k p) (sym eb ∙ t) in
            let y = and_parts (leb 1 p) (leb p most && (leb v cap && leb g v)) x.0 in
            let z = and_parts (leb p most) (leb v cap && leb g v) y.1 in
            (leb-true p most z.0, leb-true v cap (and_parts (leb v cap) (leb g v) z.1).0)

        module _ (ep : p ≡ proc_count h) (ev : v ≡ var_count h) (ek : k ≡ marker_last h) (eg : g ≡ pr.goal_vars) where
          pub rows_fit : b ≡ true → p * row_size ≤ length l
          rows_fit t = omega (arith, sizes.1, (counts t).0)

          pub cells_fit : b ≡ true → v * cell_size ≤ length w
          cells_fit t = omega (arith, sizes.2, (counts t).1)

          known-counts : counts_code (proc_count h) (var_count h) (marker_last h) pr.goal_vars ≡ b
          known-counts = rw (ep, ev, ek, eg) at (sym eb)

          pub lent-counts : b ≡ false → false ≡ lent_ok lim pr lent
          lent-counts f = rw (lent_is, sym ea ∙ q, known-counts ∙ f)

          pub lent-rest : b ≡ true → {x y z : Bool} → x ≡ cells_code v → y ≡ rows_code p v → z ≡ (x && y) → z ≡ lent_ok lim pr lent
          lent-rest t ex ey ez = rw (lent_is, sym ea ∙ q, known-counts ∙ t, ez, ex, ey, ep, ev)
