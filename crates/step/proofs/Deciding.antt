-- What is decided before a step is made: whether a rule applies, and whether there is room.
use mathlib.Core.Path.{◌∙◌, ◌≡◌, refl, sym}
use mathlib.Core.Bool.{◌&&◌, Bool, false, true}
use mathlib.Core.List.{List}
use Prim.Native.Nat.{◌*◌, ◌+◌, ◌<◌, ◌≤◌, min, ℕ}
use lib.Dec.{ltb}
use lib.ListN.{length}
use borrow.Author.Tests.{lt-ltb, ltb-false, ltb-true}
use native.Mathlib.Omega.{arith}
use Rattle.children.specs.Telling.{Tells}
use Rattle.children.specs.declared.Told.{Told}
use Rattle.entry.specs.Entered.{Inside}
use Rattle.load.proofs.Accepted.{accepted}
use Rattle.load.proofs.Heads.{accepted-heads}
use Rattle.load.proofs.Sanity.{accepted-sane}
use Rattle.move_plan.proofs.Plans.{applied-none, applied-some, fits-is, fits-procs, fits-vars}
use Rattle.move_plan.specs.Plans.{applied_of, delta_of, fits_in, new_most, state_in, Within}
use Rattle.move_plan.specs.declared.Plan.{Plan}
use Rattle.moves.proofs.Legal.{legal, right-sized}
use Rattle.moves.specs.Legal.{Legal}
use Rattle.parlog.proofs.Bools.{and-true, split}
use Rattle.parlog.proofs.Steps.{steady_kept}
use Rattle.parlog.specs.Limits.{Limits, small, Usable}
use Rattle.parlog.specs.Program.{Program, program_of}
use Rattle.parlog.specs.Rules.{by_rule, fits, move, rule_of, with_room}
use Rattle.parlog.specs.Run.{counted, made, procs_in, step_by, stepped, step_tables, unmade}
use Rattle.parlog.specs.Scan.{every}
use Rattle.parlog.specs.TableRules.{cell_known, full_size, lent_ok, state_ok, tables_ok}
use Rattle.parlog.specs.Tables.{at, cell_size, head_size, Lent, proc_count, procs_of, row_size, tables_in, var_count}
use Rattle.parlog.specs.declared.Process.{Process}
use Rattle.rows.proofs.Tables.{procs-length}
use Rattle.step.specs.Stepping.{Carries, step_in}
use Rattle.tree.specs.Family.{Falls, most_rows}
use Rattle.vars.proofs.Tables.{vars-length}

-- ---- what a mover may count on

-- what is told of so many rows
pub told_of : (l : List ℕ) (p : ℕ) {t : Told} {k n : ℕ} → n ≡ k → ((at (procs_of l k) p).mode ≡ 3 → Tells (procs_of l k) p t) → (at (procs_of l n) p).mode ≡ 3 → Tells (procs_of l n) p t
told_of l p e h = rw e h

-- one that does not wait need not be told
pub not-waiting : (ps : List Process) (p : ℕ) {k : ℕ} {t : Told} → k ≡ (at ps p).mode → (k ≡ 3 → ⊥) → (at ps p).mode ≡ 3 → Tells ps p t
not-waiting ps p e ne h = absurd (ne (e ∙ h))

-- what fits is within the limits
pub room_for : (lim : Limits) (n m : ℕ) (pl : Plan) {b : Bool} → b ≡ fits_in lim.procs lim.vars n m pl.count pl.fresh → b ≡ true → (n + pl.count ≤ lim.procs) × (m + pl.fresh ≤ lim.vars)
room_for lim n m pl eb q = (fits-procs lim.procs lim.vars n m pl.count pl.fresh (sym eb ∙ q), fits-vars lim.procs lim.vars n m pl.count pl.fresh (sym eb ∙ q))

module _ (lim : Limits) (s : List ℕ) (r c : ℕ) (l : Lent) (i : Inside lim s r c l) where
  abbrev pr : Program
  pr = program_of s r c

  pub tables-good : tables_ok lim pr (tables_in l) ≡ true
  unfolding lent_ok
  tables-good =
      let a = and-true (full_size lim l) (every (cell_known l.vars) (var_count l.head) && tables_ok lim pr (tables_in l)) i.good in
      (and-true (every (cell_known l.vars) (var_count l.head)) (tables_ok lim pr (tables_in l)) a.1).1

  state-good : state_ok lim pr (tables_in l).state ≡ true
  unfolding tables_ok
  state-good = (and-true (state_ok lim pr (tables_in l).state) (ltb (tables_in l).last (length (tables_in l).state.procs)) tables-good).0

  -- every process may move
  pub may-move : Usable lim → (p : ℕ) → p < proc_count l.head → {n m : ℕ} → n ≡ proc_count l.head → m ≡ var_count l.head → Legal pr (state_in l.procs n l.vars m) p
  unfolding tables_in
  may-move ok p h en em =
      rw (en, em) (legal lim pr (tables_in l).state (accepted-sane s r c i.loaded) (accepted-heads s r c i.loaded) (right-sized s r c (accepted s r c i.loaded) i.clauses)
      state-good p (omega (arith, procs-length l.procs (proc_count l.head), h)) (omega (arith, vars-length l.vars (var_count l.head), i.vars_most, ok.vars_counted)))

  -- where the climb to what is below may stop
  pub parents-fall : {n : ℕ} → n ≡ proc_count l.head → Falls (procs_of l.procs n)
  parents-fall e = rw e (unfold tables_in in (steady_kept lim pr (tables_in l) tables-good).0.kin.lower)

  -- ---- what the callees of a step ask

  pub rule-asks : Usable lim → lim.vars ≤ 60000 → (p : ℕ) → p < proc_count l.head → {n m : ℕ} → n ≡ proc_count l.head → n ≤ 65535 → m ≡ var_count l.head
      → {t : Told} → ((at (procs_of l.procs (proc_count l.head)) p).mode ≡ 3 → Tells (procs_of l.procs (proc_count l.head)) p t)
      → (n ≤ 65535) × (m ≤ 60000) × (p < n) × Legal pr (state_in l.procs n l.vars m) p
      × ((at (procs_of l.procs n) p).mode ≡ 3 → Tells (procs_of l.procs n) p t)
  rule-asks ok few p h en hn em told = (hn, omega (arith, i.vars_most, few, em), rw en h, may-move ok p h en em, told_of l.procs p en told)

  pub fits-asks : {n m : ℕ} → n ≡ proc_count l.head → m ≡ var_count l.head → (n ≤ lim.procs) × (m ≤ lim.vars)
  fits-asks en em = (rw en i.procs_most, rw em i.vars_most)

-- ---- what the callees of the writing ask

module _ (lim : Limits) (l : Lent) (p : ℕ) (pl : Plan) (can : Carries lim l p pl) {n m : ℕ} (en : n ≡ proc_count l.head) (em : m ≡ var_count l.head) where
  pub write-asks : ((n + pl.count) * row_size ≤ length l.procs) × (pl.count ≤ new_most) × (p < n) × Falls (procs_of l.procs n) × ((m + pl.fresh) * cell_size ≤ length l.vars)
      × Within (m + pl.fresh) pl.changes.count pl.changes.list × (n ≤ most_rows)
  write-asks = (rw en can.rows, can.new, rw en can.mover, rw en can.falls, rw em can.cells, λ j u. let x = can.within j u in (omega (arith, x.0, em), x.1), rw en can.marks)

  pub head-asks : Usable lim → (length l.head ≡ head_size) × (n + pl.count ≤ 65535) × (m + pl.fresh ≤ 65535) × (p ≤ 65535)
  head-asks ok =
      (can.head, omega (arith, can.few_procs, ok.procs_counted), omega (arith, can.few-vars, ok.vars_counted), omega (arith, can.mover, can.few_procs, ok.procs_counted))

-- a run has no more rows than marks are kept for
pub small-rows : small.procs ≤ most_rows
unfolding small
small-rows = omega arith

-- the variables of a run can be counted
pub small-few : small.vars ≤ 60000
unfolding small
small-few = omega arith

-- ---- the decision

module _ (lim : Limits) (s : List ℕ) (r c : ℕ) (l : Lent) (p : ℕ) (h : p < proc_count l.head) {n m : ℕ} (en : n ≡ proc_count l.head) (em : m ≡ var_count l.head)
    (pl : Plan) (is : applied_of pl ≡ rule_of (program_of s r c) (state_in l.procs n l.vars m) p) where
  rule_is : rule_of (program_of s r c) (tables_in l).state p ≡ applied_of pl
  unfolding tables_in
  rule_is = sym (rw (en, em) at is)

  there : ltb p (procs_in (tables_in l)) ≡ true
  unfolding tables_in
  there = lt-ltb p (length (procs_of l.procs (proc_count l.head))) (omega (arith, procs-length l.procs (proc_count l.head), h))

  step-by : step_in lim s r c l p ≡ step_by (with_room lim (tables_in l).state (applied_of pl)) (tables_in l) p
  unfolding step_tables move
  step-by = rw (there, rule_is)

  room-is : fits_in lim.procs lim.vars n m pl.count pl.fresh ≡ fits lim (tables_in l).state (delta_of pl)
  unfolding tables_in
  room-is =
      let a = procs-length l.procs (proc_count l.head) in
      let b = vars-length l.vars (var_count l.head) in
      rw (en, em) (rw (a, b) at (fits-is lim (tables_in l).state pl))

  -- 10: no rule applies
  pub step-still : pl.acts ≡ false → step_in lim s r c l p ≡ unmade 10
  step-still e = step-by ∙ rw (applied-none pl e) (unfold step_by in refl)

  -- the rule that does
  pub rule-made : pl.acts ≡ true → rule_of (program_of s r c) (tables_in l).state p ≡ by_rule pl.mv (delta_of pl)
  rule-made e = rule_is ∙ applied-some pl e

  module _ (e : pl.acts ≡ true) {b : Bool} (eb : b ≡ fits_in lim.procs lim.vars n m pl.count pl.fresh) where
    -- 11: there is no room for what it makes
    pub step-full : b ≡ false → step_in lim s r c l p ≡ unmade 11
    step-full q = step-by ∙ rw (applied-some pl e, sym room-is ∙ sym eb ∙ q) (unfold step_by in refl)

    pub step-made : b ≡ true → step_in lim s r c l p ≡ made pl.mv (stepped (tables_in l) p (delta_of pl))
    step-made q = step-by ∙ rw (applied-some pl e, sym room-is ∙ sym eb ∙ q) (unfold step_by in refl)

-- one step more
pub count-capped : (k : ℕ) → k ≤ 4294967295 → min (k + 1) 4294967295 ≡ counted k
count-capped k top = split (ltb k 4294967295)
    (λ e. let h = ltb-true k 4294967295 e in rw e (omega arith))
    (λ e. let h = ltb-false k 4294967295 e in rw e (omega (arith, top)))
