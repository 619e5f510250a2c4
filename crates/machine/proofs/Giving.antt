-- The ways through a supply, and the bytes that it leaves.
use Rattle.std.specs.Prelude.{Option, Ok, Err, Some}
use Rattle.parlog.specs.Answer.{Answer}
use mathlib.Core.Path.{◌∙◌, ◌≡◌, refl, sym}
use mathlib.Core.Bool.{Bool, cond, false, true}
use mathlib.Core.List.{List}
use Prim.Native.Nat.{◌<◌, ◌≤◌, ℕ}
use lib.Dec.{leb, ltb}
use lib.ListN.{length, set}
use borrow.Author.Tests.{le-ltb, leb-true, lt-ltb, ltb-true}
use native.Mathlib.Omega.{arith}
use Rattle.head.proofs.Laws.{head_is}
use Rattle.load.specs.Fields.{refusal_of}
use Rattle.entry.proofs.Entering.{inside_of}
use Rattle.entry.specs.Entered.{EnterSays}
use Rattle.machine.specs.Supplying.{asked_of, DecidedSays, given_by, supply_of, SupplySays, Writes, WritesOf}
use Rattle.parlog.specs.Calls.{supply_answer, supply_call}
use Rattle.parlog.specs.Limits.{Limits}
use Rattle.parlog.specs.Load.{refusal}
use Rattle.parlog.specs.Program.{Program, program_of}
use Rattle.parlog.specs.Run.{supplied, supply_tables, supply_value, ungiven}
use Rattle.parlog.specs.Tables.{head_bytes, Lent, marker_last, marker_steps, number_code, proc_count, put_tables, Tables, tables_in, var_count, vars_in}
use Rattle.parlog.specs.Unify.{changed, value}
use Rattle.parlog.specs.declared.Refusal.{Refusal}
use Rattle.parlog.specs.declared.Term.{Term}
use Rattle.parlog.specs.declared.Term.TheVariants.{Const, Var}
use Rattle.rows.proofs.Exact.{table-bytes}
use Rattle.rows.proofs.Tables.{procs-length, table_same}
use Rattle.rows.specs.Rows.{Bytes}
use Rattle.unify.proofs.Bounds.{top-value}
use Rattle.unify.specs.Pending.{top}
use Rattle.vars.proofs.Exact.{cells-bytes}
use Rattle.vars.proofs.Tables.{vars-set-length}
use Rattle.vars.specs.Cells.{Cells}

module _ (pr : Program) (vs : List (Option Term)) (v c : ℕ) {g : ℕ} (eg : g ≡ pr.goal_vars) where
  pub asked-none : g ≤ v → {f : Refusal} → f ≡ refusal 12 0 → Err f ≡ asked_of pr vs v c
  unfolding asked_of
  asked-none h ef = rw (ef, ← eg, le-ltb v g h)

  pub asked-some : v < g → {t : Term} → t ≡ value vs (Var v) → {x : Answer ℕ} → x ≡ cond (leb c 32767) (given_by t) (Err (refusal 14 0)) → x ≡ asked_of pr vs v c
  unfolding asked_of
  asked-some h et ex = rw (ex, et, ← eg, lt-ltb v g h)

-- ---- what is decided

-- a value that is a variable is no higher
value-below : (vs : List (Option Term)) (v w : ℕ) → value vs (Var v) ≡ Var w → w ≤ v
unfolding top
value-below vs v w e = let h = rw e at (top-value vs (Var v)) in omega (arith, h)

module _ (pr : Program) (l : Lent) (v c : ℕ) where
  abbrev vs : List (Option Term)
  vs = vars_in l.vars (var_count l.head)

  asked-call : supply_answer (supply_tables pr (tables_in l) v c) l ≡ supply_of (asked_of pr vs v c) l c
  unfolding supply_tables asked_of
  asked-call = by (ltb v pr.goal_vars) (leb c 32767)
    where
      term : (t : Term) → supply_answer (supply_value t (tables_in l) c) l ≡ supply_of (given_by t) l c
      term (Const k) = unfold supply_value in refl
      term (Var w) = unfold supply_value in refl

      same : value (tables_in l).state.vars (Var v) ≡ value vs (Var v)
      same = unfold tables_in in refl

      by : (x y : Bool) → supply_answer (cond x (cond y (supply_value (value (tables_in l).state.vars (Var v)) (tables_in l) c) (ungiven 14)) (ungiven 12)) l
          ≡ supply_of (cond x (cond y (given_by (value vs (Var v))) (Err (refusal 14 0))) (Err (refusal 12 0))) l c
      by false y = refl
      by true false = refl
      by true true = rw same (term (value vs (Var v)))

  asked-below : {w : ℕ} → asked_of pr vs v c ≡ Ok w → (ltb w pr.goal_vars ≡ true) × (leb c 32767 ≡ true)
  unfolding asked_of
  asked-below {w} = by (ltb v pr.goal_vars) (leb c 32767) refl refl
    where
      term : (t : Term) → value vs (Var v) ≡ t → given_by t ≡ Ok w → v < pr.goal_vars → ltb w pr.goal_vars ≡ true
      term (Const k) q e h = cc
      term (Var u) q e h = let z : u ≡ w = cc in lt-ltb w pr.goal_vars (omega (arith, value-below vs v u q, z))

      by : (x y : Bool) → ltb v pr.goal_vars ≡ x → leb c 32767 ≡ y → cond x (cond y (given_by (value vs (Var v))) (Err (refusal 14 0))) (Err (refusal 12 0)) ≡ Ok w → (ltb w pr.goal_vars ≡ true) × (leb c 32767 ≡ true)
      by false y h k e = (cc, cc)
      by true false h k e = (cc, cc)
      by true true h k e = (term (value vs (Var v)) refl e (ltb-true v pr.goal_vars h), k)

module _ (lim : Limits) (s : List ℕ) (l : Lent) (v c : ℕ) {a : Answer (ℕ × ℕ)} (told : EnterSays lim s l a) where
  pub decided-refused : {f r : Refusal} → a ≡ Err f → r ≡ refusal_of a → DecidedSays lim s l v c (Err r)
  unfolding supply_call
  decided-refused e er = record { call = rw (told.entry, er, e); writes = tt }

  pub decided-asked : {r k : ℕ} → a ≡ Ok (r, k) → {x : Answer ℕ} → x ≡ asked_of (program_of s r k) (vars_in l.vars (var_count l.head)) v c → DecidedSays lim s l v c x
  decided-asked {r} {k} e {x} ex = record { call = whole; writes = writing x ex }
    where
      whole : supply_call lim s l v c ≡ supply_of x l c
      whole = unfold supply_call in rw (told.entry, e, ex) (asked-call (program_of s r k) l v c)

      writing : (y : Answer ℕ) → y ≡ asked_of (program_of s r k) (vars_in l.vars (var_count l.head)) v c → WritesOf y l c
      writing (Err f) ey = tt
      writing (Ok w) ey =
          let i = inside_of lim s l told e in
          let b = asked-below (program_of s r k) l v c (sym ey) in
          let u = ltb-true w (program_of s r k).goal_vars b.0 in
          record { row = omega (arith, u, i.goal); constant = leb-true c 32767 b.1; head = i.head; rows = i.rows; cells = i.cells; cells_known = i.cells_known }

pub writes-of : (lim : Limits) (s : List ℕ) (l : Lent) (v c : ℕ) {a : Answer ℕ} {w : ℕ} → DecidedSays lim s l v c a → a ≡ Ok w → Writes l w c
writes-of lim s l v c h e = rw e at h.writes

pub constant-small : (c : ℕ) → c ≤ 32767 → number_code (Some (Const c)) < 16777216
constant-small c h = omega arith

-- ---- bytes

module _ (l : Lent) (w c : ℕ) (can : Writes l w c) where
  abbrev after : Tables
  after = supplied (tables_in l) w c

  after-vars : after.state.vars ≡ set (vars_in l.vars (var_count l.head)) w (Some (Const c))
  unfolding supplied tables_in changed
  after-vars = refl

  -- the head holds the same counts and the same marker
  head-stays : Bytes l.head → l.head ≡ (put_tables l after).head
  unfolding put_tables
  head-stays are = head_is l.head can.head are ∙ sym same
    where
      n : length after.state.procs ≡ proc_count l.head
      n = unfold supplied tables_in in procs-length l.procs (proc_count l.head)

      m : length after.state.vars ≡ var_count l.head
      m = rw after-vars (vars-set-length l.vars (var_count l.head) w (Some (Const c)))

      last : after.last ≡ marker_last l.head
      last = unfold supplied tables_in in refl

      steps : after.steps ≡ marker_steps l.head
      steps = unfold supplied tables_in in refl

      same : head_bytes (length after.state.procs) (length after.state.vars) after.last after.steps ≡ head_bytes (proc_count l.head) (var_count l.head) (marker_last l.head) (marker_steps l.head)
      same = rw (n, m, last, steps)

  -- the same rows written back
  procs-stay : Bytes l.procs → l.procs ≡ (put_tables l after).procs
  unfolding put_tables supplied tables_in
  procs-stay are =
      table-bytes (table_same l.procs (proc_count l.head)) are (omega (arith, procs-length l.procs (proc_count l.head), can.rows))

  vars-put : {m : List ℕ} → Cells (var_count l.head) l.vars m (set (vars_in l.vars (var_count l.head)) w (Some (Const c))) → Bytes m → m ≡ (put_tables l after).vars
  unfolding put_tables
  vars-put t are =
      rw after-vars (cells-bytes t can.cells_known are (omega (arith, vars-set-length l.vars (var_count l.head) w (Some (Const c)), can.cells)))

-- ---- the call

module _ (lim : Limits) (s : List ℕ) (l : Lent) (v c : ℕ) {a : Answer ℕ} (told : DecidedSays lim s l v c a) where
  pub supply-refused : {f : Refusal} → a ≡ Err f → SupplySays lim s l v c (Err f) l.head l.procs l.vars
  supply-refused e = let k = rw e at told.call in record { answer = rw k; head = rw k; procs = rw k; vars = rw k }

  pub supply-given : {w n : ℕ} {m : List ℕ} → a ≡ Ok w → n ≡ var_count l.head
      → Cells n l.vars m (set (vars_in l.vars n) w (Some (Const c)))
      → Bytes l.head → Bytes l.procs → Bytes m → SupplySays lim s l v c (Ok w) l.head l.procs m
  supply-given {w} e en t hs ps ms =
      let k = rw e at told.call in
      let can = writes-of lim s l v c told e in
      record { answer = rw k; head = rw k (head-stays l w c can hs); procs = rw k (procs-stay l w c can ps); vars = rw k (vars-put l w c can (rw en at t) ms) }
