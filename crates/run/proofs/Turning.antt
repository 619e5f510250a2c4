-- The ways through a turn, and through one turn of a run.
use Rattle.std.specs.Prelude.{Option, Some, Ok, Err, None}
use Rattle.parlog.specs.Answer.{Answer}
use mathlib.Core.Path.{◌∙◌, ◌≡◌, ap, refl, sym}
use mathlib.Core.Bool.{Bool, false, true}
use mathlib.Core.List.{[], List}
use Prim.Native.Nat.{◌+◌, ◌-◌, ◌<◌, suc, ℕ}
use lib.Dec.{eqb}
use borrow.Author.Tests.{eq-eqb, ne_eqb}
use native.Mathlib.Omega.{arith}
use Rattle.children.specs.Telling.{Tells}
use Rattle.children.specs.declared.Told.{Told}
use Rattle.load.specs.Fields.{refusal_of}
use Rattle.entry.specs.Entered.{EnterSays, Inside}
use Rattle.move_plan.specs.Plans.{state_in}
use Rattle.parlog.proofs.Repeated.{turn-can}
use Rattle.parlog.proofs.Steps.{turn_is}
use Rattle.parlog.specs.Calls.{entered, run_call, run_entry, step_answer, turn_call}
use Rattle.parlog.specs.Codes.{result_of}
use Rattle.parlog.specs.Limits.{Limits}
use Rattle.parlog.specs.Load.{refusal}
use Rattle.parlog.specs.Program.{Program, program_of}
use Rattle.parlog.specs.Run.{can_move, end_of, goal_ended, goal_result, halt, made, run_from, Stepping, step_tables, turn_for, turn_of, turn_tables, turn_to, unmade}
use Rattle.parlog.specs.Tables.{at, Lent, lent, marker_last, proc_count, procs_of, put_tables, Tables, tables_in, var_count}
use Rattle.parlog.specs.declared.End.{End}
use Rattle.parlog.specs.declared.End.TheVariants.{Budget, Room, Waiting}
use Rattle.parlog.specs.declared.Move.{Move}
use Rattle.parlog.specs.declared.Refusal.{Refusal}
use Rattle.rows.proofs.Tables.{procs-length}
use Rattle.run.proofs.Runs.{comes-to, grown-then, one_less, run-ended, run-goes, run_room, run-spent, run-waits, sleeps}
use Rattle.run.specs.Running.{Going, LookSays, RanSays, RunSays, TurnedIn, Turning, TurnSays, WhoseSays}
use Rattle.run.specs.declared.View.{View}
use Rattle.step.proofs.Deciding.{parents-fall}
use Rattle.step.specs.Stepping.{step_in, SteppedSays, tables_after}
use Rattle.turn_search.specs.declared.Turn.{Turn}

-- ---- whose turn it is

pub turning : (lim : Limits) (s : List ℕ) (r c : ℕ) (l : Lent) → Inside lim s r c l → Turning lim l.head l.procs l.vars
turning lim s r c l i = record { head = omega (arith, i.head); rows = i.rows; procs_most = i.procs_most; cells = i.cells; falls = parents-fall lim s r c l i refl; last = i.last }

module _ (h p v : List ℕ) {n m last : ℕ} {t : Turn} (en : n ≡ proc_count h) where
  pub whose-is : m ≡ var_count h → last ≡ marker_last h → ((pr : Program) → t.who ≡ turn_of (can_move pr (state_in p n v m)) n last)
      → ((q : ℕ) → t.who ≡ Some q → Tells (procs_of p n) q t.told) → WhoseSays (lent h p v) t
  whose-is em el q ts = record { who = λ pr. unfold turn_for tables_in in (rw (procs-length p (proc_count h)) (rw (en, em, el) at (q pr))); told = rw en at ts }

pub turn_below : (l : Lent) {p : ℕ} {f : Option ℕ} → ((pr : Program) → f ≡ turn_for pr (tables_in l)) → f ≡ Some p → p < proc_count l.head
unfolding tables_in
turn_below l {p} whose q = let any : Program = program_of [] 0 0 in let none : Limits = record { procs = 0; vars = 0 } in let h = turn-can none any (tables_in l) p (sym (whose any) ∙ q) in omega (arith, h.0, procs-length l.procs (proc_count l.head))

-- ---- the turn

module _ (lim : Limits) (s : List ℕ) (r c : ℕ) (l : Lent) {f : Option ℕ} (whose : (pr : Program) → f ≡ turn_for pr (tables_in l)) where
  abbrev pr : Program
  pr = program_of s r c

  pub turn-none : f ≡ None → {x : Refusal} → x ≡ refusal 10 0 → TurnedIn lim s r c l (Err x) l.head l.procs l.vars
  turn-none e ex =
      let z : turn_tables lim pr (tables_in l) ≡ unmade 10 = unfold turn_tables turn_to in rw (sym (whose pr) ∙ e) in
      record { answer = rw (z, ex); head = rw z; procs = rw z; vars = rw z }

  pub turn-some : {p : ℕ} → f ≡ Some p → {a : Answer Move} {h ps vs : List ℕ} → SteppedSays lim s r c l p a h ps vs → TurnedIn lim s r c l a h ps vs
  turn-some {p} e d =
      let z : turn_tables lim pr (tables_in l) ≡ step_tables lim pr (tables_in l) p = turn_is lim pr (tables_in l) p (sym (whose pr) ∙ e) in
      record { answer = rw z d.answer; head = rw z d.head; procs = rw z d.procs; vars = rw z d.vars }

module _ (lim : Limits) (s : List ℕ) (l : Lent) {a : Answer (ℕ × ℕ)} (says : EnterSays lim s l a) where
  pub turn-refused : {f x : Refusal} → a ≡ Err f → x ≡ refusal_of a → TurnSays lim s l (Err x) l.head l.procs l.vars
  turn-refused {f} {x} e ex =
      let z : turn_call lim s l ≡ record { answer = Err x; lent = l } = unfold turn_call in rw (says.entry, ex, e) in
      record { answer = rw z; head = rw z; procs = rw z; vars = rw z }

  pub turn-turned : {r c : ℕ} → a ≡ Ok (r, c) → {x : Answer Move} {h p v : List ℕ} → TurnedIn lim s r c l x h p v → TurnSays lim s l x h p v
  turn-turned {r} {c} e d =
      let z : turn_call lim s l ≡ step_answer (turn_tables lim (program_of s r c) (tables_in l)) l = unfold turn_call in rw (says.entry, e) in
      record { answer = rw z d.answer; head = rw z d.head; procs = rw z d.procs; vars = rw z d.vars }

  pub run-refused : (limit : ℕ) {f x : Refusal} → a ≡ Err f → x ≡ refusal_of a → RunSays lim s l limit (Err x) l.head l.procs l.vars
  run-refused limit {f} {x} e ex =
      let z : run_call lim s l limit ≡ record { answer = Err x; lent = l } = unfold run_call in rw (says.entry, ex, e) in
      record { answer = rw z; head = rw z; procs = rw z; vars = rw z }

  pub run_ran : (limit : ℕ) {r c : ℕ} → a ≡ Ok (r, c) → {x : Answer (End × ℕ)} {h p v : List ℕ} → RanSays lim s r c l limit x (lent h p v) → RunSays lim s l limit x h p v
  run_ran limit {r} {c} e d =
      let z : run_call lim s l limit ≡ run_entry (entered (program_of s r c) (tables_in l)) lim l limit = unfold run_call in rw (says.entry, e) in
      record { answer = rw z d.answer; head = rw z d.head; procs = rw z d.procs; vars = rw z d.vars }

-- ---- the tests before a step

module _ (l : Lent) {n x : ℕ} (en : n ≡ proc_count l.head) (ex : x ≡ (at (procs_of l.procs n) 0).mode) where
  mode-is : goal_ended (tables_in l) ≡ eqb x 0
  unfolding tables_in
  mode-is = rw (← en) (sym (sleeps ex))

  pub look-ended : x ≡ 0 → {y : ℕ} → y ≡ (at (procs_of l.procs n) 0).result → {e : End} → e ≡ end_of (result_of y) → {t : Told} → LookSays l (record { who = None; told = t; end = e })
  look-ended q {y} ey {e} ee = record { who = λ pr. rw z; end = rw z told; told = λ p h. let w : ◌≡◌ {A = ℕ} 0 1 = cc in absurd (omega arith) }
    where
      z : goal_ended (tables_in l) ≡ true
      z = mode-is ∙ eq-eqb x 0 q

      told : e ≡ goal_result (tables_in l)
      told = unfold tables_in in (rw (← en) (ee ∙ ap (λ (i : ℕ). end_of (result_of i)) ey))

  pub look-goes : (x ≡ 0 → ⊥) → {t : Turn} → WhoseSays l t → LookSays l (record { who = t.who; told = t.told; end = Waiting })
  look-goes ne d =
      let z : goal_ended (tables_in l) ≡ false = mode-is ∙ ne_eqb x 0 ne in
      record { who = λ pr. rw z (d.who pr); end = rw z; told = d.told }

module _ (l : Lent) {w : View} (d : LookSays l w) where
  -- nobody's turn: every run ends here
  look_none : w.who ≡ None → (lim : Limits) (pr : Program) (j n : ℕ) → run_from j lim pr n (tables_in l) ≡ halt w.end n (tables_in l)
  look_none q lim pr j n = go (goal_ended (tables_in l)) refl
    where
      go : (b : Bool) → goal_ended (tables_in l) ≡ b → run_from j lim pr n (tables_in l) ≡ halt w.end n (tables_in l)
      go true z =
          let e : w.end ≡ goal_result (tables_in l) = rw z at d.end in
          rw e (run-ended lim pr (tables_in l) j n z)
      go false z =
          let e : w.end ≡ Waiting = rw z at d.end in
          let f : w.who ≡ turn_for pr (tables_in l) = rw z at (d.who pr) in
          rw e (run-waits lim pr (tables_in l) z j n (sym f ∙ q))

  -- somebody's: the goal has not ended
  look-some : {p : ℕ} → w.who ≡ Some p → (goal_ended (tables_in l) ≡ false) × ((pr : Program) → turn_for pr (tables_in l) ≡ Some p)
  look-some {p} q = go (goal_ended (tables_in l)) refl
    where
      go : (b : Bool) → goal_ended (tables_in l) ≡ b → (goal_ended (tables_in l) ≡ false) × ((pr : Program) → turn_for pr (tables_in l) ≡ Some p)
      go true z =
          let f : w.who ≡ None = rw z at (d.who (program_of [] 0 0)) in
          let y : ◌≡◌ {A = ℕ} 0 1 = cc in absurd (omega arith)
      go false z = (z, λ pr. let f : w.who ≡ turn_for pr (tables_in l) = rw z at (d.who pr) in sym f ∙ q)

  pub look-below : {p : ℕ} → w.who ≡ Some p → p < proc_count l.head
  look-below {p} q = turn_below l (λ pr. sym ((look-some q).1 pr)) refl

-- ---- the loop of a run

pub moved-is : (x : Stepping) (l : Lent) (t : Tables) {m : Move} → (step_answer x l).answer ≡ Ok m → x ≡ made m (tables_after x t)
moved-is (unmade k) l t e = let z : ◌≡◌ {A = ℕ} 0 1 = cc in absurd (omega arith)
moved-is (made m t') l t e = cc

pub unmoved-is : (x : Stepping) (l : Lent) {f : Refusal} → (step_answer x l).answer ≡ Err f → (k : ℕ) × (x ≡ unmade k)
unmoved-is (unmade k) l e = (k, refl)
unmoved-is (made m t') l e = let z : ◌≡◌ {A = ℕ} 0 1 = cc in absurd (omega arith)

module _ (lim : Limits) (s : List ℕ) (r c : ℕ) (l₀ : Lent) (limit : ℕ) (i₀ : Inside lim s r c l₀) (l : Lent) (k : ℕ) (g : Going lim s r c l₀ l limit k) {w : View} (d : LookSays l w) where
  abbrev prog : Program
  prog = program_of s r c

  pub going-none : w.who ≡ None → RanSays lim s r c l₀ limit (Ok (w.end, k)) l
  going-none q = comes-to lim s r c l₀ limit i₀ l k g w.end (look_none l d q lim prog (limit - k) k)

  module _ {p : ℕ} (q : w.who ≡ Some p) where
    pub going-spent : k ≡ limit → RanSays lim s r c l₀ limit (Ok (Budget, k)) l
    going-spent e = comes-to lim s r c l₀ limit i₀ l k g Budget (ap (λ (x : ℕ). run_from x lim prog k (tables_in l)) (omega arith) ∙ run-spent lim prog (tables_in l) (look-some l d q).0 ((look-some l d q).1 prog) k)

    module _ (ne : k ≡ limit → ⊥) {a : Answer Move} {h ps vs : List ℕ} (x : SteppedSays lim s r c l p a h ps vs) where
      below : k < limit
      below = let m = g.most in let u = ne in omega (arith, m, u)

      next : run_from (limit - k) lim prog k (tables_in l) ≡ run_from (suc (limit - (k + 1))) lim prog k (tables_in l)
      next = ap (λ (j : ℕ). run_from j lim prog k (tables_in l)) (one_less limit k below)

      pub going-room : {f : Refusal} → a ≡ Err f → RanSays lim s r c l₀ limit (Ok (Room, k)) (lent h ps vs)
      going-room e =
          let (j, y) = unmoved-is (step_in lim s r c l p) l (sym x.answer ∙ e) in
          let eh : h ≡ l.head = rw y at x.head in
          let ep : ps ≡ l.procs = rw y at x.procs in
          let ev : vs ≡ l.vars = rw y at x.vars in
          rw (eh, ep, ev) (comes-to lim s r c l₀ limit i₀ l k g Room (next ∙ run_room lim prog (tables_in l) (look-some l d q).0 ((look-some l d q).1 prog) (limit - (k + 1)) k y))

      pub going_on : {m : Move} → a ≡ Ok m → Going lim s r c l₀ (lent h ps vs) limit (k + 1)
      going_on {m} e =
          let z = moved-is (step_in lim s r c l p) l (tables_in l) (sym x.answer ∙ e) in
          let y : step_in lim s r c l p ≡ made m (tables_in (lent h ps vs)) = rw x.tables z in
          let eh : h ≡ (put_tables l (tables_in (lent h ps vs))).head = rw y at x.head in
          let ep : ps ≡ (put_tables l (tables_in (lent h ps vs))).procs = rw y at x.procs in
          let ev : vs ≡ (put_tables l (tables_in (lent h ps vs))).vars = rw y at x.vars in
          record {
            inside = x.inside;
            most = omega (arith, below);
            rest = g.rest ∙ next ∙ run-goes lim prog (tables_in l) (look-some l d q).0 ((look-some l d q).1 prog) (limit - (k + 1)) k y ∙ ap (λ (j : ℕ). run_from (limit - (k + 1)) lim prog j (tables_in (lent h ps vs))) (omega arith);
            holds = grown-then l₀ l (lent h ps vs) i₀ g.inside x.inside g.holds (record { head = eh; procs = ep; vars = ev; more_procs = x.more_procs; more_vars = x.more_vars });
          }
