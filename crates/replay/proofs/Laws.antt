-- The ways through a replay.
use Rattle.std.specs.Prelude.{Err, Ok, Some}
use mathlib.Core.Path.{ap, refl, sym, ◌∙◌, ◌≡◌}
use mathlib.Core.Bool.{Bool, cond, false, true, ◌&&◌}
use mathlib.Core.List.{List}
use Prim.Native.Nat.{suc, ℕ, ◌*◌, ◌+◌, ◌-◌, ◌<◌, ◌≤◌}
use lib.Dec.{eqb, leb, ltb}
use lib.ListN.{length, set}
use borrow.Author.Tests.{eq-eqb, le-ltb, ne_eqb}
use native.Mathlib.Omega.{arith}
use Rattle.entry.proofs.Entering.{lent-inside}
use Rattle.entry.proofs.Held.{count-procs, put-good, put-read, same-lent}
use Rattle.entry.specs.Entered.{EnterSays, Inside}
use Rattle.load.specs.Fields.{refusal_of}
use Rattle.machine.proofs.Giving.{decided-asked, supply-given}
use Rattle.machine.specs.Supplying.{asked_of, DecidedSays, given_by}
use Rattle.move_plan.specs.Plans.{delta_of}
use Rattle.move_plan.specs.declared.Plan.{Plan}
use Rattle.parlog.proofs.Assume.{sizes-full}
use Rattle.parlog.proofs.Bools.{and-true, never}
use Rattle.parlog.proofs.Kept.{supply-keeps}
use Rattle.parlog.specs.Answer.{Answer}
use Rattle.parlog.specs.Calls.{enter}
use Rattle.parlog.specs.Limits.{Limits}
use Rattle.parlog.specs.Load.{refusal}
use Rattle.parlog.specs.Numbers.{refused_as, rule_number, word}
use Rattle.parlog.specs.Program.{Program, program_of}
use Rattle.parlog.specs.Records.{kind_at}
use Rattle.parlog.specs.Run.{given, made, procs_in, step_tables, stepped, supplied, supply_tables, supply_value, Supplying, ungiven}
use Rattle.parlog.specs.Scan.{every}
use Rattle.parlog.specs.TableRules.{cell_known, full_size, lent_ok, tables_ok}
use Rattle.parlog.specs.Tables.{at, Lent, lent, proc_count, put_tables, Tables, tables_in, var_count, vars_in}
use Rattle.parlog.specs.Unify.{value}
use Rattle.parlog.specs.declared.Refusal.{Refusal}
use Rattle.parlog.specs.declared.Term.{Term}
use Rattle.parlog.specs.declared.Term.TheVariants.{Const, Var}
use Rattle.replay.specs.Replay.{disagrees, is_played, play_from, play_on, play_record, play_step, play_supply, PlayedSays, PlayGoing, Playing, plays, PlaysSay, replay_call, replay_numbers, replay_tested, replay_told, ReplaySays, tables_played}
use Rattle.rows.proofs.Tables.{procs-four}
use Rattle.rows.specs.Rows.{Bytes, Four}
use Rattle.run.proofs.Runs.{grown-same, grown-then, one_less}
use Rattle.run.specs.Running.{Grown}
use Rattle.step.specs.Stepping.{PlannedSays, step_in, SteppedSays}
use Rattle.move_plan.specs.declared.Plan.{Plan}
use Rattle.move_plan.specs.Plans.{delta_of}
use Rattle.trace.proofs.Laws.{kind-step, kind-supply}
use Rattle.trace.specs.Kinds.{kind_or_supply}
use Rattle.trace.specs.declared.Kind.{Kind}
use Rattle.trace.specs.declared.Kind.TheVariants.{Step, Supply}
use Rattle.trace.specs.Trace.{TestedSays, trace_size, what_at, who_at}
use Rattle.vars.specs.Cells.{Cells}
use Rattle.words.specs.Nights.{told_offset, told_refusal}

-- ---- one record

played-so : (p : Playing) (t : Tables) → is_played p ≡ true → p ≡ plays (tables_played p t)
played-so disagrees t e = never e
played-so (plays t') t e = refl

played-not : (p : Playing) → is_played p ≡ false → p ≡ disagrees
played-not disagrees e = refl
played-not (plays t) e = never (sym e)

module _ (lim : Limits) (s : List ℕ) (r c : ℕ) (l : Lent) (i : Inside lim s r c l) where
  -- a record that disagrees leaves every byte
  pub plays-not : Bytes l.head → Bytes l.procs → Bytes l.vars → {p : Playing} → p ≡ disagrees → PlaysSay lim s r c l p false l
  plays-not hs ps vs e = record { answer = rw e; tables = rw e; inside = i; holds = grown-same l i hs ps vs }

  -- one that agrees leaves its tables
  plays-so : {p : Playing} {l' : Lent} → p ≡ plays (tables_in l') → Inside lim s r c l' → Grown l l' → PlaysSay lim s r c l p true l'
  plays-so e j g = record { answer = rw e; tables = rw e; inside = j; holds = g }

  -- ---- a step

  -- there is no such process
  pub step-nobody : (p rule : ℕ) {n : ℕ} → n ≡ proc_count l.head → n ≤ p → play_step (step_tables lim (program_of s r c) (tables_in l) p) rule ≡ disagrees
  unfolding step_tables
  step-nobody p rule en h = let past = le-ltb p (procs_in (tables_in l)) (omega (arith, count-procs l, en)) in rw past

  module _ (p rule : ℕ) {d : Answer Plan} (says : PlannedSays lim s r c l p d) where
    -- a step that is refused
    pub step-away : {f : Refusal} → d ≡ Err f → play_step (step_tables lim (program_of s r c) (tables_in l) p) rule ≡ disagrees
    step-away z = rw (says.step, z)

    module _ {pl : Plan} (z : d ≡ Ok pl) where
      made_so : step_in lim s r c l p ≡ made pl.mv (stepped (tables_in l) p (delta_of pl))
      made_so = says.step ∙ rw z

      module _ {w : ℕ} (ew : w ≡ rule_number pl.mv) where
        -- its rule is another
        pub step-not : (w ≡ rule → ⊥) → play_step (step_tables lim (program_of s r c) (tables_in l) p) rule ≡ disagrees
        step-not h = let q = ne_eqb (rule_number pl.mv) rule (λ k. h (ew ∙ k)) in rw (made_so, q)

        pub step-plays : w ≡ rule → {h ps vs : List ℕ} → SteppedSays lim s r c l p (Ok pl.mv) h ps vs
            → PlaysSay lim s r c l (play_step (step_tables lim (program_of s r c) (tables_in l) p) rule) true (lent h ps vs)
        step-plays er {h} {ps} {vs} x =
            let q = eq-eqb (rule_number pl.mv) rule (sym ew ∙ er) in
            let t = rw made_so at x.tables in
            let y : step_in lim s r c l p ≡ made pl.mv (tables_in (lent h ps vs)) = rw t made_so in
            let eh : h ≡ (put_tables l (tables_in (lent h ps vs))).head = rw y at x.head in
            let ep : ps ≡ (put_tables l (tables_in (lent h ps vs))).procs = rw y at x.procs in
            let ev : vs ≡ (put_tables l (tables_in (lent h ps vs))).vars = rw y at x.vars in
            plays-so (rw (y, q)) x.inside (record { head = eh; procs = ep; vars = ev; more_procs = x.more_procs; more_vars = x.more_vars })

  -- ---- a supply

  enters : EnterSays lim s l (Ok (r, c))
  unfolding enter
  enters = record { entry = rw (i.loaded, i.good); inside = i }

-- what is asked is what is supplied
abbrev As : Answer ℕ → Supplying → Tables → ℕ → Type 0
As (Err f) x t k = play_supply x ≡ disagrees
As (Ok w) x t k = x ≡ given w (supplied t w k)

as-asked : (pr : Program) (t : Tables) (v k : ℕ) → As (asked_of pr t.state.vars v k) (supply_tables pr t v k) t k
unfolding asked_of supply_tables
as-asked pr t v k = by (ltb v pr.goal_vars) (leb k 32767)
  where
    term : (u : Term) → As (given_by u) (supply_value u t k) t k
    term (Const j) = unfold supply_value in refl
    term (Var w) = unfold supply_value in refl

    by : (x y : Bool) → As (cond x (cond y (given_by (value t.state.vars (Var v))) (Err (refusal 14 0))) (Err (refusal 12 0))) (cond x (cond y (supply_value (value t.state.vars (Var v)) t k) (ungiven 14)) (ungiven 12)) t k
    by false y = refl
    by true false = refl
    by true true = term (value t.state.vars (Var v))

module _ (lim : Limits) (s : List ℕ) (r c : ℕ) (l : Lent) (i : Inside lim s r c l) (v k : ℕ) {a : Answer ℕ} (ea : a ≡ asked_of (program_of s r c) (vars_in l.vars (var_count l.head)) v k) where
  abbrev pr : Program
  pr = program_of s r c

  asked_here : As a (supply_tables (program_of s r c) (tables_in l) v k) (tables_in l) k
  unfolding tables_in
  asked_here = rw ea (as-asked pr (tables_in l) v k)

  pub supply-not : {f : Refusal} → a ≡ Err f → play_supply (supply_tables (program_of s r c) (tables_in l) v k) ≡ disagrees
  supply-not e = rw e at asked_here

  pub supply-decided : DecidedSays lim s l v k a
  supply-decided = decided-asked lim s l v k (enters lim s r c l i) refl ea

  kept : tables_ok lim pr (tables_in l) ≡ true
  unfolding lent_ok
  kept =
      let x = and-true (full_size lim l) (every (cell_known l.vars) (var_count l.head) && tables_ok lim pr (tables_in l)) i.good in
      (and-true (every (cell_known l.vars) (var_count l.head)) (tables_ok lim pr (tables_in l)) x.1).1

  module _ {w : ℕ} (e : a ≡ Ok w) where
    abbrev after : Tables
    after = supplied (tables_in l) w k

    given_so : supply_tables pr (tables_in l) v k ≡ given w after
    given_so = rw e at asked_here

    fours : (j : ℕ) → j < length after.state.procs → Four (at after.state.procs j)
    unfolding supplied tables_in
    fours j h = procs-four l.procs (proc_count l.head) j

    full : full_size lim l ≡ true
    full = sizes-full lim l i.head i.procs_size i.vars_size

    after-ok : tables_ok lim pr after ≡ true
    after-ok = supply-keeps lim pr (tables_in l) after v k w kept given_so

    pub supply-plays : {n : ℕ} {m : List ℕ} → n ≡ var_count l.head → Cells n l.vars m (set (vars_in l.vars n) w (Some (Const k)))
        → Bytes l.head → Bytes l.procs → Bytes m → PlaysSay lim s r c l (play_supply (supply_tables (program_of s r c) (tables_in l) v k)) true (lent l.head l.procs m)
    supply-plays {n} {m} en t hs ps ms =
        let x = supply-given lim s l v k supply-decided e en t hs ps ms in
        let q = rw e at supply-decided.call in
        let eh : l.head ≡ (put_tables l after).head = rw q at x.head in
        let ep : l.procs ≡ (put_tables l after).procs = rw q at x.procs in
        let ev : m ≡ (put_tables l after).vars = rw q at x.vars in
        let is : lent l.head l.procs m ≡ put_tables l after = same-lent (lent l.head l.procs m) (put_tables l after) eh ep ev in
        let read : tables_in (lent l.head l.procs m) ≡ after = ap tables_in is ∙ put-read lim pr l after full after-ok fours in
        let good : lent_ok lim pr (lent l.head l.procs m) ≡ true = ap (λ (y : Lent). lent_ok lim pr y) is ∙ put-good lim pr l after full after-ok fours in
        let so : play_supply (supply_tables pr (tables_in l) v k) ≡ plays (tables_in (lent l.head l.procs m)) = rw (given_so, read) in
        plays-so lim s r c l i so (lent-inside lim s r c (lent l.head l.procs m) i.loaded i.relations i.clauses good)
        (record { head = rw read eh; procs = rw read ep; vars = rw read ev; more_procs = omega arith; more_vars = omega arith })

-- ---- the record

module _ (lim : Limits) (s : List ℕ) (r c : ℕ) (l : Lent) (trace : List ℕ) (place : ℕ) {kind : Kind} {who what : ℕ} (ek : kind ≡ kind_or_supply (kind_at trace place)) (ew : who ≡ who_at trace place) (et : what ≡ what_at trace place) where
  pub record-step : kind ≡ Step → {b : Bool} {l' : Lent} → PlaysSay lim s r c l (play_step (step_tables lim (program_of s r c) (tables_in l) who) what) b l'
      → PlaysSay lim s r c l (play_record lim (program_of s r c) trace place (tables_in l)) b l'
  unfolding play_record
  record-step e x = let q = kind-step (kind_at trace place) ek e in rw q (rw (ew, et) at x)

  pub record-supply : kind ≡ Supply → {b : Bool} {l' : Lent} → PlaysSay lim s r c l (play_supply (supply_tables (program_of s r c) (tables_in l) who what)) b l'
      → PlaysSay lim s r c l (play_record lim (program_of s r c) trace place (tables_in l)) b l'
  unfolding play_record
  record-supply e x = let q = kind-supply (kind_at trace place) ek e in rw q (rw (ew, et) at x)

-- ---- the loop

module _ (lim : Limits) (s : List ℕ) (r c : ℕ) (l₀ : Lent) (trace : List ℕ) (n : ℕ) (i₀ : Inside lim s r c l₀) where
  abbrev prog : Program
  prog = program_of s r c

  pub play-start : Bytes l₀.head → Bytes l₀.procs → Bytes l₀.vars → PlayGoing lim s r c l₀ l₀ trace n 0
  play-start hs ps vs =
      record { inside = i₀; most = omega arith; rest = ap (λ (k : ℕ). play_from k lim prog trace 0 (tables_in l₀)) (omega arith); holds = grown-same l₀ i₀ hs ps vs }

  comes-to : (l : Lent) (k : ℕ) → Grown l₀ l → k ≤ n → play_from n lim prog trace 0 (tables_in l₀) ≡ record { records = k; tables = tables_in l } → PlayedSays lim s r c l₀ trace n k l
  comes-to l k g m z = record { count = rw z; head = rw z g.head; procs = rw z g.procs; vars = rw z g.vars; most = m }

  module _ (l : Lent) (k : ℕ) (g : PlayGoing lim s r c l₀ l trace n k) where
    pub play-done : n ≤ k → PlayedSays lim s r c l₀ trace n n l
    play-done h =
        let e : n - k ≡ 0 = omega (arith, g.most) in
        let all : k ≡ n = omega (arith, g.most) in
        rw all at (comes-to l k g.holds g.most (g.rest ∙ rw e (unfold play_from in refl)))

    module _ (below : k < n) {b : Bool} {l' : Lent} (x : PlaysSay lim s r c l (play_record lim (program_of s r c) trace (k * trace_size) (tables_in l)) b l') where
      next : play_from (n - k) lim prog trace k (tables_in l) ≡ play_on (play_record lim prog trace (k * trace_size) (tables_in l)) k (tables_in l) (λ t. play_from (n - (k + 1)) lim prog trace (suc k) t)
      next = rw (one_less n k below) (unfold play_from in refl)

      grows : Grown l₀ l'
      grows = grown-then l₀ l l' i₀ g.inside x.inside g.holds x.holds

      pub play-stops : b ≡ false → PlayedSays lim s r c l₀ trace n k l'
      play-stops e =
          let p = played-not (play_record lim prog trace (k * trace_size) (tables_in l)) (sym x.answer ∙ e) in
          let t : tables_in l' ≡ tables_in l = rw p at x.tables in
          comes-to l' k grows g.most (g.rest ∙ next ∙ rw (p, t))

      pub play-goes : b ≡ true → PlayGoing lim s r c l₀ l' trace n (k + 1)
      play-goes e =
          let p = played-so (play_record lim prog trace (k * trace_size) (tables_in l)) (tables_in l) (sym x.answer ∙ e) in
          let q : play_record lim prog trace (k * trace_size) (tables_in l) ≡ plays (tables_in l') = p ∙ ap plays (sym x.tables) in
          record {
            inside = x.inside;
            most = omega arith;
            rest = g.rest ∙ next ∙ rw q (ap (λ (j : ℕ). play_from (n - (k + 1)) lim prog trace j (tables_in l')) (omega arith));
            holds = grows;
          }

-- ---- the call

pub told-all : (k n : ℕ) → k ≡ n → Ok k ≡ replay_told (eqb k n) k
told-all k n e = rw (eq-eqb k n e)

pub told-not : (k n : ℕ) → (k ≡ n → ⊥) → Err (record { number = 20; offset = k * trace_size }) ≡ replay_told (eqb k n) k
told-not k n e = rw (ne_eqb k n e)

module _ (lim : Limits) (s : List ℕ) (r c : ℕ) (l : Lent) (i : Inside lim s r c l) (trace : List ℕ) {t : Answer ℕ} (says : TestedSays trace t) where
  call-is : replay_call lim s l trace ≡ replay_tested t lim (program_of s r c) trace l
  unfolding replay_call
  call-is = rw ((enters lim s r c l i).entry, ← says.tests)

  pub replay-faulty : {f : Refusal} → t ≡ Err f → ReplaySays lim s l trace (Err f) l.head l.procs l.vars
  replay-faulty e =
      let z = call-is ∙ ap (λ (y : Answer ℕ). replay_tested y lim (program_of s r c) trace l) e in
      record { answer = rw z; head = rw z; procs = rw z; vars = rw z }

  pub replay-fits : {n : ℕ} → t ≡ Ok n → n * trace_size ≡ length trace
  replay-fits e = rw e at says.fills

  pub replay-played : {n k : ℕ} → t ≡ Ok n → {l' : Lent} → PlayedSays lim s r c l trace n k l' → {a : Answer ℕ} → a ≡ replay_told (eqb k n) k
      → ReplaySays lim s l trace a l'.head l'.procs l'.vars
  replay-played e d ea =
      let z = call-is ∙ ap (λ (y : Answer ℕ). replay_tested y lim (program_of s r c) trace l) e in
      record { answer = rw (z, ea, d.count); head = rw z d.head; procs = rw z d.procs; vars = rw z d.vars }

pub replay-refused : (lim : Limits) (s : List ℕ) (l : Lent) (trace : List ℕ) {e : Answer (ℕ × ℕ)} → EnterSays lim s l e → {f x : Refusal} → e ≡ Err f → x ≡ refusal_of e
    → ReplaySays lim s l trace (Err x) l.head l.procs l.vars
unfolding replay_call
replay-refused lim s l trace says q ex = record { answer = rw (says.entry, ex, q); head = rw (says.entry, q); procs = rw (says.entry, q); vars = rw (says.entry, q) }

-- ---- the word

module _ {a : Answer ℕ} {w : ℕ} where
  pub word-played : {n m : ℕ} → a ≡ Ok n → m ≡ told_offset n → w ≡ word (record { refused = 0; a = 0; b = 0; c = m }) → w ≡ word (replay_numbers a)
  word-played q k h = rw (h, k, q)

  pub word-refused : {r t : Refusal} → a ≡ Err r → t ≡ told_refusal r → w ≡ word (refused_as t) → w ≡ word (replay_numbers a)
  word-refused q k h = rw (h, k, q)
