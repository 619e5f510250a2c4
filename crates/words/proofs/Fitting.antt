-- Every number in the answer of a call has 32 bits.
use Rattle.parlog.specs.declared.Term.{Term}
use Rattle.std.specs.Prelude.{Option, Result, Some, Ok, None, Err}
use Rattle.parlog.specs.Answer.{Answer}
use mathlib.Core.Path.{◌≡◌, refl}
use mathlib.Core.Bool.{◌&&◌, Bool, cond, false, true}
use mathlib.Core.List.{List}
use Prim.Native.Nat.{◌*◌, ◌+◌, ◌<◌, ◌≤◌, suc, zero, ℕ}
use lib.Dec.{eqb, leb, ltb}
use lib.ListN.{length}
use borrow.Author.Tests.{lt-ltb, ltb-false, ltb-true}
use native.Mathlib.Omega.{arith}
use Rattle.parlog.proofs.Assume.{assume-counts}
use Rattle.parlog.proofs.Bools.{and-true}
use Rattle.parlog.proofs.Scans.{lowest-at}
use Rattle.parlog.proofs.Walk.{walk-holds}
use Rattle.parlog.specs.Calls.{enter, enter_by, entered, enter_loaded, Entry, run_call, run_entry, start_by, start_call, start_loaded, step_answer, step_call, step_entry, supply_answer, supply_call, supply_entry, turn_call, turned_away, turn_entry, value_answer, value_call, value_entry}
use Rattle.parlog.specs.Codes.{is_mode, suspended}
use Rattle.parlog.specs.Delta.{Delta}
use Rattle.parlog.specs.Limits.{Limits, Usable}
use Rattle.parlog.specs.Load.{after, broken, judged, load_end, load_of, long, nothing_read, records, verdict}
use Rattle.parlog.specs.Program.{Program, program_of}
use Rattle.parlog.specs.Rules.{Applied, by_rule, fits, move, moved, no_rule, room, rule_of, with_room}
use Rattle.parlog.specs.Run.{given, goal_ended, halt, Looking, made, procs_in, run_from, Running, run_step, run_tables, run_test, run_turn, seen, step_by, Stepping, step_tables, Supplying, supply_tables, turn_for, turn_tables, turn_to, ungiven, unmade, unseen, value_tables, watch_of}
use Rattle.parlog.specs.Scan.{every}
use Rattle.parlog.specs.TableRules.{cell_known, full_size, lent_ok, state_ok, tables_ok}
use Rattle.parlog.specs.Tables.{at, cell_size, Lent, Tables, tables_in, var_count}
use Rattle.parlog.specs.declared.End.TheVariants.{Budget}
use Rattle.parlog.specs.declared.Move.{Move}
use Rattle.parlog.specs.declared.Process.{Process}
use Rattle.parlog.specs.declared.Progress.{Progress}
use Rattle.values.specs.Values.{gather_by, gathered, values_call, values_entry}
use Rattle.words.proofs.Moves.{rule-within, RuleWithin}
use Rattle.words.specs.Fits.{MoveWithin, reached, RefusalFits, RunFits, StartFits, StepFits, SupplyFits, ValueFits, ValuesFits}

-- ---- a load

-- a refusal at an offset up to n
abbrev pub LoadWithin : ℕ → Answer (ℕ × ℕ) → Type 0
LoadWithin n (Ok (r, c)) = Unit {0}
LoadWithin n (Err r) = r.offset ≤ n

module _ (s : List ℕ) where
  ends-within : (g : Progress) (b : Bool) → eqb g.kind 3 ≡ b → LoadWithin (length s) (load_end s g)
  ends-within g true e = rw e tt
  ends-within g false e = rw e (omega arith)

  after-within : (rest : Progress → Answer (ℕ × ℕ)) → ((g : Progress) → LoadWithin (length s) (rest g)) → (at : ℕ) → at < length s → (v : Result Progress ℕ) → LoadWithin (length s) (after rest at v)
  after-within rest go at h (Err k) = omega arith
  after-within rest go at h (Ok g) = go g

  records-within : LoadWithin (length s) (records s (length s) 0 nothing_read)
  records-within = walk-holds s broken (judged s) (load_end s) (λ at g. Unit {0}) (LoadWithin (length s))
      (λ at g p l e. omega arith)
      (λ at g p l e rest go. after-within rest (λ t. go t tt) at l (verdict s g at))
      (λ at g p h. ends-within g (eqb g.kind 3) refl)
      (length s) 0 nothing_read (omega arith) tt

  -- an image that is not too long has no offset over its length
  pub load_fits : LoadWithin 4294967295 (load_of s)
  unfolding load_of long
  load_fits = by (ltb 32768 (length s)) refl
    where
      wider : (l : Answer (ℕ × ℕ)) → LoadWithin (length s) l → length s ≤ 32768 → LoadWithin 4294967295 l
      wider (Ok (r, c)) h k = tt
      wider (Err r) h k = omega (arith, h, k)

      by : (b : Bool) → ltb 32768 (length s) ≡ b → LoadWithin 4294967295 (cond b (Err (record { number = 1; offset = 0 })) (records s (length s) 0 nothing_read))
      by true e = omega arith
      by false e = wider (records s (length s) 0 nothing_read) records-within (ltb-false 32768 (length s) e)

-- ---- the start

pub start_fits : (lim : Limits) (s : List ℕ) (l : Lent) → StartFits (start_call lim s l).answer
unfolding start_call
start_fits lim s l = by (load_of s) (load_fits s)
  where
    sized : (b : Bool) (pr : Program) → StartFits (start_by b lim pr l).answer
    sized false pr = omega arith
    sized true pr = tt

    by : (a : Answer (ℕ × ℕ)) → LoadWithin 4294967295 a → StartFits (start_loaded a lim s l).answer
    by (Err r) h = h
    by (Ok (r, c)) h = sized (full_size lim l) (program_of s r c)

-- ---- what a call knows that was let in

-- refused at an offset that fits, or with no more processes and goal variables than there may be
abbrev pub EntryWithin : Limits → Entry → Type 0
EntryWithin lim (turned_away r) = RefusalFits r
EntryWithin lim (entered pr t) = (procs_in t ≤ lim.procs) × (pr.goal_vars ≤ lim.vars)

good-within : (lim : Limits) (pr : Program) (l : Lent) → lent_ok lim pr l ≡ true → (procs_in (tables_in l) ≤ lim.procs) × (pr.goal_vars ≤ lim.vars)
unfolding lent_ok tables_ok
good-within lim pr l e =
    let a = and-true (full_size lim l) (every (cell_known l.vars) (var_count l.head) && tables_ok lim pr (tables_in l)) e in
    let b = and-true (every (cell_known l.vars) (var_count l.head)) (tables_ok lim pr (tables_in l)) a.1 in
    let t = and-true (state_ok lim pr (tables_in l).state) (ltb (tables_in l).last (length (tables_in l).state.procs)) b.1 in
    let k = assume-counts lim pr (tables_in l).state t.0 in
    (k.1, omega (arith, k.2, k.3))

pub enter-within : (lim : Limits) (s : List ℕ) (l : Lent) → EntryWithin lim (enter lim s l)
unfolding enter
enter-within lim s l = by (load_of s) (load_fits s)
  where
    told : (pr : Program) (b : Bool) → lent_ok lim pr l ≡ b → EntryWithin lim (enter_by b pr l)
    told pr false e = omega arith
    told pr true e = good-within lim pr l e

    by : (a : Answer (ℕ × ℕ)) → LoadWithin 4294967295 a → EntryWithin lim (enter_loaded a lim s l)
    by (Err r) h = h
    by (Ok (r, c)) h = told (program_of s r c) (lent_ok lim (program_of s r c) l) refl

-- ---- a step and a turn

-- a step that was made touched a process that fits
abbrev pub StepWithin : Stepping → Type 0
StepWithin (unmade k) = Unit {0}
StepWithin (made m t) = MoveWithin 4294967295 m

module _ (lim : Limits) (ok : Usable lim) (pr : Program) (t : Tables) (h : procs_in t ≤ lim.procs) where
  pub step-within : (p : ℕ) → StepWithin (step_tables lim pr t p)
  unfolding step_tables move
  step-within p = by (ltb p (procs_in t)) refl
    where
      roomy : (m : Move) (d : Delta) (b : Bool) → MoveWithin 4294967295 m → StepWithin (step_by (cond b (moved m d) room) t p)
      roomy m d true k = unfold step_by in k
      roomy m d false k = unfold step_by in tt

      ruled : (a : Applied) → RuleWithin 4294967295 a → StepWithin (step_by (with_room lim t.state a) t p)
      ruled no_rule k = unfold step_by in tt
      ruled (by_rule m d) k = roomy m d (fits lim t.state d) k

      by : (b : Bool) → ltb p (procs_in t) ≡ b → StepWithin (cond b (step_by (with_room lim t.state (rule_of pr t.state p)) t p) (unmade 9))
      by true e = let u = ltb-true p (procs_in t) e in ruled (rule_of pr t.state p) (rule-within 4294967295 pr t.state (omega (arith, h, ok.procs_counted)) p (omega (arith, h, u, ok.procs_counted)))
      by false e = tt

  turn-within : StepWithin (turn_tables lim pr t)
  unfolding turn_tables
  turn-within = by (turn_for pr t)
    where
      by : (f : Option ℕ) → StepWithin (turn_to f lim pr t)
      by None = unfold turn_to in tt
      by (Some p) = unfold turn_to in step-within p

answer-fits : (x : Stepping) (l : Lent) → StepWithin x → StepFits (step_answer x l).answer
answer-fits (unmade k) l h = omega arith
answer-fits (made m t) l h = h

pub step_fits : (lim : Limits) → Usable lim → (s : List ℕ) (l : Lent) (p : ℕ) → StepFits (step_call lim s l p).answer
unfolding step_call
step_fits lim ok s l p = by (enter lim s l) (enter-within lim s l)
  where
    by : (e : Entry) → EntryWithin lim e → StepFits (step_entry e lim l p).answer
    by (turned_away r) h = h
    by (entered pr t) h = answer-fits (step_tables lim pr t p) l (step-within lim ok pr t h.0 p)

pub turn-fits : (lim : Limits) → Usable lim → (s : List ℕ) (l : Lent) → StepFits (turn_call lim s l).answer
unfolding turn_call
turn-fits lim ok s l = by (enter lim s l) (enter-within lim s l)
  where
    by : (e : Entry) → EntryWithin lim e → StepFits (turn_entry e lim l).answer
    by (turned_away r) h = h
    by (entered pr t) h = answer-fits (turn_tables lim pr t) l (turn-within lim ok pr t h.0)

-- ---- a run

module _ (lim : Limits) (pr : Program) where
  turn-most : (k : ℕ) (f : Option ℕ) (n : ℕ) (t : Tables) (go : ℕ → Running) → n ≤ k → ((p : ℕ) → (go p).moves ≤ k) → (run_turn f n t go).moves ≤ k
  unfolding run_turn
  turn-most k None n t go h all = h
  turn-most k (Some p) n t go h all = all p

  test-most : (k : ℕ) (b : Bool) (n : ℕ) (t : Tables) (go : ℕ → Running) → n ≤ k → ((p : ℕ) → (go p).moves ≤ k) → (run_test b pr n t go).moves ≤ k
  unfolding run_test
  test-most k true n t go h all = h
  test-most k false n t go h all = turn-most k (turn_for pr t) n t go h all

  made-most : (k : ℕ) (x : Stepping) (n : ℕ) (t : Tables) (go : Tables → Running) → n ≤ k → ((u : Tables) → (go u).moves ≤ k) → (run_step x n t go).moves ≤ k
  unfolding run_step
  made-most k (unmade j) n t go h all = h
  made-most k (made m u) n t go h all = all u

  from-most : (limit n : ℕ) (t : Tables) → (run_from limit lim pr n t).moves ≤ n + limit
  unfolding run_from
  from-most zero n t = test-most (n + 0) (goal_ended t) n t (λ p. halt Budget n t) (omega arith) (λ p. omega arith)
  from-most (suc limit) n t =
      test-most (n + suc limit) (goal_ended t) n t (λ p. run_step (step_tables lim pr t p) n t (λ u. run_from limit lim pr (suc n) u)) (omega arith)
      (λ p. made-most (n + suc limit) (step_tables lim pr t p) n t (λ u. run_from limit lim pr (suc n) u) (omega arith)
      (λ u. let a = from-most limit (suc n) u in omega (arith, a)))

  -- no run makes more moves than it may
  pub run-most : (limit : ℕ) (t : Tables) → (run_tables limit lim pr t).moves ≤ limit
  unfolding run_tables
  run-most limit t = let a = from-most limit 0 t in omega (arith, a)

pub run_fits : (lim : Limits) (s : List ℕ) (l : Lent) (limit : ℕ) → limit ≤ 4294967295 → RunFits (run_call lim s l limit).answer
unfolding run_call
run_fits lim s l limit k = by (enter lim s l) (enter-within lim s l)
  where
    by : (e : Entry) → EntryWithin lim e → RunFits (run_entry e lim l limit).answer
    by (turned_away r) h = h
    by (entered pr t) h = let a = run-most lim pr limit t in omega (arith, a, k)

-- ---- a supply and a look

pub supply-fits : (lim : Limits) (s : List ℕ) (l : Lent) (v c : ℕ) → SupplyFits (supply_call lim s l v c).answer
unfolding supply_call
supply-fits lim s l v c = by (enter lim s l) (enter-within lim s l)
  where
    told : (x : Supplying) → SupplyFits (supply_answer x l).answer
    told (ungiven k) = omega arith
    told (given w t) = tt

    by : (e : Entry) → EntryWithin lim e → SupplyFits (supply_entry e l v c).answer
    by (turned_away r) h = h
    by (entered pr t) h = told (supply_tables pr t v c)

pub value-fits : (lim : Limits) (s : List ℕ) (l : Lent) (v : ℕ) → ValueFits (value_call lim s l v)
unfolding value_call
value-fits lim s l v = by (enter lim s l) (enter-within lim s l)
  where
    told : (x : Looking) → ValueFits (value_answer x)
    told (unseen k) = omega arith
    told (seen t) = tt

    by : (e : Entry) → EntryWithin lim e → ValueFits (value_entry e v)
    by (turned_away r) h = h
    by (entered pr t) h = told (value_tables pr t v)

pub values-fits : (lim : Limits) → Usable lim → (s : List ℕ) (l : Lent) (row : List ℕ) → ValuesFits (values_call lim s l row).answer
unfolding values_call gathered
values-fits lim ok s l row = by (enter lim s l) (enter-within lim s l)
  where
    told : (b : Bool) (n : ℕ) (vs : List (Option Term)) → n ≤ lim.vars → ValuesFits (gather_by b n vs row).answer
    told false n vs h = omega arith
    told true n vs h = omega (arith, h, ok.vars_counted)

    by : (e : Entry) → EntryWithin lim e → ValuesFits (values_entry e row).answer
    by (turned_away r) h = h
    by (entered pr t) h = told (leb (pr.goal_vars * cell_size) (length row)) pr.goal_vars t.state.vars h.1

-- ---- a watch

-- every row below 4294967296 can be told
pub watch-reached : (ps : List Process) → length ps ≤ 4294967296 → reached (watch_of ps) ≡ watch_of ps
watch-reached ps h = by (watch_of ps) refl
  where
    by : (f : Option ℕ) → watch_of ps ≡ f → reached f ≡ f
    by None e = refl
    by (Some i) e = unfold watch_of in (let u = (lowest-at (λ j. is_mode suspended (at ps j).mode) (length ps) i e).there in rw (lt-ltb i 4294967296 (omega (arith, u, h))))
