-- ROOM is final: who lacks room lacks it after every further call, or is dormant by then. Another's move leaves the row of a process and
-- the child that it hears as they were, a supply binds only; so its rule wants as many rows as before, and no fewer are in use.
use Rattle.std.specs.Prelude.{Option, Some, None}
use mathlib.Core.Path.{◌∙◌, ◌≡◌, ap, refl, subst, sym}
use mathlib.Core.Logic.{◌≢◌, ◌⊎◌, inl, inr, ⊎_elim}
use mathlib.Core.Bool.{◌&&◌, Bool, false, true}
use mathlib.Core.List.{[], ◌∷◌, List}
use Prim.Native.Nat.{◌+◌, ◌<◌, ◌≤◌, suc, zero, ℕ}
use lib.Dec.{eqb, leb}
use lib.ListN.{length}
use borrow.Author.Tests.{eqb-false, eqb-true, le-leb, leb-true}
use native.Mathlib.Omega.{arith}
use Rattle.entry.proofs.Held.{tables-state}
use Rattle.parlog.proofs.Assume.{assume-counts}
use Rattle.std.proofs.lemmas.Bool.{and_parts, false_from_ne_true, or_parts, and_from}
use Rattle.parlog.proofs.Bools.{never, split}
use Rattle.parlog.proofs.Coded.{code-mode}
use Rattle.parlog.proofs.Effects.{apply-count, apply-other, apply-vars, changed-length, sleeps_in}
use Rattle.parlog.proofs.Fine.{below-child, child-back, child-forth, Fine, fine}
use Rattle.parlog.proofs.Kept.{turn-keeps}
use Rattle.parlog.proofs.Kin.{heard-bad, heard-good, hears-bad, hears-good, Kin}
use Rattle.parlog.proofs.Repeated.{runs}
use Rattle.parlog.proofs.Shape.{is_awake, shape}
use Rattle.parlog.proofs.Stable.{can-awake, can-here, reporter-zero, rule-can, supply-grows}
use Rattle.parlog.proofs.Steps.{steady_kept, step-made, turn-made}
use Rattle.parlog.proofs.Trying.{tries-are}
use Rattle.parlog.specs.Codes.{and_par, and_seq, dormant, equate, guard_eval, input_match, Mode, mode_code, mode_of, or_par, or_search, ready, reporting, Result, seq_search, starting, suspended, Tag, try_clause, waiting}
use Rattle.parlog.specs.Delta.{apply, asleep, Delta, is_at, with_mode}
use Rattle.parlog.specs.Demands.{no_more, once_more, Repeats}
use Rattle.parlog.specs.Limits.{Limits}
use Rattle.parlog.specs.Notions.{Child, HasMode, Hears, me}
use Rattle.parlog.specs.Program.{Goal, Program, program_of}
use Rattle.parlog.specs.Rules.{and_par_start, and_par_wait, and_seq_start, and_seq_wait, Applied, by_rule, equate_start, fits, guard_eval_start, guard_eval_wait, input_match_start, move, moved, no_rule, or_par_heard, or_par_start, or_par_wait, or_search_start, or_search_wait, room, rule_in, rule_of, seq_search_next, seq_search_start, seq_search_wait, start_rule, still, stop_rule, try_clause_start, try_clause_wait, wait_rule, wake_rule, with_room}
use Rattle.parlog.specs.Run.{can_move, made, stepped, step_tables, supplied}
use Rattle.parlog.specs.Sane.{Sane}
use Rattle.parlog.specs.TableRules.{state_ok, tables_ok}
use Rattle.parlog.specs.Tables.{Lent, noted, put_tables, State, Tables, tables_in}
use Rattle.parlog.specs.Tree.{bad, below, good, Heard, heard, silent}
use Rattle.parlog.specs.Unify.{binds, change, Decided, fails, some_bound, suspends}
use Rattle.parlog.specs.declared.Move.{Move}
use Rattle.parlog.specs.declared.Process.{Process}
use Rattle.parlog.specs.declared.Term.TheVariants.{Const}
use Rattle.promises.proofs.Demand2.{image-sane}
use Rattle.promises.proofs.Entry.{let-ok}
use Rattle.promises.proofs.Keeping.{Goes, goes_none, goes-run, goes_step, goes-supply, goes_then, later-by, ok-goes}
use Rattle.promises.proofs.Whose.{move-can, no_room, room-not}
use Rattle.promises.specs.Reach.{Later}
use Rattle.promises.specs.Refusals.{LacksRoom, LetIn, state_in}
use Rattle.resume.proofs.Copied.{copied}

-- ---- what a rule makes

-- how many processes
new_in : Applied → ℕ
new_in no_rule = 0
new_in (by_rule m d) = length d.new

-- how many variables
fresh_in : Applied → ℕ
fresh_in no_rule = 0
fresh_in (by_rule m d) = d.fresh

-- it makes nothing, or as much as the other
data Wants (a b : Applied) : Type 0 where
  nothing-new : new_in a ≡ 0 → fresh_in a ≡ 0 → Wants a b
  the_same : new_in b ≡ new_in a → fresh_in b ≡ fresh_in a → Wants a b

-- what p hears in one state it hears in the other, from the same child
record HearsOn (s u : State) (p : ℕ) : Type 0 where
  good-on : (c : ℕ) → heard s.procs p ≡ good c → (heard u.procs p ≡ good c) × (me u c ≡ me s c)
  bad-on : (c : ℕ) → heard s.procs p ≡ bad c → heard u.procs p ≡ bad c

module _ (pr : Program) (s u : State) (p : ℕ) (x : Process) where
  decided-match : (o : Decided) (b : Applied) → Wants (input_match_start o p x) b
  unfolding new_in fresh_in input_match_start
  decided-match fails b = nothing-new refl refl
  decided-match (suspends v ns) b = nothing-new refl refl
  decided-match (binds []) b = nothing-new refl refl
  decided-match (binds (c ∷ cs)) b = nothing-new refl refl

  decided-equate : (o : Decided) (b : Applied) → Wants (equate_start o p x) b
  unfolding new_in fresh_in equate_start
  decided-equate fails b = nothing-new refl refl
  decided-equate (suspends v ns) b = nothing-new refl refl
  decided-equate (binds []) b = nothing-new refl refl
  decided-equate (binds (c ∷ cs)) b = nothing-new refl refl

  stage-wants : (b : Bool) → Wants (and_seq_start b pr s p x) (and_seq_start b pr u p x)
  unfolding new_in fresh_in and_seq_start
  stage-wants true = the_same refl refl
  stage-wants false = the_same refl refl

  block-wants : (b : Bool) → Wants (seq_search_start b s p x) (seq_search_start b u p x)
  unfolding new_in fresh_in seq_search_start
  block-wants true = the_same refl refl
  block-wants false = the_same refl refl

  guard-wants : (g : Goal) → Wants (guard_eval_start g s p x) (guard_eval_start g u p x)
  unfolding new_in fresh_in guard_eval_start
  guard-wants [] = the_same refl refl
  guard-wants (st ∷ g) = the_same refl refl

  tries-wants : (ks : List ℕ) → Wants (or_search_start pr s p x ks) (or_search_start pr u p x ks)
  unfolding new_in fresh_in or_search_start
  tries-wants ks = the_same ((tries-are pr p x.spot (length u.vars) ks).count ∙ sym (tries-are pr p x.spot (length s.vars) ks).count) refl

  start-wants : (t : Tag) → Wants (start_rule t pr s p x) (start_rule t pr u p x)
  unfolding new_in fresh_in start_rule and_par_start or_par_start try_clause_start
  start-wants and_par = the_same refl refl
  start-wants and_seq = stage-wants _
  start-wants or_par = the_same refl refl
  start-wants seq_search = block-wants _
  start-wants or_search = tries-wants _
  start-wants try_clause = the_same refl refl
  start-wants input_match = decided-match _ _
  start-wants guard_eval = guard-wants _
  start-wants equate = decided-equate _ _

  all-wants : (a b : Bool) (o : Applied) → Wants (and_par_wait a b p x) o
  unfolding new_in fresh_in and_par_wait
  all-wants true b o = nothing-new refl refl
  all-wants false true o = nothing-new refl refl
  all-wants false false o = nothing-new refl refl

  try-wants : (a b : Bool) (o : Applied) → Wants (try_clause_wait a b p x) o
  unfolding new_in fresh_in try_clause_wait
  try-wants true b o = nothing-new refl refl
  try-wants false true o = nothing-new refl refl
  try-wants false false o = nothing-new refl refl

  commit-wants : (f : Option ℕ) (b : Bool) (o : Applied) → Wants (or_search_wait f b s p x) o
  unfolding new_in fresh_in or_search_wait
  commit-wants (Some c) b o = nothing-new refl refl
  commit-wants None true o = nothing-new refl refl
  commit-wants None false o = nothing-new refl refl

  next-wants : (h : Heard) (o : Applied) → Wants (and_seq_wait h p x) o
  unfolding new_in fresh_in and_seq_wait
  next-wants silent o = nothing-new refl refl
  next-wants (good c) o = nothing-new refl refl
  next-wants (bad c) o = nothing-new refl refl

  eval-wants : (h : Heard) (o : Applied) → Wants (guard_eval_wait h p x) o
  unfolding new_in fresh_in guard_eval_wait
  eval-wants silent o = nothing-new refl refl
  eval-wants (good c) o = nothing-new refl refl
  eval-wants (bad c) o = nothing-new refl refl

  body-wants : (c : ℕ) (b : Bool) → Wants (or_par_heard b pr s p x c) (or_par_heard b pr u p x c)
  unfolding new_in fresh_in or_par_heard
  body-wants c true = the_same refl refl
  body-wants c false = the_same refl refl

  more-wants : (c : ℕ) (b : Bool) → Wants (seq_search_next b s p x c) (seq_search_next b u p x c)
  unfolding new_in fresh_in seq_search_next
  more-wants c true = the_same refl refl
  more-wants c false = the_same refl refl

  module _ (on : HearsOn s u p) where
    call-wants : (h : Heard) → heard s.procs p ≡ h → Wants (or_par_wait h pr s p x) (or_par_wait (heard u.procs p) pr u p x)
    unfolding new_in fresh_in or_par_wait
    call-wants silent e = nothing-new refl refl
    call-wants (good c) e = let k = on.good-on c e in rw (k.0, k.1) (body-wants c _)
    call-wants (bad c) e = nothing-new refl refl

    search-wants : (n : ℕ) (h : Heard) → heard s.procs p ≡ h → Wants (seq_search_wait h n s p x) (seq_search_wait (heard u.procs p) n u p x)
    unfolding new_in fresh_in seq_search_wait
    search-wants n silent e = nothing-new refl refl
    search-wants n (good c) e = nothing-new refl refl
    search-wants n (bad c) e = rw (on.bad-on c e) (more-wants c _)

    wait-wants : (t : Tag) → Wants (wait_rule t pr s p x) (wait_rule t pr u p x)
    unfolding new_in fresh_in wait_rule
    wait-wants and_par = all-wants _ _ _
    wait-wants and_seq = next-wants _ _
    wait-wants or_par = call-wants (heard s.procs p) refl
    wait-wants seq_search = search-wants _ (heard s.procs p) refl
    wait-wants or_search = commit-wants _ _ _
    wait-wants try_clause = try-wants _ _ _
    wait-wants input_match = nothing-new refl refl
    wait-wants guard_eval = eval-wants _ _
    wait-wants equate = nothing-new refl refl

    wants : (o : Mode) → Wants (rule_in o pr s p x) (rule_in o pr u p x)
    unfolding new_in fresh_in rule_in
    wants dormant = nothing-new refl refl
    wants ready = nothing-new refl refl
    wants starting = start-wants _
    wants waiting = wait-wants _
    wants reporting = stop p
      where
        stop : (q : ℕ) → Wants (stop_rule q x) (stop_rule q x)
        stop zero = unfold stop_rule in (the_same refl refl)
        stop (suc q) = unfold stop_rule in (the_same refl refl)
    wants suspended = wake (some_bound s.vars (noted x))
      where
        wake : (b : Bool) → Wants (wake_rule b p x) (wake_rule (some_bound u.vars (noted x)) p x)
        wake true = unfold wake_rule in (nothing-new refl refl)
        wake false = unfold wake_rule in (nothing-new refl refl)

-- ---- a rule without room

-- p has a rule, and no room for it
record Full (lim : Limits) (pr : Program) (s : State) (p : ℕ) : Type 0 where
  move : Move
  delta : Delta
  rule : rule_of pr s p ≡ by_rule move delta
  no_room : fits lim s delta ≡ false

module _ (lim : Limits) (pr : Program) (s : State) (ok : state_ok lim pr s ≡ true) (p : ℕ) where
  full-in : LacksRoom lim pr s p → Full lim pr s p
  unfolding move
  full-in q = go (rule_of pr s p) refl (no_room lim pr s ok p q)
    where
      go : (a : Applied) → rule_of pr s p ≡ a → move lim pr s p ≡ room → Full lim pr s p
      go no_rule e z = let y : still ≡ room = sym (ap (with_room lim s) e) ∙ (unfold move in z) in let w : ◌≡◌ {A = ℕ} 0 1 = cc in absurd (omega arith)
      go (by_rule m d) e z = record {
        move = m;
        delta = d;
        rule = e;
        no_room = false_from_ne_true (fits lim s d) (λ f. let y : with_room lim s (by_rule m d) ≡ room = sym (ap (with_room lim s) e) ∙ (unfold move in z) in let v : moved m d ≡ room = rw f at y in let w : ◌≡◌ {A = ℕ} 0 1 = cc in omega arith);
      }

  in-full : Full lim pr s p → LacksRoom lim pr s p
  in-full q = room-not lim pr s ok p (unfold move in rw (q.rule, q.no_room))

-- it fits where no fewer rows are in use, and as many are wanted
fits-less : (lim : Limits) (s u : State) (d e : Delta) → length s.procs ≤ length u.procs → length s.vars ≤ length u.vars → length e.new ≡ length d.new → e.fresh ≡ d.fresh
    → fits lim u e ≡ true → fits lim s d ≡ true
unfolding fits
fits-less lim s u d e h g n f k =
    let a = and_parts (leb (length u.procs + length e.new) lim.procs) (leb (length u.vars + e.fresh) lim.vars) k in
    let x = leb-true (length u.procs + length e.new) lim.procs a.0 in
    let y = leb-true (length u.vars + e.fresh) lim.vars a.1 in
    and_from (leb (length s.procs + length d.new) lim.procs) (leb (length s.vars + d.fresh) lim.vars)
    (le-leb (length s.procs + length d.new) lim.procs (omega arith)) (le-leb (length s.vars + d.fresh) lim.vars (omega arith))

fits-none : (lim : Limits) (pr : Program) (s : State) → state_ok lim pr s ≡ true → (d : Delta) → length d.new ≡ 0 → d.fresh ≡ 0 → fits lim s d ≡ true
unfolding fits
fits-none lim pr s ok d n f =
    let c = assume-counts lim pr s ok in
    and_from (leb (length s.procs + length d.new) lim.procs) (leb (length s.vars + d.fresh) lim.vars)
    (le-leb (length s.procs + length d.new) lim.procs (omega (arith, c.1))) (le-leb (length s.vars + d.fresh) lim.vars (omega (arith, c.3)))

-- where the row is the same and what is heard is heard, a rule without room stays one
module _ (lim : Limits) (pr : Program) (s u : State) (ok : state_ok lim pr s ≡ true) (p : ℕ) (same : me u p ≡ me s p) (on : HearsOn s u p)
    (procs : length s.procs ≤ length u.procs) (vars : length s.vars ≤ length u.vars) where
  full_by : (a b : Applied) → rule_of pr s p ≡ a → rule_of pr u p ≡ b → Wants a b → Full lim pr s p → Full lim pr u p
  unfolding new_in fresh_in
  full_by no_rule b e g w q = let z : no_rule ≡ by_rule q.move q.delta = sym e ∙ q.rule in let y : ◌≡◌ {A = ℕ} 0 1 = cc in absurd (omega arith)
  full_by (by_rule m d) b e g (nothing-new n f) q =
      let z : by_rule m d ≡ by_rule q.move q.delta = sym e ∙ q.rule in
      let k : d ≡ q.delta = cc in
      never (sym q.no_room ∙ rw (← k) (fits-none lim pr s ok d n f))
  full_by (by_rule m d) no_rule e g (the_same n f) q =
      let z : by_rule m d ≡ by_rule q.move q.delta = sym e ∙ q.rule in
      let k : d ≡ q.delta = cc in
      never (sym q.no_room ∙ rw (← k) (fits-none lim pr s ok d (sym n) (sym f)))
  full_by (by_rule m d) (by_rule v j) e g (the_same n f) q =
      let z : by_rule m d ≡ by_rule q.move q.delta = sym e ∙ q.rule in
      let k : d ≡ q.delta = cc in
      record { move = v; delta = j; rule = g; no_room = false_from_ne_true (fits lim u j) (λ y. never (sym q.no_room ∙ rw (← k) (fits-less lim s u d j procs vars n f y))) }

  full-on : Full lim pr s p → Full lim pr u p
  unfolding rule_of
  full-on q = full_by (rule_of pr s p) (rule_of pr u p) refl refl (rw same (wants pr s u p (me s p) on (mode_of (me s p).mode))) q

-- ---- another's move

module _ (pr : Program) (s : State) (kin : Kin s) (q : ℕ) (m : Move) (d : Delta) (e : rule_of pr s q ≡ by_rule m d) (p : ℕ) (n : p ≢ q) where
  abbrev next : State
  next = apply s q d

  fi : Fine s q d
  fi = fine s q d (shape pr s q m d e)

  can-q : can_move pr s q ≡ true
  can-q = rule-can pr s q m d e

  here-q : q < length s.procs
  here-q = can-here pr s q can-q

  asleep-on : (b : Bool) (x : Process) → x.mode ≡ mode_code dormant → (asleep b x).mode ≡ mode_code dormant
  unfolding with_mode
  asleep-on true x z = refl
  asleep-on false x z = z

  dormant-on : p < length s.procs → HasMode s p dormant → HasMode next p dormant
  dormant-on here z = ap (λ (x : Process). x.mode) (apply-other s q d p here n) ∙ asleep-on (sleeps_in s q d p) (me s p) z

  module _ (awake : sleeps_in s q d p ≡ false) where
    -- the mover's sleeping child is none of p's
    other-nap : (k : ℕ) → Child s p k → (f : Option ℕ) → d.nap ≡ f → is_at f k ≡ false
    other-nap k ch None w = refl
    other-nap k ch (Some x) w = false_from_ne_true (eqb k x) (λ t. n (sym ch.parent ∙ rw (← eqb-true k x t) at (fi.napped x w).0.parent))

    child-on : {k : ℕ} {r : Result} → Hears s p k r → me next k ≡ me s k
    child-on {k} h =
        let ch = h.latest.child in
        let a = or_parts (d.cut && below s.procs q p) (is_at d.nap p) awake in
        apply-other s q d k ch.there (λ z. ch.other (z ∙ reporter-zero pr s q can-q (rw z at h.reports.mode)))
        ∙ rw (below-child s kin p q ch n, a.0, other-nap k ch d.nap refl)

    hears-on : {k : ℕ} {r : Result} → Hears s p k r → Hears next p k r
    hears-on {k} h = let z = child-on h in record {
      latest = record { child = child-forth s q d fi here-q p h.latest.child; none_higher = λ i ch. h.latest.none_higher i (child-back s q d fi here-q p n ch) };
      reports = record { mode = rw z h.reports.mode; result = rw z h.reports.result };
    }

    heard-on : HearsOn s next p
    heard-on = record {
      good-on = λ c z. let h = heard-good s p c z in (hears-good next p (hears-on h), child-on h);
      bad-on = λ c z. hears-bad next p (hears-on (heard-bad s p c z));
    }

  full-next : (lim : Limits) → state_ok lim pr s ≡ true → p < length s.procs → Full lim pr s p → HasMode next p dormant ⊎ Full lim pr next p
  unfolding with_mode
  full-next lim ok here f = split (sleeps_in s q d p)
      (λ w. inl (ap (λ (x : Process). x.mode) (apply-other s q d p here n) ∙ rw w))
      (λ w. inr (full-on lim pr s next ok p (apply-other s q d p here n ∙ rw w) (heard-on w) (omega (arith, apply-count s q d)) (omega (arith, apply-vars s q d)) f))

-- ---- from tables to tables

record Fate (lim : Limits) (pr : Program) (p : ℕ) (s : State) : Type 0 where
  there : p < length s.procs
  fate : HasMode s p dormant ⊎ Full lim pr s p

module _ (lim : Limits) (pr : Program) (p : ℕ) where
  -- its own step is not made
  not_own : (t : Tables) (m : Move) (t' : Tables) → step_tables lim pr t p ≡ made m t' → HasMode t.state p dormant ⊎ Full lim pr t.state p → ⊥
  not_own t m t' e (inl z) =
      let a = step-made lim pr t p m t' e in
      let k = can-awake pr t.state p (rule-can pr t.state p m a.delta a.rule) in
      never (sym (ap is_awake (code-mode dormant (me t.state p).mode z)) ∙ k)
  not_own t m t' e (inr f) =
      let a = step-made lim pr t p m t' e in
      let z : by_rule m a.delta ≡ by_rule f.move f.delta = sym a.rule ∙ f.rule in
      let k : a.delta ≡ f.delta = cc in
      never (sym f.no_room ∙ rw (← k) a.fit)

  fate-step : (t t' : Tables) (q : ℕ) (m : Move) → tables_ok lim pr t ≡ true → step_tables lim pr t q ≡ made m t' → Fate lim pr p t.state → Fate lim pr p t'.state
  unfolding stepped
  fate-step t t' q m ok e f = split (eqb p q)
      (λ w. absurd (not_own t m t' (rw (eqb-true p q w) e) f.fate))
      (λ w. let a = step-made lim pr t q m t' e in
      rw a.after (record { there = omega (arith, f.there, apply-count t.state q a.delta); fate = go (eqb-false p q w) a.delta a.rule f.fate }))
    where
      go : p ≢ q → (d : Delta) → rule_of pr t.state q ≡ by_rule m d → HasMode t.state p dormant ⊎ Full lim pr t.state p → HasMode (apply t.state q d) p dormant ⊎ Full lim pr (apply t.state q d) p
      go n d r (inl z) = inl (dormant-on pr t.state (steady_kept lim pr t ok).0.kin q m d r p n f.there z)
      go n d r (inr z) = full-next pr t.state (steady_kept lim pr t ok).0.kin q m d r p n lim (tables-state lim pr t ok) f.there z

  fate-repeats : Sane pr → {t t' : Tables} {n : ℕ} → Repeats lim pr t n t' → tables_ok lim pr t ≡ true → Fate lim pr p t.state → Fate lim pr p t'.state
  fate-repeats sane no_more ok f = f
  fate-repeats sane {t} (once_more {t' = u} {m = m} g e k) ok f =
      let (q, y, z) = turn-made lim pr t m u e in
      fate-repeats sane k (turn-keeps lim pr sane t u m ok e) (fate-step t u q m ok z f)

  fate-supplied : (t : Tables) (x k : ℕ) → tables_ok lim pr t ≡ true → Fate lim pr p t.state → Fate lim pr p (supplied t x k).state
  unfolding supplied
  fate-supplied t x k ok f = record { there = f.there; fate = go f.fate }
    where
      go : HasMode t.state p dormant ⊎ Full lim pr t.state p → HasMode t.state p dormant ⊎ Full lim pr (supplied t x k).state p
      go (inl z) = inl z
      go (inr z) = inr (full-on lim pr t.state (supplied t x k).state (tables-state lim pr t ok) p (unfold supplied in refl)
          (record { good-on = λ c h. unfold supplied in (h, refl); bad-on = λ c h. unfold supplied in h }) (unfold supplied in (omega arith))
          (unfold supplied in (omega (arith, changed-length t.state.vars (change x (Const k) ∷ [])))) z)

  fate_goes : Sane pr → (t t' : Tables) → tables_ok lim pr t ≡ true → Goes lim pr t t' → Fate lim pr p t.state → Fate lim pr p t'.state
  fate_goes sane t t' ok (goes_step {m = m} q e) f = fate-step t t' q m ok e f
  fate_goes sane t t' ok (goes-run limit) f = fate-repeats sane (runs lim pr limit t).moves ok f
  fate_goes sane t t' ok (goes-supply {x = x} v k e) f =
      let g = supply-grows pr t t' (steady_kept lim pr t ok).0.falls v k x e in
      rw g.0 (fate-supplied t x k ok f)
  fate_goes sane t t' ok goes_none f = f
  fate_goes sane t t' ok (goes_then {u = u} a b) f = fate_goes sane u t' (ok-goes lim pr sane a ok) b (fate_goes sane t u ok a f)

-- ---- THE LAW

-- Tables 1: who lacks room lacks it for good: after any calls it lacks room still, or is dormant
pub room-final : (lim : Limits) (s : List ℕ) (l : Lent) {r c : ℕ} → LetIn lim s l r c → (p : ℕ) → LacksRoom lim (program_of s r c) (state_in l) p → (m : Lent) → Later lim s l m
    → HasMode (state_in m) p dormant ⊎ LacksRoom lim (program_of s r c) (state_in m) p
room-final lim s l {r} {c} i p q m k =
    let (j, f) = later-by lim s (λ (x : Lent). Fate lim pr p (state_in x)) on over i (record { there = here; fate = inr (full-in lim pr (state_in l) (good l i) p q) }) k in
    ⊎_elim (λ z. inl z) (λ z. inr (in-full lim pr (state_in m) (good m j) p z)) f.fate
  where
    pr : Program
    pr = program_of s r c

    good : (x : Lent) → LetIn lim s x r c → state_ok lim pr (state_in x) ≡ true
    good x j = tables-state lim pr (tables_in x) (let-ok lim s x j)

    here : p < length (state_in l).procs
    here = can-here pr (state_in l) p (move-can lim pr (state_in l) (good l i) p (record { rule = q.rule; after = q.after; holds = q.holds }))

    on : (x : Lent) → LetIn lim s x r c → Fate lim pr p (state_in x) → (t : Tables) → Goes lim pr (tables_in x) t → tables_in (put_tables x t) ≡ t → Fate lim pr p (state_in (put_tables x t))
    on x j f t g e = subst (λ (y : Tables). Fate lim pr p y.state) (sym e) (fate_goes lim pr p (image-sane lim s x j) (tables_in x) t (let-ok lim s x j) g f)

    over : (x y : Lent) → LetIn lim s x r c → Fate lim pr p (state_in x) → y ≡ copied lim x → tables_in y ≡ tables_in x → Fate lim pr p (state_in y)
    over x y j f e h = subst (λ (z : Tables). Fate lim pr p z.state) (sym h) f
