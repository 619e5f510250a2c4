-- Request 1: the calls that tell the variables bound are refused as the plain ones, then for the row; else they are the plain calls, and what they tell is exactly
-- what was bound, in the unifier's order.
use Rattle.parlog.specs.Answer.{Answer}
use Rattle.std.specs.Prelude.{Option, Ok, Some, None, Err}
use mathlib.Core.Path.{◌∙◌, ◌≡◌, ap, refl}
use mathlib.Core.Logic.{◌≢◌}
use mathlib.Core.Bool.{true}
use mathlib.Core.List.{List}
use Prim.Native.Nat.{◌<◌, ◌≤◌, ℕ}
use lib.Dec.{leb}
use lib.ListN.{length}
use borrow.Author.Tests.{leb-false, leb-true}
use native.Mathlib.Omega.{arith}
use Rattle.bound.proofs.Rows.{tell-fits, tell-short}
use Rattle.bound.specs.Calls.{RowCall, step_binds, step_bound_call, tell_in, turn_binds, turn_bound_call}
use Rattle.bound_row.proofs.Rows.{bytes-length, vars-many}
use Rattle.bound_row.specs.Row.{bound_bytes}
use Rattle.entry.proofs.Held.{count-procs, same-lent, tables-state}
use Rattle.lay.proofs.Laws.{laid-start}
use Rattle.lay.specs.Lay.{laid}
use Rattle.parlog.proofs.Bools.{split}
use Rattle.parlog.proofs.Exact.{makes-exactly}
use Rattle.parlog.proofs.Good.{state-good}
use Rattle.parlog.proofs.Moves.{moved_by}
use Rattle.parlog.proofs.Stable.{can-here}
use Rattle.parlog.specs.Calls.{step_call}
use Rattle.parlog.specs.Delta.{apply, Delta}
use Rattle.parlog.specs.Limits.{Limits}
use Rattle.parlog.specs.Load.{refusal}
use Rattle.parlog.specs.Numbers.{refused_as, word}
use Rattle.parlog.specs.Program.{Program, program_of}
use Rattle.parlog.specs.Relation.{Fits, Rule}
use Rattle.parlog.specs.Rules.{by_rule, rule_of}
use Rattle.parlog.specs.Run.{Stepping, turn_for}
use Rattle.parlog.specs.TableRules.{state_ok}
use Rattle.parlog.specs.Tables.{Lent, put_tables, State, tables_in}
use Rattle.parlog.specs.declared.Change.{Change}
use Rattle.parlog.specs.declared.Move.{Move}
use Rattle.promises.proofs.Demand1.{a-refusal, Answered, no-refusal, refuses-by, step-as, step-numbered, step-refused, turn-numbered, turn-refused, turn_step, turn-there}
use Rattle.promises.proofs.Demand2.{demand-2-step, image-sane}
use Rattle.promises.proofs.Entry.{away, Door, door, enter-let, inside, let-in-same, let-ok}
use Rattle.promises.proofs.Newly.{binds-once, rule-binds}
use Rattle.promises.proofs.Whose.{goes, is-full, is-still, move-can, of-turn, step-makes, too-high, Trial, trial, turn-moves, turn-none, turn-of}
use Rattle.promises.proofs.Words.{moved_told}
use Rattle.promises.specs.Bound.{as_step, as_turn, BindsBy, bytes_for, NewlyBound, RefusingRow, RowHolds, StepBoundMeets, StepBoundRefused, StepTold, StepUntold, TurnBoundMeets, TurnBoundRefused, TurnUntold, untold_step, untold_turn}
use Rattle.promises.specs.Moves.{after_step}
use Rattle.promises.specs.Outcomes.{refusal_in, StepMeets, TurnMeets}
use Rattle.promises.specs.Refusals.{LetIn, no_process, no_room_for, no_room_in_turn, no_rule_for, nobody, state_in, step_away, StepRefused, Turn, turn_away, TurnRefused}
use Rattle.unify.specs.Pending.{vars_bound}

-- ---- a word that is no refusal, or has its reason

pub kept_of : {Why : ℕ → ℕ → Type 0} {A : Type 0} {a b : A} (w : ℕ) → Answered Why w → ((n o : ℕ) → Why n o → a ≡ b) → refusal_in w ≢ 0 → a ≡ b
kept_of w (a-refusal {n} {o} y) k h = k n o y
kept_of w (no-refusal e) k h = absurd (h e)

-- ---- the row

pub row-holds : (row vs : List ℕ) {w : List ℕ} → bytes_for (length vs) ≤ length row → w ≡ laid row 0 (bound_bytes vs) → RowHolds row vs w
row-holds row vs fit e =
    let n = bytes-length vs in
    record { room = fit; bytes = e ∙ laid-start (bound_bytes vs) row (rw n fit) ∙ rw n }

-- ---- a step

module _ (lim : Limits) (s : List ℕ) (l : Lent) (row : List ℕ) (p : ℕ) where
  plainly : {n o : ℕ} → StepRefused lim s l p n o → step_bound_call lim s l row p ≡ record { answer = Err (refusal n o); lent = l; row = row }
  unfolding step_bound_call
  plainly y = rw (step-refused lim s l p y)

  module _ {r c : ℕ} (i : LetIn lim s l r c) {m : Move} {s' : State} (x : Rule (program_of s r c) (state_in l) p m s') (f : Fits lim s') where
    abbrev pr : Program
    pr = program_of s r c

    abbrev told : List ℕ
    told = step_binds pr (tables_in l) p

    ok : state_ok lim pr (state_in l) ≡ true
    ok = tables-state lim pr (tables_in l) (let-ok lim s l i)

    there : p < length (state_in l).procs
    there = can-here pr (state_in l) p (move-can lim pr (state_in l) ok p (record { rule = m; after = s'; holds = x }))

    made-call : step_call lim s l p ≡ record { answer = Ok m; lent = put_tables l (after_step (tables_in l) p s') }
    made-call = step-as lim s l p i (step-makes lim pr (tables_in l) (let-ok lim s l i) p there x f)

    tells-call : step_bound_call lim s l row p ≡ tell_in (Err (refusal 11 0)) (Ok m) (put_tables l (after_step (tables_in l) p s')) l row (bound_bytes told)
    unfolding step_bound_call
    tells-call = rw (made-call, enter-let lim s l i)

    short-call : length row < bytes_for (length told) → step_bound_call lim s l row p ≡ record { answer = Err (refusal 11 0); lent = l; row = row }
    short-call h = tells-call ∙ tell-short _ _ _ l row (bound_bytes told) (rw (bytes-length told) h)

    told-call : bytes_for (length told) ≤ length row
        → step_bound_call lim s l row p ≡ record { answer = Ok m; lent = put_tables l (after_step (tables_in l) p s'); row = laid row 0 (bound_bytes told) }
    told-call h = tells-call ∙ tell-fits (Err (refusal 11 0)) (Ok m) (put_tables l (after_step (tables_in l) p s')) l row (bound_bytes told) (rw (bytes-length told) h)

    -- what the rule binds, by the relation
    abbrev Binds : List Change → Type 0
    Binds cs = (told ≡ vars_bound cs) × BindsBy pr (state_in l) p m cs × NewlyBound (state_in l).vars s'.vars (vars_bound cs)

    binds-by : (d : Delta) → rule_of pr (state_in l) p ≡ by_rule m d → s' ≡ apply (state_in l) p d → Binds d.changes
    binds-by d q e =
        let b = rule-binds lim pr (image-sane lim s l i) (state_in l) p ok there q in
        (unfold step_binds in rw q, b.0, rw e b.1)

    binds-so : (cs : List Change) × Binds cs
    binds-so =
        let k = makes-exactly lim pr (state_in l) ok p x f in
        (k.delta.changes, binds-by k.delta (moved_by lim pr (state_in l) p m k.delta k.move).rule k.state)

    -- as many as the code's list has
    told-many : {cs : List Change} → BindsBy pr (state_in l) p m cs → length told ≡ length cs
    told-many y =
        let b = binds-so in
        let q = binds-once pr (state_in l) (state-good lim pr (state_in l) ok) p b.1.1 y in
        ap length b.1.0 ∙ vars-many b.0 ∙ ap length q

  refused-call : {n o : ℕ} → StepBoundRefused lim s l row p n o → step_bound_call lim s l row p ≡ record { answer = Err (refusal n o); lent = l; row = row }
  refused-call (as_step y) = plainly y
  refused-call (untold_step u) = short-call u.inside u.holds u.fits (rw (told-many u.inside u.holds u.fits u.binds) u.short)

  data StepView : RowCall (Answer Move) → Type 0 where
    view-refused : {n o : ℕ} → StepBoundRefused lim s l row p n o → StepView (record { answer = Err (refusal n o); lent = l; row = row })
    view-told : {r c : ℕ} (i : LetIn lim s l r c) {m : Move} {s' : State} → Rule (program_of s r c) (state_in l) p m s' → Fits lim s'
        → bytes_for (length (step_binds (program_of s r c) (tables_in l) p)) ≤ length row
        → StepView (record { answer = Ok m; lent = put_tables l (after_step (tables_in l) p s'); row = laid row 0 (bound_bytes (step_binds (program_of s r c) (tables_in l) p)) })

  step-view : StepView (step_bound_call lim s l row p)
  step-view = go (door lim s l)
    where
      plain : {n o : ℕ} → StepRefused lim s l p n o → StepView (step_bound_call lim s l row p)
      plain y = rw (plainly y) (view-refused (as_step y))

      by : {r c : ℕ} (i : LetIn lim s l r c) {a : Stepping} → Trial lim (program_of s r c) (tables_in l) (let-ok lim s l i) p a → StepView (step_bound_call lim s l row p)
      by i (too-high h) = plain (no_process i (rw (← count-procs l) h))
      by i (is-still h n) = plain (no_rule_for i (rw (← count-procs l) h) n)
      by i (is-full h n) = plain (no_room_for i (rw (← count-procs l) h) n)
      by {r} {c} i (goes {m} {s'} h x f) =
          let vs : List ℕ = step_binds (program_of s r c) (tables_in l) p in
          split (leb (bytes_for (length vs)) (length row))
          (λ e. let g : bytes_for (length vs) ≤ length row = leb-true (bytes_for (length vs)) (length row) e in rw (told-call i x f g) (view-told i x f g))
          (λ e. let g : length row < bytes_for (length vs) = leb-false (bytes_for (length vs)) (length row) e in
          let b = binds-so i x f in
          rw (short-call i x f g)
          (view-refused
          (untold_step
          (record {
            relations = r;
            clauses = c;
            inside = i;
            rule = m;
            after = s';
            holds = x;
            fits = f;
            changes = b.0;
            binds = b.1.1;
            short = rw (told-many i x f b.1.1) at g;
          }))))

      go : Door lim s l → StepView (step_bound_call lim s l row p)
      go (away a) = plain (step_away a)
      go (inside {r} {c} i) = by i (trial lim (program_of s r c) (tables_in l) (let-ok lim s l i) p)

  bound-numbered : {n o : ℕ} → StepBoundRefused lim s l row p n o → (1 ≤ n) × (n ≤ 14)
  bound-numbered (as_step y) = step-numbered y
  bound-numbered (untold_step u) = (omega arith, omega arith)

  module _ (w : ℕ) (l' : Lent) (row' : List ℕ) (meets : StepBoundMeets lim s l row p w l' row') where
    bound-word : (n o : ℕ) → StepBoundRefused lim s l row p n o → w ≡ word (refused_as (refusal n o))
    bound-word n o y = let e = refused-call {n = n} {o = o} y in meets.contract.answer ∙ rw e

    bound-answered : {x : RowCall (Answer Move)} → StepView x → step_bound_call lim s l row p ≡ x → Answered (StepBoundRefused lim s l row p) w
    bound-answered (view-refused y) e = a-refusal y
    bound-answered (view-told i {m} x f g) e = no-refusal (moved_told w m (meets.contract.answer ∙ rw e)).accepted

    step-bound-answered : Answered (StepBoundRefused lim s l row p) w
    step-bound-answered = bound-answered step-view refl

    pub demand-1-step-bound : RefusingRow (StepBoundRefused lim s l row p) l row w l' row'
    demand-1-step-bound = record {
      by = refuses-by w (λ n o y. bound-numbered y) (omega arith) bound-word step-bound-answered;
      kept = kept_of w step-bound-answered (λ n o y. let e = refused-call {n = n} {o = o} y in same-lent l' l (meets.contract.head ∙ rw e) (meets.contract.procs ∙ rw e) (meets.contract.vars ∙ rw e));
      row_kept = kept_of w step-bound-answered (λ n o y. let e = refused-call {n = n} {o = o} y in meets.contract.row ∙ rw e);
    }

    -- an outcome of the plain call, where that leaves the same answer and tables
    same_step : {a : Answer Move} {k : Lent} {q : List ℕ} → step_bound_call lim s l row p ≡ record { answer = a; lent = k; row = q } → step_call lim s l p ≡ record { answer = a; lent = k } → StepMeets lim s l p w l'
    same_step e d =
        record { contract = record { answer = meets.contract.answer ∙ rw (e, d); head = meets.contract.head ∙ rw (e, d); procs = meets.contract.procs ∙ rw (e, d); vars = meets.contract.vars ∙ rw (e, d) } }

    -- word and tables are the plain call's, wherever the row is not what refuses it
    pub plain_step : (StepUntold lim s l row p → ⊥) → StepMeets lim s l p w l'
    plain_step n = go step-view refl
      where
        go : {x : RowCall (Answer Move)} → StepView x → step_bound_call lim s l row p ≡ x → StepMeets lim s l p w l'
        go (view-refused (as_step y)) e = same_step e (step-refused lim s l p y)
        go (view-refused (untold_step u)) e = absurd (n u)
        go (view-told i x f g) e = same_step e (made-call i x f)

    told-so : {r c : ℕ} (i : LetIn lim s l r c) {m : Move} {s' : State} (x : Rule (program_of s r c) (state_in l) p m s') (f : Fits lim s')
        → bytes_for (length (step_binds (program_of s r c) (tables_in l) p)) ≤ length row → StepTold lim (program_of s r c) l row p w l' row'
    told-so {r} {c} i {m} {s'} x f g =
        let e = told-call i x f g in
        let b = binds-so i x f in
        record {
          rule = m;
          after = s';
          shows = (demand-2-step lim s l i p w l' (same_step e (made-call i x f)) (rw (← count-procs l) (there i x f))).does x f;
          changes = b.0;
          binds = b.1.1;
          exactly = b.1.2;
          holds = rw b.1.0 at (row-holds row (step_binds (program_of s r c) (tables_in l) p) g (meets.contract.row ∙ rw e));
        }

    -- demand 2: a step that is not refused is the move of the rules, and tells what it bound
    pub demand-2-step-bound : {r c : ℕ} → LetIn lim s l r c → refusal_in w ≡ 0 → StepTold lim (program_of s r c) l row p w l' row'
    demand-2-step-bound {r} {c} j z = go step-view refl
      where
        go : {x : RowCall (Answer Move)} → StepView x → step_bound_call lim s l row p ≡ x → StepTold lim (program_of s r c) l row p w l' row'
        go (view-refused y) e = let b = demand-1-step-bound.by in let a = (b.given y).0 in let d = (b.numbered y).0 in absurd (omega arith)
        go (view-told i x f g) e = let q = let-in-same i j in rw (q.0, q.1) at (told-so i x f g)

-- ---- a turn

module _ (lim : Limits) (s : List ℕ) (l : Lent) (row : List ℕ) where
  turn-plainly : {n o : ℕ} → TurnRefused lim s l n o → turn_bound_call lim s l row ≡ record { answer = Err (refusal n o); lent = l; row = row }
  unfolding turn_bound_call
  turn-plainly y = rw (turn-refused lim s l y)

  turn-tells : {r c p : ℕ} → LetIn lim s l r c → Turn (program_of s r c) (tables_in l) p → turn_binds (program_of s r c) (tables_in l) ≡ step_binds (program_of s r c) (tables_in l) p
  unfolding turn_binds
  turn-tells {r} {c} {p} i u = rw (of-turn lim (program_of s r c) (tables_in l) (let-ok lim s l i) p u)

  -- a turn is the step of the process whose turn it is
  pub turn-bound-step : {r c p : ℕ} → LetIn lim s l r c → Turn (program_of s r c) (tables_in l) p → turn_bound_call lim s l row ≡ step_bound_call lim s l row p
  unfolding turn_bound_call step_bound_call
  turn-bound-step i u = rw (turn_step lim s l i u, enter-let lim s l i, turn-tells i u)

  turn-refused-call : {n o : ℕ} → TurnBoundRefused lim s l row n o → turn_bound_call lim s l row ≡ record { answer = Err (refusal n o); lent = l; row = row }
  turn-refused-call (as_turn y) = turn-plainly y
  turn-refused-call (untold_turn u) = turn-bound-step u.step.inside u.turn ∙ refused-call lim s l row u.process (untold_step u.step)

  turn-bound-numbered : {n o : ℕ} → TurnBoundRefused lim s l row n o → (1 ≤ n) × (n ≤ 14)
  turn-bound-numbered (as_turn y) = turn-numbered y
  turn-bound-numbered (untold_turn u) = (omega arith, omega arith)

  module _ (w : ℕ) (l' : Lent) (row' : List ℕ) (meets : TurnBoundMeets lim s l row w l' row') where
    -- an outcome of the turn is one of the step of p
    pub turn-bound-meets : {r c p : ℕ} → LetIn lim s l r c → Turn (program_of s r c) (tables_in l) p → StepBoundMeets lim s l row p w l' row'
    turn-bound-meets i u =
        let e = turn-bound-step i u in
        record { contract = record { answer = meets.contract.answer ∙ rw e; head = meets.contract.head ∙ rw e; procs = meets.contract.procs ∙ rw e; vars = meets.contract.vars ∙ rw e; row = meets.contract.row ∙ rw e } }

    turn-word : (n o : ℕ) → TurnBoundRefused lim s l row n o → w ≡ word (refused_as (refusal n o))
    turn-word n o y = let e = turn-refused-call {n = n} {o = o} y in meets.contract.answer ∙ rw e

    turn-bound-answered : Answered (TurnBoundRefused lim s l row) w
    turn-bound-answered = go (door lim s l)
      where
        as-whose : {r c : ℕ} (i : LetIn lim s l r c) (p : ℕ) → Turn (program_of s r c) (tables_in l) p → Answered (StepBoundRefused lim s l row p) w → Answered (TurnBoundRefused lim s l row) w
        as-whose i p u (no-refusal e) = no-refusal e
        as-whose i p u (a-refusal (as_step (step_away a))) = a-refusal (as_turn (turn_away a))
        as-whose i p u (a-refusal (as_step (no_process j h))) = let g = turn-there lim s l i u in absurd (omega arith)
        as-whose {r} {c} i p u (a-refusal (as_step (no_rule_for j h n))) = let q = let-in-same j i in absurd (n (rw (q.0, q.1) (turn-moves lim (program_of s r c) (tables_in l) (let-ok lim s l i) u)))
        as-whose i p u (a-refusal (as_step (no_room_for j h n))) = let q = let-in-same j i in a-refusal (as_turn (no_room_in_turn i u (rw (q.0, q.1) at n)))
        as-whose i p u (a-refusal (untold_step y)) = let q = let-in-same y.inside i in a-refusal (untold_turn (record { process = p; step = y; turn = rw (q.0, q.1) u }))

        by : {r c : ℕ} (i : LetIn lim s l r c) (f : Option ℕ) → turn_for (program_of s r c) (tables_in l) ≡ f → Answered (TurnBoundRefused lim s l row) w
        by {r} {c} i None e = a-refusal (as_turn (nobody i (turn-none lim (program_of s r c) (tables_in l) (let-ok lim s l i) e)))
        by {r} {c} i (Some p) e =
            let u = turn-of lim (program_of s r c) (tables_in l) (let-ok lim s l i) p e in
            as-whose i p u (step-bound-answered lim s l row p w l' row' (turn-bound-meets i u))

        go : Door lim s l → Answered (TurnBoundRefused lim s l row) w
        go (away a) = a-refusal (as_turn (turn_away a))
        go (inside {r} {c} i) = by i (turn_for (program_of s r c) (tables_in l)) refl

    pub demand-1-turn-bound : RefusingRow (TurnBoundRefused lim s l row) l row w l' row'
    demand-1-turn-bound = record {
      by = refuses-by w (λ n o y. turn-bound-numbered y) (omega arith) turn-word turn-bound-answered;
      kept = kept_of w turn-bound-answered (λ n o y. let e = turn-refused-call {n = n} {o = o} y in same-lent l' l (meets.contract.head ∙ rw e) (meets.contract.procs ∙ rw e) (meets.contract.vars ∙ rw e));
      row_kept = kept_of w turn-bound-answered (λ n o y. let e = turn-refused-call {n = n} {o = o} y in meets.contract.row ∙ rw e);
    }

    -- word and tables are the plain call's, wherever the row is not what refuses it
    pub plain_turn : (TurnUntold lim s l row → ⊥) → TurnMeets lim s l w l'
    plain_turn n = go (door lim s l)
      where
        refused-so : {k o : ℕ} → TurnRefused lim s l k o → TurnMeets lim s l w l'
        refused-so y =
            let e = turn-plainly y in
            let d = turn-refused lim s l y in
            record { contract = record { answer = meets.contract.answer ∙ rw (e, d); head = meets.contract.head ∙ rw (e, d); procs = meets.contract.procs ∙ rw (e, d); vars = meets.contract.vars ∙ rw (e, d) } }

        by : {r c : ℕ} (i : LetIn lim s l r c) (f : Option ℕ) → turn_for (program_of s r c) (tables_in l) ≡ f → TurnMeets lim s l w l'
        by {r} {c} i None e = refused-so (nobody i (turn-none lim (program_of s r c) (tables_in l) (let-ok lim s l i) e))
        by {r} {c} i (Some p) e =
            let u = turn-of lim (program_of s r c) (tables_in l) (let-ok lim s l i) p e in
            let a = plain_step lim s l row p w l' row' (turn-bound-meets i u) (λ y. let q = let-in-same y.inside i in n (record { process = p; step = y; turn = rw (q.0, q.1) u })) in
            let d = turn_step lim s l i u in
            record { contract = record { answer = a.contract.answer ∙ rw d; head = a.contract.head ∙ rw d; procs = a.contract.procs ∙ rw d; vars = a.contract.vars ∙ rw d } }

        go : Door lim s l → TurnMeets lim s l w l'
        go (away a) = refused-so (turn_away a)
        go (inside {r} {c} i) = by i (turn_for (program_of s r c) (tables_in l)) refl

    -- demand 2: a turn that is not refused is the move of whose turn it is, and tells what that bound
    pub demand-2-turn-bound : {r c p : ℕ} → LetIn lim s l r c → Turn (program_of s r c) (tables_in l) p → refusal_in w ≡ 0 → StepTold lim (program_of s r c) l row p w l' row'
    demand-2-turn-bound {p = p} i u z = demand-2-step-bound lim s l row p w l' row' (turn-bound-meets i u) i z
