-- Request 7: the calls that record are refused as the plain ones, then for the row; else they are the plain calls, and their record stands in the row.
use Rattle.std.specs.Prelude.{Ok, Err}
use Rattle.parlog.specs.Answer.{Answer}
use mathlib.Core.Path.{◌∙◌, ◌≡◌, refl}
use mathlib.Core.Logic.{◌≢◌}
use mathlib.Core.List.{List}
use Prim.Native.Nat.{◌<◌, ◌≤◌, ℕ}
use lib.Dec.{leb}
use lib.ListN.{length, take}
use borrow.Author.Tests.{leb-false, leb-true}
use native.Mathlib.Omega.{arith}
use Rattle.bound.specs.Calls.{RowCall}
use Rattle.entry.proofs.Held.{count-procs, same-lent, tables-state}
use Rattle.lay.proofs.Laws.{laid_none, laid-read, laid-start}
use Rattle.lay.specs.Lay.{laid}
use Rattle.parlog.proofs.Bools.{split}
use Rattle.parlog.proofs.Stable.{can-here}
use Rattle.parlog.specs.Calls.{step_call, supply_call}
use Rattle.parlog.specs.Limits.{Limits}
use Rattle.parlog.specs.Load.{refusal}
use Rattle.parlog.specs.Numbers.{refused_as, rule_number, word}
use Rattle.parlog.specs.Program.{program_of}
use Rattle.parlog.specs.Relation.{Fits, Rule}
use Rattle.parlog.specs.Run.{given, made, Running, run_tables, Stepping, step_tables, Supplying, supply_tables}
use Rattle.parlog.specs.Tables.{Lent, put_tables, State, Tables, tables_in}
use Rattle.parlog.specs.declared.Move.{Move}
use Rattle.promises.proofs.Bound.{kept_of}
use Rattle.promises.proofs.BoundSupply.{rows_same}
use Rattle.promises.proofs.Demand1.{a-refusal, Answered, demand-1-run, no-refusal, refuses-by, step-as, step-numbered, step-refused, supply-as, supply-numbered, supply-refused}
use Rattle.promises.proofs.Demand2.{demand-2-step, demand-2-supply}
use Rattle.promises.proofs.Entry.{away, Door, door, enter-away, inside, let-in-same, let-ok, run-let}
use Rattle.promises.proofs.Giving.{is-constant, is-taken, not_there, Offer, offer, supply-gives, too_large}
use Rattle.promises.proofs.Whose.{goes, is-full, is-still, move-can, step-makes, too-high, Trial, trial}
use Rattle.promises.proofs.Words.{ended-told, given-told, moved_told}
use Rattle.promises.specs.Bound.{RefusingRow}
use Rattle.promises.specs.Moves.{after_step}
use Rattle.promises.specs.Outcomes.{refusal_in, RunMeets, StepMeets, SupplyMeets}
use Rattle.promises.specs.Reach.{Later, then_run, then_step, then_supply}
use Rattle.promises.specs.Refusals.{has_constant, LetIn, no_constant, no_process, no_room_for, no_rule_for, no_variable, RunRefused, state_in, step_away, StepRefused, supply_away, SupplyRefused}
use Rattle.promises.specs.Traces.{as_plain_step, as_plain_supply, RowNotes, RunTracedMeets, StepNoted, StepTracedMeets, StepTracedRefused, SupplyNoted, SupplyTracedMeets, SupplyTracedRefused, unrecorded_step, unrecorded_supply}
use Rattle.run_traced.specs.Traced.{moves_for, run_traced_call}
use Rattle.trace.specs.Trace.{record_bytes, step_kind, supply_kind, trace_size}
use Rattle.traced.proofs.Noting.{step-narrow, step-wide, supply-narrow, supply-wide}
use Rattle.traced.proofs.Records.{record-length}
use Rattle.traced.specs.Traced.{step_traced_call, supply_traced_call}

-- what was laid at the front of a row
front-is : (n : ℕ) (bs row : List ℕ) → length bs ≡ n → n ≤ length row → {w : List ℕ} → w ≡ laid row 0 bs → take n w ≡ bs
front-is n bs row e h ew =
    let room : length bs ≤ length row = omega arith in
    rw (ew, ← e) (laid-read bs row room)

row-notes : (bs row : List ℕ) → length bs ≡ trace_size → trace_size ≤ length row → {w : List ℕ} → w ≡ laid row 0 bs → RowNotes row bs w
row-notes bs row e h ew =
    let room : length bs ≤ length row = omega arith in
    record { room = h; front = ew ∙ laid-start bs row room ∙ rw e }

-- ---- a step

module _ (lim : Limits) (s : List ℕ) (l : Lent) (row : List ℕ) (p stamp : ℕ) where
  pub data StepTraceView : RowCall (Answer Move) → Type 0 where
    step-not : {n o : ℕ} → StepTracedRefused lim s l row p n o → StepTraceView (record { answer = Err (refusal n o); lent = l; row = row })
    step-recorded : {r c : ℕ} (i : LetIn lim s l r c) {m : Move} {s' : State} → p < length (state_in l).procs → Rule (program_of s r c) (state_in l) p m s' → Fits lim s'
        → step_tables lim (program_of s r c) (tables_in l) p ≡ made m (after_step (tables_in l) p s') → trace_size ≤ length row
        → StepTraceView (record { answer = Ok m; lent = put_tables l (after_step (tables_in l) p s'); row = laid row 0 (record_bytes step_kind p (rule_number m) stamp) })

  step-refused-plain : {n o : ℕ} → StepRefused lim s l p n o → step_traced_call lim s l row p stamp ≡ record { answer = Err (refusal n o); lent = l; row = row }
  unfolding step_traced_call
  step-refused-plain y = rw (step-refused lim s l p y)

  module _ {r c : ℕ} (i : LetIn lim s l r c) {m : Move} {t : Tables} (e : step_tables lim (program_of s r c) (tables_in l) p ≡ made m t) where
    step-call-made : step_call lim s l p ≡ record { answer = Ok m; lent = put_tables l t }
    step-call-made = step-as lim s l p i e

    step-too-short : length row < trace_size → step_traced_call lim s l row p stamp ≡ record { answer = Err (refusal 11 0); lent = l; row = row }
    step-too-short h = step-narrow lim s l p row stamp h ∙ rw step-call-made

    step-long-enough : trace_size ≤ length row → step_traced_call lim s l row p stamp ≡ record { answer = Ok m; lent = put_tables l t; row = laid row 0 (record_bytes step_kind p (rule_number m) stamp) }
    step-long-enough h = step-wide lim s l p row stamp h ∙ rw step-call-made

  step-refused-call : {n o : ℕ} → StepTracedRefused lim s l row p n o → step_traced_call lim s l row p stamp ≡ record { answer = Err (refusal n o); lent = l; row = row }
  step-refused-call (as_plain_step y) = step-refused-plain y
  step-refused-call (unrecorded_step u) =
      let i = u.inside in
      let ok = tables-state lim (program_of s u.relations u.clauses) (tables_in l) (let-ok lim s l i) in
      let there = can-here (program_of s u.relations u.clauses) (state_in l) p (move-can lim (program_of s u.relations u.clauses) (state_in l) ok p (record { rule = u.rule; after = u.after; holds = u.holds })) in
      step-too-short i (step-makes lim (program_of s u.relations u.clauses) (tables_in l) (let-ok lim s l i) p there u.holds u.fits) u.short

  pub step-trace-view : StepTraceView (step_traced_call lim s l row p stamp)
  step-trace-view = go (door lim s l)
    where
      plain : {n o : ℕ} → StepRefused lim s l p n o → StepTraceView (step_traced_call lim s l row p stamp)
      plain y = rw (step-refused-plain y) (step-not (as_plain_step y))

      by : {r c : ℕ} (i : LetIn lim s l r c) {a : Stepping} → Trial lim (program_of s r c) (tables_in l) (let-ok lim s l i) p a → step_tables lim (program_of s r c) (tables_in l) p ≡ a
          → StepTraceView (step_traced_call lim s l row p stamp)
      by i (too-high h) e = plain (no_process i (rw (← count-procs l) h))
      by i (is-still h n) e = plain (no_rule_for i (rw (← count-procs l) h) n)
      by i (is-full h n) e = plain (no_room_for i (rw (← count-procs l) h) n)
      by {r} {c} i (goes {m} {s'} h x f) e = split (leb trace_size (length row))
          (λ q. let g = leb-true trace_size (length row) q in rw (step-long-enough i e g) (step-recorded i h x f e g))
          (λ q. let g = leb-false trace_size (length row) q in
          rw (step-too-short i e g) (step-not (unrecorded_step (record { relations = r; clauses = c; inside = i; rule = m; after = s'; holds = x; fits = f; short = g }))))

      go : Door lim s l → StepTraceView (step_traced_call lim s l row p stamp)
      go (away a) = plain (step_away a)
      go (inside {r} {c} i) = by i (trial lim (program_of s r c) (tables_in l) (let-ok lim s l i) p) refl

  step-traced-numbered : {n o : ℕ} → StepTracedRefused lim s l row p n o → (1 ≤ n) × (n ≤ 14)
  step-traced-numbered (as_plain_step y) = step-numbered y
  step-traced-numbered (unrecorded_step u) = (omega arith, omega arith)

  module _ (w : ℕ) (l' : Lent) (row' : List ℕ) (meets : StepTracedMeets lim s l row p stamp w l' row') where
    step-traced-word : (n o : ℕ) → StepTracedRefused lim s l row p n o → w ≡ word (refused_as (refusal n o))
    step-traced-word n o y = let e = step-refused-call {n = n} {o = o} y in meets.contract.answer ∙ rw e

    step-traced-answered : Answered (StepTracedRefused lim s l row p) w
    step-traced-answered = go step-trace-view refl
      where
        go : {x : RowCall (Answer Move)} → StepTraceView x → step_traced_call lim s l row p stamp ≡ x → Answered (StepTracedRefused lim s l row p) w
        go (step-not y) e = a-refusal y
        go (step-recorded i {m} h x f q g) e = no-refusal (moved_told w m (meets.contract.answer ∙ rw e)).accepted

    pub demand-1-step-traced : RefusingRow (StepTracedRefused lim s l row p) l row w l' row'
    demand-1-step-traced = record {
      by = refuses-by w (λ n o y. step-traced-numbered y) (omega arith) step-traced-word step-traced-answered;
      kept = kept_of w step-traced-answered (λ n o y. let e = step-refused-call {n = n} {o = o} y in same-lent l' l (meets.contract.head ∙ rw e) (meets.contract.procs ∙ rw e) (meets.contract.vars ∙ rw e));
      row_kept = kept_of w step-traced-answered (λ n o y. let e = step-refused-call {n = n} {o = o} y in meets.contract.row ∙ rw e);
    }

    -- word and tables are the plain call's, wherever the row has room
    pub plain-step-traced : trace_size ≤ length row → StepMeets lim s l p w l'
    plain-step-traced h =
        let e = step-wide lim s l p row stamp h in
        record { contract = record { answer = meets.contract.answer ∙ rw e; head = meets.contract.head ∙ rw e; procs = meets.contract.procs ∙ rw e; vars = meets.contract.vars ∙ rw e } }

    -- and where it has none nothing is written
    step-traced-short : length row < trace_size → l' ≡ l
    step-traced-short h = let e = step-narrow lim s l p row stamp h in same-lent l' l (meets.contract.head ∙ rw e) (meets.contract.procs ∙ rw e) (meets.contract.vars ∙ rw e)

    -- a step that is not refused is the plain one, and its record stands in front of the row
    pub step-traced-made : refusal_in w ≡ 0 → {r c : ℕ} → LetIn lim s l r c
        → (m : Move) × (t : Tables) × (step_tables lim (program_of s r c) (tables_in l) p ≡ made m t) × (l' ≡ put_tables l t) × (take trace_size row' ≡ record_bytes step_kind p (rule_number m) stamp)
    step-traced-made z {r} {c} j = go step-trace-view refl
      where
        go : {x : RowCall (Answer Move)} → StepTraceView x → step_traced_call lim s l row p stamp ≡ x
            → (m : Move) × (t : Tables) × (step_tables lim (program_of s r c) (tables_in l) p ≡ made m t) × (l' ≡ put_tables l t) × (take trace_size row' ≡ record_bytes step_kind p (rule_number m) stamp)
        go (step-not y) e = let b = demand-1-step-traced.by in let a = (b.given y).0 in let d = (b.numbered y).0 in absurd (omega arith)
        go (step-recorded i {m} {s'} h x f q g) e =
            let k = let-in-same i j in
            let t : Tables = after_step (tables_in l) p s' in
            let rec : List ℕ = record_bytes step_kind p (rule_number m) stamp in
            (m, t, rw (k.0, k.1) at q, same-lent l' (put_tables l t) (meets.contract.head ∙ rw e) (meets.contract.procs ∙ rw e) (meets.contract.vars ∙ rw e), front-is trace_size rec row (record-length step_kind p (rule_number m) stamp) g (meets.contract.row ∙ rw e))

    -- demand 2: a step that is not refused is the move of the rules, and its record stands in front of the row
    pub demand-2-step-traced : {r c : ℕ} → LetIn lim s l r c → refusal_in w ≡ 0 → StepNoted lim (program_of s r c) l row p stamp w l' row'
    demand-2-step-traced {r} {c} j z = go step-trace-view refl
      where
        go : {x : RowCall (Answer Move)} → StepTraceView x → step_traced_call lim s l row p stamp ≡ x → StepNoted lim (program_of s r c) l row p stamp w l' row'
        go (step-not y) e = let b = demand-1-step-traced.by in let a = (b.given y).0 in let d = (b.numbered y).0 in absurd (omega arith)
        go (step-recorded i {m} {s'} h x f q g) e =
            let k = let-in-same i j in
            let y : Rule (program_of s r c) (state_in l) p m s' = rw (k.0, k.1) at x in
            record {
              rule = m;
              after = s';
              shows = (demand-2-step lim s l j p w l' (plain-step-traced g) (rw (← count-procs l) h)).does y f;
              notes = row-notes (record_bytes step_kind p (rule_number m) stamp) row (record-length step_kind p (rule_number m) stamp) g (meets.contract.row ∙ rw e);
            }

-- ---- a supply

module _ (lim : Limits) (s : List ℕ) (l : Lent) (row : List ℕ) (v k stamp : ℕ) where
  pub data SupplyTraceView : RowCall (Answer ℕ) → Type 0 where
    supply-not : {n o : ℕ} → SupplyTracedRefused lim s l row v k n o → SupplyTraceView (record { answer = Err (refusal n o); lent = l; row = row })
    supply-recorded : {r c u : ℕ} (i : LetIn lim s l r c) {t : Tables} → supply_tables (program_of s r c) (tables_in l) v k ≡ given u t → v < (program_of s r c).goal_vars → k ≤ 32767 → trace_size ≤ length row
        → SupplyTraceView (record { answer = Ok u; lent = put_tables l t; row = laid row 0 (record_bytes supply_kind v k stamp) })

  supply-refused-plain : {n o : ℕ} → SupplyRefused lim s l v k n o → supply_traced_call lim s l row v k stamp ≡ record { answer = Err (refusal n o); lent = l; row = row }
  unfolding supply_traced_call
  supply-refused-plain y = rw (supply-refused lim s l v k y)

  module _ {r c : ℕ} (i : LetIn lim s l r c) {u : ℕ} {t : Tables} (e : supply_tables (program_of s r c) (tables_in l) v k ≡ given u t) where
    supply-call-given : supply_call lim s l v k ≡ record { answer = Ok u; lent = put_tables l t }
    supply-call-given = supply-as lim s l v k i e

    supply-too-short : length row < trace_size → supply_traced_call lim s l row v k stamp ≡ record { answer = Err (refusal 11 0); lent = l; row = row }
    supply-too-short h = supply-narrow lim s l row v k stamp h ∙ rw supply-call-given

    supply-long-enough : trace_size ≤ length row → supply_traced_call lim s l row v k stamp ≡ record { answer = Ok u; lent = put_tables l t; row = laid row 0 (record_bytes supply_kind v k stamp) }
    supply-long-enough h = supply-wide lim s l row v k stamp h ∙ rw supply-call-given

  supply-refused-call : {n o : ℕ} → SupplyTracedRefused lim s l row v k n o → supply_traced_call lim s l row v k stamp ≡ record { answer = Err (refusal n o); lent = l; row = row }
  supply-refused-call (as_plain_supply y) = supply-refused-plain y
  supply-refused-call (unrecorded_supply y) =
      let i = y.inside in
      supply-too-short i (supply-gives lim (program_of s y.relations y.clauses) (tables_in l) (let-ok lim s l i) v k y.variable y.constant y.value) y.short

  pub supply-trace-view : SupplyTraceView (supply_traced_call lim s l row v k stamp)
  supply-trace-view = go (door lim s l)
    where
      plain : {n o : ℕ} → SupplyRefused lim s l v k n o → SupplyTraceView (supply_traced_call lim s l row v k stamp)
      plain y = rw (supply-refused-plain y) (supply-not (as_plain_supply y))

      by : {r c : ℕ} (i : LetIn lim s l r c) {a : Supplying} → Offer lim (program_of s r c) (tables_in l) (let-ok lim s l i) v k a → supply_tables (program_of s r c) (tables_in l) v k ≡ a
          → SupplyTraceView (supply_traced_call lim s l row v k stamp)
      by i (not_there h) e = plain (no_variable i h)
      by i (too_large h g) e = plain (no_constant i h g)
      by i (is-constant h g x) e = plain (has_constant i h g x)
      by {r} {c} i (is-taken {u} h g x f) e = split (leb trace_size (length row))
          (λ q. let z = leb-true trace_size (length row) q in rw (supply-long-enough i e z) (supply-recorded i e h g z))
          (λ q. let z = leb-false trace_size (length row) q in
          rw (supply-too-short i e z) (supply-not (unrecorded_supply (record { relations = r; clauses = c; inside = i; variable = h; constant = g; unbound = u; value = x; short = z }))))

      go : Door lim s l → SupplyTraceView (supply_traced_call lim s l row v k stamp)
      go (away a) = plain (supply_away a)
      go (inside {r} {c} i) = by i (offer lim (program_of s r c) (tables_in l) (let-ok lim s l i) v k) refl

  supply-traced-numbered : {n o : ℕ} → SupplyTracedRefused lim s l row v k n o → (1 ≤ n) × (n ≤ 14)
  supply-traced-numbered (as_plain_supply y) = supply-numbered y
  supply-traced-numbered (unrecorded_supply u) = (omega arith, omega arith)

  module _ (w : ℕ) (l' : Lent) (row' : List ℕ) (meets : SupplyTracedMeets lim s l row v k stamp w l' row') where
    supply-traced-word : (n o : ℕ) → SupplyTracedRefused lim s l row v k n o → w ≡ word (refused_as (refusal n o))
    supply-traced-word n o y = let e = supply-refused-call {n = n} {o = o} y in meets.contract.answer ∙ rw e

    supply-traced-answered : Answered (SupplyTracedRefused lim s l row v k) w
    supply-traced-answered = go supply-trace-view refl
      where
        go : {x : RowCall (Answer ℕ)} → SupplyTraceView x → supply_traced_call lim s l row v k stamp ≡ x → Answered (SupplyTracedRefused lim s l row v k) w
        go (supply-not y) e = a-refusal y
        go (supply-recorded {u = u} i q h g z) e = no-refusal (given-told w u (meets.contract.answer ∙ rw e))

    pub demand-1-supply-traced : RefusingRow (SupplyTracedRefused lim s l row v k) l row w l' row'
    demand-1-supply-traced = record {
      by = refuses-by w (λ n o y. supply-traced-numbered y) (omega arith) supply-traced-word supply-traced-answered;
      kept = kept_of w supply-traced-answered (λ n o y. let e = supply-refused-call {n = n} {o = o} y in same-lent l' l (meets.contract.head ∙ rw e) (meets.contract.procs ∙ rw e) (meets.contract.vars ∙ rw e));
      row_kept = kept_of w supply-traced-answered (λ n o y. let e = supply-refused-call {n = n} {o = o} y in meets.contract.row ∙ rw e);
    }

    -- word and tables are the plain call's, wherever the row has room
    pub plain-supply-traced : trace_size ≤ length row → SupplyMeets lim s l v k w l'
    plain-supply-traced h =
        let e = supply-wide lim s l row v k stamp h in
        record { contract = record { answer = meets.contract.answer ∙ rw e; head = meets.contract.head ∙ rw e; procs = meets.contract.procs ∙ rw e; vars = meets.contract.vars ∙ rw e } }

    -- and where it has none nothing is written
    supply-traced-short : length row < trace_size → l' ≡ l
    supply-traced-short h = let e = supply-narrow lim s l row v k stamp h in same-lent l' l (meets.contract.head ∙ rw e) (meets.contract.procs ∙ rw e) (meets.contract.vars ∙ rw e)

    -- a supply that is not refused is the plain one, and its record stands in front of the row
    pub supply-traced-given : refusal_in w ≡ 0 → {r c : ℕ} → LetIn lim s l r c
        → (u : ℕ) × (t : Tables) × (supply_tables (program_of s r c) (tables_in l) v k ≡ given u t) × (v < (program_of s r c).goal_vars) × (k ≤ 32767) × (l' ≡ put_tables l t) × (take trace_size row' ≡ record_bytes supply_kind v k stamp)
    supply-traced-given z {r} {c} j = go supply-trace-view refl
      where
        go : {x : RowCall (Answer ℕ)} → SupplyTraceView x → supply_traced_call lim s l row v k stamp ≡ x
            → (u : ℕ) × (t : Tables) × (supply_tables (program_of s r c) (tables_in l) v k ≡ given u t) × (v < (program_of s r c).goal_vars) × (k ≤ 32767) × (l' ≡ put_tables l t) × (take trace_size row' ≡ record_bytes supply_kind v k stamp)
        go (supply-not y) e = let b = demand-1-supply-traced.by in let a = (b.given y).0 in let d = (b.numbered y).0 in absurd (omega arith)
        go (supply-recorded {u = u} i {t} q h g y) e =
            let d = let-in-same i j in
            (u, t, rw (d.0, d.1) at q, rw (d.0, d.1) at h, g, same-lent l' (put_tables l t) (meets.contract.head ∙ rw e) (meets.contract.procs ∙ rw e) (meets.contract.vars ∙ rw e), front-is trace_size (record_bytes supply_kind v k stamp) row (record-length supply_kind v k stamp) y (meets.contract.row ∙ rw e))

    -- demand 2: a supply that is not refused binds the value of its variable, and its record stands in front of the row
    pub demand-2-supply-traced : {r c : ℕ} → LetIn lim s l r c → refusal_in w ≡ 0 → SupplyNoted l row v k stamp w l' row'
    demand-2-supply-traced j z = go supply-trace-view refl
      where
        go : {x : RowCall (Answer ℕ)} → SupplyTraceView x → supply_traced_call lim s l row v k stamp ≡ x → SupplyNoted l row v k stamp w l' row'
        go (supply-not y) e = let b = demand-1-supply-traced.by in let a = (b.given y).0 in let d = (b.numbered y).0 in absurd (omega arith)
        go (supply-recorded i q h g y) e = record {
          supplies = demand-2-supply lim s l j v k w l' (plain-supply-traced y) z;
          notes = row-notes (record_bytes supply_kind v k stamp) row (record-length supply_kind v k stamp) y (meets.contract.row ∙ rw e);
        }

-- ---- a run

module _ (lim : Limits) (s : List ℕ) (l : Lent) (row : List ℕ) (limit stamp w : ℕ) (l' : Lent) (row' : List ℕ) (meets : RunTracedMeets lim s l row limit stamp w l' row') where
  -- word and tables are those of the plain run of as many moves as there is room for
  pub plain-run-traced : RunMeets lim s l (moves_for (length row) limit) w l'
  unfolding run_traced_call
  plain-run-traced = record { contract = record { answer = meets.contract.answer; head = meets.contract.head; procs = meets.contract.procs; vars = meets.contract.vars } }

  run-row-kept : Door lim s l → refusal_in w ≢ 0 → row' ≡ row
  unfolding run_traced_call
  run-row-kept (away a) h = meets.contract.row ∙ rw (enter-away lim s l a, laid_none row 0)
  run-row-kept (inside {r} {c} i) h =
      let n : ℕ = moves_for (length row) limit in
      let x : Running = run_tables n lim (program_of s r c) (tables_in l) in
      absurd (h (ended-told w x.end x.moves (plain-run-traced.contract.answer ∙ rw (run-let lim s l i n))).0)

  pub demand-1-run-traced : RefusingRow (RunRefused lim s l) l row w l' row'
  demand-1-run-traced =
      let d = demand-1-run lim s l (moves_for (length row) limit) w l' plain-run-traced in
      record { by = d.by; kept = d.kept; row_kept = run-row-kept (door lim s l) }

-- ---- only one result

module _ (lim : Limits) (s : List ℕ) (l : Lent) (row : List ℕ) {w w' : ℕ} {l' l'' : Lent} {row' row'' : List ℕ} where
  pub once-step-traced : {p stamp : ℕ} → StepTracedMeets lim s l row p stamp w l' row' → StepTracedMeets lim s l row p stamp w' l'' row'' → (w ≡ w') × (l' ≡ l'') × (row' ≡ row'')
  once-step-traced a b = rows_same lim s l row a.contract b.contract

  pub once-supply-traced : {v k stamp : ℕ} → SupplyTracedMeets lim s l row v k stamp w l' row' → SupplyTracedMeets lim s l row v k stamp w' l'' row'' → (w ≡ w') × (l' ≡ l'') × (row' ≡ row'')
  once-supply-traced a b = rows_same lim s l row a.contract b.contract

  pub once-run-traced : {limit stamp : ℕ} → RunTracedMeets lim s l row limit stamp w l' row' → RunTracedMeets lim s l row limit stamp w' l'' row'' → (w ≡ w') × (l' ≡ l'') × (row' ≡ row'')
  once-run-traced a b = rows_same lim s l row a.contract b.contract

-- ---- demands 2 and 3 read on across them: what they leave is left by plain calls too

module _ (lim : Limits) (s : List ℕ) {l m m' : Lent} {row row' : List ℕ} {stamp w : ℕ} where
  pub later-step-traced : {p : ℕ} → Later lim s l m → StepTracedMeets lim s m row p stamp w m' row' → Later lim s l m'
  later-step-traced {p} d meets = split (leb trace_size (length row))
      (λ e. then_step p d (plain-step-traced lim s m row p stamp w m' row' meets (leb-true trace_size (length row) e)))
      (λ e. rw (step-traced-short lim s m row p stamp w m' row' meets (leb-false trace_size (length row) e)) d)

  pub later-supply-traced : {v k : ℕ} → Later lim s l m → SupplyTracedMeets lim s m row v k stamp w m' row' → Later lim s l m'
  later-supply-traced {v} {k} d meets = split (leb trace_size (length row))
      (λ e. then_supply v k d (plain-supply-traced lim s m row v k stamp w m' row' meets (leb-true trace_size (length row) e)))
      (λ e. rw (supply-traced-short lim s m row v k stamp w m' row' meets (leb-false trace_size (length row) e)) d)

  pub later-run-traced : {limit : ℕ} → Later lim s l m → RunTracedMeets lim s m row limit stamp w m' row' → Later lim s l m'
  later-run-traced {limit} d meets = then_run (moves_for (length row) limit) d (plain-run-traced lim s m row limit stamp w m' row' meets)
