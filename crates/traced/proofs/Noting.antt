-- The ways through the step and the supply that record.
use Rattle.std.specs.Prelude.{Err, Ok}
use mathlib.Core.Path.{ap, refl, sym, ◌∙◌, ◌≡◌}
use mathlib.Core.List.{List}
use Prim.Native.Nat.{ℕ, ◌<◌, ◌≤◌}
use lib.ListN.{length}
use native.Mathlib.Omega.{arith}
use Rattle.bound.proofs.Rows.{row-says}
use Rattle.bound.specs.Calls.{RowSays}
use Rattle.entry.specs.Entered.{EnterSays}
use Rattle.lay.proofs.Laws.{laid_none}
use Rattle.lay.specs.Lay.{laid}
use Rattle.machine.specs.Supplying.{DecidedSays, supply_of, SupplySays}
use Rattle.move_plan.specs.declared.Plan.{Plan}
use Rattle.parlog.specs.Answer.{Answer}
use Rattle.parlog.specs.Calls.{enter, entered, Entry, step_answer, step_call, step_entry, supply_answer, supply_call, supply_entry, turned_away}
use Rattle.parlog.specs.Limits.{Limits}
use Rattle.parlog.specs.Load.{refusal}
use Rattle.parlog.specs.Numbers.{rule_number}
use Rattle.parlog.specs.Run.{given, made, step_tables, Stepping, supply_tables, Supplying, ungiven, unmade}
use Rattle.parlog.specs.Tables.{Lent}
use Rattle.parlog.specs.declared.Move.{Move}
use Rattle.parlog.specs.declared.Refusal.{Refusal}
use Rattle.step.specs.Stepping.{PlannedSays, StepSays}
use Rattle.trace.specs.Trace.{record_bytes, step_kind, supply_kind, trace_size}
use Rattle.traced.proofs.Records.{has_room, no_room}
use Rattle.traced.specs.Traced.{move_record, step_traced_call, step_traces, step_unnoted, supply_record, supply_traced_call, supply_traces, supply_unnoted}

-- ---- the step

-- a step that is refused writes nothing
unmoved-keeps : (lim : Limits) (s : List ℕ) (l : Lent) (p : ℕ) {f : Refusal} → (step_call lim s l p).answer ≡ Err f → (step_call lim s l p).lent ≡ l
unfolding step_call
unmoved-keeps lim s l p e = by (enter lim s l) e
  where
    answer : (x : Stepping) {f : Refusal} → (step_answer x l).answer ≡ Err f → (step_answer x l).lent ≡ l
    answer (unmade k) q = refl
    answer (made m t) q = let z : ◌≡◌ {A = ℕ} 0 1 = cc in absurd (omega arith)

    by : (x : Entry) {f : Refusal} → (step_entry x lim l p).answer ≡ Err f → (step_entry x lim l p).lent ≡ l
    by (turned_away r) q = refl
    by (entered pr t) q = answer (step_tables lim pr t p) q

module _ (lim : Limits) (s : List ℕ) (l : Lent) (p : ℕ) where
  -- a refusal of the plain call is one here
  pub unnoted-as : {f : Refusal} {h ps vs : List ℕ} → StepSays lim s l p (Err f) h ps vs → Err f ≡ step_unnoted (step_call lim s l p).answer
  unnoted-as x = rw (← x.answer)

  module _ {e : Answer (ℕ × ℕ)} (door : EnterSays lim s l e) {r c : ℕ} (q : e ≡ Ok (r, c)) {d : Answer Plan} (says : PlannedSays lim s r c l p d) where
    -- a step that is decided to be refused is refused by its number
    pub unnoted-refused : {f : Refusal} → d ≡ Err f → Err f ≡ step_unnoted (step_call lim s l p).answer
    unfolding step_call
    unnoted-refused {f} z = rw (door.entry, q, says.step, z) (ap Err (says.plain z))

    -- one that would be made is refused for the row
    pub unnoted-made : {pl : Plan} → d ≡ Ok pl → {f : Refusal} → f ≡ refusal 11 0 → Err f ≡ step_unnoted (step_call lim s l p).answer
    unfolding step_call
    unnoted-made z {f} ef = rw (door.entry, q, says.step, z) (ap Err ef)

  module _ (row : List ℕ) (stamp : ℕ) where
    -- without room for the record: refused as the plain call, else with 11, and nothing is written
    pub step-narrow : length row < trace_size → step_traced_call lim s l row p stamp ≡ record { answer = step_unnoted (step_call lim s l p).answer; lent = l; row = row }
    unfolding step_traced_call
    step-narrow short = go (step_call lim s l p).answer refl
      where
        go : (x : Answer Move) → (step_call lim s l p).answer ≡ x → step_traces x (step_call lim s l p).lent l row p stamp ≡ record { answer = step_unnoted x; lent = l; row = row }
        go (Err r) e = rw (unmoved-keeps lim s l p e)
        go (Ok m) e = no_room (Err (refusal 11 0)) (Ok m) (step_call lim s l p).lent l row step_kind p (rule_number m) stamp short

    -- with room: the plain call, and the record of its move
    pub step-wide : trace_size ≤ length row
        → step_traced_call lim s l row p stamp ≡ record { answer = (step_call lim s l p).answer; lent = (step_call lim s l p).lent; row = laid row 0 (move_record (step_call lim s l p).answer p stamp) }
    unfolding step_traced_call
    step-wide wide = go (step_call lim s l p).answer
      where
        go : (x : Answer Move) → step_traces x (step_call lim s l p).lent l row p stamp ≡ record { answer = x; lent = (step_call lim s l p).lent; row = laid row 0 (move_record x p stamp) }
        go (Err r) = rw (laid_none row 0)
        go (Ok m) = has_room (Err (refusal 11 0)) (Ok m) (step_call lim s l p).lent l row step_kind p (rule_number m) stamp wide

    pub step-short : length row < trace_size → {a : Answer Move} → a ≡ step_unnoted (step_call lim s l p).answer → RowSays (step_traced_call lim s l row p stamp) a l.head l.procs l.vars row
    step-short short ea = row-says (step-narrow short ∙ rw ea)

    step-done : trace_size ≤ length row → {a : Answer Move} {h ps vs w : List ℕ} → StepSays lim s l p a h ps vs → w ≡ laid row 0 (move_record a p stamp) → RowSays (step_traced_call lim s l row p stamp) a h ps vs w
    step-done wide x ew =
        let z = step-wide wide in
        record { answer = rw z x.answer; head = rw z x.head; procs = rw z x.procs; vars = rw z x.vars; row = rw (z, ← x.answer) ew }

    module _ (wide : trace_size ≤ length row) {a : Answer Move} {h ps vs : List ℕ} (x : StepSays lim s l p a h ps vs) where
      pub step_kept : {f : Refusal} → a ≡ Err f → RowSays (step_traced_call lim s l row p stamp) (Err f) h ps vs row
      step_kept e = step-done wide (rw e at x) (sym (laid_none row 0))

      pub step-noted : {m : Move} → a ≡ Ok m → {rule : ℕ} → rule ≡ rule_number m → {w : List ℕ} → w ≡ laid row 0 (record_bytes step_kind p rule stamp) → RowSays (step_traced_call lim s l row p stamp) (Ok m) h ps vs w
      step-noted e er ew = step-done wide (rw e at x) (rw (← er) ew)

-- ---- the supply

-- a supply that is refused writes nothing
ungiven-keeps : (lim : Limits) (s : List ℕ) (l : Lent) (v c : ℕ) {f : Refusal} → (supply_call lim s l v c).answer ≡ Err f → (supply_call lim s l v c).lent ≡ l
unfolding supply_call
ungiven-keeps lim s l v c e = by (enter lim s l) e
  where
    answer : (x : Supplying) {f : Refusal} → (supply_answer x l).answer ≡ Err f → (supply_answer x l).lent ≡ l
    answer (ungiven k) q = refl
    answer (given w t) q = let z : ◌≡◌ {A = ℕ} 0 1 = cc in absurd (omega arith)

    by : (x : Entry) {f : Refusal} → (supply_entry x l v c).answer ≡ Err f → (supply_entry x l v c).lent ≡ l
    by (turned_away r) q = refl
    by (entered pr t) q = answer (supply_tables pr t v c) q

decided-answer : (d : Answer ℕ) (l : Lent) (c : ℕ) → (supply_of d l c).answer ≡ d
decided-answer (Err r) l c = refl
decided-answer (Ok w) l c = refl

module _ (lim : Limits) (s : List ℕ) (l : Lent) (row : List ℕ) (v c stamp : ℕ) where
  -- without room for the record, and with room
  pub supply-narrow : length row < trace_size → supply_traced_call lim s l row v c stamp ≡ record { answer = supply_unnoted (supply_call lim s l v c).answer; lent = l; row = row }
  unfolding supply_traced_call
  supply-narrow short = go (supply_call lim s l v c).answer refl
    where
      go : (x : Answer ℕ) → (supply_call lim s l v c).answer ≡ x → supply_traces x (supply_call lim s l v c).lent l row v c stamp ≡ record { answer = supply_unnoted x; lent = l; row = row }
      go (Err r) e = rw (ungiven-keeps lim s l v c e)
      go (Ok w) e = no_room (Err (refusal 11 0)) (Ok w) (supply_call lim s l v c).lent l row supply_kind v c stamp short

  pub supply-wide : trace_size ≤ length row
      → supply_traced_call lim s l row v c stamp ≡ record { answer = (supply_call lim s l v c).answer; lent = (supply_call lim s l v c).lent; row = laid row 0 (supply_record (supply_call lim s l v c).answer v c stamp) }
  unfolding supply_traced_call
  supply-wide wide = go (supply_call lim s l v c).answer
    where
      go : (x : Answer ℕ) → supply_traces x (supply_call lim s l v c).lent l row v c stamp ≡ record { answer = x; lent = (supply_call lim s l v c).lent; row = laid row 0 (supply_record x v c stamp) }
      go (Err r) = rw (laid_none row 0)
      go (Ok w) = has_room (Err (refusal 11 0)) (Ok w) (supply_call lim s l v c).lent l row supply_kind v c stamp wide

  pub supply-short : length row < trace_size → {d : Answer ℕ} → DecidedSays lim s l v c d → {a : Answer ℕ} → a ≡ supply_unnoted d
      → RowSays (supply_traced_call lim s l row v c stamp) a l.head l.procs l.vars row
  supply-short short {d} says ea =
      let k : (supply_call lim s l v c).answer ≡ d = rw says.call (decided-answer d l c) in
      row-says (supply-narrow short ∙ rw (ea, k))

  supply-done : trace_size ≤ length row → {a : Answer ℕ} {h ps vs w : List ℕ} → SupplySays lim s l v c a h ps vs → w ≡ laid row 0 (supply_record a v c stamp)
      → RowSays (supply_traced_call lim s l row v c stamp) a h ps vs w
  supply-done wide x ew =
      let z = supply-wide wide in
      record { answer = rw z x.answer; head = rw z x.head; procs = rw z x.procs; vars = rw z x.vars; row = rw (z, ← x.answer) ew }

  module _ (wide : trace_size ≤ length row) {a : Answer ℕ} {h ps vs : List ℕ} (x : SupplySays lim s l v c a h ps vs) where
    pub supply-kept : {f : Refusal} → a ≡ Err f → RowSays (supply_traced_call lim s l row v c stamp) (Err f) h ps vs row
    supply-kept e = supply-done wide (rw e at x) (sym (laid_none row 0))

    pub supply-noted : {u : ℕ} → a ≡ Ok u → {w : List ℕ} → w ≡ laid row 0 (record_bytes supply_kind v c stamp) → RowSays (supply_traced_call lim s l row v c stamp) (Ok u) h ps vs w
    supply-noted e ew = supply-done wide (rw e at x) ew
