-- Demand 1: a word is a refusal exactly where docs/MACHINE.md has one, with its number and its offset, and a refusal leaves every lent byte as it was.
use Rattle.parlog.specs.declared.Term.{Term}
use Rattle.std.specs.Prelude.{Option, Some, Ok, Err, None}
use Rattle.parlog.specs.Answer.{Answer}
use mathlib.Core.Path.{◌∙◌, ◌≡◌, ap, refl, sym}
use mathlib.Core.Logic.{◌≢◌}
use mathlib.Core.Bool.{true}
use mathlib.Core.List.{List}
use Prim.Native.Nat.{◌*◌, ◌<◌, ◌≤◌, ℕ}
use lib.Dec.{leb, ltb}
use lib.ListN.{length}
use borrow.Author.Tests.{le-leb, leb-false, leb-true, lt-leb, ltb-false, ltb-true}
use native.Mathlib.Omega.{arith}
use Rattle.entry.proofs.Held.{count-procs, same-lent, tables-state}
use Rattle.parlog.proofs.Bools.{split}
use Rattle.parlog.proofs.Stable.{can-here}
use Rattle.parlog.proofs.Steps.{turn_is}
use Rattle.parlog.specs.Calls.{run_call, start_call, step_answer, step_call, supply_answer, supply_call, turn_call, value_answer, value_call}
use Rattle.parlog.specs.Limits.{Limits}
use Rattle.parlog.specs.Load.{load_of, refusal}
use Rattle.parlog.specs.Numbers.{refused_as, word}
use Rattle.parlog.specs.Program.{Program, program_of}
use Rattle.parlog.specs.Run.{Looking, Running, run_tables, Stepping, step_tables, Supplying, supply_tables, turn_for, turn_tables, turn_to, unmade, value_tables}
use Rattle.parlog.specs.TableRules.{full_size}
use Rattle.parlog.specs.Tables.{cell_size, Lent, proc_count, started_lent, Tables, tables_in, written}
use Rattle.parlog.specs.Unify.{value}
use Rattle.parlog.specs.declared.Term.TheVariants.{Var}
use Rattle.promises.proofs.Entry.{away, away-numbered, bad-is, Door, door, inside, let-in-same, let-ok, run-let, run-turned, step-let, step-turned, supply-let, supply-turned, turn-let, turn-turned, value-let, value-turned, values-let, values-turned}
use Rattle.promises.proofs.Giving.{is-constant, is-taken, look-sees, look-twelve, not_there, Offer, offer, supply-fourteen, supply-thirteen, supply-twelve, too_large}
use Rattle.promises.proofs.Loaded.{accepted-few}
use Rattle.promises.proofs.Whose.{goes, is-full, is-still, move-can, none-turn, of-turn, step-eleven, step-nine, step-ten, too-high, Trial, trial, turn-moves, turn-none, turn-of}
use Rattle.promises.proofs.Words.{accepted-told, begun-told, ended-told, given-told, moved_told, refused-told, term_told, values-told}
use Rattle.promises.specs.Outcomes.{first_in, large_in, LoadMeets, refusal_in, RunMeets, second_in, StartMeets, StepMeets, SupplyMeets, TurnMeets, ValueMeets, ValuesMeets}
use Rattle.promises.specs.Refusals.{BadImage, has_constant, LetIn, no_constant, no_process, no_room_for, no_room_in_turn, no_rule_for, no_variable, no_variable_seen, nobody, RefusesBy, Refusing, row_short, run_away, RunRefused, start_image, start_sizes, StartRefused, state_in, step_away, StepRefused, supply_away, SupplyRefused, Turn, turn_away, TurnRefused, value_away, ValueRefused, values_away, ValuesRefused}
use Rattle.refusals.proofs.Exactly.{accepted-right, refused-exactly, refused-number}
use Rattle.refusals.proofs.RuledExactly.{sizes-exactly}
use Rattle.refusals.proofs.Tests.{refuted, refutes}
use Rattle.refusals.specs.Right.{RightImage}
use Rattle.values.specs.Values.{gathered, values_bytes, values_call}

-- ---- from the reasons to the word

pub data Answered (Why : ℕ → ℕ → Type 0) (w : ℕ) : Type 0 where
  a-refusal : {n o : ℕ} → Why n o → Answered Why w
  no-refusal : refusal_in w ≡ 0 → Answered Why w

module _ {Why : ℕ → ℕ → Type 0} {most : ℕ} (w : ℕ) (numbered : (n o : ℕ) → Why n o → (1 ≤ n) × (n ≤ most)) (byte : most ≤ 255) (says : (n o : ℕ) → Why n o → w ≡ word (refused_as (refusal n o))) where
  given_so : {n o : ℕ} → Why n o → (refusal_in w ≡ n) × (large_in w ≡ o)
  given_so {n} {o} y = let a = numbered n o y in refused-told w (refusal n o) (omega (arith, a.1)) (says n o y)

  pub refuses-by : Answered Why w → RefusesBy most Why w
  refuses-by a = record { numbered = λ {n} {o} y. numbered n o y; given = given_so; only = go a }
    where
      go : Answered Why w → refusal_in w ≢ 0 → Why (refusal_in w) (large_in w)
      go (a-refusal y) h = let g = given_so y in rw (g.0, g.1) y
      go (no-refusal e) h = absurd (h e)

  kept_by : {A : Type 0} {l l' : A} → Answered Why w → ((n o : ℕ) → Why n o → l' ≡ l) → refusal_in w ≢ 0 → l' ≡ l
  kept_by (a-refusal {n} {o} y) k h = k n o y
  kept_by (no-refusal e) k h = absurd (h e)

  pub refusing : {A : Type 0} {l l' : A} → Answered Why w → ((n o : ℕ) → Why n o → l' ≡ l) → Refusing most Why l w l'
  refusing a k = record { by = refuses-by a; kept = kept_by a k }

-- ---- load

bad-numbered : {s : List ℕ} {n o : ℕ} → BadImage s n o → (1 ≤ n) × (n ≤ 14)
bad-numbered b = let a = refused-number b in (a.0, omega (arith, a.1))

module _ (s : List ℕ) (w : ℕ) (meets : LoadMeets s w) where
  -- Refusals 19: the counts of a right image
  pub load-counts : {r c : ℕ} → RightImage s r c → (refusal_in w ≡ 0) × (first_in w ≡ r) × (second_in w ≡ c)
  load-counts {r} {c} i =
      let e = (accepted-right s).1 i in
      let a = accepted-few s e in
      accepted-told w r c (omega (arith, a.0)) (omega (arith, a.1)) (meets.contract ∙ rw e)

  pub demand-1-load : RefusesBy 14 (BadImage s) w
  demand-1-load = refuses-by w (λ n o b. bad-numbered b) (omega arith) (λ n o b. meets.contract ∙ rw (bad-is b)) (go (load_of s) refl)
    where
      go : (a : Answer (ℕ × ℕ)) → load_of s ≡ a → Answered (BadImage s) w
      go (Err f) e = a-refusal ((refused-exactly s).0 e)
      go (Ok (r, c)) e = no-refusal (load-counts ((accepted-right s).0 e)).0

-- ---- start

start-numbered : {lim : Limits} {s : List ℕ} {l : Lent} {n o : ℕ} → StartRefused lim s l n o → (1 ≤ n) × (n ≤ 14)
start-numbered (start_image b) = bad-numbered b
start-numbered (start_sizes e h) = (omega arith, omega arith)

module _ (lim : Limits) (s : List ℕ) (l : Lent) where
  pub start-refused : {n o : ℕ} → StartRefused lim s l n o → start_call lim s l ≡ record { answer = Err (refusal n o); lent = l }
  unfolding start_call
  start-refused (start_image b) = rw (bad-is b)
  start-refused (start_sizes a h) = rw ((accepted-right s).1 a, refutes (full_size lim l) (sizes-exactly lim l) h)

  pub start-begun : {r c : ℕ} → load_of s ≡ Ok (r, c) → full_size lim l ≡ true → start_call lim s l ≡ record { answer = Ok tt; lent = started_lent lim (program_of s r c) }
  unfolding start_call
  start-begun e h = rw (e, h)

  pub data Start : Type 0 where
    is-refused : {n o : ℕ} → StartRefused lim s l n o → Start
    is-begun : {r c : ℕ} → load_of s ≡ Ok (r, c) → full_size lim l ≡ true → Start

  pub starting-so : Start
  starting-so = go (load_of s) refl
    where
      go : (a : Answer (ℕ × ℕ)) → load_of s ≡ a → Start
      go (Err f) e = is-refused (start_image ((refused-exactly s).0 e))
      go (Ok (r, c)) e = split (full_size lim l) (λ h. is-begun e h) (λ h. is-refused (start_sizes ((accepted-right s).0 e) (refuted (sizes-exactly lim l) h)))

  module _ (w : ℕ) (l' : Lent) (meets : StartMeets lim s l w l') where
    start_word : (n o : ℕ) → StartRefused lim s l n o → w ≡ word (refused_as (refusal n o))
    start_word n o y = let e = start-refused {n = n} {o = o} y in meets.contract.answer ∙ rw e

    start-kept : (n o : ℕ) → StartRefused lim s l n o → l' ≡ l
    start-kept n o y = let e = start-refused {n = n} {o = o} y in same-lent l' l (meets.contract.head ∙ rw e) (meets.contract.procs ∙ rw e) (meets.contract.vars ∙ rw e)

    pub demand-1-start : Refusing 14 (StartRefused lim s l) l w l'
    demand-1-start = refusing w (λ n o y. start-numbered y) (omega arith) start_word (go starting-so) start-kept
      where
        go : Start → Answered (StartRefused lim s l) w
        go (is-refused y) = a-refusal y
        go (is-begun e h) = no-refusal (begun-told w (meets.contract.answer ∙ rw (start-begun e h)))

-- ---- step

pub step-numbered : {lim : Limits} {s : List ℕ} {l : Lent} {p n o : ℕ} → StepRefused lim s l p n o → (1 ≤ n) × (n ≤ 14)
step-numbered (step_away a) = let b = away-numbered a in (b.0, omega (arith, b.1))
step-numbered (no_process i h) = (omega arith, omega arith)
step-numbered (no_rule_for i h n) = (omega arith, omega arith)
step-numbered (no_room_for i h n) = (omega arith, omega arith)

module _ (lim : Limits) (s : List ℕ) (l : Lent) (p : ℕ) where
  pub step-as : {r c : ℕ} → LetIn lim s l r c → {a : Stepping} → step_tables lim (program_of s r c) (tables_in l) p ≡ a → step_call lim s l p ≡ step_answer a l
  step-as i e = step-let lim s l i p ∙ ap (λ (x : Stepping). step_answer x l) e

  pub step-refused : {n o : ℕ} → StepRefused lim s l p n o → step_call lim s l p ≡ record { answer = Err (refusal n o); lent = l }
  step-refused (step_away a) = step-turned lim s l a p
  step-refused (no_process i h) = step-as i (step-nine lim _ (tables_in l) (let-ok lim s l i) p (rw (count-procs l) h))
  step-refused (no_rule_for i h n) = step-as i (step-ten lim _ (tables_in l) (let-ok lim s l i) p (rw (count-procs l) h) n)
  step-refused (no_room_for i h n) = step-as i (step-eleven lim _ (tables_in l) (let-ok lim s l i) p (rw (count-procs l) h) n)

  module _ (w : ℕ) (l' : Lent) (meets : StepMeets lim s l p w l') where
    step-answered : Door lim s l → Answered (StepRefused lim s l p) w
    step-answered (away a) = a-refusal (step_away a)
    step-answered (inside {r} {c} i) = go (trial lim (program_of s r c) (tables_in l) (let-ok lim s l i) p) refl
      where
        go : {a : Stepping} → Trial lim (program_of s r c) (tables_in l) (let-ok lim s l i) p a → step_tables lim (program_of s r c) (tables_in l) p ≡ a → Answered (StepRefused lim s l p) w
        go (too-high h) e = a-refusal (no_process i (rw (← count-procs l) h))
        go (is-still h n) e = a-refusal (no_rule_for i (rw (← count-procs l) h) n)
        go (is-full h n) e = a-refusal (no_room_for i (rw (← count-procs l) h) n)
        go (goes {m} h x f) e = no-refusal (moved_told w m (meets.contract.answer ∙ rw (step-as i e))).accepted

    step-word : (n o : ℕ) → StepRefused lim s l p n o → w ≡ word (refused_as (refusal n o))
    step-word n o y = let e = step-refused {n = n} {o = o} y in meets.contract.answer ∙ rw e

    step_kept : (n o : ℕ) → StepRefused lim s l p n o → l' ≡ l
    step_kept n o y = let e = step-refused {n = n} {o = o} y in same-lent l' l (meets.contract.head ∙ rw e) (meets.contract.procs ∙ rw e) (meets.contract.vars ∙ rw e)

    pub demand-1-step : Refusing 14 (StepRefused lim s l p) l w l'
    demand-1-step = refusing w (λ n o y. step-numbered y) (omega arith) step-word (step-answered (door lim s l)) step_kept

-- ---- turn

pub turn-numbered : {lim : Limits} {s : List ℕ} {l : Lent} {n o : ℕ} → TurnRefused lim s l n o → (1 ≤ n) × (n ≤ 14)
turn-numbered (turn_away a) = let b = away-numbered a in (b.0, omega (arith, b.1))
turn-numbered (nobody i h) = (omega arith, omega arith)
turn-numbered (no_room_in_turn i h n) = (omega arith, omega arith)

module _ (lim : Limits) (s : List ℕ) (l : Lent) where
  pub turn-as : {r c : ℕ} → LetIn lim s l r c → {a : Stepping} → turn_tables lim (program_of s r c) (tables_in l) ≡ a → turn_call lim s l ≡ step_answer a l
  turn-as i e = turn-let lim s l i ∙ ap (λ (x : Stepping). step_answer x l) e

  turn-nobody : {r c : ℕ} → LetIn lim s l r c → turn_for (program_of s r c) (tables_in l) ≡ None → turn_tables lim (program_of s r c) (tables_in l) ≡ unmade 10
  unfolding turn_tables turn_to
  turn-nobody i e = rw e

  -- a turn is the step of the process whose turn it is
  pub turn_step : {r c p : ℕ} → LetIn lim s l r c → Turn (program_of s r c) (tables_in l) p → turn_call lim s l ≡ step_call lim s l p
  turn_step {r} {c} {p} i u =
      turn-as i (turn_is lim (program_of s r c) (tables_in l) p (of-turn lim (program_of s r c) (tables_in l) (let-ok lim s l i) p u)) ∙ sym (step-let lim s l i p)

  pub turn-there : {r c p : ℕ} → LetIn lim s l r c → Turn (program_of s r c) (tables_in l) p → p < proc_count l.head
  turn-there {r} {c} {p} i u =
      let pr : Program = program_of s r c in
      let ok = let-ok lim s l i in
      rw (← count-procs l) (can-here pr (state_in l) p (move-can lim pr (state_in l) (tables-state lim pr (tables_in l) ok) p (turn-moves lim pr (tables_in l) ok u)))

  pub turn-refused : {n o : ℕ} → TurnRefused lim s l n o → turn_call lim s l ≡ record { answer = Err (refusal n o); lent = l }
  turn-refused (turn_away a) = turn-turned lim s l a
  turn-refused (nobody {r} {c} i h) = turn-as i (turn-nobody i (none-turn lim (program_of s r c) (tables_in l) (let-ok lim s l i) h))
  turn-refused (no_room_in_turn i u n) = turn_step i u ∙ step-refused lim s l _ (no_room_for i (turn-there i u) n)

  module _ (w : ℕ) (l' : Lent) (meets : TurnMeets lim s l w l') where
    pub turn-meets-step : {r c p : ℕ} → LetIn lim s l r c → Turn (program_of s r c) (tables_in l) p → StepMeets lim s l p w l'
    turn-meets-step i u =
        let e = turn_step i u in
        record { contract = record { answer = meets.contract.answer ∙ rw e; head = meets.contract.head ∙ rw e; procs = meets.contract.procs ∙ rw e; vars = meets.contract.vars ∙ rw e } }

    turn-answered : Door lim s l → Answered (TurnRefused lim s l) w
    turn-answered (away a) = a-refusal (turn_away a)
    turn-answered (inside {r} {c} i) = by (turn_for (program_of s r c) (tables_in l)) refl
      where
        t : Tables
        t = tables_in l

        go : (p : ℕ) → Turn (program_of s r c) t p → Answered (StepRefused lim s l p) w → Answered (TurnRefused lim s l) w
        go p u (no-refusal e) = no-refusal e
        go p u (a-refusal (step_away a)) = a-refusal (turn_away a)
        go p u (a-refusal (no_process j h)) = let g = turn-there i u in absurd (omega arith)
        go p u (a-refusal (no_rule_for j h n)) =
            let q = let-in-same j i in
            absurd (n (rw (q.0, q.1) (turn-moves lim (program_of s r c) t (let-ok lim s l i) u)))
        go p u (a-refusal (no_room_for j h n)) = let q = let-in-same j i in a-refusal (no_room_in_turn i u (rw (q.0, q.1) at n))

        by : (f : Option ℕ) → turn_for (program_of s r c) t ≡ f → Answered (TurnRefused lim s l) w
        by None e = a-refusal (nobody i (turn-none lim (program_of s r c) t (let-ok lim s l i) e))
        by (Some p) e = let u = turn-of lim (program_of s r c) t (let-ok lim s l i) p e in go p u (step-answered lim s l p w l' (turn-meets-step i u) (inside i))

    turn-word : (n o : ℕ) → TurnRefused lim s l n o → w ≡ word (refused_as (refusal n o))
    turn-word n o y = let e = turn-refused {n = n} {o = o} y in meets.contract.answer ∙ rw e

    turn-kept : (n o : ℕ) → TurnRefused lim s l n o → l' ≡ l
    turn-kept n o y = let e = turn-refused {n = n} {o = o} y in same-lent l' l (meets.contract.head ∙ rw e) (meets.contract.procs ∙ rw e) (meets.contract.vars ∙ rw e)

    pub demand-1-turn : Refusing 14 (TurnRefused lim s l) l w l'
    demand-1-turn = refusing w (λ n o y. turn-numbered y) (omega arith) turn-word (turn-answered (door lim s l)) turn-kept

-- ---- run

run-numbered : {lim : Limits} {s : List ℕ} {l : Lent} {n o : ℕ} → RunRefused lim s l n o → (1 ≤ n) × (n ≤ 14)
run-numbered (run_away a) = let b = away-numbered a in (b.0, omega (arith, b.1))

module _ (lim : Limits) (s : List ℕ) (l : Lent) (limit : ℕ) where
  pub run-refused : {n o : ℕ} → RunRefused lim s l n o → run_call lim s l limit ≡ record { answer = Err (refusal n o); lent = l }
  run-refused (run_away a) = run-turned lim s l a limit

  module _ (w : ℕ) (l' : Lent) (meets : RunMeets lim s l limit w l') where
    run-word : (n o : ℕ) → RunRefused lim s l n o → w ≡ word (refused_as (refusal n o))
    run-word n o y = let e = run-refused {n = n} {o = o} y in meets.contract.answer ∙ rw e

    run-kept : (n o : ℕ) → RunRefused lim s l n o → l' ≡ l
    run-kept n o y = let e = run-refused {n = n} {o = o} y in same-lent l' l (meets.contract.head ∙ rw e) (meets.contract.procs ∙ rw e) (meets.contract.vars ∙ rw e)

    pub demand-1-run : Refusing 14 (RunRefused lim s l) l w l'
    demand-1-run = refusing w (λ n o y. run-numbered y) (omega arith) run-word (go (door lim s l)) run-kept
      where
        go : Door lim s l → Answered (RunRefused lim s l) w
        go (away a) = a-refusal (run_away a)
        go (inside {r} {c} i) =
            let x : Running = run_tables limit lim (program_of s r c) (tables_in l) in
            no-refusal (ended-told w x.end x.moves (meets.contract.answer ∙ rw (run-let lim s l i limit))).0

-- ---- supply

pub supply-numbered : {lim : Limits} {s : List ℕ} {l : Lent} {v k n o : ℕ} → SupplyRefused lim s l v k n o → (1 ≤ n) × (n ≤ 14)
supply-numbered (supply_away a) = let b = away-numbered a in (b.0, omega (arith, b.1))
supply-numbered (no_variable i h) = (omega arith, omega arith)
supply-numbered (no_constant i h g) = (omega arith, omega arith)
supply-numbered (has_constant i h g x) = (omega arith, omega arith)

module _ (lim : Limits) (s : List ℕ) (l : Lent) (v k : ℕ) where
  pub supply-as : {r c : ℕ} → LetIn lim s l r c → {a : Supplying} → supply_tables (program_of s r c) (tables_in l) v k ≡ a → supply_call lim s l v k ≡ supply_answer a l
  supply-as i e = supply-let lim s l i v k ∙ ap (λ (x : Supplying). supply_answer x l) e

  pub supply-refused : {n o : ℕ} → SupplyRefused lim s l v k n o → supply_call lim s l v k ≡ record { answer = Err (refusal n o); lent = l }
  supply-refused (supply_away a) = supply-turned lim s l a v k
  supply-refused (no_variable i h) = supply-as i (supply-twelve lim _ (tables_in l) (let-ok lim s l i) v k h)
  supply-refused (no_constant i h g) = supply-as i (supply-fourteen lim _ (tables_in l) (let-ok lim s l i) v k h g)
  supply-refused (has_constant i h g x) = supply-as i (supply-thirteen lim _ (tables_in l) (let-ok lim s l i) v k h g x)

  module _ (w : ℕ) (l' : Lent) (meets : SupplyMeets lim s l v k w l') where
    supply-answered : Door lim s l → Answered (SupplyRefused lim s l v k) w
    supply-answered (away a) = a-refusal (supply_away a)
    supply-answered (inside {r} {c} i) = go (offer lim (program_of s r c) (tables_in l) (let-ok lim s l i) v k) refl
      where
        go : {a : Supplying} → Offer lim (program_of s r c) (tables_in l) (let-ok lim s l i) v k a → supply_tables (program_of s r c) (tables_in l) v k ≡ a → Answered (SupplyRefused lim s l v k) w
        go (not_there h) e = a-refusal (no_variable i h)
        go (too_large h g) e = a-refusal (no_constant i h g)
        go (is-constant h g x) e = a-refusal (has_constant i h g x)
        go (is-taken {u} h g x f) e = no-refusal (given-told w u (meets.contract.answer ∙ rw (supply-as i e)))

    supply-word : (n o : ℕ) → SupplyRefused lim s l v k n o → w ≡ word (refused_as (refusal n o))
    supply-word n o y = let e = supply-refused {n = n} {o = o} y in meets.contract.answer ∙ rw e

    supply-kept : (n o : ℕ) → SupplyRefused lim s l v k n o → l' ≡ l
    supply-kept n o y = let e = supply-refused {n = n} {o = o} y in same-lent l' l (meets.contract.head ∙ rw e) (meets.contract.procs ∙ rw e) (meets.contract.vars ∙ rw e)

    pub demand-1-supply : Refusing 14 (SupplyRefused lim s l v k) l w l'
    demand-1-supply = refusing w (λ n o y. supply-numbered y) (omega arith) supply-word (supply-answered (door lim s l)) supply-kept

-- ---- value

value-numbered : {lim : Limits} {s : List ℕ} {l : Lent} {v n o : ℕ} → ValueRefused lim s l v n o → (1 ≤ n) × (n ≤ 14)
value-numbered (value_away a) = let b = away-numbered a in (b.0, omega (arith, b.1))
value-numbered (no_variable_seen i h) = (omega arith, omega arith)

module _ (lim : Limits) (s : List ℕ) (l : Lent) (v : ℕ) where
  pub value_as : {r c : ℕ} → LetIn lim s l r c → {a : Looking} → value_tables (program_of s r c) (tables_in l) v ≡ a → value_call lim s l v ≡ value_answer a
  value_as i e = value-let lim s l i v ∙ ap (λ (x : Looking). value_answer x) e

  pub value-refused : {n o : ℕ} → ValueRefused lim s l v n o → value_call lim s l v ≡ Err (refusal n o)
  value-refused (value_away a) = value-turned lim s l a v
  value-refused (no_variable_seen i h) = value_as i (look-twelve lim _ (tables_in l) (let-ok lim s l i) v h)

  module _ (w : ℕ) (meets : ValueMeets lim s l v w) where
    value-word : (n o : ℕ) → ValueRefused lim s l v n o → w ≡ word (refused_as (refusal n o))
    value-word n o y = let e = value-refused {n = n} {o = o} y in meets.contract ∙ rw e

    pub demand-1-value : RefusesBy 14 (ValueRefused lim s l v) w
    demand-1-value = refuses-by w (λ n o y. value-numbered y) (omega arith) value-word (go (door lim s l))
      where
        go : Door lim s l → Answered (ValueRefused lim s l v) w
        go (away a) = a-refusal (value_away a)
        go (inside {r} {c} i) = split (ltb v (program_of s r c).goal_vars)
            (λ e. no-refusal (term_told w (value (state_in l).vars (Var v)) (meets.contract ∙ rw (value_as i (look-sees lim (program_of s r c) (tables_in l) (let-ok lim s l i) v (ltb-true v (program_of s r c).goal_vars e))))).0)
            (λ e. a-refusal (no_variable_seen i (ltb-false v (program_of s r c).goal_vars e)))

-- ---- values

values-numbered : {lim : Limits} {s : List ℕ} {l : Lent} {row : List ℕ} {n o : ℕ} → ValuesRefused lim s l row n o → (1 ≤ n) × (n ≤ 14)
values-numbered (values_away a) = let b = away-numbered a in (b.0, omega (arith, b.1))
values-numbered (row_short i h) = (omega arith, omega arith)

module _ (n : ℕ) (vs : List (Option Term)) (row : List ℕ) where
  pub gathered-short : length row < n * cell_size → gathered n vs row ≡ record { answer = Err (refusal 11 0); row = row }
  unfolding gathered
  gathered-short h = rw (lt-leb (n * cell_size) (length row) h)

  pub gathered-all : n * cell_size ≤ length row → gathered n vs row ≡ record { answer = Ok n; row = written (values_bytes vs n) row }
  unfolding gathered
  gathered-all h = rw (le-leb (n * cell_size) (length row) h)

module _ (lim : Limits) (s : List ℕ) (l : Lent) (row : List ℕ) where
  pub values-refused : {n o : ℕ} → ValuesRefused lim s l row n o → values_call lim s l row ≡ record { answer = Err (refusal n o); row = row }
  values-refused (values_away a) = values-turned lim s l a row
  values-refused (row_short i h) = values-let lim s l i row ∙ gathered-short _ (state_in l).vars row h

  module _ (w : ℕ) (row' : List ℕ) (meets : ValuesMeets lim s l row w row') where
    values-word : (n o : ℕ) → ValuesRefused lim s l row n o → w ≡ word (refused_as (refusal n o))
    values-word n o y = let e = values-refused {n = n} {o = o} y in meets.contract.answer ∙ rw e

    values-kept : (n o : ℕ) → ValuesRefused lim s l row n o → row' ≡ row
    values-kept n o y = let e = values-refused {n = n} {o = o} y in meets.contract.row_is ∙ rw e

    pub demand-1-values : Refusing 14 (ValuesRefused lim s l row) row w row'
    demand-1-values = refusing w (λ n o y. values-numbered y) (omega arith) values-word (go (door lim s l)) values-kept
      where
        go : Door lim s l → Answered (ValuesRefused lim s l row) w
        go (away a) = a-refusal (values_away a)
        go (inside {r} {c} i) =
            let n : ℕ = (program_of s r c).goal_vars in split (leb (n * cell_size) (length row))
            (λ e. no-refusal (values-told w n (meets.contract.answer ∙ rw (values-let lim s l i row ∙ gathered-all n (state_in l).vars row (leb-true (n * cell_size) (length row) e)))).0)
            (λ e. a-refusal (row_short i (leb-false (n * cell_size) (length row) e)))
