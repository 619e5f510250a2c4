-- Demand 3: from bytes that came, who can move is served; who is suspended wakes exactly when a noted variable is bound; and when nothing
-- can move before the goal's end, some process is suspended and every live one is accounted for.
use mathlib.Core.Path.{◌∙◌, ◌≡◌, ap, refl, subst, sym}
use mathlib.Core.Logic.{◌↔◌}
use mathlib.Core.Bool.{true}
use mathlib.Core.List.{[], ◌++◌, ◌∷◌, List}
use Prim.Native.Nat.{◌<◌, ◌≤◌, suc, zero, ℕ}
use lib.ListN.{replicate}
use native.Mathlib.Omega.{arith}
use Rattle.entry.proofs.Held.{count-procs, same-lent, tables-state}
use Rattle.parlog.proofs.Able.{wakes-exactly}
use Rattle.std.proofs.lemmas.Bool.{false_from_ne_true}
use Rattle.parlog.proofs.Fair.{served-kept}
use Rattle.parlog.proofs.Steps.{step-made, turn-made}
use Rattle.parlog.proofs.Stuck.{deadlock, ended-all}
use Rattle.parlog.specs.Codes.{dormant, suspended}
use Rattle.parlog.specs.Demands.{a_supply, a_turn, aborted, another_moves, Deadlock, Event, events_over, has_no_room, is_not_supplied, is_supplied, moves_itself, Served}
use Rattle.parlog.specs.Limits.{Limits, Usable}
use Rattle.parlog.specs.Load.{refusal}
use Rattle.parlog.specs.Notions.{HasMode, NoteBound}
use Rattle.parlog.specs.Numbers.{end_number}
use Rattle.parlog.specs.Program.{Program, program_of}
use Rattle.parlog.specs.Run.{can_move, made, stepped, turn_tables, unmade}
use Rattle.parlog.specs.TableRules.{state_ok}
use Rattle.parlog.specs.Tables.{Lent, proc_count, put_tables, Tables, tables_in}
use Rattle.parlog.specs.declared.End.{End}
use Rattle.parlog.specs.declared.Move.{Move}
use Rattle.promises.proofs.Arrive.{arrive-later, Arrived, came-arrived, copied-again}
use Rattle.promises.proofs.Demand1.{demand-1-turn, supply-as, turn-as}
use Rattle.promises.proofs.Demand2.{demand-2-turn}
use Rattle.promises.proofs.Entry.{away-numbered, let-in-same, let-ok}
use Rattle.promises.proofs.Keeping.{as_it_was, goes-holds, goes-let, goes_step, goes-supply, goes_twice, is-written, Left, left-supply, left-turn}
use Rattle.promises.proofs.Nights.{night-copied, read_back}
use Rattle.promises.proofs.RunTurns.{put_same, run-turns}
use Rattle.promises.proofs.Whose.{can-move, move-can, turn-of}
use Rattle.promises.proofs.Words.{moved_told, refused-told}
use Rattle.promises.specs.Moves.{AllBytes, by_budget, by_failure, by_room, by_success, by_waiting, GoalEnded, Moves, no_turn, one_turn, StopsBy, Turns}
use Rattle.promises.specs.Outcomes.{first_in, large_in, refusal_in, RunMeets, SupplyMeets, TurnMeets}
use Rattle.promises.specs.Reach.{a_night, a_night_between, a_run_call, a_supply_between, a_supply_call, a_turn_call, another_does, bound, calls_over, Came, Follow, for_room, is_dormant, it_moves, Night, no_call, no_more_calls, run_is_turns, ServedBy, then_run, turns_then}
use Rattle.promises.specs.Refusals.{CanMove, LetIn, no_room_in_turn, nobody, state_in, turn_away, TurnRefused}
use Rattle.refusals.specs.Right.{RightImage}

-- ---- the bound

-- the events of calls: a turn, as many turns as a run counts, a supply
unfoldable events : {lim : Limits} {s : List ℕ} {l : Lent} → Follow lim s l → List Event
events no_more_calls = []
events (a_turn_call e f) = a_turn ∷ events f
events (a_run_call {w = w} e f) = replicate (large_in w) a_turn ++ events f
events (a_supply_call {v = v} {k = k} e f) = a_supply v k ∷ events f
events (a_night e f) = events f

module _ (lim : Limits) (s : List ℕ) (r c p : ℕ) where
  abbrev pr : Program
  pr = program_of s r c

  -- of bytes in which the calls begin
  record Open (l : Lent) : Type 0 where
    enters : LetIn lim s l r c
    same : put_tables l (tables_in l) ≡ l

  open-left : {l l' : Lent} (a : Open l) → Left lim s l a.enters l' → Open l'
  open-left a as_it_was = a
  open-left {l} a (is-written t g) = record { enters = goes-let lim s l a.enters t g; same = goes_twice lim s l a.enters t g }

  open-night : {l l' : Lent} → Open l → Night lim s l l' → Open l'
  open-night {l} {l'} a e =
      let b = read_back lim s l l' e a.enters in
      record { enters = b.enters; same = copied-again lim s a.enters a.same (night-copied lim s l l' e a.enters) b.tables }

  module _ {l l' : Lent} (a : Open l) where
    open_turn : {w : ℕ} → TurnMeets lim s l w l' → Open l'
    open_turn e = open-left a (left-turn lim s l a.enters e)

    -- a turn that was made, and one that was refused
    turn-reads : {w : ℕ} → TurnMeets lim s l w l' → {m : Move} {t : Tables} → turn_tables lim pr (tables_in l) ≡ made m t → (tables_in l' ≡ t) × (refusal_in w ≡ 0)
    turn-reads {w} e {m} {t} q =
        let x = turn-as lim s l a.enters q in
        let (k, y, z) = turn-made lim pr (tables_in l) m t q in
        let b : l' ≡ put_tables l t = same-lent l' (put_tables l t) (e.contract.head ∙ rw x) (e.contract.procs ∙ rw x) (e.contract.vars ∙ rw x) in
        (ap tables_in b ∙ (goes-holds lim s l a.enters t (goes_step k z)).read, (moved_told w m (e.contract.answer ∙ rw x)).accepted)

    turn-stays : {w : ℕ} → TurnMeets lim s l w l' → turn_tables lim pr (tables_in l) ≡ unmade 11 → (tables_in l' ≡ tables_in l) × (refusal_in w ≡ 11)
    turn-stays {w} e q =
        let x = turn-as lim s l a.enters q in
        let b : l' ≡ l = same-lent l' l (e.contract.head ∙ rw x) (e.contract.procs ∙ rw x) (e.contract.vars ∙ rw x) in
        (ap tables_in b, (refused-told w (refusal 11 0) (omega arith) (e.contract.answer ∙ rw x)).0)

    -- the process that the marker names has moved by a rule
    turn_moved : {w : ℕ} → TurnMeets lim s l w l' → {m : Move} {t : Tables} → turn_tables lim pr (tables_in l) ≡ made m t → t.last ≡ p → Moves lim pr l p w l'
    unfolding stepped
    turn_moved {w} e {m} {t} q z =
        let (k, y, o) = turn-made lim pr (tables_in l) m t q in
        let h : k ≡ p = sym (ap (λ (x : Tables). x.last) (step-made lim pr (tables_in l) k m t o).after) ∙ z in
        let u = turn-of lim pr (tables_in l) (let-ok lim s l a.enters) k y in
        rw (← h) ((demand-2-turn lim s l a.enters w l' e u).only (turn-reads e q).1)

    module _ (f : Follow lim s l') (next : (n : ℕ) → Served lim pr p n (tables_in l') (events f) → ServedBy lim s pr p n l' f) where
      onward : {n : ℕ} {t : Tables} → tables_in l' ≡ t → Served lim pr p n t (events f) → ServedBy lim s pr p n l' f
      onward {n} h v = next n (subst (λ (x : Tables). Served lim pr p n x (events f)) (sym h) v)

      turn-case : {w : ℕ} (e : TurnMeets lim s l w l') {n : ℕ} → Served lim pr p n (tables_in l) (a_turn ∷ events f) → ServedBy lim s pr p n l (a_turn_call e f)
      turn-case e (aborted d) = is_dormant d
      turn-case e (moves_itself q z) = it_moves (turn_moved e q z)
      turn-case e (another_moves q v) = let h = turn-reads e q in another_does h.1 (onward h.0 v)
      turn-case e (has_no_room q v) = let h = turn-stays e q in for_room h.1 (onward h.0 v)

      supply-case : {v k w : ℕ} (e : SupplyMeets lim s l v k w l') {n : ℕ} → Served lim pr p n (tables_in l) (a_supply v k ∷ events f) → ServedBy lim s pr p n l (a_supply_call e f)
      supply-case e (aborted d) = is_dormant d
      supply-case {v} {k} e (is_supplied {t' = t} q x) =
          let y = supply-as lim s l v k a.enters q in
          let b : l' ≡ put_tables l t = same-lent l' (put_tables l t) (e.contract.head ∙ rw y) (e.contract.procs ∙ rw y) (e.contract.vars ∙ rw y) in
          a_supply_between (onward (ap tables_in b ∙ (goes-holds lim s l a.enters t (goes-supply v k q)).read) x)
      supply-case {v} {k} e (is_not_supplied q x) =
          let y = supply-as lim s l v k a.enters q in
          let b : l' ≡ l = same-lent l' l (e.contract.head ∙ rw y) (e.contract.procs ∙ rw y) (e.contract.vars ∙ rw y) in
          a_supply_between (onward (ap tables_in b) x)

  over-case : {l : Lent} {n : ℕ} → Served lim pr p n (tables_in l) [] → ServedBy lim s pr p n l no_more_calls
  over-case (aborted d) = is_dormant d
  over-case events_over = calls_over

  -- the events of turn calls with others behind them
  turns-events : {l l' : Lent} {k : ℕ} (ts : Turns lim s l k l') (f : Follow lim s l') → events (turns_then ts f) ≡ replicate k a_turn ++ events f
  unfolding events turns_then
  turns-events no_turn f = refl
  turns-events (one_turn live e z ts) f = ap (λ (x : List Event). a_turn ∷ x) (turns-events ts f)

  serve-turns : {l l' : Lent} {k : ℕ} (ts : Turns lim s l k l') (f : Follow lim s l') → Open l → (Open l' → (n : ℕ) → Served lim pr p n (tables_in l') (events f) → ServedBy lim s pr p n l' f)
      → (n : ℕ) → Served lim pr p n (tables_in l) (events (turns_then ts f)) → ServedBy lim s pr p n l (turns_then ts f)
  unfolding events turns_then
  serve-turns no_turn f a next n x = next a n x
  serve-turns (one_turn live e z ts) f a next n x = turn-case a (turns_then ts f) (serve-turns ts f (open_turn a e) next) e x

  serve : {l : Lent} (f : Follow lim s l) → Open l → (n : ℕ) → Served lim pr p n (tables_in l) (events f) → ServedBy lim s pr p n l f
  unfolding events
  serve no_more_calls a n x = over-case x
  serve (a_turn_call e f) a n x = turn-case a f (serve f (open_turn a e)) e x
  serve {l} (a_run_call e f) a n x =
      let ts = (run-turns lim s r c l a.enters a.same e).turns in
      run_is_turns ts (serve-turns ts f a (serve f) n (subst (λ (es : List Event). Served lim pr p n (tables_in l) es) (sym (turns-events ts f)) x))
  serve {l} (a_supply_call e f) a n x = supply-case a f (serve f (open-left a (left-supply lim s l a.enters e))) e x
  serve {l} (a_night {l' = l'} e f) a n x =
      let b = read_back lim s l l' e a.enters in
      a_night_between (serve f (open-night a e) n (subst (λ (y : Tables). Served lim pr p n y (events f)) (sym b.tables) x))

  -- who is served within n steps is served within more
  within_more : {l : Lent} {f : Follow lim s l} {n : ℕ} (k : ℕ) → ServedBy lim s pr p n l f → n ≤ k → ServedBy lim s pr p k l f
  within_more k (is_dormant d) h = is_dormant d
  within_more zero (it_moves m) h = absurd (omega arith)
  within_more (suc k) (it_moves m) h = it_moves m
  within_more zero (another_does z x) h = absurd (omega arith)
  within_more (suc k) (another_does z x) h = another_does z (within_more k x (omega arith))
  within_more k (for_room z x) h = for_room z (within_more k x h)
  within_more k (run_is_turns ts x) h = run_is_turns ts (within_more k x h)
  within_more k (a_supply_between x) h = a_supply_between (within_more k x h)
  within_more k (a_night_between x) h = a_night_between (within_more k x h)
  within_more zero calls_over h = absurd (omega arith)
  within_more (suc k) calls_over h = calls_over

  bounded : {l : Lent} → Open l → CanMove pr (state_in l) p → (f : Follow lim s l) → ServedBy lim s pr p (bound lim) l f
  bounded {l} a m f =
      let ok = let-ok lim s l a.enters in
      within_more (bound lim) (serve f a lim.procs (served-kept lim pr (tables_in l) ok p (move-can lim pr (state_in l) (tables-state lim pr (tables_in l) ok) p m) (events f))) (omega arith)

-- demand 3, the bound, for all bytes that keep the table rules
pub demand-3a-kept : (lim : Limits) (s : List ℕ) (l : Lent) {r c : ℕ} → LetIn lim s l r c → AllBytes l → (p : ℕ) → CanMove (program_of s r c) (state_in l) p → (f : Follow lim s l)
    → ServedBy lim s (program_of s r c) p (bound lim) l f
demand-3a-kept lim s l {r} {c} i b p m f = bounded lim s r c p (record { enters = i; same = put_same lim s l i b }) m f

-- ---- deadlock

stuck : (lim : Limits) (s : List ℕ) (r c : ℕ) (l : Lent) → Arrived lim s r c l → ((p : ℕ) → CanMove (program_of s r c) (state_in l) p → ⊥) → (GoalEnded l → ⊥) → Deadlock (state_in l)
stuck lim s r c l a n g =
    let ok = tables-state lim (program_of s r c) (tables_in l) (let-ok lim s l a.enters) in
    deadlock lim (program_of s r c) a.reached (λ p h. false_from_ne_true (can_move (program_of s r c) (state_in l) p) (λ q. n p (can-move lim (program_of s r c) (state_in l) ok p q))) g

-- ---- from bytes that came

module _ (lim : Limits) (usable : Usable lim) (s : List ℕ) (l : Lent) (came : Came lim s l) {r c : ℕ} (right : RightImage s r c) where
  here : Arrived lim s r c l
  here = came-arrived lim s r c usable right came

  ok : state_ok lim (program_of s r c) (state_in l) ≡ true
  ok = tables-state lim (program_of s r c) (tables_in l) (let-ok lim s l here.enters)

  -- every call but load and start lets in what came: its tables keep the table rules
  pub demand-3-kept : LetIn lim s l r c
  demand-3-kept = here.enters

  -- demand 3, the bound: a process that can move has moved within as many of the next steps made, by turns and runs, as there may be processes, or is dormant first,
  -- whatever is supplied between
  pub demand-3a : (p : ℕ) → CanMove (program_of s r c) (state_in l) p → (f : Follow lim s l) → ServedBy lim s (program_of s r c) p (bound lim) l f
  demand-3a p m f = bounded lim s r c p (record { enters = here.enters; same = here.same }) m f

  -- demand 3, suspension: a suspended process can move exactly when one of the variables that it noted is bound
  pub demand-3b : (p : ℕ) → HasMode (state_in l) p suspended → CanMove (program_of s r c) (state_in l) p ↔ NoteBound (state_in l) p
  demand-3b p h =
      let w = wakes-exactly (program_of s r c) (state_in l) p h in
      (λ m. w.0 (move-can lim (program_of s r c) (state_in l) ok p m), λ b. can-move lim (program_of s r c) (state_in l) ok p (w.1 b))

  -- demand 3, deadlock: when nothing can move and the goal has not ended
  pub demand-3c : ((p : ℕ) → CanMove (program_of s r c) (state_in l) p → ⊥) → (GoalEnded l → ⊥) → Deadlock (state_in l)
  demand-3c = stuck lim s r c l here

  -- once the goal has ended every process is dormant
  pub demand-3-end : GoalEnded l → (p : ℕ) → p < proc_count l.head → HasMode (state_in l) p dormant
  demand-3-end g p h = ended-all lim (program_of s r c) here.reached g p (rw (count-procs l) h)

  -- a run that answers waiting (3) leaves such a deadlock
  pub demand-3c-run : (limit w : ℕ) (l' : Lent) → RunMeets lim s l limit w l' → first_in w ≡ 3 → Deadlock (state_in l')
  demand-3c-run limit w l' meets z =
      let x = run-turns lim s r c l here.enters here.same meets in
      go (arrive-later lim s r c here (then_run limit no_call meets)) x.stops (sym x.told ∙ z)
    where
      go : {n : ℕ} {y : End} → Arrived lim s r c l' → StopsBy lim (program_of s r c) limit n l' y → end_number y ≡ 3 → Deadlock (state_in l')
      go a (by_success g k) v = absurd (omega arith)
      go a (by_failure g k) v = absurd (omega arith)
      go a (by_waiting g k) v = stuck lim s r c l' a k g
      go a (by_budget g k u) v = absurd (omega arith)
      go a (by_room g k u q) v = absurd (omega arith)

  -- and so does a turn refused as STILL before the goal's end
  pub demand-3c-turn : (w : ℕ) (l' : Lent) → TurnMeets lim s l w l' → refusal_in w ≡ 10 → (GoalEnded l → ⊥) → (l' ≡ l) × Deadlock (state_in l')
  demand-3c-turn w l' meets z g =
      let d = demand-1-turn lim s l w l' meets in
      let q = d.kept (λ y. absurd (omega arith)) in
      (q, rw q (demand-3c (nobody-of (d.by.only (λ y. absurd (omega arith))) z) g))
    where
      nobody-of : {n o : ℕ} → TurnRefused lim s l n o → n ≡ 10 → (p : ℕ) → CanMove (program_of s r c) (state_in l) p → ⊥
      nobody-of (turn_away a) y = let b = away-numbered a in absurd (omega (arith, b.1))
      nobody-of (nobody i h) y = let k = let-in-same i here.enters in rw (k.0, k.1) at h
      nobody-of (no_room_in_turn i u m) y = absurd (omega arith)
