-- Who can move, and whose turn it is, in tables that keep the rules.
use Rattle.std.specs.Prelude.{Option, Some, None}
use mathlib.Core.Path.{◌∙◌, ◌≡◌, ap, refl, sym}
use mathlib.Core.Bool.{◌&&◌, Bool, true}
use Prim.Native.Nat.{◌<◌, ◌≤◌, ℕ}
use lib.Dec.{ltb}
use borrow.Author.Tests.{le-ltb, lt-ltb, ltb-false, ltb-true}
use native.Mathlib.Omega.{arith}
use Rattle.entry.proofs.Held.{tables-state}
use Rattle.std.proofs.lemmas.Bool.{and_parts, and_from}
use Rattle.parlog.proofs.Bools.{never, split}
use Rattle.parlog.proofs.Exact.{exactly-makes, exactly-room, exactly-still, makes-exactly, room-exactly, still-exactly}
use Rattle.parlog.proofs.Scans.{lowest-at, lowest-none}
use Rattle.parlog.proofs.Stable.{can-applies, can-here}
use Rattle.parlog.specs.Delta.{apply, Delta}
use Rattle.parlog.specs.Limits.{Limits}
use Rattle.parlog.specs.Program.{Program}
use Rattle.parlog.specs.Relation.{Fits, Rule}
use Rattle.parlog.specs.Rules.{Decision, move, moved, room, still}
use Rattle.parlog.specs.Run.{can_move, made, procs_in, step_by, stepped, Stepping, step_tables, turn_for, turn_of, unmade}
use Rattle.parlog.specs.Scan.{lowest, or_else}
use Rattle.parlog.specs.TableRules.{state_ok, tables_ok}
use Rattle.parlog.specs.Tables.{State, Tables}
use Rattle.parlog.specs.declared.Move.{Move}
use Rattle.promises.specs.Moves.{after_step}
use Rattle.promises.specs.Refusals.{behind_last, CanMove, from_front, LacksRoom, Turn}

module _ (lim : Limits) (pr : Program) (s : State) (ok : state_ok lim pr s ≡ true) (p : ℕ) where
  pub can-move : can_move pr s p ≡ true → CanMove pr s p
  can-move e = let a = (can-applies lim pr s ok p).0 e in record { rule = a.rule; after = a.after; holds = a.holds }

  pub move-can : CanMove pr s p → can_move pr s p ≡ true
  move-can a = (can-applies lim pr s ok p).1 (record { rule = a.rule; after = a.after; holds = a.holds })

  pub cannot : (CanMove pr s p → ⊥) → move lim pr s p ≡ still
  cannot n = still-exactly lim pr s ok p (λ a. n (record { rule = a.rule; after = a.after; holds = a.holds }))

  pub not-can : move lim pr s p ≡ still → CanMove pr s p → ⊥
  not-can e a = exactly-still lim pr s ok p e (record { rule = a.rule; after = a.after; holds = a.holds })

  pub no_room : LacksRoom lim pr s p → move lim pr s p ≡ room
  no_room a = room-exactly lim pr s ok p (record { rule = a.rule; after = a.after; holds = a.holds; full = a.full })

  pub room-not : move lim pr s p ≡ room → LacksRoom lim pr s p
  room-not e = let a = exactly-room lim pr s ok p e in record { rule = a.rule; after = a.after; holds = a.holds; full = a.full }

-- ---- whose turn it is

module _ (lim : Limits) (pr : Program) (t : Tables) (ok : tables_ok lim pr t ≡ true) where
  kept : state_ok lim pr t.state ≡ true
  kept = tables-state lim pr t ok

  abbrev can : ℕ → Bool
  can i = can_move pr t.state i

  abbrev later : ℕ → Bool
  later i = ltb t.last i && can_move pr t.state i

  is_later : (i : ℕ) → t.last < i → CanMove pr t.state i → later i ≡ true
  is_later i h m = and_from (ltb t.last i) (can i) (lt-ltb t.last i h) (move-can lim pr t.state kept i m)

  there : (i : ℕ) → CanMove pr t.state i → i < procs_in t
  there i m = can-here pr t.state i (move-can lim pr t.state kept i m)

  at-by : (a b : Option ℕ) → lowest later (procs_in t) ≡ a → lowest can (procs_in t) ≡ b → (p : ℕ) → or_else a b ≡ Some p → Turn pr t p
  at-by (Some q) b ea eb p e =
      let w : q ≡ p = cc in
      let r = lowest-at later (procs_in t) q ea in
      let x = and_parts (ltb t.last q) (can q) r.passes in
      rw (← w) (behind_last (ltb-true t.last q x.0) (can-move lim pr t.state kept q x.1)
      (λ i h k m. let g = r.least i (there i m) (is_later i h m) in omega arith))
  at-by None (Some q) ea eb p e =
      let w : q ≡ p = cc in
      let r = lowest-at can (procs_in t) q eb in
      let none : (i : ℕ) → t.last < i → CanMove pr t.state i → ⊥ = λ i h m. never (sym (lowest-none later (procs_in t) i ea (there i m)) ∙ is_later i h m) in
      let m : CanMove pr t.state q = can-move lim pr t.state kept q r.passes in
      rw (← w) (from_front none (split (ltb t.last q) (λ h. absurd (none q (ltb-true t.last q h) m)) (λ h. ltb-false t.last q h)) m
      (λ i h k. let g = r.least i (there i k) (move-can lim pr t.state kept i k) in omega arith))
  at-by None None ea eb p e = let w : ◌≡◌ {A = ℕ} 0 1 = cc in absurd (omega arith)

  pub turn-of : (p : ℕ) → turn_for pr t ≡ Some p → Turn pr t p
  unfolding turn_for turn_of
  turn-of p e = at-by (lowest later (procs_in t)) (lowest can (procs_in t)) refl refl p e

  pub turn-moves : {p : ℕ} → Turn pr t p → CanMove pr t.state p
  turn-moves (behind_last h m n) = m
  turn-moves (from_front f h m n) = m

  none-by : (a b : Option ℕ) → lowest can (procs_in t) ≡ b → or_else a b ≡ None → (p : ℕ) → CanMove pr t.state p → ⊥
  none-by (Some q) b eb e p m = let w : ◌≡◌ {A = ℕ} 0 1 = cc in omega arith
  none-by None (Some q) eb e p m = let w : ◌≡◌ {A = ℕ} 0 1 = cc in omega arith
  none-by None None eb e p m = never (sym (lowest-none can (procs_in t) p eb (there p m)) ∙ move-can lim pr t.state kept p m)

  pub turn-none : turn_for pr t ≡ None → (p : ℕ) → CanMove pr t.state p → ⊥
  unfolding turn_for turn_of
  turn-none e = none-by (lowest later (procs_in t)) (lowest can (procs_in t)) refl e

  pub none-turn : ((p : ℕ) → CanMove pr t.state p → ⊥) → turn_for pr t ≡ None
  none-turn n = go (turn_for pr t) refl
    where
      go : (f : Option ℕ) → turn_for pr t ≡ f → turn_for pr t ≡ None
      go None e = e
      go (Some q) e = absurd (n q (turn-moves (turn-of q e)))

  -- there is one turn only
  one-turn-only : {p q : ℕ} → Turn pr t p → Turn pr t q → p ≡ q
  one-turn-only {p} {q} (behind_last h m n) (behind_last k o u) = split (ltb p q)
      (λ e. absurd (u p h (ltb-true p q e) m))
      (λ e. split (ltb q p) (λ w. absurd (n q k (ltb-true q p w) o)) (λ w. let x : q ≤ p = ltb-false p q e in let y : p ≤ q = ltb-false q p w in omega arith))
  one-turn-only {p} {q} (behind_last h m n) (from_front f k o u) = absurd (f p h m)
  one-turn-only {p} {q} (from_front f h m n) (behind_last k o u) = absurd (f q k o)
  one-turn-only {p} {q} (from_front f h m n) (from_front g k o u) = split (ltb p q)
      (λ e. absurd (u p (ltb-true p q e) m))
      (λ e. split (ltb q p) (λ w. absurd (n q (ltb-true q p w) o)) (λ w. let x : q ≤ p = ltb-false p q e in let y : p ≤ q = ltb-false q p w in omega arith))

  pub of-turn : (p : ℕ) → Turn pr t p → turn_for pr t ≡ Some p
  of-turn p u = go (turn_for pr t) refl
    where
      go : (f : Option ℕ) → turn_for pr t ≡ f → turn_for pr t ≡ Some p
      go None e = absurd (turn-none e p (turn-moves u))
      go (Some q) e = let w : q ≡ p = one-turn-only (turn-of q e) u in e ∙ ap Some w

-- ---- a step over tables

module _ (lim : Limits) (pr : Program) (t : Tables) (ok : tables_ok lim pr t ≡ true) (p : ℕ) where
  good : state_ok lim pr t.state ≡ true
  good = tables-state lim pr t ok

  pub step-nine : procs_in t ≤ p → step_tables lim pr t p ≡ unmade 9
  unfolding step_tables
  step-nine h = rw (le-ltb p (procs_in t) h)

  step_by_lem : p < procs_in t → (d : Decision) → move lim pr t.state p ≡ d → step_tables lim pr t p ≡ step_by d t p
  unfolding step_tables
  step_by_lem h d e = rw (lt-ltb p (procs_in t) h, e)

  pub step-ten : p < procs_in t → (CanMove pr t.state p → ⊥) → step_tables lim pr t p ≡ unmade 10
  unfolding step_by
  step-ten h n = step_by_lem h still (cannot lim pr t.state good p n)

  pub step-eleven : p < procs_in t → LacksRoom lim pr t.state p → step_tables lim pr t p ≡ unmade 11
  unfolding step_by
  step-eleven h n = step_by_lem h room (no_room lim pr t.state good p n)

  pub step-makes : p < procs_in t → {m : Move} {s' : State} → Rule pr t.state p m s' → Fits lim s' → step_tables lim pr t p ≡ made m (after_step t p s')
  unfolding step_by stepped
  step-makes h {m} {s'} r f =
      let k = makes-exactly lim pr t.state good p r f in
      step_by_lem h (moved m k.delta) k.move ∙ ap (λ (x : State). made m (after_step t p x)) (sym k.state)

  -- what a step comes to
  pub data Trial : Stepping → Type 0 where
    too-high : procs_in t ≤ p → Trial (unmade 9)
    is-still : p < procs_in t → (CanMove pr t.state p → ⊥) → Trial (unmade 10)
    is-full : p < procs_in t → LacksRoom lim pr t.state p → Trial (unmade 11)
    goes : {m : Move} {s' : State} → p < procs_in t → Rule pr t.state p m s' → Fits lim s' → Trial (made m (after_step t p s'))

  pub trial : Trial (step_tables lim pr t p)
  trial = split (ltb p (procs_in t))
      (λ e. let h : p < procs_in t = ltb-true p (procs_in t) e in on h (move lim pr t.state p) refl)
      (λ e. let h : procs_in t ≤ p = ltb-false p (procs_in t) e in rw (step-nine h) (too-high h))
    where
      gone : (m : Move) (d : Delta) → step_by (moved m d) t p ≡ made m (after_step t p (apply t.state p d))
      gone m d = unfold step_by stepped in refl

      on : p < procs_in t → (d : Decision) → move lim pr t.state p ≡ d → Trial (step_tables lim pr t p)
      on h still e = rw (step_by_lem h still e) (unfold step_by in (is-still h (not-can lim pr t.state good p e)))
      on h room e = rw (step_by_lem h room e) (unfold step_by in (is-full h (room-not lim pr t.state good p e)))
      on h (moved m d) e =
          let k = exactly-makes lim pr t.state good p (record { delta = d; move = e; state = refl }) in
          rw (step_by_lem h (moved m d) e, gone m d) (goes h k.0 k.1)
