-- What every step, turn, run, supply and replay leaves: the bytes as they were, or tables that its moves or its supply lead to, written over them.
-- So what was let in is let in afterwards, whatever the outcome.
use Rattle.std.specs.Prelude.{Err, Ok}
use Rattle.parlog.specs.Answer.{Answer}
use mathlib.Core.Path.{◌∙◌, ◌≡◌, ap, refl}
use mathlib.Core.Bool.{Bool, cond, false, true}
use mathlib.Core.List.{[], ◌∷◌, List}
use Prim.Native.Nat.{◌*◌, ◌≤◌, suc, zero, ℕ}
use lib.Dec.{eqb}
use lib.ListN.{length}
use native.Mathlib.Omega.{arith}
use Rattle.entry.proofs.Held.{cells_fit, put-over, rows_fit, same-lent}
use Rattle.parlog.proofs.Bools.{never}
use Rattle.parlog.proofs.Effects.{apply-count, apply-vars, changed-length}
use Rattle.parlog.proofs.Kept.{run-keeps, step_keeps, supply-keeps}
use Rattle.parlog.proofs.Repeated.{runs}
use Rattle.parlog.proofs.Stable.{supply-grows}
use Rattle.parlog.proofs.Steps.{steady_kept, step-made, turn-made}
use Rattle.parlog.specs.Calls.{step_answer, supply_answer}
use Rattle.parlog.specs.Demands.{no_more, once_more, Repeats}
use Rattle.parlog.specs.Limits.{Limits, Usable}
use Rattle.parlog.specs.Numbers.{rule_number}
use Rattle.parlog.specs.Program.{Program, program_of}
use Rattle.parlog.specs.Records.{kind_at}
use Rattle.parlog.specs.Run.{given, made, run_tables, stepped, Stepping, step_tables, supplied, Supplying, supply_tables, turn_tables, ungiven, unmade}
use Rattle.parlog.specs.Sane.{Sane}
use Rattle.parlog.specs.TableRules.{tables_ok}
use Rattle.parlog.specs.Tables.{Lent, put_tables, Tables, tables_in}
use Rattle.parlog.specs.Unify.{change}
use Rattle.parlog.specs.declared.Move.{Move}
use Rattle.parlog.specs.declared.Term.TheVariants.{Const}
use Rattle.promises.proofs.Demand2.{begun-at, image-sane, started-let}
use Rattle.promises.proofs.Entry.{let-full, let-ok, put_holds, put-let, replay-let, run-let, step-let, supply-let, turn-let}
use Rattle.promises.proofs.Fours.{Fours, fours-in, fours-repeats, fours-step, fours-supply}
use Rattle.promises.proofs.Nights.{night-copied, read_back}
use Rattle.promises.specs.Moves.{Holds}
use Rattle.promises.specs.Outcomes.{refusal_in, ReplayMeets, RunMeets, StartMeets, StepMeets, SupplyMeets, TurnMeets}
use Rattle.promises.specs.Reach.{Later, no_call, then_night, then_replay, then_run, then_step, then_supply, then_turn}
use Rattle.promises.specs.Refusals.{LetIn}
use Rattle.refusals.proofs.Exactly.{accepted-right}
use Rattle.refusals.specs.Right.{RightImage}
use Rattle.replay.specs.Replay.{disagrees, is_played, play_from, Playing, play_on, play_record, plays, play_step, play_supply, replay_tested, tables_played}
use Rattle.resume.proofs.Copied.{copied}
use Rattle.trace.specs.Trace.{step_kind, trace_size, trace_tested, what_at, who_at}

-- ---- from tables to tables

-- what a call that was let in makes of tables: a step, the moves of a run, a supply, or steps and supplies one after the other
pub data Goes (lim : Limits) (pr : Program) : Tables → Tables → Type 0 where
  goes_step : {t u : Tables} {m : Move} (p : ℕ) → step_tables lim pr t p ≡ made m u → Goes lim pr t u
  goes-run : {t : Tables} (limit : ℕ) → Goes lim pr t (run_tables limit lim pr t).tables
  goes-supply : {t u : Tables} {x : ℕ} (v k : ℕ) → supply_tables pr t v k ≡ given x u → Goes lim pr t u
  goes_none : {t : Tables} → Goes lim pr t t
  goes_then : {t u v : Tables} → Goes lim pr t u → Goes lim pr u v → Goes lim pr t v

-- the records of a trace that are played are such
module _ (lim : Limits) (pr : Program) (x : List ℕ) where
  pub record-goes : (at : ℕ) (t : Tables) {u : Tables} → play_record lim pr x at t ≡ plays u → Goes lim pr t u
  unfolding play_record
  record-goes at t {u} z = by (eqb (kind_at x at) step_kind) z
    where
      agreed : (m : Move) (t' : Tables) (b : Bool) → step_tables lim pr t (who_at x at) ≡ made m t' → cond b (plays t') disagrees ≡ plays u → Goes lim pr t u
      agreed m t' true e q = let g : Goes lim pr t t' = goes_step (who_at x at) e in rw (ap (λ (p : Playing). tables_played p t) q) at g
      agreed m t' false e q = never (ap is_played q)

      step : (a : Stepping) → step_tables lim pr t (who_at x at) ≡ a → play_step a (what_at x at) ≡ plays u → Goes lim pr t u
      step (unmade k) e q = never (ap is_played q)
      step (made m t') e q = agreed m t' (eqb (rule_number m) (what_at x at)) e q

      supply : (a : Supplying) → supply_tables pr t (who_at x at) (what_at x at) ≡ a → play_supply a ≡ plays u → Goes lim pr t u
      supply (ungiven k) e q = never (ap is_played q)
      supply (given v t') e q = let g : Goes lim pr t t' = goes-supply (who_at x at) (what_at x at) e in rw (ap (λ (p : Playing). tables_played p t) q) at g

      by : (b : Bool) → cond b (play_step (step_tables lim pr t (who_at x at)) (what_at x at)) (play_supply (supply_tables pr t (who_at x at) (what_at x at))) ≡ plays u → Goes lim pr t u
      by true q = step (step_tables lim pr t (who_at x at)) refl q
      by false q = supply (supply_tables pr t (who_at x at) (what_at x at)) refl q

  play-goes : (n k : ℕ) (t : Tables) → Goes lim pr t (play_from n lim pr x k t).tables
  unfolding play_from
  play-goes zero k t = goes_none
  play-goes (suc n) k t = go (play_record lim pr x (k * trace_size) t) refl (λ u. play-goes n (suc k) u)
    where
      go : (p : Playing) → play_record lim pr x (k * trace_size) t ≡ p → ((u : Tables) → Goes lim pr u (play_from n lim pr x (suc k) u).tables)
          → Goes lim pr t (play_on p k t (λ u. play_from n lim pr x (suc k) u)).tables
      go disagrees e rest = goes_none
      go (plays u) e rest = goes_then (record-goes (k * trace_size) t e) (rest u)

module _ (lim : Limits) (pr : Program) where
  pub ok-goes : Sane pr → {t u : Tables} → Goes lim pr t u → tables_ok lim pr t ≡ true → tables_ok lim pr u ≡ true
  ok-goes sane {t} {u} (goes_step {m = m} p e) ok = step_keeps lim pr sane t u p m ok e
  ok-goes sane {t} (goes-run limit) ok = run-keeps lim pr sane limit t ok
  ok-goes sane {t} {u} (goes-supply {x = x} v k e) ok = supply-keeps lim pr t u v k x ok e
  ok-goes sane goes_none ok = ok
  ok-goes sane (goes_then a b) ok = ok-goes sane b (ok-goes sane a ok)

  fours-goes : Sane pr → {t u : Tables} → Goes lim pr t u → tables_ok lim pr t ≡ true → Fours t.state → Fours u.state
  fours-goes sane {t} {u} (goes_step {m = m} p e) ok f = fours-step lim pr t f p m u e
  fours-goes sane {t} (goes-run limit) ok f = fours-repeats lim pr f (runs lim pr limit t).moves
  fours-goes sane {t} {u} (goes-supply {x = x} v k e) ok f =
      let g = supply-grows pr t u (steady_kept lim pr t ok).0.falls v k x e in
      fours-supply t u f x k g.0
  fours-goes sane goes_none ok f = f
  fours-goes sane (goes_then a b) ok f = fours-goes sane b (ok-goes sane a ok) (fours-goes sane a ok f)

-- ---- from bytes to bytes

module _ (lim : Limits) (s : List ℕ) (l : Lent) {r c : ℕ} (i : LetIn lim s l r c) where
  abbrev pr : Program
  pr = program_of s r c

  -- the bytes that an outcome leaves
  pub data Left : Lent → Type 0 where
    as_it_was : Left l
    is-written : (t : Tables) → Goes lim pr (tables_in l) t → Left (put_tables l t)

  step_gone : (p : ℕ) (x : Stepping) → step_tables lim pr (tables_in l) p ≡ x → Left (step_answer x l).lent
  step_gone p (unmade k) e = as_it_was
  step_gone p (made m t) e = is-written t (goes_step p e)

  turn-gone : (x : Stepping) → turn_tables lim pr (tables_in l) ≡ x → Left (step_answer x l).lent
  turn-gone (unmade k) e = as_it_was
  turn-gone (made m t) e = let (p, q, z) = turn-made lim pr (tables_in l) m t e in is-written t (goes_step p z)

  supply-gone : (v k : ℕ) (x : Supplying) → supply_tables pr (tables_in l) v k ≡ x → Left (supply_answer x l).lent
  supply-gone v k (ungiven n) e = as_it_was
  supply-gone v k (given u t) e = is-written t (goes-supply v k e)

  pub left_step : {p w : ℕ} {l' : Lent} → StepMeets lim s l p w l' → Left l'
  left_step {p} {l' = l'} meets =
      let q = step-let lim s l i p in
      let x : Stepping = step_tables lim pr (tables_in l) p in
      rw (same-lent l' (step_answer x l).lent (meets.contract.head ∙ rw q) (meets.contract.procs ∙ rw q) (meets.contract.vars ∙ rw q)) (step_gone p x refl)

  pub left-turn : {w : ℕ} {l' : Lent} → TurnMeets lim s l w l' → Left l'
  left-turn {l' = l'} meets =
      let q = turn-let lim s l i in
      let x : Stepping = turn_tables lim pr (tables_in l) in
      rw (same-lent l' (step_answer x l).lent (meets.contract.head ∙ rw q) (meets.contract.procs ∙ rw q) (meets.contract.vars ∙ rw q)) (turn-gone x refl)

  pub left-run : {limit w : ℕ} {l' : Lent} → RunMeets lim s l limit w l' → Left l'
  left-run {limit} {l' = l'} meets =
      let q = run-let lim s l i limit in
      let t : Tables = (run_tables limit lim pr (tables_in l)).tables in
      rw (same-lent l' (put_tables l t) (meets.contract.head ∙ rw q) (meets.contract.procs ∙ rw q) (meets.contract.vars ∙ rw q))
      (is-written t (goes-run limit))

  pub left-supply : {v k w : ℕ} {l' : Lent} → SupplyMeets lim s l v k w l' → Left l'
  left-supply {v} {k} {l' = l'} meets =
      let q = supply-let lim s l i v k in
      let x : Supplying = supply_tables pr (tables_in l) v k in
      rw (same-lent l' (supply_answer x l).lent (meets.contract.head ∙ rw q) (meets.contract.procs ∙ rw q) (meets.contract.vars ∙ rw q)) (supply-gone v k x refl)

  pub left-replay : {x : List ℕ} {w : ℕ} {l' : Lent} → ReplayMeets lim s l x w l' → Left l'
  left-replay {x} {l' = l'} meets =
      let q = replay-let lim s l i x in
      rw (same-lent l' (replay_tested (trace_tested x) lim pr x l).lent (meets.contract.head ∙ rw q) (meets.contract.procs ∙ rw q) (meets.contract.vars ∙ rw q)) (go (trace_tested x))
    where
      go : (t : Answer ℕ) → Left (replay_tested t lim pr x l).lent
      go (Err f) = as_it_was
      go (Ok n) = is-written (play_from n lim pr x 0 (tables_in l)).tables (play-goes lim pr x n 0 (tables_in l))

  -- what is written is let in, read back, and the same when it is written again
  module _ (t : Tables) (g : Goes lim pr (tables_in l) t) where
    good : tables_ok lim pr t ≡ true
    good = ok-goes lim pr (image-sane lim s l i) g (let-ok lim s l i)

    has : Fours t.state
    has = fours-goes lim pr (image-sane lim s l i) g (let-ok lim s l i) (fours-in l)

    pub goes-ok : tables_ok lim pr t ≡ true
    goes-ok = good

    pub goes-let : LetIn lim s (put_tables l t) r c
    goes-let = put-let lim s l i t has good

    pub goes-holds : Holds l t (put_tables l t)
    goes-holds = put_holds lim s l i t has good

    pub goes_twice : put_tables (put_tables l t) (tables_in (put_tables l t)) ≡ put_tables l t
    goes_twice =
        let full = let-full lim s l i in
        rw goes-holds.read (put-over l t t (omega arith) (omega arith) (rows_fit lim pr l t full good) (cells_fit lim pr l t full good))

  pub left-let : {l' : Lent} → Left l' → LetIn lim s l' r c
  left-let as_it_was = i
  left-let (is-written t g) = goes-let t g

  pub kept_step : (p w : ℕ) (l' : Lent) → StepMeets lim s l p w l' → LetIn lim s l' r c
  kept_step p w l' meets = left-let (left_step meets)

  pub kept-turn : (w : ℕ) (l' : Lent) → TurnMeets lim s l w l' → LetIn lim s l' r c
  kept-turn w l' meets = left-let (left-turn meets)

  pub kept_run : (limit w : ℕ) (l' : Lent) → RunMeets lim s l limit w l' → LetIn lim s l' r c
  kept_run limit w l' meets = left-let (left-run meets)

  pub kept-supply : (v k w : ℕ) (l' : Lent) → SupplyMeets lim s l v k w l' → LetIn lim s l' r c
  kept-supply v k w l' meets = left-let (left-supply meets)

  pub kept-replay : (x : List ℕ) (w : ℕ) (l' : Lent) → ReplayMeets lim s l x w l' → LetIn lim s l' r c
  kept-replay x w l' meets = left-let (left-replay meets)

-- and a start writes tables that keep them
pub kept-start : (lim : Limits) → Usable lim → (s : List ℕ) (l : Lent) (w : ℕ) (l' : Lent) → StartMeets lim s l w l' → refusal_in w ≡ 0 → {r c : ℕ} → RightImage s r c → LetIn lim s l' r c
kept-start lim usable s l w l' meets z {r} {c} right = let e = (accepted-right s).1 right in rw (begun-at lim usable s l w l' meets z e).1 (started-let s e lim usable)

-- ---- call after call

-- what holds of bytes, and still holds once tables are written to them that a call comes to, holds after any calls
module _ (lim : Limits) (s : List ℕ) {r c : ℕ} (Q : Lent → Type 0)
    (on : (m : Lent) → LetIn lim s m r c → Q m → (t : Tables) → Goes lim (program_of s r c) (tables_in m) t → tables_in (put_tables m t) ≡ t → Q (put_tables m t))
    (over : (m m' : Lent) → LetIn lim s m r c → Q m → m' ≡ copied lim m → tables_in m' ≡ tables_in m → Q m') where
  by_left : {m m' : Lent} (i : LetIn lim s m r c) → Q m → Left lim s m i m' → LetIn lim s m' r c × Q m'
  by_left i q as_it_was = (i, q)
  by_left {m} i q (is-written t g) = (goes-let lim s m i t g, on m i q t g (goes-holds lim s m i t g).read)

  pub later-by : {l m : Lent} → LetIn lim s l r c → Q l → Later lim s l m → LetIn lim s m r c × Q m
  later-by i q no_call = (i, q)
  later-by i q (then_step {m} p k meets) = let (j, x) = later-by i q k in by_left j x (left_step lim s m j meets)
  later-by i q (then_turn {m} k meets) = let (j, x) = later-by i q k in by_left j x (left-turn lim s m j meets)
  later-by i q (then_run {m} limit k meets) = let (j, x) = later-by i q k in by_left j x (left-run lim s m j meets)
  later-by i q (then_supply {m} v u k meets) = let (j, x) = later-by i q k in by_left j x (left-supply lim s m j meets)
  later-by i q (then_replay {m} x k meets) = let (j, y) = later-by i q k in by_left j y (left-replay lim s m j meets)
  later-by i q (then_night {m} {m'} k e) =
      let (j, x) = later-by i q k in
      let b = read_back lim s m m' e j in
      (b.enters, over m m' j x (night-copied lim s m m' e j) b.tables)

-- ---- a call never has fewer rows in use than before

module _ (lim : Limits) (pr : Program) where
  step-more : (t u : Tables) (p : ℕ) (m : Move) → step_tables lim pr t p ≡ made m u → (length t.state.procs ≤ length u.state.procs) × (length t.state.vars ≤ length u.state.vars)
  unfolding stepped
  step-more t u p m e =
      let a = step-made lim pr t p m u e in
      rw a.after (omega (arith, apply-count t.state p a.delta), omega (arith, apply-vars t.state p a.delta))

  repeats-more : {t u : Tables} {n : ℕ} → Repeats lim pr t n u → (length t.state.procs ≤ length u.state.procs) × (length t.state.vars ≤ length u.state.vars)
  repeats-more no_more = (omega arith, omega arith)
  repeats-more {t} {u} (once_more {t' = v} {m = m} g e k) =
      let (q, y, z) = turn-made lim pr t m v e in
      let a = step-more t v q m z in
      let b = repeats-more k in
      (omega (arith, a.0, b.0), omega (arith, a.1, b.1))

  pub goes-more : Sane pr → {t u : Tables} → tables_ok lim pr t ≡ true → Goes lim pr t u → (length t.state.procs ≤ length u.state.procs) × (length t.state.vars ≤ length u.state.vars)
  goes-more sane {t} {u} ok (goes_step {m = m} p e) = step-more t u p m e
  goes-more sane {t} ok (goes-run limit) = repeats-more (runs lim pr limit t).moves
  goes-more sane ok goes_none = (omega arith, omega arith)
  goes-more sane ok (goes_then a b) = let x = goes-more sane ok a in let y = goes-more sane (ok-goes lim pr sane a ok) b in (omega (arith, x.0, y.0), omega (arith, x.1, y.1))
  goes-more sane {t} {u} ok (goes-supply {x = x} v k e) =
      let g = supply-grows pr t u (steady_kept lim pr t ok).0.falls v k x e in
      rw g.0 (supplied-more t x k)
    where
      supplied-more : (t : Tables) (x k : ℕ) → (length t.state.procs ≤ length (supplied t x k).state.procs) × (length t.state.vars ≤ length (supplied t x k).state.vars)
      supplied-more t x k = unfold supplied in (omega arith, omega (arith, changed-length t.state.vars (change x (Const k) ∷ [])))
