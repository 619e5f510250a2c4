-- A run is repeated turn calls: the bytes after it are those after as many turn calls as its word counts, each of them made, and it ends
-- there for the reason that its word has.
use Rattle.std.specs.Prelude.{Option, Ok, Some, None}
use mathlib.Core.Path.{◌∙◌, ◌≡◌, ap, refl, subst, sym}
use mathlib.Core.Logic.{◌⊎◌, inl, inr}
use mathlib.Core.Bool.{◌&&◌, ◌||◌, false, not, true}
use mathlib.Core.List.{List}
use Prim.Native.Nat.{◌+◌, ◌<◌, ◌≤◌, suc, ℕ}
use lib.Dec.{eqb}
use lib.ListN.{length}
use borrow.Author.Tests.{eqb-false, eqb-true}
use native.Mathlib.Omega.{arith}
use Rattle.load.proofs.Accepted.{accepted}
use Rattle.entry.proofs.Entering.{lent-inside}
use Rattle.entry.proofs.Held.{cells_fit, put-over, rows_fit, same-lent, tables-state}
use Rattle.parlog.proofs.Assume.{assume-counts}
use Rattle.std.proofs.lemmas.Bool.{and_parts, false_from_ne_true}
use Rattle.parlog.proofs.Bools.{never, split}
use Rattle.parlog.proofs.Effects.{apply-count, apply-vars}
use Rattle.parlog.proofs.Kept.{turn-keeps}
use Rattle.parlog.proofs.Repeated.{runs}
use Rattle.parlog.proofs.RowRules.{row-facts}
use Rattle.parlog.specs.Sane.{Sane}
use Rattle.parlog.proofs.Scans.{every-at}
use Rattle.parlog.proofs.Steps.{step-made, turn_is, turn-made}
use Rattle.parlog.specs.Codes.{dormant, failure, is_mode, is_result, none, reporting, result_code, result_of, success}
use Rattle.parlog.specs.Demands.{all_still, goal-ended, limit_used, no_more, once_more, Repeats, room_used, Stops}
use Rattle.parlog.specs.Limits.{Limits}
use Rattle.parlog.specs.Notions.{HasMode, me}
use Rattle.parlog.specs.Numbers.{end_number, step_numbers, word}
use Rattle.parlog.specs.Program.{Program, program_of}
use Rattle.parlog.specs.Run.{goal_ended, goal_result, made, Running, run_tables, stepped, Stepping, step_tables, turn_for, turn_tables, turn_to, unmade}
use Rattle.parlog.specs.Sane.{Sane}
use Rattle.parlog.specs.Scan.{every, implies}
use Rattle.parlog.specs.TableRules.{counts_ok, result_ok, row_ok, state_ok, tables_ok, var_ok}
use Rattle.parlog.specs.Tables.{Lent, put_tables, State, Tables, tables_in}
use Rattle.parlog.specs.declared.End.{End}
use Rattle.parlog.specs.declared.End.TheVariants.{Room}
use Rattle.parlog.specs.declared.Move.{Move}
use Rattle.parlog.specs.declared.Process.{Process}
use Rattle.promises.proofs.Demand1.{demand-1-turn, turn-as}
use Rattle.promises.proofs.Demand2.{image-sane}
use Rattle.promises.proofs.Entry.{let-full, let-image, let-ok, let-tables, run-let}
use Rattle.promises.proofs.Keeping.{Goes, goes-holds, goes-let, goes-run, goes_step, goes_twice, kept_run, kept-turn}
use Rattle.promises.proofs.Once.{once-turn}
use Rattle.promises.proofs.Whose.{goes, is-full, is-still, too-high, Trial, trial, turn-moves, turn-none, turn-of}
use Rattle.promises.proofs.Words.{ended-told, moved_told}
use Rattle.promises.specs.Moves.{AllBytes, by_budget, by_failure, by_room, by_success, by_waiting, GoalEnded, no_turn, one_turn, RunsExactly, StopsBy, Turns}
use Rattle.promises.specs.Outcomes.{first_in, large_in, refusal_in, RunMeets, TurnMeets}
use Rattle.promises.specs.Refusals.{LacksRoom, LetIn, no_room_in_turn, nobody, state_in}
use Rattle.run.proofs.Runs.{grown-same}

-- ---- no fewer rows

record Grown (t u : Tables) : Type 0 where
  procs : length t.state.procs ≤ length u.state.procs
  vars : length t.state.vars ≤ length u.state.vars

module _ (lim : Limits) (pr : Program) where
  grown-step : (t u : Tables) (p : ℕ) (m : Move) → step_tables lim pr t p ≡ made m u → Grown t u
  unfolding stepped
  grown-step t u p m e =
      let a = step-made lim pr t p m u e in
      rw a.after (record { procs = omega (arith, apply-count t.state p a.delta); vars = omega (arith, apply-vars t.state p a.delta) })

  grown-repeats : {t u : Tables} {n : ℕ} → Repeats lim pr t n u → Grown t u
  grown-repeats no_more = record { procs = omega arith; vars = omega arith }
  grown-repeats {t} (once_more {t' = x} {m = m} g e k) =
      let (p, q, z) = turn-made lim pr t m x e in
      let a = grown-step t x p m z in
      let b = grown-repeats k in
      record { procs = omega (arith, a.procs, b.procs); vars = omega (arith, a.vars, b.vars) }

  ok-repeats : Sane pr → {t u : Tables} {n : ℕ} → Repeats lim pr t n u → tables_ok lim pr t ≡ true → tables_ok lim pr u ≡ true
  ok-repeats sane no_more ok = ok
  ok-repeats sane {t} (once_more {t' = x} {m = m} g e k) ok = ok-repeats sane k (turn-keeps lim pr sane t x m ok e)

-- ---- the goal's end

ended_is : (t : Tables) → goal_ended t ≡ true → HasMode t.state 0 dormant
ended_is t g = split (eqb (me t.state 0).mode 0) (λ e. eqb-true (me t.state 0).mode 0 e) (λ e. never (rw e at g))

pub live-is : (t : Tables) → goal_ended t ≡ false → HasMode t.state 0 dormant → ⊥
live-is t g e = never (sym g ∙ rw e)

-- process 0, once it sleeps, has success or failure to tell
zero-tells : (lim : Limits) (pr : Program) (s : State) → state_ok lim pr s ≡ true → HasMode s 0 dormant → ((me s 0).result ≡ result_code success) ⊎ ((me s 0).result ≡ result_code failure)
unfolding state_ok
zero-tells lim pr s ok e =
    let a = (and_parts (counts_ok lim pr s) _ ok).1 in
    let b = (and_parts (every (row_ok pr s.procs (length s.vars)) (length s.procs)) (every (var_ok s.vars) (length s.vars)) a).0 in
    let c = (assume-counts lim pr s ok).0 in
    let r = (row-facts pr s.procs (length s.vars) 0 (every-at (row_ok pr s.procs (length s.vars)) (length s.procs) 0 b (omega arith))).0 in
    go (me s 0) e r.numbers.result r.result
  where
    silent : (x : Process) → x.mode ≡ 0 → eqb x.result 0 ≡ true → result_ok 0 x ≡ true → ⊥
    silent x m z k = let o : implies (is_mode reporting x.mode || (eqb 0 0 && is_mode dormant x.mode)) (not (is_result none x.result)) ≡ true = unfold result_ok in k in never (rw (m, z) at o)

    go : (x : Process) → x.mode ≡ 0 → x.result < 3 → result_ok 0 x ≡ true → (x.result ≡ 1) ⊎ (x.result ≡ 2)
    go x m h k =
        let n : eqb x.result 0 ≡ false = false_from_ne_true (eqb x.result 0) (λ z. silent x m z k) in
        let o = eqb-false x.result 0 n in
        split (eqb x.result 1) (λ z. inl (eqb-true x.result 1 z)) (λ z. let u = eqb-false x.result 1 z in inr (omega (arith, o, u)))

-- ---- why it ends

module _ (lim : Limits) (s : List ℕ) {r c : ℕ} (l : Lent) (i : LetIn lim s l r c) where
  abbrev here : Tables
  here = tables_in l

  full_by : {p : ℕ} {x : Stepping} → Trial lim (program_of s r c) here (let-ok lim s l i) p x → x ≡ unmade 11 → LacksRoom lim (program_of s r c) (state_in l) p
  full_by (too-high h) e = let z : ◌≡◌ {A = ℕ} 9 11 = cc in absurd (omega arith)
  full_by (is-still h n) e = let z : ◌≡◌ {A = ℕ} 10 11 = cc in absurd (omega arith)
  full_by (is-full h q) e = q
  full_by (goes h x f) e = let z : ◌≡◌ {A = ℕ} 0 1 = cc in absurd (omega arith)

  by_end : (limit n : ℕ) → GoalEnded l → StopsBy lim (program_of s r c) limit n l (goal_result here)
  unfolding result_of
  by_end limit n g = go (zero-tells lim (program_of s r c) (state_in l) (tables-state lim (program_of s r c) here (let-ok lim s l i)) g)
    where
      go : ((me (state_in l) 0).result ≡ 1) ⊎ ((me (state_in l) 0).result ≡ 2) → StopsBy lim (program_of s r c) limit n l (goal_result here)
      go (inl e) = rw e (by_success g e)
      go (inr e) = rw e (by_failure g e)

  stops-by : {limit n : ℕ} {e : End} → Stops lim (program_of s r c) limit n here e → StopsBy lim (program_of s r c) limit n l e
  stops-by {limit} {n} (goal-ended g) = by_end limit n (ended_is here g)
  stops-by (all_still g q) = by_waiting (live-is here g) (turn-none lim (program_of s r c) here (let-ok lim s l i) q)
  stops-by (limit_used {p} g q z) =
      by_budget (live-is here g) (turn-moves lim (program_of s r c) here (let-ok lim s l i) (turn-of lim (program_of s r c) here (let-ok lim s l i) p q)) z
  stops-by {limit} {n} (room_used g h z) = go (turn_for (program_of s r c) here) refl
    where
      none : turn_for (program_of s r c) here ≡ None → turn_tables lim (program_of s r c) here ≡ unmade 10
      none q = unfold turn_tables turn_to in (rw q)

      go : (f : Option ℕ) → turn_for (program_of s r c) here ≡ f → StopsBy lim (program_of s r c) limit n l Room
      go None q = let e = sym (none q) ∙ z in let y : ◌≡◌ {A = ℕ} 10 11 = cc in absurd (omega arith)
      go (Some p) q =
          by_room (live-is here g) (turn-of lim (program_of s r c) here (let-ok lim s l i) p q) h
          (full_by (trial lim (program_of s r c) here (let-ok lim s l i) p) (sym (turn_is lim (program_of s r c) here p q) ∙ z))

-- ---- as turn calls

module _ (lim : Limits) (s : List ℕ) (r c : ℕ) where
  abbrev pr : Program
  pr = program_of s r c

  turn-outcome : (l : Lent) → LetIn lim s l r c → {m : Move} {u : Tables} → turn_tables lim pr (tables_in l) ≡ made m u → TurnMeets lim s l (word (step_numbers (Ok m))) (put_tables l u)
  turn-outcome l i e = let q = turn-as lim s l i e in record { contract = record { answer = rw q; head = rw q; procs = rw q; vars = rw q } }

  turns-from : {t t' : Tables} {n : ℕ} → Repeats lim pr t n t' → (l : Lent) → LetIn lim s l r c → tables_in l ≡ t → put_tables l t ≡ l → Turns lim s l n (put_tables l t')
  turns-from no_more l i e same = rw same no_turn
  turns-from {t} {t'} (once_more {t' = u} {m = m} {n = n} g q k) l i e same =
      let z : turn_tables lim pr (tables_in l) ≡ made m u = rw e q in
      let (p, y, made_by) = turn-made lim pr (tables_in l) m u z in
      let gone : Goes lim pr (tables_in l) u = goes_step p made_by in
      let held = (goes-holds lim s l i u gone).read in
      let v : tables_ok lim pr u ≡ true = rw held at (let-ok lim s (put_tables l u) (goes-let lim s l i u gone)) in
      let x : tables_ok lim pr t' ≡ true = ok-repeats lim pr (image-sane lim s l i) k v in
      let full = let-full lim s l i in
      let one : put_tables (put_tables l u) u ≡ put_tables l u = rw held at (goes_twice lim s l i u gone) in
      let more = grown-repeats lim pr k in
      let all : put_tables (put_tables l u) t' ≡ put_tables l t' =
      put-over l u t' more.procs more.vars (rows_fit lim pr l t' full x) (cells_fit lim pr l t' full x) in
      let rest = turns-from k (put_tables l u) (goes-let lim s l i u gone) held one in
      let live : goal_ended (tables_in l) ≡ false = rw e g in
      one_turn (live-is (tables_in l) live) (turn-outcome l i z) (moved_told (word (step_numbers (Ok m))) m refl).accepted (rw all at rest)

  -- where writing their own tables over them leaves the bytes as they are
  pub run-turns : (l : Lent) → LetIn lim s l r c → put_tables l (tables_in l) ≡ l → {limit w : ℕ} {l' : Lent} → RunMeets lim s l limit w l' → RunsExactly lim s (program_of s r c) l limit w l'
  run-turns l i same {limit} {w} {l'} meets =
      let x : Running = run_tables limit lim pr (tables_in l) in
      let rs = runs lim pr limit (tables_in l) in
      let q = run-let lim s l i limit in
      let a = ended-told w x.end x.moves (meets.contract.answer ∙ rw q) in
      let b : l' ≡ put_tables l x.tables = same-lent l' (put_tables l x.tables) (meets.contract.head ∙ rw q) (meets.contract.procs ∙ rw q) (meets.contract.vars ∙ rw q) in
      let k : tables_in l' ≡ x.tables = ap tables_in b ∙ (goes-holds lim s l i x.tables (goes-run limit)).read in
      let t : Turns lim s l x.moves (put_tables l x.tables) = turns-from rs.moves l i refl same in
      let y : Stops lim pr limit x.moves (tables_in l') x.end = subst (λ (u : Tables). Stops lim pr limit x.moves u x.end) (sym k) rs.stops in
      record {
        accepted = a.0;
        turns = subst (λ (m : Lent). Turns lim s l (large_in w) m) (sym b) (subst (λ (n : ℕ). Turns lim s l n (put_tables l x.tables)) (sym a.2) t);
        within = subst (λ (n : ℕ). n ≤ limit) (sym a.2) rs.within;
        end = x.end;
        told = a.1;
        stops = subst (λ (n : ℕ). StopsBy lim pr limit n l' x.end) (sym a.2) (stops-by lim s l' (kept_run lim s l i limit w l' meets) y);
      }

-- bytes that hold good tables are those that the tables are written to
pub put_same : (lim : Limits) (s : List ℕ) (l : Lent) {r c : ℕ} → LetIn lim s l r c → AllBytes l → put_tables l (tables_in l) ≡ l
put_same lim s l {r} {c} i b =
    let a = accepted s r c (let-image i) in
    let k = lent-inside lim s r c l (let-image i) a.relations a.clauses (let-tables i) in
    let g = grown-same l k b.head b.procs b.vars in
    same-lent (put_tables l (tables_in l)) l (sym g.head) (sym g.procs) (sym g.vars)

-- demand 2: a run is as many turn calls as it counts, and ends for the reason that it gives
pub demand-2-run : (lim : Limits) (s : List ℕ) (l : Lent) {r c : ℕ} → LetIn lim s l r c → AllBytes l → (limit w : ℕ) (l' : Lent) → RunMeets lim s l limit w l'
    → RunsExactly lim s (program_of s r c) l limit w l'
demand-2-run lim s l i b limit w l' meets = run-turns lim s _ _ l i (put_same lim s l i b) meets

-- ---- nothing else is a run

module _ (lim : Limits) (s : List ℕ) {r c : ℕ} (limit : ℕ) where
  module _ (l : Lent) (i : LetIn lim s l r c) where
    -- one reason only
    same_end : {n : ℕ} {e u : End} → StopsBy lim (program_of s r c) limit n l e → StopsBy lim (program_of s r c) limit n l u → e ≡ u
    same_end (by_success g x) (by_success h y) = refl
    same_end (by_success g x) (by_failure h y) = absurd (omega arith)
    same_end (by_success g x) (by_waiting h y) = absurd (h g)
    same_end (by_success g x) (by_budget h y m) = absurd (h g)
    same_end (by_success g x) (by_room h y m k) = absurd (h g)
    same_end (by_failure g x) (by_success h y) = absurd (omega arith)
    same_end (by_failure g x) (by_failure h y) = refl
    same_end (by_failure g x) (by_waiting h y) = absurd (h g)
    same_end (by_failure g x) (by_budget h y m) = absurd (h g)
    same_end (by_failure g x) (by_room h y m k) = absurd (h g)
    same_end (by_waiting g x) (by_success h y) = absurd (g h)
    same_end (by_waiting g x) (by_failure h y) = absurd (g h)
    same_end (by_waiting g x) (by_waiting h y) = refl
    same_end (by_waiting g x) (by_budget h y m) = absurd (x _ y)
    same_end (by_waiting g x) (by_room h y m k) = absurd (x _ (turn-moves lim (program_of s r c) (tables_in l) (let-ok lim s l i) y))
    same_end (by_budget g x n) (by_success h y) = absurd (g h)
    same_end (by_budget g x n) (by_failure h y) = absurd (g h)
    same_end (by_budget g x n) (by_waiting h y) = absurd (y _ x)
    same_end (by_budget g x n) (by_budget h y m) = refl
    same_end (by_budget g x n) (by_room h y m k) = absurd (omega arith)
    same_end (by_room g x n q) (by_success h y) = absurd (g h)
    same_end (by_room g x n q) (by_failure h y) = absurd (g h)
    same_end (by_room g x n q) (by_waiting h y) = absurd (y _ (turn-moves lim (program_of s r c) (tables_in l) (let-ok lim s l i) x))
    same_end (by_room g x n q) (by_budget h y m) = absurd (omega arith)
    same_end (by_room g x n q) (by_room h y m k) = refl

    -- no further turn, where there is one
    no-further : {n w : ℕ} {e : End} {l' : Lent} → StopsBy lim (program_of s r c) limit n l e → (GoalEnded l → ⊥) → TurnMeets lim s l w l' → refusal_in w ≡ 0 → n < limit → ⊥
    no-further (by_success g x) live meets z h = live g
    no-further (by_failure g x) live meets z h = live g
    no-further {w = w} {l' = l'} (by_waiting g x) live meets z h = let k = ((demand-1-turn lim s l w l' meets).by.given (nobody i x)).0 in omega arith
    no-further (by_budget g x n) live meets z h = omega arith
    no-further {w = w} {l' = l'} (by_room g x n q) live meets z h = let k = ((demand-1-turn lim s l w l' meets).by.given (no_room_in_turn i x q)).0 in omega arith

  -- what is left of a run, n moves having been made
  same-run : (n : ℕ) {j k : ℕ} {e u : End} {l l' l'' : Lent} → LetIn lim s l r c → Turns lim s l j l' → Turns lim s l k l'' → n + j ≤ limit → n + k ≤ limit
      → StopsBy lim (program_of s r c) limit (n + j) l' e → StopsBy lim (program_of s r c) limit (n + k) l'' u → (j ≡ k) × (e ≡ u) × (l' ≡ l'')
  same-run n {l = l} i no_turn no_turn h g x y = (refl, same_end l i x y, refl)
  same-run n {l = l} i no_turn (one_turn live m z ts) h g x y = absurd (no-further l i x live m z (omega arith))
  same-run n {l = l} i (one_turn live m z ts) no_turn h g x y = absurd (no-further l i y live m z (omega arith))
  same-run n {e = e} {u = u} {l = l} {l' = l'} {l'' = l''} i (one_turn {l' = a} {w = v} {n = j} live m z ts) (one_turn {l' = b} {n = k} live' m' z' ts') h g x y =
      let o : b ≡ a = sym (once-turn lim s l m m').1 in
      let x' : StopsBy lim (program_of s r c) limit (suc n + j) l' e = subst (λ (o : ℕ). StopsBy lim (program_of s r c) limit o l' e) (omega arith) x in
      let y' : StopsBy lim (program_of s r c) limit (suc n + k) l'' u = subst (λ (o : ℕ). StopsBy lim (program_of s r c) limit o l'' u) (omega arith) y in
      let (p, q, d) = same-run (suc n) {e = e} {u = u} (kept-turn lim s l i v a m) ts (rw o at ts') (omega arith) (omega arith) x' y' in
      (ap suc p, q, d)

-- two runs from the same bytes with the same limit have one count, one end and the same bytes afterwards
pub demand-2-run-only : (lim : Limits) (s : List ℕ) (l : Lent) {r c : ℕ} → LetIn lim s l r c → (limit : ℕ) {w v : ℕ} {l' l'' : Lent}
    → RunsExactly lim s (program_of s r c) l limit w l' → RunsExactly lim s (program_of s r c) l limit v l'' → (large_in w ≡ large_in v) × (first_in w ≡ first_in v) × (l' ≡ l'')
demand-2-run-only lim s l {r} {c} i limit {w} {v} {l'} {l''} x y =
    let a : StopsBy lim (program_of s r c) limit (0 + large_in w) l' x.end = subst (λ (n : ℕ). StopsBy lim (program_of s r c) limit n l' x.end) (omega arith) x.stops in
    let b : StopsBy lim (program_of s r c) limit (0 + large_in v) l'' y.end = subst (λ (n : ℕ). StopsBy lim (program_of s r c) limit n l'' y.end) (omega arith) y.stops in
    let (p, q, d) = same-run lim s limit 0 i x.turns y.turns (omega (arith, x.within)) (omega (arith, y.within)) a b in
    (p, x.told ∙ ap end_number q ∙ sym y.told, d)
