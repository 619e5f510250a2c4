-- A replay: demands 1 and 2 of it. It goes exactly as far as the records agree, by the relation of the rules.
-- ---- one record
use Rattle.std.specs.Prelude.{Err, Ok}
use Rattle.parlog.specs.Answer.{Answer}
use mathlib.Core.Path.{◌∙◌, ◌≡◌, ap, refl, sym}
use mathlib.Core.Logic.{◌≢◌}
use mathlib.Core.Bool.{Bool, cond, false, true}
use mathlib.Core.List.{List}
use Prim.Native.Nat.{◌*◌, ◌+◌, ◌-◌, ◌<◌, ◌≤◌, suc, zero, ℕ}
use lib.Dec.{eqb}
use borrow.Author.Tests.{eq-eqb, eqb-true, ne_eqb}
use native.Mathlib.Omega.{arith}
use Rattle.entry.proofs.Held.{same-lent, tables-state}
use Rattle.parlog.proofs.Bools.{never}
use Rattle.parlog.proofs.Stable.{can-here}
use Rattle.parlog.specs.Limits.{Limits}
use Rattle.parlog.specs.Load.{refusal}
use Rattle.parlog.specs.Numbers.{refused_as, rule_number, word}
use Rattle.parlog.specs.Program.{Program, program_of}
use Rattle.parlog.specs.Records.{kind_at}
use Rattle.parlog.specs.Relation.{Rule}
use Rattle.parlog.specs.Run.{procs_in, Stepping, step_tables, Supplying, supply_tables}
use Rattle.parlog.specs.Sane.{Sane}
use Rattle.parlog.specs.TableRules.{state_ok, tables_ok}
use Rattle.parlog.specs.Tables.{Lent, put_tables, State, Tables, tables_in}
use Rattle.parlog.specs.declared.Move.{Move}
use Rattle.parlog.specs.declared.Refusal.{Refusal}
use Rattle.promises.proofs.Demand1.{a-refusal, Answered, no-refusal, refuses-by}
use Rattle.promises.proofs.Demand2.{image-sane}
use Rattle.promises.proofs.Entry.{away, away-numbered, bad-is, Door, door, inside, let-ok, replay-let, replay-turned}
use Rattle.promises.proofs.Giving.{is-constant, is-taken, not_there, Offer, offer, supply-gives, too_large}
use Rattle.promises.proofs.Keeping.{Goes, goes-holds, goes_none, goes_then, ok-goes, record-goes}
use Rattle.promises.proofs.Whose.{goes, is-full, is-still, move-can, step-makes, too-high, Trial, trial}
use Rattle.promises.proofs.Words.{large-of, refusal-of}
use Rattle.promises.specs.Moves.{after_step, Holds}
use Rattle.promises.specs.Outcomes.{large_in, refusal_in, ReplayMeets}
use Rattle.promises.specs.Refusals.{for_image, for_tables, LetIn, RefusesBy, TurnedAway}
use Rattle.promises.specs.Replays.{Agrees, AgreeTo, LeftOff, none_yet, one_disagrees, one_more, RefusesReplay, replay_away, replay_record, ReplayExact, ReplayRefused, ReplaysAll, step_agrees, StopsAt, supply_agrees}
use Rattle.replay.specs.Replay.{disagrees, is_played, play_from, Playing, play_record, plays, play_step, play_supply, replay_call, replay_numbers}
use Rattle.trace.proofs.Formed.{bad-tested, right-tested, tested-bad, tested-right}
use Rattle.trace.specs.Formed.{BadTrace, KnownKind, of_step, of_supply, RightTrace, trace_body, trace_cut, trace_gap, trace_kind}
use Rattle.trace.specs.Trace.{step_kind, supply_kind, trace_size, trace_tested, what_at, who_at}
use Rattle.words.proofs.Nights.{image-near, told-near}
use Rattle.words.specs.Nights.{told_offset, told_refusal}

module _ (lim : Limits) (pr : Program) (x : List ℕ) (at : ℕ) (t : Tables) (ok : tables_ok lim pr t ≡ true) where
  good : state_ok lim pr t.state ≡ true
  good = tables-state lim pr t ok

  there : {m : Move} {s' : State} → Rule pr t.state (who_at x at) m s' → who_at x at < procs_in t
  there {m} {s'} h = can-here pr t.state (who_at x at) (move-can lim pr t.state good (who_at x at) (record { rule = m; after = s'; holds = h }))

  play-step-is : kind_at x at ≡ step_kind → play_record lim pr x at t ≡ play_step (step_tables lim pr t (who_at x at)) (what_at x at)
  unfolding play_record
  play-step-is e = rw (eq-eqb (kind_at x at) step_kind e)

  play-supply-is : kind_at x at ≡ supply_kind → play_record lim pr x at t ≡ play_supply (supply_tables pr t (who_at x at) (what_at x at))
  unfolding play_record
  play-supply-is e = rw (ne_eqb (kind_at x at) step_kind (λ z. omega arith))

  -- a record that agrees is played
  agrees-plays : {u : Tables} → Agrees lim pr x at t u → play_record lim pr x at t ≡ plays u
  agrees-plays (step_agrees {m} {s'} e h f n) =
      play-step-is e ∙ rw (step-makes lim pr t ok (who_at x at) (there h) h f, eq-eqb (rule_number m) (what_at x at) n)
  agrees-plays (supply_agrees e h g l) = play-supply-is e ∙ rw (supply-gives lim pr t ok (who_at x at) (what_at x at) h g l)

  -- what is played agrees
  abbrev Judged : Playing → Type 0
  Judged disagrees = Unit {0}
  Judged (plays u) = Agrees lim pr x at t u

  step-judged : kind_at x at ≡ step_kind → {a : Stepping} → Trial lim pr t ok (who_at x at) a → Judged (play_step a (what_at x at))
  step-judged e (too-high h) = tt
  step-judged e (is-still h n) = tt
  step-judged e (is-full h n) = tt
  step-judged e (goes {m} {s'} h r f) = by (eqb (rule_number m) (what_at x at)) refl
    where
      by : (b : Bool) → eqb (rule_number m) (what_at x at) ≡ b → Judged (cond b (plays (after_step t (who_at x at) s')) disagrees)
      by true q = step_agrees e r f (eqb-true (rule_number m) (what_at x at) q)
      by false q = tt

  supply-judged : kind_at x at ≡ supply_kind → {a : Supplying} → Offer lim pr t ok (who_at x at) (what_at x at) a → Judged (play_supply a)
  supply-judged e (not_there h) = tt
  supply-judged e (too_large h g) = tt
  supply-judged e (is-constant h g l) = tt
  supply-judged e (is-taken h g l f) = supply_agrees e h g l

  judged : KnownKind (kind_at x at) → Judged (play_record lim pr x at t)
  judged (of_step e) = rw (play-step-is e) (step-judged e (trial lim pr t ok (who_at x at)))
  judged (of_supply e) = rw (play-supply-is e) (supply-judged e (offer lim pr t ok (who_at x at) (what_at x at)))

  plays-agrees : KnownKind (kind_at x at) → {u : Tables} → play_record lim pr x at t ≡ plays u → Agrees lim pr x at t u
  plays-agrees k e = rw e at (judged k)

  -- one that disagrees agrees with nothing
  disagrees-not : play_record lim pr x at t ≡ disagrees → {u : Tables} → Agrees lim pr x at t u → ⊥
  disagrees-not e {u} a = let z : disagrees ≡ plays u = sym e ∙ agrees-plays a in never (ap is_played z)

  not-disagrees : KnownKind (kind_at x at) → ((u : Tables) → Agrees lim pr x at t u → ⊥) → play_record lim pr x at t ≡ disagrees
  not-disagrees k n = go (play_record lim pr x at t) refl
    where
      go : (p : Playing) → play_record lim pr x at t ≡ p → play_record lim pr x at t ≡ disagrees
      go disagrees e = e
      go (plays u) e = absurd (n u (plays-agrees k e))

-- ---- all records

module _ (lim : Limits) (pr : Program) (sane : Sane pr) (x : List ℕ) (t : Tables) (ok : tables_ok lim pr t ≡ true) where
  -- the tables after records that agree keep the rules
  pub agree-goes : {k : ℕ} {u : Tables} → AgreeTo lim pr x t k u → Goes lim pr t u × (tables_ok lim pr u ≡ true)
  agree-goes none_yet = (goes_none, ok)
  agree-goes (one_more {k} {u} a b) =
      let (g, o) = agree-goes a in
      let h = record-goes lim pr x (k * trace_size) u (agrees-plays lim pr x (k * trace_size) u o b) in
      (goes_then g h, ok-goes lim pr sane h o)

  -- k records that agree are played
  plays-to : {k : ℕ} {u : Tables} → AgreeTo lim pr x t k u → (n : ℕ) → play_from (k + n) lim pr x 0 t ≡ play_from n lim pr x k u
  plays-to none_yet n = ap (λ (j : ℕ). play_from j lim pr x 0 t) (omega arith)
  plays-to (one_more {k} {u} {v} a b) n =
      let e : suc k + n ≡ k + suc n = omega arith in
      let o = (agree-goes a).1 in
      ap (λ (j : ℕ). play_from j lim pr x 0 t) e ∙ plays-to a (suc n) ∙ next (agrees-plays lim pr x (k * trace_size) u o b)
    where
      next : play_record lim pr x (k * trace_size) u ≡ plays v → play_from (suc n) lim pr x k u ≡ play_from n lim pr x (suc k) v
      next q = unfold play_from in (rw q)

  module _ (n : ℕ) (right : RightTrace x n) where
    -- all agree, or one is the first that does not
    data Ending : Type 0 where
      all_agree : {u : Tables} → AgreeTo lim pr x t n u → Ending
      some-stop : {k : ℕ} {u : Tables} → StopsAt lim pr x t n k u → Ending

    ending : (m k : ℕ) (u : Tables) → k + m ≡ n → AgreeTo lim pr x t k u → Ending
    ending zero k u e a = let z : k ≡ n = omega arith in all_agree (rw z at a)
    ending (suc m) k u e a = go (play_record lim pr x (k * trace_size) u) refl (λ v b. ending m (suc k) v (omega arith) b)
      where
        o : tables_ok lim pr u ≡ true
        o = (agree-goes a).1

        known : KnownKind (kind_at x (k * trace_size))
        known = (right.filled.each k (omega arith)).kind

        go : (p : Playing) → play_record lim pr x (k * trace_size) u ≡ p → ((v : Tables) → AgreeTo lim pr x t (suc k) v → Ending) → Ending
        go disagrees q on = some-stop {k = k} {u = u} (record { right = right; below = omega arith; before = a; next_not = λ v b. disagrees-not lim pr x (k * trace_size) u o q b })
        go (plays v) q on = on v (one_more a (plays-agrees lim pr x (k * trace_size) u o known q))

    ends_so : Ending
    ends_so = ending n 0 t (omega arith) none_yet

    -- and so it is played
    all-played : {u : Tables} → AgreeTo lim pr x t n u → play_from n lim pr x 0 t ≡ record { records = n; tables = u }
    all-played {u} a = let e : n ≡ n + 0 = omega arith in ap (λ (j : ℕ). play_from j lim pr x 0 t) e ∙ plays-to a 0 ∙ (unfold play_from in refl)

  stop-played : {n k : ℕ} {u : Tables} → StopsAt lim pr x t n k u → play_from n lim pr x 0 t ≡ record { records = k; tables = u }
  stop-played {n} {k} {u} st =
      let below = st.below in
      let e : n ≡ k + suc (n - suc k) = omega arith in
      let q = not-disagrees lim pr x (k * trace_size) u (agree-goes st.before).1 (st.right.filled.each k below).kind st.next_not in
      ap (λ (j : ℕ). play_from j lim pr x 0 t) e ∙ plays-to st.before (suc (n - suc k)) ∙ (unfold play_from in (rw q))

-- ---- words

played-told : (w n : ℕ) → w ≡ word (replay_numbers (Ok n)) → (refusal_in w ≡ 0) × (large_in w ≡ told_offset n)
played-told w n e = (
  ap refusal_in e ∙ refusal-of (replay_numbers (Ok n)) (omega arith) (omega arith) (omega arith),
  ap large_in e ∙ large-of (replay_numbers (Ok n)) (omega arith) (omega arith) (omega arith),
)

-- ---- the reasons

bad-trace-numbered : {x : List ℕ} {n o : ℕ} → BadTrace x n o → (1 ≤ n) × (n ≤ 19)
bad-trace-numbered (trace_cut b h w) = (omega arith, omega arith)
bad-trace-numbered (trace_kind b h w k) = (omega arith, omega arith)
bad-trace-numbered (trace_body b h w k z) = (omega arith, omega arith)
bad-trace-numbered (trace_gap f h b z) = (omega arith, omega arith)

replay-numbered : {lim : Limits} {s : List ℕ} {l : Lent} {x : List ℕ} {n o : ℕ} → ReplayRefused lim s l x n o → (1 ≤ n) × (n ≤ 20)
replay-numbered (replay_away a) = let b = away-numbered a in (b.0, omega (arith, b.1))
replay-numbered (replay_record i b) = let a = bad-trace-numbered b in (a.0, omega (arith, a.1))
replay-numbered (one_disagrees i z) = (omega arith, omega arith)

-- the refusal of an image or of tables can be told
away-near : {lim : Limits} {s : List ℕ} {l : Lent} {n o : ℕ} → TurnedAway lim s l n o → o ≤ 4294967295
away-near {s = s} (for_image b) = image-near s (bad-is b)
away-near (for_tables a h) = omega arith

module _ (lim : Limits) (s : List ℕ) (l : Lent) (x : List ℕ) where
  module _ {r c : ℕ} (i : LetIn lim s l r c) where
    abbrev pr : Program
    pr = program_of s r c

    replay-faulty : {n o : ℕ} → BadTrace x n o → replay_call lim s l x ≡ record { answer = Err (refusal n o); lent = l }
    replay-faulty b = replay-let lim s l i x ∙ rw (bad-tested x b)

    replay-stops : {n k : ℕ} {u : Tables} → StopsAt lim pr x (tables_in l) n k u → replay_call lim s l x ≡ record { answer = Err (refusal 20 (k * trace_size)); lent = put_tables l u }
    replay-stops {n} {k} st =
        let below = st.below in
        replay-let lim s l i x ∙ rw (right-tested x st.right, stop-played lim pr (image-sane lim s l i) x (tables_in l) (let-ok lim s l i) st, ne_eqb k n (λ z. omega arith))

    replay-plays : {n : ℕ} {u : Tables} → RightTrace x n → AgreeTo lim pr x (tables_in l) n u → replay_call lim s l x ≡ record { answer = Ok n; lent = put_tables l u }
    replay-plays {n} right a =
        replay-let lim s l i x ∙ rw (right-tested x right, all-played lim pr (image-sane lim s l i) x (tables_in l) (let-ok lim s l i) n right a, eq-eqb n n refl)

    holds_after : {k : ℕ} {u : Tables} → AgreeTo lim pr x (tables_in l) k u → Holds l u (put_tables l u)
    holds_after {u = u} a = goes-holds lim s l i u (agree-goes lim pr (image-sane lim s l i) x (tables_in l) (let-ok lim s l i) a).0

  module _ (w : ℕ) (l' : Lent) (meets : ReplayMeets lim s l x w l') where
    call-lent : {a : Answer ℕ} {m : Lent} → replay_call lim s l x ≡ record { answer = a; lent = m } → l' ≡ m
    call-lent {m = m} q = same-lent l' m (meets.contract.head ∙ rw q) (meets.contract.procs ∙ rw q) (meets.contract.vars ∙ rw q)

    replay-word : (n o : ℕ) → ReplayRefused lim s l x n o → w ≡ word (refused_as (refusal n o))
    replay-word n o (replay_away a) =
        let k : told_refusal (refusal n o) ≡ refusal n o = sym (told-near (refusal n o) (away-near a)) in
        meets.contract.answer ∙ rw (replay-turned lim s l a x) (ap (λ (f : Refusal). word (refused_as f)) k)
    replay-word n o (replay_record i b) = meets.contract.answer ∙ rw (replay-faulty i b)
    replay-word n o (one_disagrees i z) = meets.contract.answer ∙ rw (replay-stops i z)

    data Replaying : Type 0 where
      is-away : {n o : ℕ} → ReplayRefused lim s l x n o → (n ≡ 20 → ⊥) → l' ≡ l → Replaying
      is-off : {o : ℕ} → ReplayRefused lim s l x 20 o → (large_in w ≡ o → LeftOff lim s l x w l') → Replaying
      is-played : refusal_in w ≡ 0 → ReplaysAll lim s l x w l' → Replaying

    replaying-so : Replaying
    replaying-so = go (door lim s l)
      where
        ended : {r c n : ℕ} (i : LetIn lim s l r c) (right : RightTrace x n) → Ending lim (program_of s r c) (image-sane lim s l i) x (tables_in l) (let-ok lim s l i) n right → Replaying
        ended {r} {c} {n} i right (all_agree {u} a) =
            let q = replay-plays i right a in
            let k = played-told w n (meets.contract.answer ∙ rw q) in
            is-played k.0 (record { relations = r; clauses = c; enters = i; records = n; right = right; after = u; agree = a; told = k.1; tables = rw (call-lent q) (holds_after i a) })
        ended {r} {c} {n} i right (some-stop {k} {u} z) =
            is-off (one_disagrees i z)
            (λ e. record { relations = r; clauses = c; enters = i; records = n; played = k; after = u; stops = z; told = e; tables = rw (call-lent (replay-stops i z)) (holds_after i z.before) })

        tested : {r c : ℕ} (i : LetIn lim s l r c) (t : Answer ℕ) → trace_tested x ≡ t → Replaying
        tested i (Err f) e =
            let b = tested-bad x e in
            is-away (replay_record i b) (λ z. let a = bad-trace-numbered b in omega (arith, a.1)) (call-lent (replay-faulty i b))
        tested {r} {c} i (Ok n) e = let right = tested-right x e in ended i right (ends_so lim (program_of s r c) (image-sane lim s l i) x (tables_in l) (let-ok lim s l i) n right)

        go : Door lim s l → Replaying
        go (away a) = is-away (replay_away a) (λ z. let b = away-numbered a in omega (arith, b.1)) (call-lent (replay-turned lim s l a x))
        go (inside i) = tested i (trace_tested x) refl

    reasons : RefusesBy 20 (ReplayRefused lim s l x) w
    reasons = refuses-by w (λ n o y. replay-numbered y) (omega arith) replay-word (go replaying-so)
      where
        go : Replaying → Answered (ReplayRefused lim s l x) w
        go (is-away y n k) = a-refusal y
        go (is-off y k) = a-refusal y
        go (is-played e k) = no-refusal e

    -- Traces 4, 7: refused exactly where there is a reason; each refusal but 20 leaves every lent byte as it was, and 20 the tables that the records before it made
    pub demand-1-replay : RefusesReplay lim s l x w l'
    demand-1-replay = record { by = reasons; kept = kept replaying-so; left = left replaying-so }
      where
        kept : Replaying → refusal_in w ≢ 0 → refusal_in w ≢ 20 → l' ≡ l
        kept (is-away y n k) g h = k
        kept (is-off y k) g h = absurd (h (reasons.given y).0)
        kept (is-played e k) g h = absurd (g e)

        left : Replaying → refusal_in w ≡ 20 → LeftOff lim s l x w l'
        left (is-away y n k) g = absurd (n (sym (reasons.given y).0 ∙ g))
        left (is-off y k) g = k (reasons.given y).1
        left (is-played e k) g = absurd (omega arith)

    -- Traces 6: what is not refused was played to its end, and its tables are those that the records make
    pub demand-2-replay : refusal_in w ≡ 0 → ReplaysAll lim s l x w l'
    demand-2-replay z = go replaying-so
      where
        none : {n o : ℕ} → ReplayRefused lim s l x n o → ⊥
        none y = let g = reasons.given y in let m = replay-numbered y in omega (arith, g.0, m.0)

        go : Replaying → ReplaysAll lim s l x w l'
        go (is-away y n k) = absurd (none y)
        go (is-off y k) = absurd (none y)
        go (is-played e k) = k

    -- THE LAW: a trace whose records all agree is played to its end
    pub agree-replays : {r c n : ℕ} {u : Tables} → LetIn lim s l r c → RightTrace x n → AgreeTo lim (program_of s r c) x (tables_in l) n u
        → (refusal_in w ≡ 0) × (large_in w ≡ told_offset n) × (l' ≡ put_tables l u)
    agree-replays {n = n} i right a =
        let q = replay-plays i right a in
        let k = played-told w n (meets.contract.answer ∙ rw q) in
        (k.0, k.1, call-lent q)

    -- THE LAW: a replay goes exactly as far as the records agree
    pub replay-exact : ReplayExact lim s l x w l'
    replay-exact =
        record {
          accepted = demand-2-replay;
          all_agree = λ i right a. (agree-replays i right a).0;
          stopped = demand-1-replay.left;
          one_not = λ i y. reasons.given (one_disagrees i y);
        }
