-- What each call does where it is turned away and where it is let in.
use Rattle.parlog.proofs.Answered.{ok-both}
use Rattle.std.specs.Prelude.{Ok, Err}
use Rattle.parlog.specs.Answer.{Answer}
use mathlib.Core.Path.{◌∙◌, ◌≡◌, refl, sym}
use mathlib.Core.Bool.{Bool, false, true}
use mathlib.Core.List.{List}
use Prim.Native.Nat.{◌≤◌, ℕ}
use native.Mathlib.Omega.{arith}
use Rattle.entry.proofs.Held.{put-good, put-read}
use Rattle.parlog.specs.Calls.{enter, enter_by, entered, enter_loaded, Entry, run_call, run_entry, step_answer, step_call, supply_answer, supply_call, turn_call, turned_away, value_answer, value_call}
use Rattle.parlog.specs.Limits.{Limits}
use Rattle.parlog.specs.Load.{load_of, refusal}
use Rattle.parlog.specs.Program.{program_of}
use Rattle.parlog.specs.Run.{step_tables, supply_tables, turn_tables, value_tables}
use Rattle.parlog.specs.TableRules.{full_size, lent_ok, tables_ok}
use Rattle.parlog.specs.Tables.{Lent, put_tables, Tables, tables_in}
use Rattle.parlog.specs.declared.Refusal.{Refusal}
use Rattle.promises.proofs.Fours.{Fours}
use Rattle.promises.specs.Moves.{Holds}
use Rattle.promises.specs.Refusals.{BadImage, for_image, for_tables, LetIn, TurnedAway}
use Rattle.refusals.proofs.Exactly.{accepted-right, refused-exactly, refused-number}
use Rattle.refusals.proofs.RuledExactly.{lent-exactly, ruled-exactly, sizes-exactly}
use Rattle.refusals.proofs.Tests.{refuted, refutes}
use Rattle.replay.specs.Replay.{replay_call, replay_tested}
use Rattle.trace.specs.Trace.{trace_tested}
use Rattle.values.specs.Values.{gathered, values_call}

-- ---- the tests and the facts

-- a bad image is refused so
pub bad-is : {s : List ℕ} {n o : ℕ} → BadImage s n o → load_of s ≡ Err (refusal n o)
bad-is {s} b = (refused-exactly s).1 b

module _ {lim : Limits} {s : List ℕ} {l : Lent} {r c : ℕ} where
  pub let_by : load_of s ≡ Ok (r, c) → lent_ok lim (program_of s r c) l ≡ true → LetIn lim s l r c
  let_by e h = record { image = (accepted-right s).0 e; tables = (lent-exactly lim (program_of s r c) l).0 h }

  pub let-image : LetIn lim s l r c → load_of s ≡ Ok (r, c)
  let-image i = (accepted-right s).1 i.image

  pub let-tables : LetIn lim s l r c → lent_ok lim (program_of s r c) l ≡ true
  let-tables i = (lent-exactly lim (program_of s r c) l).1 i.tables

-- ---- the first tests

pub data Entering (lim : Limits) (s : List ℕ) (l : Lent) : Entry → Type 0 where
  is_turned : {f : Refusal} → TurnedAway lim s l f.number f.offset → Entering lim s l (turned_away f)
  is-let : {r c : ℕ} → LetIn lim s l r c → Entering lim s l (entered (program_of s r c) (tables_in l))

module _ (lim : Limits) (s : List ℕ) (l : Lent) where
  entering : Entering lim s l (enter lim s l)
  unfolding enter
  entering = go (load_of s) refl
    where
      on : (r c : ℕ) → load_of s ≡ Ok (r, c) → (b : Bool) → lent_ok lim (program_of s r c) l ≡ b → Entering lim s l (enter_by b (program_of s r c) l)
      on r c e true h = is-let (let_by e h)
      on r c e false h = is_turned {f = refusal 8 0} (for_tables ((accepted-right s).0 e) (refuted (lent-exactly lim (program_of s r c) l) h))

      go : (a : Answer (ℕ × ℕ)) → load_of s ≡ a → Entering lim s l (enter_loaded a lim s l)
      go (Err f) e = is_turned (for_image ((refused-exactly s).0 e))
      go (Ok (r, c)) e = on r c e (lent_ok lim (program_of s r c) l) refl

  pub enter-away : {n o : ℕ} → TurnedAway lim s l n o → enter lim s l ≡ turned_away (refusal n o)
  unfolding enter
  enter-away (for_image b) = rw (bad-is b)
  enter-away (for_tables {r} {c} a h) = rw ((accepted-right s).1 a, refutes (lent_ok lim (program_of s r c) l) (lent-exactly lim (program_of s r c) l) h)

  pub enter-let : {r c : ℕ} → LetIn lim s l r c → enter lim s l ≡ entered (program_of s r c) (tables_in l)
  unfolding enter
  enter-let i = rw (let-image i, let-tables i)

  -- a call is turned away or let in
  pub data Door : Type 0 where
    away : {n o : ℕ} → TurnedAway lim s l n o → Door
    inside : {r c : ℕ} → LetIn lim s l r c → Door

  pub door : Door
  door = go entering
    where
      go : {e : Entry} → Entering lim s l e → Door
      go (is_turned a) = away a
      go (is-let i) = inside i

pub let-in-same : {lim : Limits} {s : List ℕ} {l l' : Lent} {r c r' c' : ℕ} → LetIn lim s l r c → LetIn lim s l' r' c' → (r ≡ r') × (c ≡ c')
let-in-same a b = ok-both (sym (let-image a) ∙ let-image b)

pub away-numbered : {lim : Limits} {s : List ℕ} {l : Lent} {n o : ℕ} → TurnedAway lim s l n o → (1 ≤ n) × (n ≤ 8)
away-numbered (for_image b) = let a = refused-number b in (a.0, omega (arith, a.1))
away-numbered (for_tables e h) = (omega arith, omega arith)

-- ---- the calls

module _ (lim : Limits) (s : List ℕ) (l : Lent) where
  module _ {n o : ℕ} (a : TurnedAway lim s l n o) where
    pub step-turned : (p : ℕ) → step_call lim s l p ≡ record { answer = Err (refusal n o); lent = l }
    unfolding step_call
    step-turned p = rw (enter-away lim s l a)

    pub turn-turned : turn_call lim s l ≡ record { answer = Err (refusal n o); lent = l }
    unfolding turn_call
    turn-turned = rw (enter-away lim s l a)

    pub run-turned : (limit : ℕ) → run_call lim s l limit ≡ record { answer = Err (refusal n o); lent = l }
    unfolding run_call
    run-turned limit = rw (enter-away lim s l a)

    pub supply-turned : (v k : ℕ) → supply_call lim s l v k ≡ record { answer = Err (refusal n o); lent = l }
    unfolding supply_call
    supply-turned v k = rw (enter-away lim s l a)

    pub value-turned : (v : ℕ) → value_call lim s l v ≡ Err (refusal n o)
    unfolding value_call
    value-turned v = rw (enter-away lim s l a)

    pub values-turned : (row : List ℕ) → values_call lim s l row ≡ record { answer = Err (refusal n o); row = row }
    unfolding values_call
    values-turned row = rw (enter-away lim s l a)

    pub replay-turned : (x : List ℕ) → replay_call lim s l x ≡ record { answer = Err (refusal n o); lent = l }
    unfolding replay_call
    replay-turned x = rw (enter-away lim s l a)

  module _ {r c : ℕ} (i : LetIn lim s l r c) where
    pub step-let : (p : ℕ) → step_call lim s l p ≡ step_answer (step_tables lim (program_of s r c) (tables_in l) p) l
    unfolding step_call
    step-let p = rw (enter-let lim s l i)

    pub turn-let : turn_call lim s l ≡ step_answer (turn_tables lim (program_of s r c) (tables_in l)) l
    unfolding turn_call
    turn-let = rw (enter-let lim s l i)

    pub run-let : (limit : ℕ) → run_call lim s l limit ≡ run_entry (entered (program_of s r c) (tables_in l)) lim l limit
    unfolding run_call
    run-let limit = rw (enter-let lim s l i)

    pub supply-let : (v k : ℕ) → supply_call lim s l v k ≡ supply_answer (supply_tables (program_of s r c) (tables_in l) v k) l
    unfolding supply_call
    supply-let v k = rw (enter-let lim s l i)

    pub value-let : (v : ℕ) → value_call lim s l v ≡ value_answer (value_tables (program_of s r c) (tables_in l) v)
    unfolding value_call
    value-let v = rw (enter-let lim s l i)

    pub values-let : (row : List ℕ) → values_call lim s l row ≡ gathered (program_of s r c).goal_vars (tables_in l).state.vars row
    unfolding values_call
    values-let row = rw (enter-let lim s l i)

    pub replay-let : (x : List ℕ) → replay_call lim s l x ≡ replay_tested (trace_tested x) lim (program_of s r c) x l
    unfolding replay_call
    replay-let x = rw (enter-let lim s l i)

    -- ---- what was let in has good tables, and so has what is written over it

    pub let-ok : tables_ok lim (program_of s r c) (tables_in l) ≡ true
    let-ok = (ruled-exactly lim (program_of s r c) (tables_in l)).1 i.tables.tables

    pub let-full : full_size lim l ≡ true
    let-full = (sizes-exactly lim l).1 i.tables.sizes

    module _ (t : Tables) (f : Fours t.state) (ok : tables_ok lim (program_of s r c) t ≡ true) where
      pub put-let : LetIn lim s (put_tables l t) r c
      put-let = let_by (let-image i) (put-good lim (program_of s r c) l t let-full ok (λ j h. f j))

      pub put_holds : Holds l t (put_tables l t)
      put_holds = record { read = put-read lim (program_of s r c) l t let-full ok (λ j h. f j); bytes = refl }
