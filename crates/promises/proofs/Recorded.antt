-- Request 7: what calls recorded replays: every record is played, and the bytes are those that the calls left.
use Rattle.std.specs.Prelude.{Ok}
use mathlib.Core.Path.{◌∙◌, ◌≡◌, ap, refl, sym}
use mathlib.Core.Bool.{Bool, false, true}
use mathlib.Core.List.{[], ◌++◌, append_assoc, append-nil, List}
use Prim.Native.Nat.{◌%◌, ◌*◌, ◌+◌, ◌/◌, ◌<◌, ◌≤◌, suc, zero, ℕ}
use lib.Dec.{eqb, ltb}
use lib.ListN.{drop, get_or, length, length-append, take}
use lib.Seq.{get_or-append-add, take-append_seam}
use borrow.Author.Tests.{eq-eqb, eqb-false, eqb-true, ltb-true, ne_eqb}
use native.Mathlib.Omega.{arith}
use Rattle.entry.proofs.Entering.{lent-inside}
use Rattle.entry.proofs.Held.{cells_fit, put-over, rows_fit, same-lent}
use Rattle.load.proofs.Accepted.{accepted}
use Rattle.parlog.proofs.Bools.{split}
use Rattle.parlog.proofs.Effects.{apply-count}
use Rattle.parlog.proofs.Kept.{step_keeps}
use Rattle.parlog.proofs.Steps.{few-by, step-made}
use Rattle.parlog.specs.Limits.{Limits, Usable}
use Rattle.parlog.specs.Numbers.{rule_number, word}
use Rattle.parlog.specs.Program.{Program, program_of}
use Rattle.parlog.specs.Records.{kind_at, word_at}
use Rattle.parlog.specs.Run.{given, made, procs_in, run_tables, stepped, step_tables, supply_tables, unmade}
use Rattle.parlog.specs.Sane.{Sane}
use Rattle.parlog.specs.TableRules.{tables_ok}
use Rattle.parlog.specs.Tables.{Lent, put_tables, Tables, tables_in}
use Rattle.parlog.specs.declared.Move.{Move}
use Rattle.promises.proofs.Demand2.{image-sane}
use Rattle.promises.proofs.Entry.{let-full, let-image, let-ok, let-tables, replay-let}
use Rattle.promises.proofs.Keeping.{Goes, goes-holds, goes-let, goes-more, goes_none, goes-ok, goes-run, goes_step, goes-supply, goes_then}
use Rattle.promises.proofs.Noted.{moved-so, noted-size, rule-makes}
use Rattle.promises.proofs.RunTurns.{put_same}
use Rattle.promises.proofs.Traces.{step-traced-made, supply-traced-given}
use Rattle.promises.proofs.Words.{large-of, refusal-of, rule-small}
use Rattle.promises.specs.Moves.{after_step, AllBytes}
use Rattle.promises.specs.Outcomes.{large_in, refusal_in, ReplayMeets}
use Rattle.promises.specs.Refusals.{LetIn}
use Rattle.promises.specs.Traces.{move_noted, no_move_noted, NotedMoves, nothing_yet, PlaysBack, Recorded, RunTracedMeets, stamp_after, StepTracedMeets, SupplyTracedMeets, then_run_traced, then_step_traced, then_supply_traced}
use Rattle.replay.specs.Replay.{Played, play_from, play_record, plays, replay_call, replay_numbers}
use Rattle.run_traced.specs.Traced.{moves_for, run_records}
use Rattle.trace.proofs.Formed.{right-tested}
use Rattle.trace.specs.Formed.{Follows, KnownKind, of_step, of_supply, RightRecord, RightTrace}
use Rattle.trace.specs.Trace.{following, record_bytes, stamp_at, step_kind, supply_kind, trace_size, trace_tested, what_at, who_at}
use Rattle.traced.proofs.Records.{record-length}
use Rattle.words.specs.Nights.{told_offset}

-- ---- a record read back

two-read : (n : ℕ) → n < 65536 → n % 256 + 256 * (n / 256 % 256) ≡ n
two-read n h = omega arith

-- what stands in record k
record Here (x : List ℕ) (k kind who what stamp : ℕ) : Type 0 where
  right : RightRecord x (k * trace_size)
  kind_is : kind_at x (k * trace_size) ≡ kind
  who-is : who_at x (k * trace_size) ≡ who
  what-is : what_at x (k * trace_size) ≡ what
  stamp-is : stamp_at x (k * trace_size) ≡ stamp

module _ (pre post : List ℕ) (kind who what stamp k : ℕ) (place : length pre ≡ k * trace_size) where
  abbrev rec : List ℕ
  rec = record_bytes kind who what stamp

  word_in : (j : ℕ) → word_at (pre ++ (rec ++ post)) (k * trace_size + j) ≡ word_at (rec ++ post) j
  word_in j =
      let a : k * trace_size + j ≡ length pre + j = omega arith in
      let b : k * trace_size + j + 1 ≡ length pre + (j + 1) = omega arith in
      let low : get_or (pre ++ (rec ++ post)) (k * trace_size + j) 0 ≡ get_or (rec ++ post) j 0 = ap (λ (i : ℕ). get_or (pre ++ (rec ++ post)) i 0) a ∙ get_or-append-add pre (rec ++ post) j 0 in
      let high : get_or (pre ++ (rec ++ post)) (k * trace_size + j + 1) 0 ≡ get_or (rec ++ post) (j + 1) 0 = ap (λ (i : ℕ). get_or (pre ++ (rec ++ post)) i 0) b ∙ get_or-append-add pre (rec ++ post) (j + 1) 0 in
      rw (low, high)

  size_is : word_at (pre ++ (rec ++ post)) (k * trace_size) ≡ trace_size
  size_is =
      let z : k * trace_size ≡ k * trace_size + 0 = omega arith in
      ap (λ (i : ℕ). word_at (pre ++ (rec ++ post)) i) z ∙ word_in 0 ∙ (unfold record_bytes in refl)

  length-is : length (pre ++ (rec ++ post)) ≡ k * trace_size + (trace_size + length post)
  length-is = omega (arith, length-append pre (rec ++ post), length-append rec post, record-length kind who what stamp, place)

  stands : KnownKind kind → kind < 65536 → who < 65536 → what < 65536 → stamp < 65536 → Here (pre ++ (rec ++ post)) k kind who what stamp
  stands known hk hw ht hs =
      let kind-so : kind_at (pre ++ (rec ++ post)) (k * trace_size) ≡ kind = word_in 2 ∙ (unfold record_bytes in two-read kind hk) in
      record {
        right = record {
          whole = record { begun = omega (arith, length-is); size = omega (arith, size_is); inside = omega (arith, size_is, length-is) };
          kind = rw kind-so known;
          size = size_is;
        };
        kind_is = kind-so;
        who-is = word_in 4 ∙ (unfold record_bytes in two-read who hw);
        what-is = word_in 6 ∙ (unfold record_bytes in two-read what ht);
        stamp-is = word_in 8 ∙ (unfold record_bytes in two-read stamp hs);
      }

-- ---- moves and supplies, and their records

following-small : (st : ℕ) → following st < 65536
following-small st = omega arith

abbrev played_to : Tables → ℕ → Played
played_to t j = record { records = j; tables = t }

module _ (lim : Limits) (pr : Program) where
  pub data Chain : Tables → ℕ → List ℕ → Tables → ℕ → Type 0 where
    no_move : {t : Tables} {st : ℕ} → Chain t st [] t st
    a-step : {t u v : Tables} {st st' p : ℕ} {m : Move} {x : List ℕ} → step_tables lim pr t p ≡ made m u → p < 65536 → Chain u (following st) x v st'
        → Chain t st (record_bytes step_kind p (rule_number m) st ++ x) v st'
    a_supply : {t u v : Tables} {st st' i k w : ℕ} {x : List ℕ} → supply_tables pr t i k ≡ given w u → i < 65536 → k < 65536 → Chain u (following st) x v st'
        → Chain t st (record_bytes supply_kind i k st ++ x) v st'

  made_then : {t u v : Tables} {a b c : ℕ} {x y : List ℕ} → Chain t a x u b → Chain u b y v c → Chain t a (x ++ y) v c
  made_then no_move k = k
  made_then {y = y} (a-step {st = st} {p = p} {m = m} {x = x} e h j) k = rw (append_assoc (record_bytes step_kind p (rule_number m) st) x y) (a-step e h (made_then j k))
  made_then {y = y} (a_supply {st = st} {i = i} {k = n} {x = x} e h g j) k = rw (append_assoc (record_bytes supply_kind i n st) x y) (a_supply e h g (made_then j k))

  -- what playing n records from record k on comes to
  record Playing-on (x : List ℕ) (k n : ℕ) (t v : Tables) (st : ℕ) : Type 0 where
    played : play_from n lim pr x k t ≡ played_to v (k + n)
    each : (i : ℕ) → k ≤ i → i < k + n → RightRecord x (i * trace_size)
    first : 0 < n → stamp_at x (k * trace_size) ≡ st
    follow : (i : ℕ) → k ≤ i → suc i < k + n → Follows x i

  play-none : (x : List ℕ) (k : ℕ) (t : Tables) (st : ℕ) → Playing-on x k 0 t t st
  play-none x k t st = record {
    played = unfold play_from in ap (played_to t) (omega arith);
    each = λ i a b. absurd (omega arith);
    first = λ h. absurd (omega arith);
    follow = λ i a b. absurd (omega arith);
  }

  module _ (x : List ℕ) (k : ℕ) (t : Tables) {u : Tables} {kind who what st : ℕ} (h : Here x k kind who what st) where
    step-plays : {m : Move} → kind ≡ step_kind → what ≡ rule_number m → step_tables lim pr t who ≡ made m u → play_record lim pr x (k * trace_size) t ≡ plays u
    unfolding play_record
    step-plays {m} ek et e = rw (eq-eqb (kind_at x (k * trace_size)) step_kind (h.kind_is ∙ ek), h.who-is, h.what-is, et, e, eq-eqb (rule_number m) (rule_number m) refl)

    supply-plays : {w : ℕ} → kind ≡ supply_kind → supply_tables pr t who what ≡ given w u → play_record lim pr x (k * trace_size) t ≡ plays u
    unfolding play_record
    supply-plays ek e = rw (ne_eqb (kind_at x (k * trace_size)) step_kind (λ z. let y : supply_kind ≡ step_kind = sym (h.kind_is ∙ ek) ∙ z in omega arith), h.who-is, h.what-is, e)

    play-more : {n : ℕ} {v : Tables} → play_record lim pr x (k * trace_size) t ≡ plays u → Playing-on x (suc k) n u v (following st) → Playing-on x k (suc n) t v st
    play-more {n} {v} q rest = record {
      played = unfold play_from in rw q (rest.played ∙ ap (played_to v) (omega arith));
      each = λ i a b. split (eqb i k) (λ e. rw (eqb-true i k e) h.right) (λ e. let d = eqb-false i k e in rest.each i (omega (arith, d)) (omega arith));
      first = λ z. h.stamp-is;
      follow = λ i a b. split (eqb i k)
          (λ e. let y = eqb-true i k e in rw y (rest.first (omega (arith, y)) ∙ ap (λ (z : ℕ). following z) (sym h.stamp-is)))
          (λ e. let d = eqb-false i k e in rest.follow i (omega (arith, d)) (omega arith));
    }

  -- THE LAW: records of moves that were made are right, follow one another, and play to the tables that the moves left
  made-plays : {t v : Tables} {st st' : ℕ} {x : List ℕ} → Chain t st x v st' → st < 65536 → (pre : List ℕ) (k n : ℕ) → length pre ≡ k * trace_size → length x ≡ n * trace_size
      → Playing-on (pre ++ x) k n t v st
  made-plays {t} {st = st} no_move hs pre k zero e z = play-none (pre ++ []) k t st
  made-plays no_move hs pre k (suc n) e z = absurd (omega arith)
  made-plays (a-step {st = st} {p = p} {m = m} {x = x} q hp j) hs pre k zero e z =
      absurd (omega (arith, length-append (record_bytes step_kind p (rule_number m) st) x, record-length step_kind p (rule_number m) st, z))
  made-plays (a_supply {st = st} {i = i} {k = c} {x = x} q hi hc j) hs pre k zero e z =
      absurd (omega (arith, length-append (record_bytes supply_kind i c st) x, record-length supply_kind i c st, z))
  made-plays {t} (a-step {st = st} {p = p} {m = m} {x = x} q hp j) hs pre k (suc n) e z =
      let r : List ℕ = record_bytes step_kind p (rule_number m) st in
      let a = length-append r x in
      let b = record-length step_kind p (rule_number m) st in
      let d = length-append pre r in
      let rule = rule-small m in
      let h = stands pre x step_kind p (rule_number m) st k e (of_step refl) (omega arith) hp (omega (arith, rule)) hs in
      let rest = made-plays j (following-small st) (pre ++ r) (suc k) n (omega (arith, d, b, e)) (omega (arith, a, b, z)) in
      play-more (pre ++ (r ++ x)) k t h (step-plays (pre ++ (r ++ x)) k t h refl refl q) (rw (append_assoc pre r x) at rest)
  made-plays {t} (a_supply {st = st} {i = i} {k = c} {x = x} q hi hc j) hs pre k (suc n) e z =
      let r : List ℕ = record_bytes supply_kind i c st in
      let a = length-append r x in
      let b = record-length supply_kind i c st in
      let d = length-append pre r in
      let h = stands pre x supply_kind i c st k e (of_supply refl) (omega arith) hi hc hs in
      let rest = made-plays j (following-small st) (pre ++ r) (suc k) n (omega (arith, d, b, e)) (omega (arith, a, b, z)) in
      play-more (pre ++ (r ++ x)) k t h (supply-plays (pre ++ (r ++ x)) k t h refl q) (rw (append_assoc pre r x) at rest)

  -- ---- a run

  -- a step that is made is one of a process that two bytes can name
  step-below : Usable lim → (t : Tables) (p : ℕ) {u : Tables} {m : Move} → step_tables lim pr t p ≡ made m u → p < 65536
  step-below ok t p {u} {m} e = below (ltb p (procs_in t)) refl
    where
      few : procs_in t ≤ lim.procs
      few =
          let a = step-made lim pr t p m u e in
          let f = few-by lim t p a.delta a.fit in
          unfold stepped in omega (arith, f, apply-count t.state p a.delta)

      below : (b : Bool) → ltb p (procs_in t) ≡ b → p < 65536
      below true y = omega (arith, ltb-true p (procs_in t) y, few, ok.procs_counted)
      below false y =
          let q : step_tables lim pr t p ≡ unmade 9 = unfold step_tables in rw y in
          let z : unmade 9 ≡ made m u = sym q ∙ e in
          let w : ◌≡◌ {A = ℕ} 0 1 = cc in absurd (omega arith)

  -- moves of a run, noted, are such a chain
  noted-chain : Usable lim → Sane pr → {t v : Tables} {st k : ℕ} {x : List ℕ} → NotedMoves lim pr t st x k v → st < 65536 → tables_ok lim pr t ≡ true → Chain t st x v (stamp_after st k)
  noted-chain ok sane {st = st} no_move_noted h ruled = let same : stamp_after st 0 ≡ st = omega arith in rw same no_move
  noted-chain ok sane {t} (move_noted {s' = s'} {m = m} {p = p} {stamp = st} {k = k} live whose rule fits j) h ruled =
      let e = rule-makes lim pr t ruled p rule fits in
      let rest = noted-chain ok sane j (following-small st) (step_keeps lim pr sane t (after_step t p s') p m ruled e) in
      let stamps : stamp_after (following st) k ≡ stamp_after st (suc k) = omega arith in
      rw (← stamps) (a-step e (step-below ok t p e) rest)

-- ---- calls that record, one after the other

goal-most : (lim : Limits) (s : List ℕ) (l : Lent) {r c : ℕ} → LetIn lim s l r c → (program_of s r c).goal_vars ≤ lim.vars
goal-most lim s l {r} {c} i =
    let a = accepted s r c (let-image i) in
    let k = lent-inside lim s r c l (let-image i) a.relations a.clauses (let-tables i) in
    omega (arith, k.goal, k.vars_most)

-- a trace that is without fault and plays to its end is played to its end
replay-all : (lim : Limits) (s : List ℕ) (l : Lent) {r c : ℕ} → LetIn lim s l r c → (x : List ℕ) (n : ℕ) (t : Tables) → trace_tested x ≡ Ok n → play_from n lim (program_of s r c) x 0 (tables_in l) ≡ played_to t n
    → replay_call lim s l x ≡ record { answer = Ok n; lent = put_tables l t }
replay-all lim s l i x n t e q = replay-let lim s l i x ∙ rw (e, q, eq-eqb n n refl)

module _ (lim : Limits) (ok : Usable lim) (s : List ℕ) (l : Lent) {r c : ℕ} (i : LetIn lim s l r c) (a : ℕ) where
  abbrev pr : Program
  pr = program_of s r c

  -- from the tables of l to those of m, and the records x of that
  pub record Trail (x : List ℕ) (m : Lent) (b : ℕ) : Type 0 where
    pub records : ℕ
    pub size : length x ≡ records * trace_size
    pub all : Chain lim pr (tables_in l) a x (tables_in m) b
    pub enters : LetIn lim s m r c
    pub gone : Goes lim pr (tables_in l) (tables_in m)
    pub stamp : b < 65536

  -- without a night the bytes too are those of l, written over
  pub record Day (x : List ℕ) (m : Lent) (b : ℕ) : Type 0 where
    pub trail : Trail x m b
    bytes : AllBytes l → m ≡ put_tables l (tables_in m)

  pub trail-on : {x : List ℕ} {m : Lent} {b : ℕ} → Trail x m b → (t : Tables) → Goes lim pr (tables_in m) t → (y : List ℕ) (n b' : ℕ) → Chain lim pr (tables_in m) b y t b' → length y ≡ n * trace_size → b' < 65536
      → (m' : Lent) → tables_in m' ≡ t → LetIn lim s m' r c → Trail (x ++ y) m' b'
  trail-on {x} tr t g y n b' k e h m' read enters = record {
    records = tr.records + n;
    size = omega (arith, length-append x y, tr.size, e);
    all = rw read (made_then lim pr tr.all k);
    enters = enters;
    gone = rw read (goes_then tr.gone g);
    stamp = h;
  }

  day-on : {x : List ℕ} {m : Lent} {b : ℕ} → Day x m b → (t : Tables) → Goes lim pr (tables_in m) t → (y : List ℕ) (n b' : ℕ) → Chain lim pr (tables_in m) b y t b' → length y ≡ n * trace_size → b' < 65536
      → (m' : Lent) → m' ≡ put_tables m t → Day (x ++ y) m' b'
  day-on {x} {m} {b} d t g y n b' k e h m' em =
      let j = d.trail.enters in
      let read : tables_in m' ≡ t = ap tables_in em ∙ (goes-holds lim s m j t g).read in
      let more = goes-more lim pr (image-sane lim s m j) (let-ok lim s m j) g in
      let good = goes-ok lim s m j t g in
      let full = let-full lim s l i in
      let over = put-over l (tables_in m) t more.0 more.1 (rows_fit lim pr l t full good) (cells_fit lim pr l t full good) in
      record {
        trail = trail-on d.trail t g y n b' k e h m' read (rw em (goes-let lim s m j t g));
        bytes = λ are. em ∙ ap (λ (z : Lent). put_tables z t) (d.bytes are) ∙ over ∙ ap (λ (z : Tables). put_tables l z) (sym read);
      }

  day-start : a < 65536 → Day [] l a
  day-start h = record {
    trail = record { records = 0; size = refl; all = no_move; enters = i; gone = goes_none; stamp = h };
    bytes = λ are. sym (put_same lim s l i are);
  }

  day-step : {x row row' : List ℕ} {m m' : Lent} {b p w : ℕ} → Day x m b → StepTracedMeets lim s m row p b w m' row' → refusal_in w ≡ 0 → Day (x ++ take trace_size row') m' (following b)
  day-step {row = row} {row' = row'} {m = m} {m' = m'} {b = b} {p = p} {w = w} d meets z =
      let (mv, t, e, em, er) = step-traced-made lim s m row p b w m' row' meets z d.trail.enters in
      let bs : List ℕ = record_bytes step_kind p (rule_number mv) b in
      let one : Chain lim pr (tables_in m) b (bs ++ []) t (following b) = a-step e (step-below lim pr ok (tables_in m) p e) no_move in
      rw er (day-on d t (goes_step p e) bs 1 (following b) (rw (append-nil bs) at one) (omega (arith, record-length step_kind p (rule_number mv) b)) (following-small b) m' em)

  day-supply : {x row row' : List ℕ} {m m' : Lent} {b v k w : ℕ} → Day x m b → SupplyTracedMeets lim s m row v k b w m' row' → refusal_in w ≡ 0 → Day (x ++ take trace_size row') m' (following b)
  day-supply {row = row} {row' = row'} {m = m} {m' = m'} {b = b} {v = v} {k = k} {w = w} d meets z =
      let j = d.trail.enters in
      let (u, t, e, hv, hk, em, er) = supply-traced-given lim s m row v k b w m' row' meets z j in
      let bs : List ℕ = record_bytes supply_kind v k b in
      let small-v : v < 65536 = omega (arith, hv, goal-most lim s m j, ok.vars_counted) in
      let one : Chain lim pr (tables_in m) b (bs ++ []) t (following b) = a_supply e small-v (omega (arith, hk)) no_move in
      rw er (day-on d t (goes-supply v k e) bs 1 (following b) (rw (append-nil bs) at one) (omega (arith, record-length supply_kind v k b)) (following-small b) m' em)

  day-run : {x row row' : List ℕ} {m m' : Lent} {b limit w : ℕ} → Day x m b → RunTracedMeets lim s m row limit b w m' row' → Day (x ++ take (large_in w * trace_size) row') m' (stamp_after b (large_in w))
  day-run {row = row} {row' = row'} {m = m} {m' = m'} {b = b} {limit = limit} {w = w} d meets =
      let j = d.trail.enters in
      let n : ℕ = moves_for (length row) limit in
      let bs : List ℕ = run_records n lim pr b (tables_in m) in
      let k = moved-so lim s m row limit b w m' row' meets j in
      let size : length bs ≡ large_in w * trace_size = noted-size lim pr k.noted in
      let chain = noted-chain lim pr ok (image-sane lim s m j) k.noted d.trail.stamp (let-ok lim s m j) in
      let front : take (large_in w * trace_size) row' ≡ bs = rw (k.front, ← size) (take-append_seam bs (drop (length bs) row)) in
      rw front (day-on d (run_tables n lim pr (tables_in m)).tables (goes-run n) bs (large_in w) (stamp_after b (large_in w)) chain size (omega arith) m' k.lent)

  pub day-of : a < 65536 → {x : List ℕ} {m : Lent} {b : ℕ} → Recorded lim s l a x m b → Day x m b
  day-of h nothing_yet = day-start h
  day-of h (then_step_traced k meets z) = day-step (day-of h k) meets z
  day-of h (then_supply_traced k meets z) = day-supply (day-of h k) meets z
  day-of h (then_run_traced k meets z) = day-run (day-of h k) meets

  -- a replay on bytes that hold the tables of l plays every record, and writes the tables of m
  pub trail-plays : a < 65536 → {x : List ℕ} {m : Lent} {b : ℕ} → Trail x m b → (q : Lent) → LetIn lim s q r c → tables_in q ≡ tables_in l → {w : ℕ} {m' : Lent} → ReplayMeets lim s q x w m'
      → (refusal_in w ≡ 0) × (large_in w ≡ told_offset (length x / trace_size)) × (m' ≡ put_tables q (tables_in m))
  trail-plays h {x} {m} tr q j same {w} {m'} meets =
      let n : ℕ = tr.records in
      let p = made-plays lim pr tr.all h [] 0 n refl tr.size in
      let right : RightTrace x n = record { filled = record { size = tr.size; each = λ k u. p.each k (omega arith) (omega arith) }; follow = λ k u. p.follow k (omega arith) (omega arith) } in
      let played : play_from n lim pr x 0 (tables_in q) ≡ played_to (tables_in m) n = rw same (p.played ∙ ap (played_to (tables_in m)) (omega arith)) in
      let call = replay-all lim s q j x n (tables_in m) (right-tested x right) played in
      let word-is : w ≡ word (replay_numbers (Ok n)) = meets.contract.answer ∙ rw call in
      let many : n ≡ length x / trace_size = omega (arith, tr.size) in
      let accepted : refusal_in w ≡ 0 = rw word-is (refusal-of (replay_numbers (Ok n)) (omega arith) (omega arith) (omega arith)) in
      let told : large_in w ≡ told_offset (length x / trace_size) = rw (word-is, ← many) (large-of (replay_numbers (Ok n)) (omega arith) (omega arith) (omega arith)) in
      (accepted, told, same-lent m' (put_tables q (tables_in m)) (meets.contract.head ∙ rw call) (meets.contract.procs ∙ rw call) (meets.contract.vars ∙ rw call))

  -- THE LAW: what calls recorded, replayed on the bytes that the first began with, plays every record and leaves the bytes that the last left
  pub recorded-replays : AllBytes l → a < 65536 → {x : List ℕ} {m : Lent} {b : ℕ} → Recorded lim s l a x m b → {w : ℕ} {m' : Lent} → ReplayMeets lim s l x w m' → PlaysBack x w m m'
  recorded-replays are h k meets =
      let d = day-of h k in
      let (accepted, told, bytes) = trail-plays h d.trail l i refl meets in
      record { accepted = accepted; told = told; bytes = bytes ∙ sym (d.bytes are) }
