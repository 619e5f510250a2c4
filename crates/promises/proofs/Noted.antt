-- Request 7: a run that records leaves the records of its moves in their order, and behind them what was there.
use Rattle.std.specs.Prelude.{Option, Some, None}
use mathlib.Core.Path.{◌∙◌, ◌≡◌, refl, sym}
use mathlib.Core.Bool.{Bool, cond, false, true}
use mathlib.Core.List.{[], ◌++◌, List}
use Prim.Native.Nat.{◌*◌, ◌+◌, ◌/◌, ◌≤◌, suc, zero, ℕ}
use lib.Dec.{ltb}
use lib.ListN.{drop, length, length-append}
use borrow.Author.Tests.{ltb-false}
use native.Mathlib.Omega.{arith}
use Rattle.entry.proofs.Held.{same-lent, tables-state}
use Rattle.lay.proofs.Laws.{laid-start}
use Rattle.lay.specs.Lay.{laid}
use Rattle.parlog.proofs.Exact.{at_most_one}
use Rattle.parlog.proofs.Kept.{step_keeps}
use Rattle.parlog.proofs.Stable.{can-here}
use Rattle.parlog.specs.Limits.{Limits}
use Rattle.parlog.specs.Numbers.{rule_number}
use Rattle.parlog.specs.Program.{Program, program_of}
use Rattle.parlog.specs.Relation.{Fits, Rule}
use Rattle.parlog.specs.Run.{goal_ended, halt, made, run_from, Running, run_tables, Stepping, step_tables, turn_for, unmade}
use Rattle.parlog.specs.Sane.{Sane}
use Rattle.parlog.specs.TableRules.{tables_ok}
use Rattle.parlog.specs.Tables.{Lent, put_tables, State, Tables, tables_in}
use Rattle.parlog.specs.declared.End.{End}
use Rattle.parlog.specs.declared.Move.{Move}
use Rattle.promises.proofs.Demand2.{image-sane}
use Rattle.promises.proofs.Entry.{enter-let, let-ok, run-let}
use Rattle.promises.proofs.Keeping.{goes-holds, goes-run}
use Rattle.promises.proofs.RunTurns.{demand-2-run, demand-2-run-only, live-is}
use Rattle.promises.proofs.Traces.{plain-run-traced}
use Rattle.promises.proofs.Whose.{goes, is-full, is-still, move-can, of-turn, step-makes, too-high, Trial, trial, turn-of}
use Rattle.promises.proofs.Words.{ended-told}
use Rattle.promises.specs.Moves.{after_step, AllBytes}
use Rattle.promises.specs.Outcomes.{first_in, large_in}
use Rattle.promises.specs.Refusals.{LetIn, Turn}
use Rattle.promises.specs.Traces.{move_noted, no_move_noted, NotedMoves, RunNoted, RunTracedMeets}
use Rattle.run.proofs.Runs.{run-ended, run-goes, run_room, run-spent, run-waits}
use Rattle.run.specs.Running.{unless_ended}
use Rattle.run_traced.proofs.Records.{records-goes, records-none, records-room}
use Rattle.run_traced.specs.Traced.{moves_for, run_records, run_traced_call}
use Rattle.trace.specs.Trace.{following, record_bytes, step_kind, trace_size}
use Rattle.traced.proofs.Records.{record-length}

-- ---- a run over tables

module _ (lim : Limits) (pr : Program) where
  -- of at most n moves from t on, after j others: how many are made, and that the records are theirs
  record RanNoted (n j : ℕ) (t : Tables) (stamp : ℕ) : Type 0 where
    count : ℕ
    moves : (run_from n lim pr j t).moves ≡ j + count
    most : count ≤ n
    noted : NotedMoves lim pr t stamp (run_records n lim pr stamp t) count (run_from n lim pr j t).tables

  noted-halt : (n j : ℕ) (t : Tables) (stamp : ℕ) {e : End} → run_from n lim pr j t ≡ halt e j t → run_records n lim pr stamp t ≡ [] → RanNoted n j t stamp
  noted-halt n j t stamp q z = record { count = 0; moves = rw q (omega arith); most = omega arith; noted = rw (q, z) no_move_noted }

  noted_more : (n j : ℕ) (t : Tables) (stamp p : ℕ) {m : Move} {s' : State} → goal_ended t ≡ false → Turn pr t p → Rule pr t.state p m s' → Fits lim s'
      → run_from (suc n) lim pr j t ≡ run_from n lim pr (suc j) (after_step t p s')
      → run_records (suc n) lim pr stamp t ≡ record_bytes step_kind p (rule_number m) stamp ++ run_records n lim pr (following stamp) (after_step t p s')
      → RanNoted n (suc j) (after_step t p s') (following stamp) → RanNoted (suc n) j t stamp
  noted_more n j t stamp p live whose rule fits q z x = record {
    count = suc x.count;
    moves = rw q (x.moves ∙ omega arith);
    most = omega (arith, x.most);
    noted = rw (q, z) (move_noted (live-is t live) whose rule fits x.noted);
  }

  ran-noted : Sane pr → (n j : ℕ) (t : Tables) (stamp : ℕ) → tables_ok lim pr t ≡ true → RanNoted n j t stamp
  ran-noted sane zero j t stamp ok = go (goal_ended t) refl (turn_for pr t) refl
    where
      nothing : run_records zero lim pr stamp t ≡ []
      nothing = unfold run_records in refl

      go : (b : Bool) → goal_ended t ≡ b → (f : Option ℕ) → turn_for pr t ≡ f → RanNoted zero j t stamp
      go true z f y = noted-halt zero j t stamp (run-ended lim pr t zero j z) nothing
      go false z None y = noted-halt zero j t stamp (run-waits lim pr t z zero j y) nothing
      go false z (Some p) y = noted-halt zero j t stamp (run-spent lim pr t z y j) nothing
  ran-noted sane (suc n) j t stamp ok = go (goal_ended t) refl (turn_for pr t) refl (λ u k. ran-noted sane n (suc j) u (following stamp) k)
    where
      next : (b : Bool) → goal_ended t ≡ b → (f : Option ℕ) → turn_for pr t ≡ f → unless_ended (goal_ended t) (turn_for pr t) ≡ unless_ended b f
      next b z f y = rw (z, y)

      full : goal_ended t ≡ false → {p k : ℕ} → turn_for pr t ≡ Some p → step_tables lim pr t p ≡ unmade k → RanNoted (suc n) j t stamp
      full z {p} y e = noted-halt (suc n) j t stamp (run_room lim pr t z y n j e) (records-room lim pr stamp t (next false z (Some p) y) e n)

      by : goal_ended t ≡ false → {p : ℕ} → turn_for pr t ≡ Some p → {x : Stepping} → Trial lim pr t ok p x → step_tables lim pr t p ≡ x
          → ((u : Tables) → tables_ok lim pr u ≡ true → RanNoted n (suc j) u (following stamp)) → RanNoted (suc n) j t stamp
      by z y (too-high h) e rest = full z y e
      by z y (is-still h u) e rest = full z y e
      by z y (is-full h u) e rest = full z y e
      by z {p} y (goes {m} {s'} h x f) e rest =
          noted_more n j t stamp p z (turn-of lim pr t ok p y) x f (run-goes lim pr t z y n j e) (records-goes lim pr stamp t (next false z (Some p) y) e n)
          (rest (after_step t p s') (step_keeps lim pr sane t (after_step t p s') p m ok e))

      go : (b : Bool) → goal_ended t ≡ b → (f : Option ℕ) → turn_for pr t ≡ f → ((u : Tables) → tables_ok lim pr u ≡ true → RanNoted n (suc j) u (following stamp)) → RanNoted (suc n) j t stamp
      go true z f y rest = noted-halt (suc n) j t stamp (run-ended lim pr t (suc n) j z) (records-none lim pr stamp t (next true z f y) (suc n))
      go false z None y rest = noted-halt (suc n) j t stamp (run-waits lim pr t z (suc n) j y) (records-none lim pr stamp t (next false z None y) (suc n))
      go false z (Some p) y rest = by z y (trial lim pr t ok p) refl rest

  -- ten bytes each
  pub noted-size : {t u : Tables} {stamp k : ℕ} {bytes : List ℕ} → NotedMoves lim pr t stamp bytes k u → length bytes ≡ k * trace_size
  noted-size no_move_noted = refl
  noted-size (move_noted {m = m} {p = p} {stamp = stamp} {bytes = bytes} live whose rule fits k) =
      omega (arith, length-append (record_bytes step_kind p (rule_number m) stamp) bytes, record-length step_kind p (rule_number m) stamp, noted-size k)

  -- the step that a rule with room makes in good tables
  pub rule-makes : (t : Tables) → tables_ok lim pr t ≡ true → (p : ℕ) {m : Move} {s' : State} → Rule pr t.state p m s' → Fits lim s' → step_tables lim pr t p ≡ made m (after_step t p s')
  rule-makes t ok p {m} {s'} rule fits =
      let can = move-can lim pr t.state (tables-state lim pr t ok) p (record { rule = m; after = s'; holds = rule }) in
      step-makes lim pr t ok p (can-here pr t.state p can) rule fits

  -- from good tables, so many moves are noted in one way only
  noted-same : Sane pr → {t u v : Tables} {stamp k : ℕ} {x y : List ℕ} → tables_ok lim pr t ≡ true → NotedMoves lim pr t stamp x k u → NotedMoves lim pr t stamp y k v → x ≡ y
  noted-same sane ok no_move_noted no_move_noted = refl
  noted-same sane {t} {stamp = stamp} ok (move_noted {s' = a} {m = m} {p = p} {k = k} {bytes = xs} live whose rule fits rest) (move_noted {u = v} {s' = b} {m = n} {p = q} {bytes = ys} live' whose' rule' fits' rest') =
      let found : Some p ≡ Some q = sym (of-turn lim pr t ok p whose) ∙ of-turn lim pr t ok q whose' in
      let who : q ≡ p = cc in
      let (what, after) = at_most_one lim pr t.state (tables-state lim pr t ok) p rule (rw who at rule') in
      let next = step_keeps lim pr sane t (after_step t p a) p m ok (rule-makes t ok p rule fits) in
      let other : NotedMoves lim pr (after_step t p a) (following stamp) ys k v = rw (who, ← after) at rest' in
      rw (who, ← what, noted-same sane next rest other)

-- ---- the call

moves-room : (bytes limit : ℕ) → moves_for bytes limit * trace_size ≤ bytes
moves-room bytes limit = go (ltb (bytes / trace_size) limit) refl
  where
    go : (b : Bool) → ltb (bytes / trace_size) limit ≡ b → cond b (bytes / trace_size) limit * trace_size ≤ bytes
    go true e = omega arith
    go false e = omega (arith, ltb-false (bytes / trace_size) limit e)

module _ (lim : Limits) (s : List ℕ) (l : Lent) (row : List ℕ) (limit stamp w : ℕ) (l' : Lent) (row' : List ℕ) (meets : RunTracedMeets lim s l row limit stamp w l' row') {r c : ℕ} (i : LetIn lim s l r c) where
  abbrev most : ℕ
  most = moves_for (length row) limit

  abbrev ran : Running
  ran = run_tables most lim (program_of s r c) (tables_in l)

  -- the moves that were made: told in the word, their records in the row, their tables in the bytes
  pub record Moved-so : Type 0 where
    pub noted : NotedMoves lim (program_of s r c) (tables_in l) stamp (run_records most lim (program_of s r c) stamp (tables_in l)) (large_in w) ran.tables
    pub lent : l' ≡ put_tables l ran.tables
    room : large_in w * trace_size ≤ length row
    pub front : row' ≡ run_records most lim (program_of s r c) stamp (tables_in l) ++ drop (large_in w * trace_size) row

  pub moved-so : Moved-so
  moved-so =
      let x = ran-noted lim (program_of s r c) (image-sane lim s l i) most 0 (tables_in l) stamp (let-ok lim s l i) in
      let plain = (plain-run-traced lim s l row limit stamp w l' row' meets).contract in
      let q = run-let lim s l i most in
      let moves : ran.moves ≡ x.count = unfold run_tables in (x.moves ∙ omega arith) in
      let told : large_in w ≡ x.count = (ended-told w ran.end ran.moves (plain.answer ∙ rw q)).2 ∙ moves in
      let bs : List ℕ = run_records most lim (program_of s r c) stamp (tables_in l) in
      let size : length bs ≡ large_in w * trace_size = noted-size lim (program_of s r c) x.noted ∙ rw told in
      let fits : large_in w * trace_size ≤ length row = omega (arith, told, x.most, moves-room (length row) limit) in
      let records : row' ≡ laid row 0 bs = unfold run_traced_call in (meets.contract.row ∙ rw (enter-let lim s l i)) in
      record {
        noted = rw told (unfold run_tables in x.noted);
        lent = same-lent l' (put_tables l ran.tables) (plain.head ∙ rw q) (plain.procs ∙ rw q) (plain.vars ∙ rw q);
        room = fits;
        front = records ∙ laid-start bs row (omega (arith, size, fits)) ∙ rw size;
      }

  -- demand 2: a run that records is the plain run, and the records of its moves, in their order, stand in front of the row
  pub demand-2-run-traced : AllBytes l → RunNoted lim s (program_of s r c) l row limit stamp w l' row'
  demand-2-run-traced bytes =
      let x = moved-so in
      record {
        runs = demand-2-run lim s l i bytes most w l' (plain-run-traced lim s l row limit stamp w l' row' meets);
        bytes = run_records most lim (program_of s r c) stamp (tables_in l);
        after = ran.tables;
        moves = x.noted;
        tables = rw x.lent (goes-holds lim s l i ran.tables (goes-run most));
        room = x.room;
        front = x.front;
      }

-- two such runs from the same bytes, row and stamp have one count, one end, and the same bytes and row afterwards
pub demand-2-run-traced-only : (lim : Limits) (s : List ℕ) (l : Lent) {r c : ℕ} → LetIn lim s l r c → (row : List ℕ) (limit stamp : ℕ) {w v : ℕ} {l' l'' : Lent} {row' row'' : List ℕ}
    → RunNoted lim s (program_of s r c) l row limit stamp w l' row' → RunNoted lim s (program_of s r c) l row limit stamp v l'' row''
    → (large_in w ≡ large_in v) × (first_in w ≡ first_in v) × (l' ≡ l'') × (row' ≡ row'')
demand-2-run-traced-only lim s l {r} {c} i row limit stamp {w} {v} x y =
    let (count, end, lent) = demand-2-run-only lim s l i (moves_for (length row) limit) x.runs y.runs in
    let other : NotedMoves lim (program_of s r c) (tables_in l) stamp y.bytes (large_in w) y.after = rw (← count) at y.moves in
    let bytes = noted-same lim (program_of s r c) (image-sane lim s l i) (let-ok lim s l i) x.moves other in
    (count, end, lent, x.front ∙ (rw (bytes, count)) ∙ sym y.front)
