-- Refusal 8: the tables keep the rules exactly where the test passes, and so for lent bytes.
use mathlib.Core.Path.{◌≡◌, refl, sym}
use mathlib.Core.Logic.{◌↔◌, ◌≢◌, ◌⊎◌, inl, inr}
use mathlib.Core.Bool.{◌&&◌, true}
use Prim.Native.Nat.{◌*◌, ◌<◌, suc, zero, ℕ}
use lib.Dec.{eqb, leb, ltb}
use lib.ListN.{length}
use borrow.Author.Tests.{eq-eqb, eqb-true, le-leb, leb-true}
use native.Mathlib.Omega.{arith}
use Rattle.std.proofs.lemmas.Bool.{and_from, and_parts}
use Rattle.parlog.proofs.Bools.{implies_true, true_implies}
use Rattle.parlog.proofs.Coded.{code-tag, tag-code}
use Rattle.parlog.proofs.RowRules.{Row, row-facts, row-test}
use Rattle.parlog.proofs.Scans.{every-at, every-is}
use Rattle.parlog.specs.Codes.{and_par, and_seq, equate, guard_eval, input_match, is_mode, is_result, or_par, or_search, reporting, seq_search, success, Tag, tag_of, try_clause, waiting}
use Rattle.parlog.specs.Limits.{Limits}
use Rattle.parlog.specs.Notions.{HasMode, HasTag, Is, me, Reports}
use Rattle.parlog.specs.Program.{Program}
use Rattle.parlog.specs.Scan.{every, implies}
use Rattle.parlog.specs.TableRules.{block_in, call_in, cell_known, counts_ok, found_in, full_size, going_ok, kin_ok, lent_ok, places_ok, row_ok, stage_in, state_ok, succeeds, tables_ok, var_ok}
use Rattle.parlog.specs.Tables.{binding_of, cell_size, head_size, Lent, number_at, row_size, sort_at, State, Tables, tables_in, var_count}
use Rattle.parlog.specs.declared.Spot.{Spot}
use Rattle.refusals.proofs.Kinship.{binding-right, Bounded, goal-process-right, notes-right, parent-right, tells-right}
use Rattle.refusals.proofs.Places.{block-used, clause-used, places-right, stage-named}
use Rattle.refusals.proofs.Tests.{and-too, Decides, equal, for-all, if-so, less}
use Rattle.refusals.specs.Ruled.{BlockUsed, ClauseUsed, HasParent, LentRuled, RowKnown, Ruled, Sizes, StageNamed, StateRuled}

module _ (lim : Limits) (pr : Program) (s : State) where
  abbrev n : ℕ
  n = length s.vars

  abbrev spot : ℕ → Spot
  spot i = (me s i).spot

  -- ---- what is read besides in some modes

  module _ (i : ℕ) (known : RowKnown (me s i)) where
    -- a waiting seq-search names a block
    waits-to : call_in pr n (spot i) ≡ true → implies (is_mode waiting (me s i).mode) (block_in pr (spot i)) ≡ true → HasMode s i waiting → BlockUsed pr n (spot i)
    waits-to c e w =
        (block-used pr n (spot i) known.kind).0
        (and_from (call_in pr n (spot i)) (block_in pr (spot i)) c (implies_true (is_mode waiting (me s i).mode) (block_in pr (spot i)) e (eq-eqb (me s i).mode 3 w)))

    waits-from : (HasMode s i waiting → BlockUsed pr n (spot i)) → implies (is_mode waiting (me s i).mode) (block_in pr (spot i)) ≡ true
    waits-from f =
        true_implies (is_mode waiting (me s i).mode) (block_in pr (spot i))
        (λ e. (and_parts (call_in pr n (spot i)) (block_in pr (spot i)) ((block-used pr n (spot i) known.kind).1 (f (eqb-true (me s i).mode 3 e)))).1)

    -- a search that reports success names a clause
    finds : Decides (implies (succeeds (me s i)) (found_in pr n (spot i))) (Reports s i success → ClauseUsed pr n (spot i).found (spot i).first)
    finds =
        let x = me s i in
        let d = and-too (is_mode reporting x.mode) (is_result success x.result) (equal x.mode 4) (equal x.result 1) in
        let f = if-so (succeeds x) (found_in pr n (spot i)) d (λ q. clause-used pr n (spot i).found (spot i).first) in
        (λ e r. f.0 e (r.mode, r.result), λ h. f.1 (λ q. h (record { mode = q.0; result = q.1 })))

    stays : Decides (implies (is_mode waiting (me s i).mode) (stage_in pr (spot i))) (HasMode s i waiting → StageNamed pr (spot i) 0)
    stays = if-so (is_mode waiting (me s i).mode) (stage_in pr (spot i)) (equal (me s i).mode 3) (λ q. stage-named pr n (spot i) known.kind)

    going-from : (t : Tag) → HasTag s i t
        → (Is s i and_seq waiting → StageNamed pr (spot i) 0)
        → (Is s i seq_search waiting → BlockUsed pr n (spot i))
        → (HasTag s i seq_search ⊎ HasTag s i or_search → Reports s i success → ClauseUsed pr n (spot i).found (spot i).first)
        → going_ok t pr n (me s i) ≡ true
    unfolding going_ok
    going-from and_par h a b c = refl
    going-from and_seq h a b c = stays.1 (λ m. a (record { tag = h; mode = m }))
    going-from or_par h a b c = refl
    going-from seq_search h a b c =
        and_from (implies (is_mode waiting (me s i).mode) (block_in pr (spot i))) (implies (succeeds (me s i)) (found_in pr n (spot i)))
        (waits-from (λ m. b (record { tag = h; mode = m }))) (finds.1 (c (inl h)))
    going-from or_search h a b c = finds.1 (c (inr h))
    going-from try_clause h a b c = refl
    going-from input_match h a b c = refl
    going-from guard_eval h a b c = refl
    going-from equate h a b c = refl

  -- ---- the state

  abbrev count : ℕ
  count = length s.procs

  module _ (ok : state_ok lim pr s ≡ true) where
    counts-and-rows : (counts_ok lim pr s ≡ true) × (every (row_ok pr s.procs n) count ≡ true) × (every (var_ok s.vars) n ≡ true)
    unfolding state_ok
    counts-and-rows =
        let a = and_parts (counts_ok lim pr s) (every (row_ok pr s.procs n) count && every (var_ok s.vars) n) ok in
        let b = and_parts (every (row_ok pr s.procs n) count) (every (var_ok s.vars) n) a.1 in
        (a.0, b.0, b.1)

    row : (i : ℕ) → i < count → Row pr n i (me s i) × (kin_ok pr s.procs i (me s i) ≡ true)
    row i h = row-facts pr s.procs n i (every-at (row_ok pr s.procs n) count i counts-and-rows.1 h)

    known-row : (i : ℕ) → i < count → RowKnown (me s i)
    known-row i h = let k = (row i h).0.numbers in record { tag = k.tag; mode = k.mode; result = k.result; kind = k.kind }

    places_of : (i : ℕ) (t : Tag) → i < count → HasTag s i t → places_ok t pr n (spot i) ≡ true
    places_of i t h e = rw (code-tag t (me s i).tag e) at (row i h).0.places

    going_of : (i : ℕ) (t : Tag) → i < count → HasTag s i t → going_ok t pr n (me s i) ≡ true
    going_of i t h e = rw (code-tag t (me s i).tag e) at (row i h).0.going

    at-block-of : (i : ℕ) → i < count → Is s i seq_search waiting → BlockUsed pr n (spot i)
    unfolding going_ok places_ok
    at-block-of i h w =
        waits-to i (known-row i h) (places_of i seq_search h w.tag)
        (and_parts (implies (is_mode waiting (me s i).mode) (block_in pr (spot i))) (implies (succeeds (me s i)) (found_in pr n (spot i))) (going_of i seq_search h w.tag)).0 w.mode

    at-stage-of : (i : ℕ) → i < count → Is s i and_seq waiting → StageNamed pr (spot i) 0
    unfolding going_ok
    at-stage-of i h w = (stays i (known-row i h)).0 (going_of i and_seq h w.tag) w.mode

    found_of : (i : ℕ) → i < count → HasTag s i seq_search ⊎ HasTag s i or_search → Reports s i success → ClauseUsed pr n (spot i).found (spot i).first
    unfolding going_ok
    found_of i h (inl e) r =
        (finds i (known-row i h)).0 (and_parts (implies (is_mode waiting (me s i).mode) (block_in pr (spot i))) (implies (succeeds (me s i)) (found_in pr n (spot i))) (going_of i seq_search h e)).1 r
    found_of i h (inr e) r = (finds i (known-row i h)).0 (going_of i or_search h e) r

    parents-of : (i : ℕ) → i < count → i ≢ 0 → HasParent s i
    parents-of zero h o = absurd (o refl)
    parents-of (suc i) h o = (parent-right pr s (λ j l. (known-row j l).tag) i h).0 (row (suc i) h).1

    bindings-of : (v : ℕ) → v < n → Bounded v (binding_of s.vars v)
    unfolding var_ok
    bindings-of v h = (binding-right v (binding_of s.vars v)).0 (every-at (var_ok s.vars) n v counts-and-rows.2 h)

    state-to : StateRuled lim pr s
    unfolding counts_ok
    state-to =
        let a = and_parts (leb 1 count) (leb count lim.procs && (leb n lim.vars && leb pr.goal_vars n)) counts-and-rows.0 in
        let b = and_parts (leb count lim.procs) (leb n lim.vars && leb pr.goal_vars n) a.1 in
        let c = and_parts (leb n lim.vars) (leb pr.goal_vars n) b.1 in
        let one = leb-true 1 count a.0 in
        record {
          a_process = one;
          few_procs = leb-true count lim.procs b.0;
          few-vars = leb-true n lim.vars c.0;
          goal-vars = leb-true pr.goal_vars n c.1;
          known = known-row;
          tells = λ i h. (tells-right pr s i).0 (row i h).0.result;
          goal-process = (goal-process-right pr s).0 (row 0 one).1;
          parents = parents-of;
          places = λ i t h e. (places-right pr n (spot i) (known-row i h).kind t).0 (places_of i t h e);
          at_stage = at-stage-of;
          at_block = at-block-of;
          found = found_of;
          constants = λ v c h. (bindings-of v h).0 c;
          downward = λ v w h. (bindings-of v h).1 w;
          few_notes = λ i h m. ((notes-right n (me s i)).0 (row i h).0.notes m).0;
          notes = λ i j h m. ((notes-right n (me s i)).0 (row i h).0.notes m).1 j;
        }

  module _ (R : StateRuled lim pr s) where
    kin-from : (i : ℕ) → i < count → kin_ok pr s.procs i (me s i) ≡ true
    kin-from zero h = (goal-process-right pr s).1 R.goal-process
    kin-from (suc i) h = (parent-right pr s (λ j l. (R.known j l).tag) i h).1 (R.parents (suc i) h (λ e. omega arith))

    row_from : (i : ℕ) → i < count → row_ok pr s.procs n i ≡ true
    row_from i h =
        let k = R.known i h in
        let t = tag_of (me s i).tag in
        let e : HasTag s i t = sym (tag-code (me s i).tag k.tag) in
        row-test pr s.procs n i (record {
          numbers = record { tag = k.tag; mode = k.mode; result = k.result; kind = k.kind };
          result = (tells-right pr s i).1 (R.tells i h);
          places = (places-right pr n (spot i) k.kind t).1 (R.places i t h e);
          going = going-from i k t e (R.at_stage i h) (R.at_block i h) (R.found i h);
          notes = (notes-right n (me s i)).1 (λ m. (R.few_notes i h m, λ j. R.notes i j h m));
        }) (kin-from i h)

    var-from : (v : ℕ) → v < n → var_ok s.vars v ≡ true
    unfolding var_ok
    var-from v h = (binding-right v (binding_of s.vars v)).1 (λ c. R.constants v c h, λ w. R.downward v w h)

    state-from : state_ok lim pr s ≡ true
    unfolding state_ok counts_ok
    state-from =
        rw (
          le-leb 1 count R.a_process,
          le-leb count lim.procs R.few_procs,
          le-leb n lim.vars R.few-vars,
          le-leb pr.goal_vars n R.goal-vars,
          every-is (row_ok pr s.procs n) count row_from,
          every-is (var_ok s.vars) n var-from,
        )

-- THE LAW: the tables keep the table rules exactly where the test passes
pub ruled-exactly : (lim : Limits) (pr : Program) (t : Tables) → (tables_ok lim pr t ≡ true) ↔ Ruled lim pr t
unfolding tables_ok
ruled-exactly lim pr t =
    let d = and-too (state_ok lim pr t.state) (ltb t.last (length t.state.procs)) (state-to lim pr t.state, state-from lim pr t.state) (less t.last (length t.state.procs)) in
    (λ e. let f = d.0 e in record { state = f.0; marker = f.1 }, λ r. d.1 (r.state, r.marker))

-- THE LAW: the sizes of what is lent
pub sizes-exactly : (lim : Limits) (l : Lent) → (full_size lim l ≡ true) ↔ Sizes lim l
unfolding full_size
sizes-exactly lim l =
    let d = and-too (eqb (length l.head) head_size) _ (equal (length l.head) head_size)
    (and-too (eqb (length l.procs) (lim.procs * row_size)) (eqb (length l.vars) (lim.vars * cell_size)) (equal (length l.procs) (lim.procs * row_size)) (equal (length l.vars) (lim.vars * cell_size))) in
    (λ e. let f = d.0 e in record { head = f.0; procs = f.1.0; vars = f.1.1 }, λ z. d.1 (z.head, (z.procs, z.vars)))

-- THE LAW: lent bytes are no refusal 8 exactly where their sizes are right and they keep the table rules
pub lent-exactly : (lim : Limits) (pr : Program) (l : Lent) → (lent_ok lim pr l ≡ true) ↔ LentRuled lim pr l
unfolding lent_ok cell_known
lent-exactly lim pr l =
    let c = for-all (cell_known l.vars) (λ v. (sort_at l.vars v < 3) × (sort_at l.vars v ≡ 0 → number_at l.vars v ≡ 0)) (var_count l.head)
    (λ v h. and-too (ltb (sort_at l.vars v) 3) (implies (eqb (sort_at l.vars v) 0) (eqb (number_at l.vars v) 0)) (less (sort_at l.vars v) 3)
    (if-so (eqb (sort_at l.vars v) 0) (eqb (number_at l.vars v) 0) (equal (sort_at l.vars v) 0) (λ q. equal (number_at l.vars v) 0))) in
    let d = and-too (full_size lim l) _ (sizes-exactly lim l) (and-too (every (cell_known l.vars) (var_count l.head)) (tables_ok lim pr (tables_in l)) c (ruled-exactly lim pr (tables_in l))) in (
      λ e. let f = d.0 e in record { sizes = f.0; sorts = λ v h. (f.1.0 v h).0; unbound = λ v h. (f.1.0 v h).1; tables = f.1.1 },
      λ r. d.1 (r.sizes, (λ v h. (r.sorts v h, r.unbound v h), r.tables)),
    )
