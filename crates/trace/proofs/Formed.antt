-- A trace passes its tests exactly where its records are right and its stamps follow, and fails one exactly where a record is wrong.
use Rattle.parlog.specs.Answer.{Answer}
use Rattle.std.specs.Prelude.{Option, Some, None, Err, Ok}
use Rattle.std.proofs.Common.{◌≡◌, ℕ, zero, suc, ◌*◌, ◌<◌, ◌≤◌, Bool, true, false, not, eqb, ltb, ◌≢◌, List, length, sym, refl, ◌∙◌, arith, ltb-false, ltb-true, eq-eqb, ne_eqb, eqb-true}
use borrow.Author.Tests.{eqb-false, not-false}
use Rattle.parlog.proofs.Bools.{never, split}
use Rattle.parlog.proofs.Scans.{Lowest, lowest-at, lowest-is, lowest-none, lowest-nothing}
use Rattle.parlog.specs.Load.{refusal}
use Rattle.parlog.specs.Records.{cut, kind_at, word_at}
use Rattle.parlog.specs.declared.Refusal.{Refusal}
use Rattle.saved.proofs.Formed.{whole-exactly, whole-uncut}
use Rattle.trace.proofs.Laws.{fault-body, fault-cut, fault-kind, fault-none, right_of}
use Rattle.trace.specs.Formed.{BadTrace, Filled, Follows, KnownKind, of_step, of_supply, RightRecord, RightTo, RightTrace, trace_body, trace_cut, trace_gap, trace_kind}
use Rattle.trace.specs.Trace.{fail_if, faulty, first_fault, first_gap, following, gap_at, known_kind, record_fault, records_in, stamp_at, step_kind, supply_kind, tested_fault, tested_gap, trace_size, trace_tested}

module _ (k : ℕ) where
  known_is : known_kind k ≡ true → KnownKind k
  known_is e = split (eqb k step_kind) (λ a. of_step (eqb-true k step_kind a)) (λ a. of_supply (eqb-true k supply_kind (rw a at e)))

  is_known : KnownKind k → known_kind k ≡ true
  is_known (of_step e) = rw (eq-eqb k step_kind e)
  is_known (of_supply e) = rw e

module _ (x : List ℕ) (at : ℕ) where
  clean-right : record_fault x at ≡ 0 → RightRecord x at
  clean-right z = let r = right_of x at z in record { whole = whole-exactly x at r.uncut; kind = known_is (kind_at x at) r.kind; size = r.size }

  right-clean : RightRecord x at → record_fault x at ≡ 0
  right-clean r = sym (fault-none x at (whole-uncut x at r.whole) (is_known (kind_at x at) r.kind) r.size)

module _ (x : List ℕ) where
  right-not : (i : ℕ) → RightRecord x (i * trace_size) → faulty x i ≡ false
  right-not i r = rw (right-clean x (i * trace_size) r)

  not_right : (i : ℕ) → faulty x i ≡ false → RightRecord x (i * trace_size)
  not_right i e = clean-right x (i * trace_size) (eqb-true (record_fault x (i * trace_size)) 0 (not-false (eqb (record_fault x (i * trace_size)) 0) e))

  -- ---- from the facts to the tests

  first-is : (k f : ℕ) → RightTo x k → k * trace_size < length x → f ≡ record_fault x (k * trace_size) → f ≢ 0 → trace_tested x ≡ Err (refusal f (k * trace_size))
  unfolding trace_tested first_fault
  first-is k f rights h e z =
      let bad : faulty x k ≡ true = rw (← e, ne_eqb f 0 z) in
      let first : Lowest (faulty x) (records_in x) k = record { there = omega arith; passes = bad; least = λ i u q. later i q } in
      rw (lowest-is (faulty x) (records_in x) k first, ← e)
    where
      later : (i : ℕ) → faulty x i ≡ true → k ≤ i
      later i q = split (ltb i k) (λ a. never (sym (right-not i (rights i (ltb-true i k a))) ∙ q)) (λ a. ltb-false i k a)

  module _ (n : ℕ) (filled : Filled x n) where
    counted : records_in x ≡ n
    counted = let s = filled.size in omega arith

    none-wrong : first_fault x ≡ None
    unfolding first_fault
    none-wrong = lowest-nothing (faulty x) (records_in x) (λ i h. right-not i (filled.each i (omega (arith, counted))))

    tested-is : trace_tested x ≡ tested_gap (first_gap x n) x
    unfolding trace_tested
    tested-is = rw (none-wrong, counted)

    follows-not : (i : ℕ) → Follows x i → gap_at x (suc i) ≡ false
    follows-not i e = rw (eq-eqb (stamp_at x (suc i * trace_size)) (following (stamp_at x (i * trace_size))) e)

    gap-at-is : (k : ℕ) → suc k < n → ((i : ℕ) → i < k → Follows x i) → (Follows x k → ⊥) → first_gap x n ≡ Some (suc k)
    unfolding first_gap
    gap-at-is k h before z =
        lowest-is (gap_at x) n (suc k) (record { there = h; passes = rw (ne_eqb (stamp_at x (suc k * trace_size)) (following (stamp_at x (k * trace_size))) z); least = λ i u q. later i q })
      where
        later : (i : ℕ) → gap_at x i ≡ true → suc k ≤ i
        later zero q = never q
        later (suc i) q = split (ltb i k) (λ a. never (sym (follows-not i (before i (ltb-true i k a))) ∙ q)) (λ a. let b = ltb-false i k a in omega arith)

    no_gap : ((i : ℕ) → suc i < n → Follows x i) → first_gap x n ≡ None
    unfolding first_gap
    no_gap all = lowest-nothing (gap_at x) n each
      where
        each : (i : ℕ) → i < n → gap_at x i ≡ false
        each zero h = refl
        each (suc i) h = follows-not i (all i h)

  -- THE LAW: a wrong record is refused
  pub bad-tested : {n o : ℕ} → BadTrace x n o → trace_tested x ≡ Err (refusal n o)
  bad-tested (trace_cut {k} b h w) = first-is k 2 b h (fault-cut x (k * trace_size) (split (cut x (k * trace_size)) (λ e. e) (λ e. absurd (w (whole-exactly x (k * trace_size) e))))) (λ z. omega arith)
  bad-tested (trace_kind {k} b h w n) =
      let at : ℕ = k * trace_size in
      first-is k 3 b h (fault-kind x at (whole-uncut x at w) (split (known_kind (kind_at x at)) (λ e. absurd (n (known_is (kind_at x at) e))) (λ e. e))) (λ z. omega arith)
  bad-tested (trace_body {k} b h w q n) = let at : ℕ = k * trace_size in first-is k 4 b h (fault-body x at (whole-uncut x at w) (is_known (kind_at x at) q) n) (λ z. omega arith)
  bad-tested (trace_gap {n} {k} f h b z) = tested-is n f ∙ rw (gap-at-is n f k h b z)

  -- THE LAW: a right trace is taken
  pub right-tested : {n : ℕ} → RightTrace x n → trace_tested x ≡ Ok n
  right-tested {n} r = tested-is n r.filled ∙ rw (no_gap n r.filled r.follow, counted n r.filled)

  -- ---- from the tests to the facts

  abbrev Told : Answer ℕ → Type 0
  Told (Ok n) = RightTrace x n
  Told (Err f) = BadTrace x f.number f.offset

  first-told : (k : ℕ) → first_fault x ≡ Some k → BadTrace x (record_fault x (k * trace_size)) (k * trace_size)
  unfolding first_fault record_fault
  first-told k e = by (cut x (k * trace_size)) refl (known_kind (kind_at x (k * trace_size))) refl (eqb (word_at x (k * trace_size)) trace_size) refl first.passes
    where
      first : Lowest (faulty x) (records_in x) k
      first = lowest-at (faulty x) (records_in x) k e

      rights : RightTo x k
      rights i h = not_right i (split (faulty x i) (λ a. let z = first.least i (let t = first.there in omega arith) a in absurd (omega arith)) (λ a. a))

      here : k * trace_size < length x
      here = let t = first.there in omega arith

      by : (a : Bool) → cut x (k * trace_size) ≡ a → (b : Bool) → known_kind (kind_at x (k * trace_size)) ≡ b → (c : Bool) → eqb (word_at x (k * trace_size)) trace_size ≡ c
          → not (eqb (fail_if a 2 (fail_if (not b) 3 (fail_if (not c) 4 0))) 0) ≡ true → BadTrace x (fail_if a 2 (fail_if (not b) 3 (fail_if (not c) 4 0))) (k * trace_size)
      by true ea b eb c ec z = trace_cut rights here (λ w. never (sym (whole-uncut x (k * trace_size) w) ∙ ea))
      by false ea false eb c ec z = trace_kind rights here (whole-exactly x (k * trace_size) ea) (λ q. never (sym eb ∙ is_known (kind_at x (k * trace_size)) q))
      by false ea true eb false ec z =
          trace_body rights here (whole-exactly x (k * trace_size) ea) (known_is (kind_at x (k * trace_size)) eb) (eqb-false (word_at x (k * trace_size)) trace_size ec)
      by false ea true eb true ec z = never z

  all_right : first_fault x ≡ None → Filled x (records_in x)
  unfolding first_fault
  all_right e = record { size = fills (records_in x) refl; each = each }
    where
      each : RightTo x (records_in x)
      each i h = not_right i (lowest-none (faulty x) (records_in x) i e h)

      fills : (n : ℕ) → records_in x ≡ n → length x ≡ n * trace_size
      fills zero q = omega arith
      fills (suc n) q = let r = each n (omega arith) in let a = r.whole.inside in let b = r.size in omega arith

  gap-told : (filled : Filled x (records_in x)) → Told (tested_gap (first_gap x (records_in x)) x)
  gap-told filled = go (first_gap x (records_in x)) refl
    where
      here : (i : ℕ) → gap_at x (suc i) ≡ false → Follows x i
      here i e =
          let b = not-false (eqb (stamp_at x (suc i * trace_size)) (following (stamp_at x (i * trace_size)))) e in
          eqb-true (stamp_at x (suc i * trace_size)) (following (stamp_at x (i * trace_size))) b

      at : (k : ℕ) → Lowest (gap_at x) (records_in x) k → BadTrace x 19 (k * trace_size)
      at zero f = never f.passes
      at (suc k) f =
          trace_gap filled f.there
          (λ i h. here i (split (gap_at x (suc i)) (λ a. let t = f.there in let z = f.least (suc i) (omega arith) a in absurd (omega arith)) (λ a. a)))
          (λ q. never (sym (follows-not (records_in x) filled k q) ∙ f.passes))

      go : (g : Option ℕ) → first_gap x (records_in x) ≡ g → Told (tested_gap g x)
      go (Some k) e = at k (lowest-at (gap_at x) (records_in x) k (unfold first_gap in e))
      go None e = record { filled = filled; follow = λ i h. here i (lowest-none (gap_at x) (records_in x) (suc i) (unfold first_gap in e) h) }

  told : Told (trace_tested x)
  unfolding trace_tested
  told = go (first_fault x) refl
    where
      go : (f : Option ℕ) → first_fault x ≡ f → Told (tested_fault f x)
      go (Some k) e = first-told k e
      go None e = gap-told (all_right e)

  pub tested-right : {n : ℕ} → trace_tested x ≡ Ok n → RightTrace x n
  tested-right e = rw e at told

  pub tested-bad : {f : Refusal} → trace_tested x ≡ Err f → BadTrace x f.number f.offset
  tested-bad e = rw e at told
