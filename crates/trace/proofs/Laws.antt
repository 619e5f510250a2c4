-- Stamps that follow, records that fail a test, and the loops over a trace.
use Rattle.parlog.specs.Answer.{Answer}
use Rattle.std.specs.Prelude.{cond, is_some, Option, Some, None, Err, Ok}
use Rattle.std.proofs.Common.{◌≡◌, ℕ, zero, suc, ◌+◌, ◌-◌, ◌*◌, ◌%◌, ◌<◌, ◌≤◌, Bool, true, false, not, eqb, ltb, ◌≢◌, List, length, sym, refl, ◌∙◌, arith, ltb-false, ltb-true, eq-eqb, ne_eqb, eqb-true}
use borrow.Author.Tests.{eqb-false}
use Rattle.parlog.proofs.Bools.{never, split}
use Rattle.parlog.proofs.Scans.{Lowest, lowest-at, lowest-is, lowest-nothing}
use Rattle.parlog.proofs.Walk.{whole}
use Rattle.parlog.specs.Records.{cut, kind_at, word_at}
use Rattle.parlog.specs.declared.Refusal.{Refusal}
use Rattle.trace.specs.declared.Kind.{Kind}
use Rattle.trace.specs.declared.Kind.TheVariants.{Step, Supply}
use Rattle.trace.specs.Kinds.{kind_of, kind_or_supply}
use Rattle.trace.specs.Trace.{fail_if, FaultsSay, fault_tested, faulty, first_fault, first_gap, gap_at, is_gap, known_kind, record_fault, step_kind, supply_kind, records_in, stamp_at, TestedSays, trace_size, trace_tested}

-- ---- stamps

-- THE LAW: by how much a stamp is behind another is 1 exactly where it follows that one
pub gap-exact : (before stamp r : ℕ) → before < 65536 → stamp < 65536 → r < 65536 → (r + before) % 65536 ≡ stamp → not (eqb r 1) ≡ is_gap before stamp
gap-exact before stamp r hb hs hr e = split (eqb r 1)
    (λ q. let one : r ≡ 1 = eqb-true r 1 q in rw (q, eq-eqb stamp ((before + 1) % 65536) (omega arith)))
    (λ q. let other : r ≢ 1 = eqb-false r 1 q in rw (q, ne_eqb stamp ((before + 1) % 65536) (λ z. other (omega arith))))

-- ---- a record

-- a number is of a kind exactly where it is known
kind-known : (n : ℕ) → is_some (kind_of n) ≡ known_kind n
kind-known n = split (eqb n step_kind) (λ a. rw a) (λ a. split (eqb n supply_kind) (λ b. rw (a, b)) (λ b. rw (a, b)))

pub known-as : (n : ℕ) {w : ℕ} {k : Option Kind} {q b : Bool} → w ≡ n → k ≡ kind_of w → is_some k ≡ not q → q ≡ b → known_kind n ≡ not b
known-as n ew ek e t = sym (kind-known n) ∙ rw (ek, ew, t) at e

module _ (n : ℕ) {w : ℕ} (ew : w ≡ n) where
  pub kind-some : {k : Kind} → Some k ≡ kind_of w → k ≡ kind_or_supply n
  kind-some {k} e = go (eqb n step_kind) (eqb n supply_kind) (rw ew at e)
    where
      go : (a b : Bool) → Some k ≡ cond a (Some Step) (cond b (Some Supply) None) → k ≡ cond a Step Supply
      go true b z = cc
      go false true z = cc
      go false false z = let y : ◌≡◌ {A = ℕ} 0 1 = cc in absurd (omega arith)

  pub kind-none : None ≡ kind_of w → Supply ≡ kind_or_supply n
  kind-none e = go (eqb n step_kind) (eqb n supply_kind) (rw ew at e)
    where
      go : (a b : Bool) → None ≡ cond a (Some Step) (cond b (Some Supply) None) → Supply ≡ cond a Step Supply
      go true b z = let y : ◌≡◌ {A = ℕ} 0 1 = cc in absurd (omega arith)
      go false b z = refl

module _ (n : ℕ) {k : Kind} (ek : k ≡ kind_or_supply n) where
  pub kind-step : k ≡ Step → eqb n step_kind ≡ true
  kind-step e = split (eqb n step_kind) (λ a. a) (λ a.
      let z : k ≡ Supply = rw a at ek in
      let y : ◌≡◌ {A = ℕ} 0 1 = cc in absurd (omega arith))

  pub kind-supply : k ≡ Supply → eqb n step_kind ≡ false
  kind-supply e = split (eqb n step_kind) (λ a.
      let z : k ≡ Step = rw a at ek in
      let y : ◌≡◌ {A = ℕ} 0 1 = cc in absurd (omega arith)) (λ a. a)

module _ (s : List ℕ) (at : ℕ) where
  pub fault-cut : cut s at ≡ true → 2 ≡ record_fault s at
  unfolding record_fault
  fault-cut e = rw e

  module _ (e : cut s at ≡ false) where
    pub fault-kind : known_kind (kind_at s at) ≡ false → 3 ≡ record_fault s at
    unfolding record_fault
    fault-kind k = rw (e, k)

    module _ (k : known_kind (kind_at s at) ≡ true) where
      pub fault-body : word_at s at ≢ trace_size → 4 ≡ record_fault s at
      unfolding record_fault
      fault-body h = rw (e, k, ne_eqb (word_at s at) trace_size h)

      pub fault-none : word_at s at ≡ trace_size → 0 ≡ record_fault s at
      unfolding record_fault
      fault-none h = rw (e, k, eq-eqb (word_at s at) trace_size h)

  -- a record that fails no test is whole, of a known kind and of the right length
  pub record Right : Type 0 where
    pub uncut : cut s at ≡ false
    pub kind : known_kind (kind_at s at) ≡ true
    pub size : word_at s at ≡ trace_size
    pub inside : at + trace_size ≤ length s

  pub right_of : record_fault s at ≡ 0 → Right
  unfolding record_fault
  right_of = by (cut s at) refl (known_kind (kind_at s at)) refl (eqb (word_at s at) trace_size) refl
    where
      by : (a : Bool) → cut s at ≡ a → (b : Bool) → known_kind (kind_at s at) ≡ b → (c : Bool) → eqb (word_at s at) trace_size ≡ c → fail_if a 2 (fail_if (not b) 3 (fail_if (not c) 4 0)) ≡ 0 → Right
      by true ea b eb c ec z = absurd (omega arith)
      by false ea false eb c ec z = absurd (omega arith)
      by false ea true eb false ec z = absurd (omega arith)
      by false ea true eb true ec z =
          let w : word_at s at ≡ trace_size = eqb-true (word_at s at) trace_size ec in
          record { uncut = ea; kind = eb; size = w; inside = omega (arith, (whole s at ea).1) }

-- ---- the loop over records

-- the first k records fail no test
abbrev pub Clean : List ℕ → ℕ → Type 0
Clean s k = (i : ℕ) → i < k → faulty s i ≡ false

more-below : (t : ℕ → Bool) (k : ℕ) → ((i : ℕ) → i < k → t i ≡ false) → t k ≡ false → (i : ℕ) → i < k + 1 → t i ≡ false
more-below t k all e i h = split (eqb i k) (λ q. rw (eqb-true i k q) e) (λ q. let d = eqb-false i k q in all i (omega (arith, d)))

module _ (s : List ℕ) (k : ℕ) (clean : Clean s k) where
  module _ (here : k * trace_size < length s) {f : ℕ} (ef : f ≡ record_fault s (k * trace_size)) where
    fault-is : record_fault s (k * trace_size) ≡ f
    fault-is = sym ef

    pub faults-found : f ≢ 0 → FaultsSay s (Err (record { number = f; offset = k * trace_size }))
    unfolding first_fault
    faults-found h =
        let p : faulty s k ≡ true = rw (fault-is, ne_eqb f 0 h) in
        let first : Lowest (faulty s) (records_in s) k = record { there = omega arith; passes = p; least = λ i u q. later i q } in
        record { tests = rw (lowest-is (faulty s) (records_in s) k first, fault-is); fills = tt }
      where
        later : (i : ℕ) → faulty s i ≡ true → k ≤ i
        later i q = split (ltb i k) (λ z. never (sym (clean i (ltb-true i k z)) ∙ q)) (λ z. ltb-false i k z)

    pub faults-next : f ≡ 0 → ((k + 1) * trace_size ≤ length s) × Clean s (k + 1)
    faults-next z = (omega (arith, (right_of s (k * trace_size) (sym ef ∙ z)).inside), more-below (faulty s) k clean (rw (fault-is, eq-eqb f 0 z)))

  pub faults-done : (n : ℕ) → n ≡ k → k * trace_size ≤ length s → length s ≤ k * trace_size → FaultsSay s (Ok n)
  unfolding first_fault
  faults-done n e a b =
      let m : records_in s ≡ k = omega arith in
      record { tests = rw (e, lowest-nothing (faulty s) (records_in s) (λ i h. clean i (omega arith)), m); fills = omega arith }

-- ---- the loop over stamps

abbrev pub Steady : List ℕ → ℕ → Type 0
Steady s k = (i : ℕ) → i < k → gap_at s i ≡ false

gap_at_lem : (s : List ℕ) (k : ℕ) → 1 ≤ k → gap_at s k ≡ is_gap (stamp_at s ((k - 1) * trace_size)) (stamp_at s (k * trace_size))
gap_at_lem s zero h = absurd (omega arith)
gap_at_lem s (suc k) h = let e : suc k - 1 ≡ k = omega arith in rw e

module _ (s : List ℕ) (n k : ℕ) (steady : Steady s k) (some : 1 ≤ k) where
  module _ {a b : ℕ} (ea : a ≡ stamp_at s ((k - 1) * trace_size)) (eb : b ≡ stamp_at s (k * trace_size)) {g : Bool} (eg : g ≡ is_gap a b) where
    gap_is : gap_at s k ≡ g
    gap_is = gap_at_lem s k some ∙ rw (eg, ea, eb)

    pub gap-found : k < n → g ≡ true → Some k ≡ first_gap s n
    unfolding first_gap
    gap-found h z = sym (lowest-is (gap_at s) n k (record { there = h; passes = gap_is ∙ z; least = λ i u q. later i q }))
      where
        later : (i : ℕ) → gap_at s i ≡ true → k ≤ i
        later i q = split (ltb i k) (λ y. never (sym (steady i (ltb-true i k y)) ∙ q)) (λ y. ltb-false i k y)

  pub gap-none : n ≤ k → None ≡ first_gap s n
  unfolding first_gap
  gap-none h = sym (lowest-nothing (gap_at s) n (λ i u. steady i (omega arith)))

-- a record with a gap before it is one of them
pub gap_below : (s : List ℕ) (n : ℕ) {g : Option ℕ} {k : ℕ} → g ≡ first_gap s n → g ≡ Some k → k < n
unfolding first_gap
gap_below s n {k = k} eg e = (lowest-at (gap_at s) n k (sym eg ∙ e)).there

-- ---- all tests

module _ (s : List ℕ) {f : Answer ℕ} (says : FaultsSay s f) where
  pub tested-faulty : {r : Refusal} → f ≡ Err r → TestedSays s f
  tested-faulty {r} q = record { tests = go (first_fault s) refl says.tests; fills = says.fills }
    where
      go : (x : Option ℕ) → first_fault s ≡ x → f ≡ fault_tested x s → f ≡ trace_tested s
      go (Some k) e h = unfold trace_tested in (rw e h)
      go None e h = cc

  records_is : {n : ℕ} → f ≡ Ok n → (first_fault s ≡ None) × (records_in s ≡ n)
  records_is {n} q = go (first_fault s) refl says.tests
    where
      go : (x : Option ℕ) → first_fault s ≡ x → f ≡ fault_tested x s → (first_fault s ≡ None) × (records_in s ≡ n)
      go (Some k) e h = (cc, cc)
      go None e h = (e, let z : ◌≡◌ {A = Answer ℕ} (Ok (records_in s)) (Ok n) = cc in cc)

  -- the records fill the bytes
  pub faults-fill : {n : ℕ} → f ≡ Ok n → n * trace_size ≡ length s
  faults-fill q = rw q at says.fills

  module _ {n : ℕ} (q : f ≡ Ok n) {g : Option ℕ} (eg : g ≡ first_gap s n) where
    pub tested-gap : {k : ℕ} → g ≡ Some k → TestedSays s (Err (record { number = 19; offset = k * trace_size }))
    unfolding trace_tested
    tested-gap e = let a = records_is q in record { tests = rw (a.0, a.1, sym eg ∙ e); fills = tt }

    pub tested-none : g ≡ None → TestedSays s (Ok n)
    unfolding trace_tested
    tested-none e = let a = records_is q in record { tests = rw (a.0, a.1, sym eg ∙ e, a.1); fills = faults-fill q }
