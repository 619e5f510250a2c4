-- Children, the latest one, what they report, and what is below: the scans find what the relation says.
use Rattle.std.specs.Prelude.{Option, Some, None}
use mathlib.Core.Path.{◌∙◌, ◌≡◌, refl, sym}
use mathlib.Core.Logic.{◌≢◌}
use mathlib.Core.Bool.{◌||◌, Bool, cond, false, not, true}
use Prim.Native.Nat.{◌<◌, ◌≤◌, suc, zero, ℕ}
use lib.Dec.{eqb}
use lib.ListN.{length}
use borrow.Author.Tests.{eq-eqb, eqb-false, eqb-true, ne_eqb, not-true}
use native.Mathlib.Omega.{arith}
use Rattle.std.proofs.lemmas.Option.{none-some}
use Rattle.std.proofs.lemmas.Bool.{and_from, and_parts, false_from_ne_true, or_right}
use Rattle.parlog.proofs.Bools.{implies_true, never, split, true_implies}
use Rattle.parlog.proofs.Scans.{every-at, every-is, highest-at, highest-is, lowest-at, lowest-is, lowest-none, lowest-nothing, some_is, some-true}
use Rattle.parlog.specs.Codes.{failure, is_mode, is_result, is_tag, mode_code, reporting, Result, result_code, success, tag_code, try_clause}
use Rattle.parlog.specs.Notions.{above_parent, AllReport, Below, Child, deeper, Hears, is_parent, Latest, LowestReports, me, Nearest, next_below, Reports, SomeReports}
use Rattle.parlog.specs.Tables.{rank, State}
use Rattle.parlog.specs.Tree.{all_children, any_child, bad, below, child_done, child_reports, climb, enclosing, good, heard, heard_from, is_child, latest, lowest_child, reports, silent, try_above}

pub record Kin (s : State) : Type 0 where
  pub lower : (i : ℕ) → i < length s.procs → i ≢ 0 → rank s.procs (me s i).parent < rank s.procs i

module _ (s : State) (p : ℕ) where
  pub child-at : (i : ℕ) → i < length s.procs → is_child s.procs p i ≡ true → Child s p i
  unfolding is_child
  child-at i h e =
      let a = and_parts (not (eqb i 0)) (eqb (me s i).parent p) e in
      record { there = h; other = eqb-false i 0 (not-true (eqb i 0) a.0); parent = eqb-true (me s i).parent p a.1 }

  pub child-test : {i : ℕ} → Child s p i → is_child s.procs p i ≡ true
  unfolding is_child
  child-test {i} c = rw (ne_eqb i 0 c.other, eq-eqb (me s i).parent p c.parent)

pub reports-at : (s : State) (c : ℕ) (r : Result) → reports r (me s c) ≡ true → Reports s c r
unfolding reports
reports-at s c r e =
    let a = and_parts (is_mode reporting (me s c).mode) (is_result r (me s c).result) e in
    record { mode = eqb-true (me s c).mode (mode_code reporting) a.0; result = eqb-true (me s c).result (result_code r) a.1 }

pub reports-test : (s : State) (c : ℕ) (r : Result) → Reports s c r → reports r (me s c) ≡ true
unfolding reports
reports-test s c r q = rw (eq-eqb (me s c).mode (mode_code reporting) q.mode, eq-eqb (me s c).result (result_code r) q.result)

-- success and failure differ
pub not-both : (s : State) (c : ℕ) → Reports s c success → Reports s c failure → ⊥
not-both s c a b = let z = sym a.result ∙ b.result in omega arith

module _ (s : State) (p : ℕ) where
  -- ---- the latest child

  pub latest-at : (c : ℕ) → latest s.procs p ≡ Some c → Latest s p c
  unfolding latest
  latest-at c e =
      let r = highest-at (is_child s.procs p) (length s.procs) c e in
      record { child = child-at s p c r.there r.passes; none_higher = λ i d. r.tops i d.there (child-test s p d) }

  pub latest-is : {c : ℕ} → Latest s p c → latest s.procs p ≡ Some c
  unfolding latest
  latest-is {c} l =
      highest-is (is_child s.procs p) (length s.procs) c
      (record { there = l.child.there; passes = child-test s p l.child; tops = λ i h e. l.none_higher i (child-at s p i h e) })

  pub heard-good : (c : ℕ) → heard s.procs p ≡ good c → Hears s p c success
  unfolding heard heard_from
  heard-good c e = go (latest s.procs p) refl e
    where
      on : (d : ℕ) → Latest s p d → (a b : Bool) → reports success (me s d) ≡ a → reports failure (me s d) ≡ b → cond a (good d) (cond b (bad d) silent) ≡ good c → Hears s p c success
      on d l true b qa qb w = let z : d ≡ c = cc in rw (← z) (record { latest = l; reports = reports-at s d success qa })
      on d l false true qa qb w = let z : ◌≡◌ {A = ℕ} 0 1 = cc in absurd (omega arith)
      on d l false false qa qb w = let z : ◌≡◌ {A = ℕ} 0 1 = cc in absurd (omega arith)

      go : (f : Option ℕ) → latest s.procs p ≡ f → heard_from s.procs f ≡ good c → Hears s p c success
      go None q w = let z : ◌≡◌ {A = ℕ} 0 1 = cc in absurd (omega arith)
      go (Some d) q w = on d (latest-at d q) (reports success (me s d)) (reports failure (me s d)) refl refl w

  pub heard-bad : (c : ℕ) → heard s.procs p ≡ bad c → Hears s p c failure
  unfolding heard heard_from
  heard-bad c e = go (latest s.procs p) refl e
    where
      on : (d : ℕ) → Latest s p d → (a b : Bool) → reports success (me s d) ≡ a → reports failure (me s d) ≡ b → cond a (good d) (cond b (bad d) silent) ≡ bad c → Hears s p c failure
      on d l true b qa qb w = let z : ◌≡◌ {A = ℕ} 0 1 = cc in absurd (omega arith)
      on d l false true qa qb w = let z : d ≡ c = cc in rw (← z) (record { latest = l; reports = reports-at s d failure qb })
      on d l false false qa qb w = let z : ◌≡◌ {A = ℕ} 0 1 = cc in absurd (omega arith)

      go : (f : Option ℕ) → latest s.procs p ≡ f → heard_from s.procs f ≡ bad c → Hears s p c failure
      go None q w = let z : ◌≡◌ {A = ℕ} 0 1 = cc in absurd (omega arith)
      go (Some d) q w = on d (latest-at d q) (reports success (me s d)) (reports failure (me s d)) refl refl w

  pub hears-good : {c : ℕ} → Hears s p c success → heard s.procs p ≡ good c
  unfolding heard heard_from
  hears-good {c} h = rw (latest-is h.latest, reports-test s c success h.reports)

  pub hears-bad : {c : ℕ} → Hears s p c failure → heard s.procs p ≡ bad c
  unfolding heard heard_from
  hears-bad {c} h =
      rw (latest-is h.latest, false_from_ne_true (reports success (me s c)) (λ e. not-both s c (reports-at s c success e) h.reports), reports-test s c failure h.reports)

  -- ---- any child, all children, the lowest

  pub any_at : (r : Result) → any_child r s.procs p ≡ true → SomeReports s p r
  unfolding any_child child_reports
  any_at r e =
      let (c, h, q) = some-true (child_reports r s.procs p) (length s.procs) e in
      let a = and_parts (is_child s.procs p c) (reports r (me s c)) q in
      record { which = c; child = child-at s p c h a.0; reports = reports-at s c r a.1 }

  pub any-test : (r : Result) → SomeReports s p r → any_child r s.procs p ≡ true
  unfolding any_child child_reports
  any-test r q =
      some_is (child_reports r s.procs p) (length s.procs) q.which q.child.there
      (and_from (is_child s.procs p q.which) (reports r (me s q.which)) (child-test s p q.child) (reports-test s q.which r q.reports))

  pub any-not : (r : Result) → any_child r s.procs p ≡ false → SomeReports s p r → ⊥
  any-not r e q = never (sym e ∙ any-test r q)

  pub all-at : (r : Result) → all_children r s.procs p ≡ true → AllReport s p r
  unfolding all_children child_done
  all-at r e c d =
      reports-at s c r (implies_true (is_child s.procs p c) (reports r (me s c)) (every-at (child_done r s.procs p) (length s.procs) c e d.there) (child-test s p d))

  pub all-test : (r : Result) → AllReport s p r → all_children r s.procs p ≡ true
  unfolding all_children child_done
  all-test r q =
      every-is (child_done r s.procs p) (length s.procs)
      (λ i h. true_implies (is_child s.procs p i) (reports r (me s i)) (λ e. reports-test s i r (q i (child-at s p i h e))))

  -- all succeed: none fails
  pub all-not-any : AllReport s p success → any_child failure s.procs p ≡ false
  all-not-any q = false_from_ne_true (any_child failure s.procs p) (λ e. let a = any_at failure e in not-both s a.which (q a.which a.child) a.reports)

  -- all fail: none succeeds
  pub all-fail : AllReport s p failure → SomeReports s p success → ⊥
  all-fail q a = not-both s a.which a.reports (q a.which a.child)

  pub lowest-child-at : (r : Result) (c : ℕ) → lowest_child r s.procs p ≡ Some c → LowestReports s p c r
  unfolding lowest_child child_reports
  lowest-child-at r c e =
      let q = lowest-at (child_reports r s.procs p) (length s.procs) c e in
      let a = and_parts (is_child s.procs p c) (reports r (me s c)) q.passes in
      record {
        child = child-at s p c q.there a.0;
        reports = reports-at s c r a.1;
        none_lower = λ i d w. q.least i d.there (and_from (is_child s.procs p i) (reports r (me s i)) (child-test s p d) (reports-test s i r w));
      }

  pub lowest-child-is : (r : Result) {c : ℕ} → LowestReports s p c r → lowest_child r s.procs p ≡ Some c
  unfolding lowest_child child_reports
  lowest-child-is r {c} q =
      lowest-is (child_reports r s.procs p) (length s.procs) c
      (record {
        there = q.child.there;
        passes = and_from (is_child s.procs p c) (reports r (me s c)) (child-test s p q.child) (reports-test s c r q.reports);
        least = λ i h e. let a = and_parts (is_child s.procs p i) (reports r (me s i)) e in q.none_lower i (child-at s p i h a.0) (reports-at s i r a.1);
      })

  pub lowest-child-none : (r : Result) → lowest_child r s.procs p ≡ None → SomeReports s p r → ⊥
  unfolding lowest_child child_reports
  lowest-child-none r e q =
      never (sym (lowest-none (child_reports r s.procs p) (length s.procs) q.which e q.child.there)
      ∙ and_from (is_child s.procs p q.which) (reports r (me s q.which)) (child-test s p q.child) (reports-test s q.which r q.reports))

  pub no-lowest-child : (r : Result) → (SomeReports s p r → ⊥) → lowest_child r s.procs p ≡ None
  unfolding lowest_child child_reports
  no-lowest-child r n =
      lowest-nothing (child_reports r s.procs p) (length s.procs)
      (λ i h. false_from_ne_true (child_reports r s.procs p i) (λ e.
      let a = and_parts (is_child s.procs p i) (reports r (me s i)) e in n (record { which = i; child = child-at s p i h a.0; reports = reports-at s i r a.1 })))

  -- ---- below

  climb-below : Kin s → (n i : ℕ) → i < length s.procs → climb n s.procs p i ≡ true → Below s p i
  unfolding climb
  climb-below k zero i h e = never e
  climb-below k (suc n) i h e =
      let a = and_parts (not (eqb i 0)) (eqb (me s i).parent p || climb n s.procs p (me s i).parent) e in
      let o : i ≢ 0 = eqb-false i 0 (not-true (eqb i 0) a.0) in
      split (eqb (me s i).parent p)
      (λ q. next_below (record { there = h; other = o; parent = eqb-true (me s i).parent p q }))
      (λ q. deeper (climb-below k n (me s i).parent (omega (arith, k.lower i h o)) (rw q at a.1)) (record { there = h; other = o; parent = refl }))

  pub below_at : Kin s → (i : ℕ) → i < length s.procs → below s.procs p i ≡ true → Below s p i
  unfolding below
  below_at k i h e = climb-below k (length s.procs) i h e

  below-climb : Kin s → (n : ℕ) {i : ℕ} → Below s p i → i ≤ n → climb n s.procs p i ≡ true
  unfolding climb
  below-climb k zero {i} (next_below c) h = absurd (c.other (omega arith))
  below-climb k (suc n) {i} (next_below c) h = rw (ne_eqb i 0 c.other, eq-eqb (me s i).parent p c.parent)
  below-climb k zero {i} (deeper b c) h = absurd (c.other (omega arith))
  below-climb k (suc n) {i} (deeper {c = j} b c) h =
      rw (ne_eqb i 0 c.other)
      (or_right (eqb (me s i).parent p) (climb n s.procs p (me s i).parent)
      (rw c.parent (below-climb k n b (let w = k.lower i c.there c.other in let z = c.parent in omega arith))))

  pub below-test : Kin s → (i : ℕ) → i < length s.procs → Below s p i → below s.procs p i ≡ true
  unfolding below
  below-test k i h b = below-climb k (length s.procs) b (omega arith)

-- ---- the nearest try-clause above

module _ (s : State) (k : Kin s) where
  near-from : (n i c : ℕ) → i < length s.procs → i ≢ 0 → (b : Bool) → is_tag try_clause (me s (me s i).parent).tag ≡ b
      → (try_above n s.procs (me s i).parent ≡ Some c → Nearest s (me s i).parent c) → cond b (Some (me s i).parent) (try_above n s.procs (me s i).parent) ≡ Some c → Nearest s i c
  near-from n i c h o true q back e =
      let z : (me s i).parent ≡ c = cc in
      rw (← z) (is_parent (record { there = h; other = o; parent = refl }) (eqb-true (me s (me s i).parent).tag (tag_code try_clause) q))
  near-from n i c h o false q back e = above_parent (record { there = h; other = o; parent = refl }) (eqb-false (me s (me s i).parent).tag (tag_code try_clause) q) (back e)

  near_by : (n i c : ℕ) → i < length s.procs → try_above n s.procs i ≡ Some c → Nearest s i c
  unfolding try_above
  near_by zero i c h e = absurd (none-some _ e)
  near_by (suc n) i c h e = split (eqb i 0)
      (λ q. absurd (none-some _ (rw q at e)))
      (λ q. let o : i ≢ 0 = eqb-false i 0 q in
      near-from n i c h o (is_tag try_clause (me s (me s i).parent).tag) refl (near_by n (me s i).parent c (omega (arith, k.lower i h o))) (rw q at e))

  pub nearest-at : (i c : ℕ) → i < length s.procs → enclosing s.procs i ≡ Some c → Nearest s i c
  unfolding enclosing
  nearest-at i c h e = near_by (length s.procs) i c h e

  near-is : (n : ℕ) {i c : ℕ} → Nearest s i c → i ≤ n → try_above n s.procs i ≡ Some c
  unfolding try_above
  near-is zero {i} (is_parent c t) h = absurd (c.other (omega arith))
  near-is (suc n) {i} (is_parent c t) h = rw (ne_eqb i 0 c.other, c.parent, t)
  near-is zero {i} (above_parent c t r) h = absurd (c.other (omega arith))
  near-is (suc n) {i} (above_parent {q = j} c t r) h =
      rw (ne_eqb i 0 c.other, c.parent, ne_eqb (me s j).tag (tag_code try_clause) t)
      (near-is n r (let w = k.lower i c.there c.other in let z = c.parent in omega arith))

  pub nearest-is : {i c : ℕ} → i < length s.procs → Nearest s i c → enclosing s.procs i ≡ Some c
  unfolding enclosing
  nearest-is h r = near-is (length s.procs) r (omega arith)
