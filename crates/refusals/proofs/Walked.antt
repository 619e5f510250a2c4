-- From record to record: behind a right record the load knows what the records up to it say, and goes on; at a wrong one it stops.
use Rattle.std.specs.Prelude.{Ok}
use mathlib.Core.Path.{◌∙◌, ◌≡◌, ap, refl, subst, sym}
use mathlib.Core.Logic.{◌≢◌}
use mathlib.Core.Bool.{false, true}
use mathlib.Core.List.{List}
use Prim.Native.Nat.{◌+◌, ◌<◌, ◌≤◌, suc, zero, ℕ}
use lib.ListN.{length}
use borrow.Author.Tests.{eq-eqb, ne_eqb, not-true}
use native.Mathlib.Omega.{arith}
use native.Mathlib.Numerals.{add-one}
use Rattle.load.proofs.Turn.{goes}
use Rattle.load.specs.Fields.{record_verdict}
use Rattle.parlog.proofs.Along.{along-snoc}
use Rattle.parlog.proofs.Scans.{below_suc}
use Rattle.parlog.specs.Body.{body_right}
use Rattle.parlog.specs.Load.{block_full, block_with, kind_fault, nothing_read, progressed, records, too_many, verdict}
use Rattle.parlog.specs.Names.{names_right}
use Rattle.parlog.specs.Records.{cut, record_at, record_end}
use Rattle.parlog.specs.Scan.{along, tally}
use Rattle.parlog.specs.declared.Progress.{Progress}
use Rattle.refusals.proofs.Before.{at-most-nine, Before, block-right, few-right, goes-up, kind-right, names-right, numbered, whole-record}
use Rattle.refusals.proofs.Fields.{body-fits}
use Rattle.refusals.proofs.Tests.{refutes}
use Rattle.refusals.specs.Right.{BodyFits, Few, how_many, InBlockAs, KindRight, mark_in, NamesFit, record_kind, relation_in, RightRecord, Whole}

module _ (s : List ℕ) where
  pub next_place : (k : ℕ) → record_at s (suc k) ≡ record_end s (record_at s k)
  next_place k = along-snoc (record_end s) k 0

  -- one more of its own kind, none more of another
  one_more : (q k : ℕ) → record_kind s k ≡ q → how_many s q (suc k) ≡ how_many s q k + 1
  unfolding tally
  one_more q k e = rw (eq-eqb (record_kind s k) q e, add-one)

  no_more : (q k : ℕ) → record_kind s k ≢ q → how_many s q (suc k) ≡ how_many s q k
  unfolding tally
  no_more q k e = rw (ne_eqb (record_kind s k) q e)

  pub nothing-before : Before s 0 nothing_read
  unfolding tally
  nothing-before = record {
    relations = refl;
    clauses = refl;
    few = omega arith;
    small = omega arith;
    kind = λ j e. absurd (omega arith);
    none = λ e. refl;
    highest = λ j h. absurd (omega arith);
    seen = λ j h. absurd (omega arith);
    late = λ h. absurd (omega arith);
    fresh = λ e. refl;
    last = λ j e. absurd (omega arith);
  }

  module _ (k : ℕ) (g : Progress) (B : Before s k g) (R : RightRecord s k) where
    own-kind : (j : ℕ) → suc j ≡ suc k → record_kind s k ≡ record_kind s j
    own-kind j e = let z : k ≡ j = omega arith in ap (record_kind s) z

    -- kinds go up
    up_to : (j : ℕ) → j < suc k → record_kind s j ≤ record_kind s k
    up_to j h = below_suc j k h (λ e. let z = ap (record_kind s) e in omega arith) (λ l. let a = B.highest j l in let b = (goes-up s k g B R.kind).0 in omega arith)

    before-relation : record_kind s k ≡ 1 → Before s (suc k) (record { relations = g.relations + 1; clauses = g.clauses; kind = record_kind s k; relation = g.relation; block = g.block })
    before-relation q =
        let few = R.few.relations q in
        let same = B.relations in
        let more = one_more 1 k q in
        let up = (goes-up s k g B R.kind).0 in
        record {
          relations = omega arith;
          clauses = B.clauses ∙ sym (no_more 2 k (λ x. omega arith));
          few = omega arith;
          small = B.small;
          kind = own-kind;
          none = λ e. absurd (omega arith);
          highest = up_to;
          seen = λ j h z. below_suc j k h (λ e. let y = ap (record_kind s) e in absurd (omega arith)) (λ l. B.seen j l z);
          late = λ h. let l = B.late h in absurd (omega arith);
          fresh = B.fresh;
          last = λ j e z. let y = own-kind j e in absurd (omega arith);
        }

    before-clause : record_kind s k ≡ 2 → Before s (suc k) (record { relations = g.relations; clauses = g.clauses + 1; kind = record_kind s k; relation = relation_in s k; block = block_with g (relation_in s k) (mark_in s k) })
    before-clause q =
        let same = B.clauses in
        let more = one_more 2 k q in
        let in_block = numbered s k g B R.kind q in
        let nine = at-most-nine s k g B R.kind q in
        let eight : block_with g (relation_in s k) (mark_in s k) ≢ 9 = λ e. R.block (subst (λ x. InBlockAs s k x) (omega arith) in_block) in
        let order = (R.names.clause q).order in
        record {
          relations = B.relations ∙ sym (no_more 1 k (λ x. omega arith));
          clauses = omega arith;
          few = B.few;
          small = omega arith;
          kind = own-kind;
          none = λ e. absurd (omega arith);
          highest = up_to;
          seen = λ j h z. (omega arith, below_suc j k h (λ e. let y = ap (relation_in s) e in omega arith) (λ l. order j l z));
          late = λ h. omega arith;
          fresh = λ e. absurd (omega arith);
          last = λ j e z. let y : k ≡ j = omega arith in (ap (relation_in s) y, subst (λ x. InBlockAs s x (block_with g (relation_in s k) (mark_in s k))) y in_block);
        }

    before-end : record_kind s k ≡ 3 → Before s (suc k) (record { relations = g.relations; clauses = g.clauses; kind = record_kind s k; relation = g.relation; block = g.block })
    before-end q = record {
      relations = B.relations ∙ sym (no_more 1 k (λ x. omega arith));
      clauses = B.clauses ∙ sym (no_more 2 k (λ x. omega arith));
      few = B.few;
      small = B.small;
      kind = own-kind;
      none = λ e. absurd (omega arith);
      highest = up_to;
      seen = λ j h z. below_suc j k h (λ e. let y = ap (record_kind s) e in absurd (omega arith)) (λ l. B.seen j l z);
      late = λ h. omega arith;
      fresh = B.fresh;
      last = λ j e z. let y = own-kind j e in absurd (omega arith);
    }

    -- THE LAW: what is known behind a right record
    pub before_next : Before s (suc k) (progressed s g (record_at s k) (record_kind s k))
    unfolding progressed
    before_next = go (record_kind s k) refl R.kind.least R.kind.most
      where
        go : (q : ℕ) → record_kind s k ≡ q → 1 ≤ q → q ≤ 3 → Before s (suc k) (progressed s g (record_at s k) (record_kind s k))
        go zero e lo hi = absurd (omega arith)
        go (suc zero) e lo hi = unfold progressed in rw (eq-eqb (record_kind s k) 1 e) (before-relation e)
        go (suc (suc zero)) e lo hi = unfold progressed in rw (ne_eqb (record_kind s k) 1 (λ x. omega arith), eq-eqb (record_kind s k) 2 e) (before-clause e)
        go (suc (suc (suc zero))) e lo hi = unfold progressed in rw (ne_eqb (record_kind s k) 1 (λ x. omega arith), ne_eqb (record_kind s k) 2 (λ x. omega arith)) (before-end e)
        go (suc (suc (suc (suc q)))) e lo hi = absurd (omega arith)

  -- ---- the verdict of record k, test by test

  module _ (k : ℕ) (g : Progress) (B : Before s k g) where
    abbrev at : ℕ
    at = record_at s k

    pub cut-not : Whole s k → cut s at ≡ false
    cut-not w = not-true (cut s at) ((whole-record s k).1 w)

    pub kind-not : KindRight s k → kind_fault g (record_kind s k) ≡ false
    kind-not w = not-true (kind_fault g (record_kind s k)) ((kind-right s k g B).1 w)

    pub many-not : Few s k → too_many g (record_kind s k) ≡ false
    many-not f = not-true (too_many g (record_kind s k)) ((few-right s k g B).1 f)

    pub body-not : KindRight s k → BodyFits s k → body_right s at (record_kind s k) ≡ true
    body-not w b = (body-fits s k w).1 b

    pub names-not : KindRight s k → BodyFits s k → NamesFit s k → names_right s g at (record_kind s k) ≡ true
    names-not w b n = (names-right s k g B w (body-not w b)).1 n

    -- a right record goes on
    pub right-goes : (R : RightRecord s k) → record_verdict s g at ≡ Ok (progressed s g at (record_kind s k))
    unfolding verdict
    right-goes R =
        rw (
          cut-not R.whole,
          kind-not R.kind,
          many-not R.few,
          body-not R.kind R.body,
          names-not R.kind R.body R.names,
          refutes (block_full s g at (record_kind s k)) (block-right s k g B R.kind) R.block,
        )

  -- ---- the records before record k

  pub record Known-before (k : ℕ) : Type 0 where
    pub known : Progress
    pub before : Before s k known
    pub same : records s (length s) 0 nothing_read ≡ records s (length s) (record_at s k) known

  pub known-before : (k : ℕ) → ((j : ℕ) → j < k → RightRecord s j) → Known-before k
  unfolding along
  known-before zero f = record { known = nothing_read; before = nothing-before; same = refl }
  known-before (suc k) f =
      let i = known-before k (λ j h. f j (omega arith)) in
      let R = f k (omega arith) in
      let t = progressed s i.known (record_at s k) (record_kind s k) in
      let b = R.whole.begun in
      let e = goes s i.known (record_at s k) t (omega arith) (right-goes k i.known i.before R) in
      record {
        known = t;
        before = before_next k i.known i.before R;
        same = i.same ∙ e ∙ ap (λ x. records s (length s) x t) (sym (next_place k));
      }
