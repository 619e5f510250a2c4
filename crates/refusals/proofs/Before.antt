-- What the load knows before record k is what the records before it say, and so each of its tests decides a fact of record k.
use mathlib.Core.Path.{◌∙◌, ◌≡◌, ap, refl, subst, sym}
use mathlib.Core.Logic.{◌≢◌, ⊎_elim}
use mathlib.Core.Bool.{◌&&◌, ◌||◌, cond, false, not, true}
use mathlib.Core.List.{List}
use Prim.Native.Nat.{◌+◌, ◌<◌, ◌≤◌, suc, zero, ℕ}
use lib.Dec.{eqb, leb, ltb}
use lib.ListN.{length}
use borrow.Author.Tests.{eq-eqb, eqb-false, eqb-true, le-leb, le-ltb, leb-false, leb-true, lt-leb, lt-ltb, ltb-false, ltb-true, ne_eqb, not-true}
use native.Mathlib.Omega.{arith}
use native.Mathlib.Numerals.{add-one}
use Rattle.std.proofs.lemmas.Bool.{and_parts, or_parts, or_left, or_right, or_cases, and_from}
use Rattle.parlog.proofs.Bools.{never, split}
use Rattle.parlog.specs.Body.{ask_body, body_right, clause_body, relation_body}
use Rattle.parlog.specs.Image.{body_at, guard_at}
use Rattle.parlog.specs.Load.{block_full, block_with, kind_fault, too_many}
use Rattle.parlog.specs.Names.{clause_inside, clause_placed, follows, goal_named, literal_named, names_right, relation_named, terms_named}
use Rattle.parlog.specs.Records.{byte_at, cut, record_at, record_end, word_at}
use Rattle.parlog.specs.declared.Progress.{Progress}
use Rattle.refusals.proofs.Fields.{ask-from, ask-to, clause-from, clause-to}
use Rattle.refusals.proofs.Names.{literal-named, relation-known, terms-named}
use Rattle.refusals.proofs.Tests.{Decides}
use Rattle.refusals.specs.Right.{AskFields, ClauseNamed, Few, how_many, InBlockAs, joins_block, JoinsAt, KindRight, LiteralNamed, mark_in, NamesFit, opens_block, record_kind, relation_in, Whole}

pub record Before (s : List ℕ) (k : ℕ) (g : Progress) : Type 0 where
  pub relations : g.relations ≡ how_many s 1 k
  pub clauses : g.clauses ≡ how_many s 2 k
  pub few : g.relations ≤ 32
  pub small : g.block ≤ 8
  pub kind : (j : ℕ) → suc j ≡ k → g.kind ≡ record_kind s j
  pub none : k ≡ 0 → g.kind ≡ 0
  pub highest : (j : ℕ) → j < k → record_kind s j ≤ g.kind
  pub seen : (j : ℕ) → j < k → record_kind s j ≡ 2 → (0 < g.clauses) × (relation_in s j ≤ g.relation)
  pub late : 0 < g.clauses → 2 ≤ g.kind
  pub fresh : g.clauses ≡ 0 → g.relation ≡ 0
  pub last : (j : ℕ) → suc j ≡ k → record_kind s j ≡ 2 → (g.relation ≡ relation_in s j) × InBlockAs s j g.block

-- a clause is of one number in its block
pub number-unique : {s : List ℕ} {k m n : ℕ} → InBlockAs s k m → InBlockAs s k n → m ≡ n
number-unique (opens_block f) (opens_block h) = refl
number-unique (opens_block f) (joins_block {j} w b) = absurd (f j refl w)
number-unique (joins_block {j} w b) (opens_block f) = absurd (f j refl w)
number-unique (joins_block w b) (joins_block x c) = ap suc (number-unique b c)

pub whole-record : (s : List ℕ) (k : ℕ) → Decides (not (cut s (record_at s k))) (Whole s k)
unfolding cut
whole-record s k = (to, back)
  where
    to : not (ltb (length s) (record_at s k + 4) || (ltb (word_at s (record_at s k)) 4 || ltb (length s) (record_end s (record_at s k)))) ≡ true → Whole s k
    to e =
        let f = not-true (ltb (length s) (record_at s k + 4) || (ltb (word_at s (record_at s k)) 4 || ltb (length s) (record_end s (record_at s k)))) e in
        let p = or_parts (ltb (length s) (record_at s k + 4)) (ltb (word_at s (record_at s k)) 4 || ltb (length s) (record_end s (record_at s k))) f in
        let q = or_parts (ltb (word_at s (record_at s k)) 4) (ltb (length s) (record_end s (record_at s k))) p.1 in
        record {
          begun = ltb-false (length s) (record_at s k + 4) p.0;
          size = ltb-false (word_at s (record_at s k)) 4 q.0;
          inside = ltb-false (length s) (record_end s (record_at s k)) q.1;
        }

    back : Whole s k → not (ltb (length s) (record_at s k + 4) || (ltb (word_at s (record_at s k)) 4 || ltb (length s) (record_end s (record_at s k)))) ≡ true
    back w = rw (le-ltb (length s) (record_at s k + 4) w.begun, le-ltb (word_at s (record_at s k)) 4 w.size, le-ltb (length s) (record_end s (record_at s k)) w.inside)

module _ (s : List ℕ) (k : ℕ) (g : Progress) (B : Before s k g) where
  -- ---- KIND

  kind-to : kind_fault g (record_kind s k) ≡ false → KindRight s k
  unfolding kind_fault
  kind-to e =
      let q = record_kind s k in
      let a = or_parts (ltb q 1) (ltb 3 q || (ltb q g.kind || eqb g.kind 3)) e in
      let b = or_parts (ltb 3 q) (ltb q g.kind || eqb g.kind 3) a.1 in
      let d = or_parts (ltb q g.kind) (eqb g.kind 3) b.1 in
      let low = ltb-false q 1 a.0 in
      let high = ltb-false 3 q b.0 in
      let up = ltb-false q g.kind d.0 in
      let open-still : g.kind ≢ 3 = eqb-false g.kind 3 d.1 in
      record { least = low; most = high; up = λ j f. let z = B.kind j f in omega arith; before_goal = λ j l z. let h = B.highest j l in open-still (omega arith) }

  pub goes-up : KindRight s k → (g.kind ≤ record_kind s k) × (g.kind < 3)
  goes-up w = go k refl
    where
      go : (n : ℕ) → k ≡ n → (g.kind ≤ record_kind s k) × (g.kind < 3)
      go zero e = let z = B.none e in (omega arith, omega arith)
      go (suc j) e =
          let z = B.kind j (sym e) in
          let u = w.up j (sym e) in
          let n = w.before_goal j (omega arith) in
          let m = w.most in
          (omega arith, omega arith)

  pub kind-right : Decides (not (kind_fault g (record_kind s k))) (KindRight s k)
  kind-right = (λ e. kind-to (not-true (kind_fault g (record_kind s k)) e), back)
    where
      back : KindRight s k → not (kind_fault g (record_kind s k)) ≡ true
      back w = unfold kind_fault in
          let u = goes-up w in
          rw (le-ltb (record_kind s k) 1 w.least, le-ltb 3 (record_kind s k) w.most, le-ltb (record_kind s k) g.kind u.0, ne_eqb g.kind 3 (λ z. omega (arith, u.1)))

  -- ---- MANY

  pub few-right : Decides (not (too_many g (record_kind s k))) (Few s k)
  unfolding too_many
  few-right = split (eqb (record_kind s k) 1)
      (λ e. let q = eqb-true (record_kind s k) 1 e in
      rw e (
        λ f. let h = leb-false 32 g.relations (not-true (leb 32 g.relations) f) in let z = B.relations in record { relations = λ x. omega arith; clauses = λ x. absurd (omega arith) },
        λ w. let h = w.relations q in let z = B.relations in rw (lt-leb 32 g.relations (omega arith)),
      ))
      (λ e. split (eqb (record_kind s k) 2)
      (λ f. let q = eqb-true (record_kind s k) 2 f in
      rw (e, f) (
        λ d. let h = leb-false 64 g.clauses (not-true (leb 64 g.clauses) d) in let z = B.clauses in record { relations = λ x. absurd (omega arith); clauses = λ x. omega arith },
        λ w. let h = w.clauses q in let z = B.clauses in rw (lt-leb 64 g.clauses (omega arith)),
      ))
      (λ f. rw (e, f) (λ d. record { relations = λ x. absurd (eqb-false (record_kind s k) 1 e x); clauses = λ x. absurd (eqb-false (record_kind s k) 2 f x) }, λ w. refl)))

  -- ---- the clause before

  record ClauseBefore : Type 0 where
    pub which : ℕ
    pub next : suc which ≡ k
    pub kind : record_kind s which ≡ 2
    pub relation : g.relation ≡ relation_in s which
    pub block : InBlockAs s which g.block

  module _ (w : KindRight s k) (q : record_kind s k ≡ 2) where
    clause-before : 0 < g.clauses → ClauseBefore
    clause-before h = go k refl
      where
        go : (n : ℕ) → k ≡ n → ClauseBefore
        go zero e = let z = B.none e in let l = B.late h in absurd (omega arith)
        go (suc j) e =
            let z = B.kind j (sym e) in
            let l = B.late h in
            let u = w.up j (sym e) in
            let two : record_kind s j ≡ 2 = omega arith in
            let r = B.last j (sym e) two in
            record { which = j; next = sym e; kind = two; relation = r.0; block = r.1 }

    -- ---- the order of clauses

    abbrev InOrder : Type 0
    InOrder = (j : ℕ) → j < k → record_kind s j ≡ 2 → relation_in s j ≤ relation_in s k

    abbrev IsFirst : Type 0
    IsFirst = (j : ℕ) → j < k → record_kind s j ≡ 2 → relation_in s j ≢ relation_in s k

    order-right : Decides (leb g.relation (relation_in s k)) InOrder
    order-right = (λ e j l z. let h = leb-true g.relation (relation_in s k) e in let b = (B.seen j l z).1 in omega arith, back)
      where
        back : InOrder → leb g.relation (relation_in s k) ≡ true
        back f = split (ltb 0 g.clauses)
            (λ e. let c = clause-before (ltb-true 0 g.clauses e) in
            let n = c.next in
            let h = f c.which (omega arith) c.kind in
            let r = c.relation in
            le-leb g.relation (relation_in s k) (omega arith))
            (λ e. let z = B.fresh (omega (arith, ltb-false 0 g.clauses e)) in le-leb g.relation (relation_in s k) (omega arith))

    first-right : g.relation ≤ relation_in s k → Decides (follows g (relation_in s k) || eqb (mark_in s k) 0) (IsFirst → mark_in s k ≡ 0)
    first-right up = (λ e f. ⊎_elim (λ a. absurd (to a f)) (λ a. eqb-true (mark_in s k) 0 a) (or_cases (follows g (relation_in s k)) (eqb (mark_in s k) 0) e), back)
      where
        to : follows g (relation_in s k) ≡ true → IsFirst → ⊥
        to e f =
            let a = and_parts (ltb 0 g.clauses) (eqb g.relation (relation_in s k)) e in
            let c = clause-before (ltb-true 0 g.clauses a.0) in
            let r = eqb-true g.relation (relation_in s k) a.1 in
            let n = c.next in
            f c.which (omega arith) c.kind (sym c.relation ∙ r)

        back : (IsFirst → mark_in s k ≡ 0) → (follows g (relation_in s k) || eqb (mark_in s k) 0) ≡ true
        back f = split (follows g (relation_in s k))
            (λ e. or_left (follows g (relation_in s k)) (eqb (mark_in s k) 0) e)
            (λ e. or_right (follows g (relation_in s k)) (eqb (mark_in s k) 0) (eq-eqb (mark_in s k) 0 (f (λ j l z r.
            let b = B.seen j l z in
            let b1 = b.1 in
            never (sym e ∙ and_from (ltb 0 g.clauses) (eqb g.relation (relation_in s k)) (lt-ltb 0 g.clauses b.0) (eq-eqb g.relation (relation_in s k) (omega arith)))))))

    -- ---- the block

    pub numbered : InBlockAs s k (block_with g (relation_in s k) (mark_in s k))
    numbered = split (follows g (relation_in s k) && eqb (mark_in s k) 0)
        (λ e. let a = and_parts (follows g (relation_in s k)) (eqb (mark_in s k) 0) e in
        let b = and_parts (ltb 0 g.clauses) (eqb g.relation (relation_in s k)) a.0 in
        rw (e, add-one) (joined (clause-before (ltb-true 0 g.clauses b.0)) (eqb-true g.relation (relation_in s k) b.1) (eqb-true (mark_in s k) 0 a.1)))
        (λ e. rw e (opens_block (λ j n J. never (sym e ∙ joins j n J))))
      where
        joined : ClauseBefore → g.relation ≡ relation_in s k → mark_in s k ≡ 0 → InBlockAs s k (suc g.block)
        joined c r m =
            let n = sym c.next in
            subst (λ x. InBlockAs s x (suc g.block)) c.next
            (joins_block (record {
              before = c.kind;
              clause = subst (λ x. record_kind s x ≡ 2) n q;
              relation = subst (λ x. relation_in s c.which ≡ relation_in s x) n (sym c.relation ∙ r);
              mark = subst (λ x. mark_in s x ≡ 0) n m;
            }) c.block)

        joins : (j : ℕ) → suc j ≡ k → JoinsAt s j → (follows g (relation_in s k) && eqb (mark_in s k) 0) ≡ true
        joins j n J =
            let r = (B.last j n J.before).0 ∙ J.relation ∙ ap (relation_in s) n in
            let m = ap (mark_in s) (sym n) ∙ J.mark in
            and_from (follows g (relation_in s k)) (eqb (mark_in s k) 0)
            (and_from (ltb 0 g.clauses) (eqb g.relation (relation_in s k)) (lt-ltb 0 g.clauses (B.seen j (omega arith) J.before).0) (eq-eqb g.relation (relation_in s k) r))
            (eq-eqb (mark_in s k) 0 m)

    pub at-most-nine : block_with g (relation_in s k) (mark_in s k) ≤ 9
    at-most-nine = let b = B.small in split (follows g (relation_in s k) && eqb (mark_in s k) 0) (λ e. rw e (omega arith)) (λ e. rw e (omega arith))

  pub block-right : KindRight s k → Decides (block_full s g (record_at s k) (record_kind s k)) (InBlockAs s k 9)
  unfolding block_full
  block-right w = split (eqb (record_kind s k) 2)
      (λ e. let q = eqb-true (record_kind s k) 2 e in
      let n = numbered w q in
      let m = at-most-nine w q in
      rw e (
        λ f. let l = ltb-true 8 (block_with g (relation_in s k) (mark_in s k)) f in subst (λ x. InBlockAs s k x) (omega arith) n,
        λ b. let z = number-unique n b in lt-ltb 8 (block_with g (relation_in s k) (mark_in s k)) (omega arith),
      ))
      (λ e. rw e (λ f. never f, λ b. absurd (eqb-false (record_kind s k) 2 e (nine-clause b refl))))
    where
      nine-clause : {i n : ℕ} → InBlockAs s i n → n ≡ 9 → record_kind s i ≡ 2
      nine-clause (opens_block f) e = absurd (omega arith)
      nine-clause (joins_block J b) e = J.clause

  -- ---- NAME

  abbrev rels : ℕ
  rels = g.relations

  module _ (w : KindRight s k) where
    abbrev a : ℕ
    a = record_at s k

    named : (n x : ℕ) → Decides (literal_named s rels n x) (LiteralNamed s k n x)
    named n x = literal-named s k rels B.relations B.few n x

    clause-to-names : record_kind s k ≡ 2 → clause_body s a ≡ true → (clause_placed s g a && clause_inside s rels a) ≡ true → ClauseNamed s k (byte_at s (a + 7))
    unfolding clause_placed clause_inside goal_named
    clause-to-names q e f =
        let n = byte_at s (a + 7) in
        let m = byte_at s (a + 5) in
        let behind = follows g (relation_in s k) || eqb (mark_in s k) 0 in
        let goals = goal_named s rels n (guard_at s a) && goal_named s rels n (body_at s a) in
        let p = and_parts (clause_placed s g a) (clause_inside s rels a) f in
        let u = and_parts (relation_named s rels (relation_in s k) m) (leb g.relation (relation_in s k) && behind) p.0 in
        let v = and_parts (leb g.relation (relation_in s k)) behind u.1 in
        let x = and_parts (terms_named s n m (a + 8)) goals p.1 in
        let y = and_parts (goal_named s rels n (guard_at s a)) (goal_named s rels n (body_at s a)) x.1 in
        record {
          known = (relation-known s k rels B.relations B.few (relation_in s k) m).0 u.0;
          order = (order-right w q).0 v.0;
          first = λ x. let z = (first-right w q (leb-true g.relation (relation_in s k) v.0)).0 v.1 x in omega arith;
          head = (terms-named s n m (a + 8)).0 x.0;
          literals = clause-to s (literal_named s rels n) (LiteralNamed s k n) (λ i. (named n i).0) a e y.0 y.1;
        }

    names-to-clause : record_kind s k ≡ 2 → ClauseNamed s k (byte_at s (a + 7)) → (clause_placed s g a && clause_inside s rels a) ≡ true
    unfolding clause_placed clause_inside goal_named
    names-to-clause q c =
        let n = byte_at s (a + 7) in
        let m = byte_at s (a + 5) in
        let t = clause-from s (literal_named s rels n) (LiteralNamed s k n) (λ i. (named n i).1) a c.literals in
        let up = (order-right w q).1 c.order in
        let first = (first-right w q (leb-true g.relation (relation_in s k) up)).1 (λ x. let z = c.first x in omega arith) in
        let known = (relation-known s k rels B.relations B.few (relation_in s k) m).1 c.known in
        let head = (terms-named s n m (a + 8)).1 c.head in
        and_from (clause_placed s g a) (clause_inside s rels a)
        (and_from (relation_named s rels (relation_in s k) m) _ known (and_from (leb g.relation (relation_in s k)) _ up first))
        (and_from (terms_named s n m (a + 8)) _ head (and_from (goal_named s rels n (guard_at s a)) _ t.guard t.body))

    goal-names : ask_body s a ≡ true → Decides (goal_named s rels (byte_at s (a + 4)) (a + 5)) (AskFields s (LiteralNamed s k (byte_at s (a + 4))) a)
    unfolding goal_named
    goal-names e =
        let n = byte_at s (a + 4) in
        (λ f. ask-to s (literal_named s rels n) (LiteralNamed s k n) (λ i. (named n i).0) a e f, λ c. (ask-from s (literal_named s rels n) (LiteralNamed s k n) (λ i. (named n i).1) a c).goal)

    -- THE LAW: NAME is the test of names
    pub names-right : body_right s a (record_kind s k) ≡ true → Decides (names_right s g a (record_kind s k)) (NamesFit s k)
    unfolding names_right body_right
    names-right e = go (record_kind s k) refl w.least w.most e
      where
        go : (q : ℕ) → record_kind s k ≡ q → 1 ≤ q → q ≤ 3
            → cond (eqb q 1) (relation_body s (record_at s k)) (cond (eqb q 2) (clause_body s (record_at s k)) (ask_body s (record_at s k))) ≡ true
            → Decides (cond (eqb q 1) true (cond (eqb q 2) (clause_placed s g (record_at s k) && clause_inside s g.relations (record_at s k)) (goal_named s g.relations (byte_at s (record_at s k + 4)) (record_at s k + 5)))) (NamesFit s k)
        go zero f lo hi h = absurd (omega arith)
        go (suc zero) f lo hi h = (λ d. record { clause = λ x. absurd (omega arith); goal = λ x. absurd (omega arith) }, λ n. refl)
        go (suc (suc zero)) f lo hi h =
            (λ d. record { clause = λ x. clause-to-names f h d; goal = λ x. absurd (omega arith) }, λ n. names-to-clause f (n.clause f))
        go (suc (suc (suc zero))) f lo hi h =
            let d = goal-names h in
            (λ x. record { clause = λ y. absurd (omega arith); goal = λ y. d.0 x }, λ n. d.1 (n.goal f))
        go (suc (suc (suc (suc q)))) f lo hi h = absurd (omega arith)
