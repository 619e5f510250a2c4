-- What an accepted image says of itself: r relations, then c clauses, then the goal, each with its fields and its names right.
use Rattle.std.specs.Prelude.{Result, Ok, Err}
use Rattle.parlog.specs.Answer.{Answer}
use mathlib.Core.Path.{◌∙◌, ◌≡◌, ap, refl, subst, sym}
use mathlib.Core.Bool.{◌&&◌, ◌||◌, Bool, cond, false, not, true}
use mathlib.Core.List.{List}
use Prim.Native.Nat.{◌+◌, ◌<◌, ◌≤◌, suc, zero, ℕ}
use lib.Dec.{eqb, leb, ltb}
use lib.ListN.{length, set}
use lib.Seq.{get_or-set_other, get_or-set_same}
use borrow.Author.Tests.{eq-eqb, eqb-false, eqb-true, leb-true, lt-ltb, ltb-false, ne_eqb, not-false}
use borrow.Author.Count.{below_more}
use native.Mathlib.Omega.{arith}
use native.Mathlib.Numerals.{add-one}
use Rattle.load_names.specs.Reading.{Arities}
use Rattle.load.proofs.Room.{block_room, few-clauses, few-relations}
use Rattle.load.proofs.Turn.{passed}
use Rattle.parlog.proofs.Answered.{ok-both}
use Rattle.parlog.proofs.Along.{along-snoc}
use Rattle.parlog.proofs.Bools.{and-true, or-false}
use Rattle.parlog.proofs.Walk.{walk-holds, whole}
use Rattle.parlog.specs.Body.{ask_body, body_right, clause_body, relation_body}
use Rattle.parlog.specs.Load.{after, block_full, block_with, broken, judged, kind_fault, load_end, load_of, long, nothing_read, progressed, records, refusal, too_many, verdict}
use Rattle.parlog.specs.Names.{arity_of, clause_inside, clause_placed, follows, goal_named, names_right, relation_named}
use Rattle.parlog.specs.Records.{byte_at, cut, kind_at, record_at, record_end}
use Rattle.parlog.specs.Scan.{along}
use Rattle.parlog.specs.declared.Progress.{Progress}

pub record RelationRight (s : List ℕ) (at : ℕ) : Type 0 where
  pub kind : kind_at s at ≡ 1
  pub body : relation_body s at ≡ true
  pub inside : record_end s at ≤ length s

pub record ClauseRight (s : List ℕ) (r at : ℕ) : Type 0 where
  pub kind : kind_at s at ≡ 2
  pub body : clause_body s at ≡ true
  pub head : relation_named s r (byte_at s (at + 4)) (byte_at s (at + 5)) ≡ true
  pub names : clause_inside s r at ≡ true
  pub inside : record_end s at ≤ length s

pub record GoalRight (s : List ℕ) (r at : ℕ) : Type 0 where
  pub kind : kind_at s at ≡ 3
  pub body : ask_body s at ≡ true
  pub names : goal_named s r (byte_at s (at + 4)) (at + 5) ≡ true
  pub inside : record_end s at ≤ length s

-- the relation of clause k
abbrev pub relation_of : List ℕ → ℕ → ℕ → ℕ
relation_of s r k = byte_at s (record_at s (r + k) + 4)

-- clauses stand in order of relation number
abbrev pub InOrder : List ℕ → ℕ → ℕ → Type 0
InOrder s r j = (k : ℕ) → suc k ≡ j → relation_of s r k ≤ relation_of s r j

-- the mark of clause k, and how many clauses its block has with it
abbrev pub mark_of : List ℕ → ℕ → ℕ → ℕ
mark_of s r k = byte_at s (record_at s (r + k) + 6)

unfoldable pub size_with : List ℕ → ℕ → ℕ → ℕ
size_with s r zero = 1
size_with s r (suc k) = cond (eqb (relation_of s r k) (relation_of s r (suc k)) && eqb (mark_of s r (suc k)) 0) (suc (size_with s r k)) 1

pub record Right (s : List ℕ) (r c : ℕ) : Type 0 where
  pub short : length s ≤ 32768
  pub relations : r ≤ 32
  pub clauses : c ≤ 64
  pub relation : (k : ℕ) → k < r → RelationRight s (record_at s k)
  pub clause : (k : ℕ) → k < c → ClauseRight s r (record_at s (r + k))
  pub order : (k : ℕ) → k < c → InOrder s r k
  pub blocks : (k : ℕ) → k < c → size_with s r k ≤ 8
  pub goal : GoalRight s r (record_at s (r + c))
  pub ends : record_at s (r + c + 1) ≡ length s

-- what the records before `at` have shown
pub record Reached (s : List ℕ) (g : Progress) (at : ℕ) : Type 0 where
  pub within : at ≤ length s
  pub relations : g.relations ≤ 32
  pub clauses : g.clauses ≤ 64
  pub late : 0 < g.clauses → 2 ≤ g.kind
  pub relation : (k : ℕ) → k < g.relations → RelationRight s (record_at s k)
  pub clause : (k : ℕ) → k < g.clauses → ClauseRight s g.relations (record_at s (g.relations + k))
  pub order : (k : ℕ) → k < g.clauses → InOrder s g.relations k
  pub blocks : (k : ℕ) → k < g.clauses → size_with s g.relations k ≤ 8
  pub block : (k : ℕ) → suc k ≡ g.clauses → size_with s g.relations k ≡ g.block
  pub last : (k : ℕ) → suc k ≡ g.clauses → relation_of s g.relations k ≡ g.relation
  pub here : g.kind < 3 → at ≡ record_at s (g.relations + g.clauses)
  pub goal : g.kind ≡ 3 → GoalRight s g.relations (record_at s (g.relations + g.clauses))
  pub done : g.kind ≡ 3 → at ≡ record_at s (g.relations + g.clauses + 1)

-- what a record that passes has passed
pub record Passed (s : List ℕ) (g : Progress) (at : ℕ) (t : Progress) : Type 0 where
  pub kind : kind_fault g (kind_at s at) ≡ false
  pub few : too_many g (kind_at s at) ≡ false
  pub body : body_right s at (kind_at s at) ≡ true
  pub names : names_right s g at (kind_at s at) ≡ true
  pub room : block_full s g at (kind_at s at) ≡ false
  pub inside : record_end s at ≤ length s
  pub next : progressed s g at (kind_at s at) ≡ t

pub all-passed : (s : List ℕ) (g t : Progress) (at : ℕ) → cut s at ≡ false → verdict s g at ≡ Ok t → Passed s g at t
unfolding verdict
all-passed s g t at w e =
    let p2 = passed (kind_fault g (kind_at s at)) 3 _ t e in
    let p3 = passed (too_many g (kind_at s at)) 6 _ t p2.1 in
    let p4 = passed (not (body_right s at (kind_at s at))) 4 _ t p3.1 in
    let p5 = passed (not (names_right s g at (kind_at s at))) 5 _ t p4.1 in
    let p6 = passed (block_full s g at (kind_at s at)) 6 _ t p5.1 in
    let e7 = p6.1 in
    record { kind = p2.0; few = p3.0; body = not-false _ p4.0; names = not-false _ p5.0; room = p6.0; inside = (whole s at w).1; next = cc }

pub kinds : (g : Progress) (k : ℕ) → kind_fault g k ≡ false → (1 ≤ k) × (k ≤ 3) × (g.kind ≤ k) × (g.kind < 3)
unfolding kind_fault
kinds g k e =
    let a = or-false (ltb k 1) (ltb 3 k || (ltb k g.kind || eqb g.kind 3)) e in
    let b = or-false (ltb 3 k) (ltb k g.kind || eqb g.kind 3) a.1 in
    let d = or-false (ltb k g.kind) (eqb g.kind 3) b.1 in
    let low = ltb-false k 1 a.0 in
    let high = ltb-false 3 k b.0 in
    let up = ltb-false k g.kind d.0 in
    let open-still : (g.kind ≡ 3) → ⊥ = eqb-false g.kind 3 d.1 in
    (low, high, up, omega arith)

-- the place after the record that stands where m records have been
snoc : (s : List ℕ) (m at : ℕ) → at ≡ record_at s m → record_end s at ≡ record_at s (m + 1)
snoc s m at e = let a : m + 1 ≡ suc m = omega arith in rw (a, along-snoc, ← e)

pub zero_of : (n : ℕ) → (0 < n → ⊥) → n ≡ 0
zero_of zero f = refl
zero_of (suc n) f = absurd (f (omega arith))

-- the block of the next clause, as the load counts it
size-with : (s : List ℕ) (g : Progress) (at : ℕ) → Reached s g at → relation_of s g.relations g.clauses ≡ byte_at s (at + 4) → mark_of s g.relations g.clauses ≡ byte_at s (at + 6)
    → size_with s g.relations g.clauses ≡ block_with g (byte_at s (at + 4)) (byte_at s (at + 6))
unfolding size_with
size-with s g at R its mark = go g.clauses refl
  where
    go : (n : ℕ) → g.clauses ≡ n → size_with s g.relations g.clauses ≡ block_with g (byte_at s (at + 4)) (byte_at s (at + 6))
    go zero e = rw e
    go (suc n) e =
        let i : relation_of s g.relations (suc n) ≡ byte_at s (at + 4) = rw e at its in
        let m : mark_of s g.relations (suc n) ≡ byte_at s (at + 6) = rw e at mark in
        let l = R.last n (sym e) in
        let b = R.block n (sym e) in
        let o = lt-ltb 0 (suc n) (omega arith) in
        rw (e, i, m, l, b, o, add-one)

module _ (s : List ℕ) (g t : Progress) (at : ℕ) (R : Reached s g at) (P : Passed s g at t) where
  reached-relation : kind_at s at ≡ 1 → Reached s (progressed s g at (kind_at s at)) (record_end s at)
  unfolding progressed body_right
  reached-relation k1 =
      let ks = kinds g (kind_at s at) P.kind in
      let none : g.clauses ≡ 0 = zero_of g.clauses (λ h. let o = R.late h in omega arith) in
      let b : relation_body s at ≡ true = rw (eq-eqb (kind_at s at) 1 k1) at P.body in
      let own : RelationRight s at = record { kind = k1; body = b; inside = P.inside } in
      let sum : g.relations + g.clauses ≡ g.relations = omega arith in
      let at-end : at ≡ record_at s g.relations = R.here ks.3 ∙ ap (record_at s) sum in
      let room = few-relations g (kind_at s at) k1 P.few in
      rw (eq-eqb (kind_at s at) 1 k1)
      (record {
        within = P.inside;
        relations = omega arith;
        clauses = R.clauses;
        late = λ h. absurd (omega arith);
        relation = below_more (λ k. RelationRight s (record_at s k)) g.relations R.relation (subst (λ p. RelationRight s p) at-end own);
        clause = λ k h. absurd (omega arith);
        order = λ k h. absurd (omega arith);
        blocks = λ k h. absurd (omega arith);
        block = λ k h. absurd (omega arith);
        last = λ k h. absurd (omega arith);
        here = λ _. let a : g.relations + 1 + g.clauses ≡ g.relations + g.clauses + 1 = omega arith in rw a (snoc s (g.relations + g.clauses) at (R.here ks.3));
        goal = λ h. absurd (omega arith);
        done = λ h. absurd (omega arith);
      })

  reached-clause : kind_at s at ≡ 2 → Reached s (progressed s g at (kind_at s at)) (record_end s at)
  unfolding progressed body_right names_right clause_placed
  reached-clause k2 =
      let ks = kinds g (kind_at s at) P.kind in
      let n1 : eqb (kind_at s at) 1 ≡ false = ne_eqb (kind_at s at) 1 (λ f. omega arith) in
      let b : clause_body s at ≡ true = rw (n1, eq-eqb (kind_at s at) 2 k2) at P.body in
      let n : (clause_placed s g at && clause_inside s g.relations at) ≡ true = rw (n1, eq-eqb (kind_at s at) 2 k2) at P.names in
      let both = and-true (clause_placed s g at) (clause_inside s g.relations at) n in
      let known = relation_named s g.relations (byte_at s (at + 4)) (byte_at s (at + 5)) in
      let rest = leb g.relation (byte_at s (at + 4)) && (follows g (byte_at s (at + 4)) || eqb (byte_at s (at + 6)) 0) in
      let placed = and-true known rest both.0 in
      let up = leb-true g.relation (byte_at s (at + 4)) (and-true (leb g.relation (byte_at s (at + 4))) (follows g (byte_at s (at + 4)) || eqb (byte_at s (at + 6)) 0) placed.1).0 in
      let own : ClauseRight s g.relations at = record { kind = k2; body = b; head = placed.0; names = both.1; inside = P.inside } in
      let at-end : at ≡ record_at s (g.relations + g.clauses) = R.here ks.3 in
      let its : relation_of s g.relations g.clauses ≡ byte_at s (at + 4) = ap (λ p. byte_at s (p + 4)) (sym at-end) in
      let mark : mark_of s g.relations g.clauses ≡ byte_at s (at + 6) = ap (λ p. byte_at s (p + 6)) (sym at-end) in
      let grown = size-with s g at R its mark in
      let small = block_room s g at (kind_at s at) k2 P.room in
      let room = few-clauses g (kind_at s at) k2 P.few in
      rw (n1, eq-eqb (kind_at s at) 2 k2)
      (record {
        within = P.inside;
        relations = R.relations;
        clauses = omega arith;
        late = λ _. omega arith;
        relation = R.relation;
        clause = below_more (λ k. ClauseRight s g.relations (record_at s (g.relations + k))) g.clauses R.clause (subst (λ p. ClauseRight s g.relations p) at-end own);
        order = below_more (λ k. InOrder s g.relations k) g.clauses R.order (λ k h. let l = R.last k h in omega arith);
        blocks = below_more (λ k. size_with s g.relations k ≤ 8) g.clauses R.blocks (omega (arith, grown, small));
        block = λ k h. let e : k ≡ g.clauses = omega arith in ap (size_with s g.relations) e ∙ grown;
        last = λ k h. let e : k ≡ g.clauses = omega arith in ap (relation_of s g.relations) e ∙ its;
        here = λ _. let a : g.relations + (g.clauses + 1) ≡ g.relations + g.clauses + 1 = omega arith in rw a (snoc s (g.relations + g.clauses) at at-end);
        goal = λ h. absurd (omega arith);
        done = λ h. absurd (omega arith);
      })

  reached-goal : kind_at s at ≡ 3 → Reached s (progressed s g at (kind_at s at)) (record_end s at)
  unfolding progressed body_right names_right
  reached-goal k3 =
      let ks = kinds g (kind_at s at) P.kind in
      let n1 : eqb (kind_at s at) 1 ≡ false = ne_eqb (kind_at s at) 1 (λ f. omega arith) in
      let n2 : eqb (kind_at s at) 2 ≡ false = ne_eqb (kind_at s at) 2 (λ f. omega arith) in
      let b : ask_body s at ≡ true = rw (n1, n2) at P.body in
      let n : goal_named s g.relations (byte_at s (at + 4)) (at + 5) ≡ true = rw (n1, n2) at P.names in
      let own : GoalRight s g.relations at = record { kind = k3; body = b; names = n; inside = P.inside } in
      let at-end : at ≡ record_at s (g.relations + g.clauses) = R.here ks.3 in
      rw (n1, n2)
      (record {
        within = P.inside;
        relations = R.relations;
        clauses = R.clauses;
        late = λ _. omega arith;
        relation = R.relation;
        clause = R.clause;
        order = R.order;
        blocks = R.blocks;
        block = R.block;
        last = R.last;
        here = λ h. absurd (omega arith);
        goal = λ _. subst (λ p. GoalRight s g.relations p) at-end own;
        done = λ _. snoc s (g.relations + g.clauses) at at-end;
      })

  pub reached : Reached s t (record_end s at)
  reached =
      subst (λ x. Reached s x (record_end s at)) P.next (go (kind_at s at) refl (kinds g (kind_at s at) P.kind).0 (kinds g (kind_at s at) P.kind).1)
    where
      go : (k : ℕ) → kind_at s at ≡ k → 1 ≤ k → k ≤ 3 → Reached s (progressed s g at (kind_at s at)) (record_end s at)
      go zero e lo hi = absurd (omega arith)
      go (suc zero) e lo hi = reached-relation e
      go (suc (suc zero)) e lo hi = reached-clause e
      go (suc (suc (suc zero))) e lo hi = reached-goal e
      go (suc (suc (suc (suc k)))) e lo hi = absurd (omega arith)

  -- an entry put after the arities known so far keeps the table right, also where the record is no relation
  module _ (a : List ℕ) (size : length a ≡ 33) (A : Arities s g.relations a) where
    older : (k : ℕ) → k < g.relations → byte_at (set a g.relations (byte_at s (at + 4))) k ≡ arity_of s k
    older k h = get_or-set_other a g.relations k (byte_at s (at + 4)) 0 (λ e. omega arith) ∙ A.arity k h

    kept-relation : kind_at s at ≡ 1 → Arities s (progressed s g at (kind_at s at)).relations (set a g.relations (byte_at s (at + 4)))
    unfolding progressed
    kept-relation k1 =
        let ks = kinds g (kind_at s at) P.kind in
        let none : g.clauses ≡ 0 = zero_of g.clauses (λ h. let o = R.late h in omega arith) in
        let sum : g.relations + g.clauses ≡ g.relations = omega arith in
        let at-end : at ≡ record_at s g.relations = R.here ks.3 ∙ ap (record_at s) sum in
        let few = R.relations in
        let own : byte_at (set a g.relations (byte_at s (at + 4))) g.relations ≡ arity_of s g.relations =
        get_or-set_same a g.relations (byte_at s (at + 4)) 0 (omega arith) ∙ ap (λ p. byte_at s (p + 4)) at-end in
        rw (eq-eqb (kind_at s at) 1 k1)
        (record { arity = below_more (λ k. byte_at (set a g.relations (byte_at s (at + 4))) k ≡ arity_of s k) g.relations older own })

    kept-other : (b : Bool) → eqb (kind_at s at) 1 ≡ false → eqb (kind_at s at) 2 ≡ b → Arities s (progressed s g at (kind_at s at)).relations (set a g.relations (byte_at s (at + 4)))
    unfolding progressed
    kept-other true n1 k2 = rw (n1, k2) (record { arity = older })
    kept-other false n1 n2 = rw (n1, n2) (record { arity = older })

    pub kept : Arities s t.relations (set a g.relations (byte_at s (at + 4)))
    kept = subst (λ x. Arities s x.relations (set a g.relations (byte_at s (at + 4)))) P.next (go (eqb (kind_at s at) 1) refl)
      where
        go : (b : Bool) → eqb (kind_at s at) 1 ≡ b → Arities s (progressed s g at (kind_at s at)).relations (set a g.relations (byte_at s (at + 4)))
        go true e = kept-relation (eqb-true (kind_at s at) 1 e)
        go false e = kept-other (eqb (kind_at s at) 2) e refl

-- the answer's counts are those of the progress
finished : (s : List ℕ) (g : Progress) (r c : ℕ) (b : Bool) → cond {A = Answer (ℕ × ℕ)} b (Ok (g.relations, g.clauses)) (Err (refusal 7 (length s))) ≡ Ok (r, c) → (b ≡ true) × (g.relations ≡ r) × (g.clauses ≡ c)
finished s g r c true e = let p = ok-both e in (refl, p.0, p.1)
finished s g r c false e = absurd (let z : ◌≡◌ {A = ℕ} 0 1 = cc in omega arith)

module _ (s : List ℕ) (r c : ℕ) (short : length s ≤ 32768) where
  from_end : (g : Progress) (at : ℕ) → Reached s g at → length s ≤ at → load_end s g ≡ Ok (r, c) → Right s r c
  from_end g at R h e =
      let f = finished s g r c (eqb g.kind 3) e in
      let k3 = eqb-true g.kind 3 f.0 in
      let w = R.within in
      let the_end : at ≡ length s = omega arith in
      subst (λ q. Right s q c) f.1
      (subst (λ q. Right s g.relations q) f.2
      (record {
        short = short;
        relations = R.relations;
        clauses = R.clauses;
        relation = R.relation;
        clause = R.clause;
        order = R.order;
        blocks = R.blocks;
        goal = R.goal k3;
        ends = sym (R.done k3) ∙ the_end;
      }))

  pub from-records : (n at : ℕ) (g : Progress) → length s ≤ at + n → Reached s g at → records s n at g ≡ Ok (r, c) → Right s r c
  from-records = walk-holds s broken (judged s) (load_end s) (λ at g. Reached s g at) (λ a. a ≡ Ok (r, c) → Right s r c)
      (λ at g R l e q. absurd (let z : ◌≡◌ {A = ℕ} 0 1 = cc in omega arith))
      (λ at g R l e rest go. turn g at R e rest go (verdict s g at) refl)
      (λ at g R h q. from_end g at R h q)
    where
      turn : (g : Progress) (at : ℕ) → Reached s g at → cut s at ≡ false → (rest : Progress → Answer (ℕ × ℕ)) → ((t : Progress) → Reached s t (record_end s at) → rest t ≡ Ok (r, c) → Right s r c)
          → (v : Result Progress ℕ) → verdict s g at ≡ v → after rest at v ≡ Ok (r, c) → Right s r c
      turn g at R e rest go (Ok t) ve q = go t (reached s g t at R (all-passed s g t at e ve)) q
      turn g at R e rest go (Err j) ve q = absurd (let z : ◌≡◌ {A = ℕ} 0 1 = cc in omega arith)

-- before the first record
pub nothing-reached : (s : List ℕ) → Reached s nothing_read 0
unfolding along
nothing-reached s = record {
  within = omega arith;
  relations = omega arith;
  clauses = omega arith;
  late = λ h. absurd (omega arith);
  relation = λ k h. absurd (omega arith);
  clause = λ k h. absurd (omega arith);
  order = λ k h. absurd (omega arith);
  blocks = λ k h. absurd (omega arith);
  block = λ k h. absurd (omega arith);
  last = λ k h. absurd (omega arith);
  here = λ _. refl;
  goal = λ h. absurd (omega arith);
  done = λ h. absurd (omega arith);
}

-- THE LAW: an accepted image is right
pub accepted : (s : List ℕ) (r c : ℕ) → load_of s ≡ Ok (r, c) → Right s r c
unfolding load_of long
accepted s r c e = go (ltb 32768 (length s)) refl e
  where
    go : (b : Bool) → ltb 32768 (length s) ≡ b → cond b (Err (refusal 1 0)) (records s (length s) 0 nothing_read) ≡ Ok (r, c) → Right s r c
    go true _ e' = absurd (let z : ◌≡◌ {A = ℕ} 0 1 = cc in omega arith)
    go false le e' = from-records s r c (ltb-false 32768 (length s) le) (length s) 0 nothing_read (omega arith) (nothing-reached s) e'
