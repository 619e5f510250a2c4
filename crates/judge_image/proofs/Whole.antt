-- Whole records: their tests, told by what they are made of.
use mathlib.Core.Path.{◌∙◌, ◌≡◌, ap, refl, sym}
use mathlib.Core.Bool.{◌&&◌, ◌||◌, and-true as true-right, Bool, cond, false, true}
use mathlib.Core.List.{[], ◌++◌, ◌∷◌, append_assoc, List}
use Prim.Native.Nat.{◌+◌, ℕ}
use lib.Dec.{eqb, leb}
use lib.ListN.{drop, length, length-append}
use borrow.Author.Tests.{eq-eqb}
use native.Mathlib.Omega.{arith}
use Rattle.judge_image.proofs.Fields.{goal-sized, terms-known}
use Rattle.judge_image.proofs.Named.{goal-known, relation-known}
use Rattle.judge_image.specs.Judged.{ask_sized, clause_known, clause_sized, goal_known, goal_sized, judged, progress_of, relation_sized}
use Rattle.parlog.specs.Body.{ask_body, body_right, clause_body, mode_range, relation_body}
use Rattle.parlog.specs.Image.{body_at, byte_at, goal_end, guard_at, kind_at, mode_end, record_end}
use Rattle.parlog.specs.Load.{block_full, progressed, verdict}
use Rattle.parlog.specs.Names.{clause_inside, clause_placed, follows, goal_named, names_right}
use Rattle.parlog.specs.Program.{Clause, Goal}
use Rattle.parlog.specs.Scan.{each}
use Rattle.parlog.specs.declared.Progress.{Progress}
use Rattle.text_program.proofs.Fields.{goal-step, record-body, record-end, record-length, relation-arity, terms-length}
use Rattle.text_program.proofs.Here.{byte-here, byte_next, items-each, skip_by}
use Rattle.text_program.proofs.Joined.{singles}
use Rattle.text_program.specs.Encoded.{ask_bytes, clause_bytes, goal_bytes, record_bytes, relation_bytes, term_bytes}
use Rattle.text_program.specs.Numbered.{joined}

-- ---- the tests of a record, once its numbers are told

module _ (s : List ℕ) (g : Progress) (q kind : ℕ) (sized known : Bool) (is : kind_at s q ≡ kind) (body : body_right s q kind ≡ sized) (names : names_right s g q kind ≡ known) where
  pub verdict-told : verdict s g q ≡ judged g kind sized known (byte_at s (q + 4)) (byte_at s (q + 6))
  unfolding verdict judged block_full progressed progress_of
  verdict-told = rw (is, body, names)

-- ---- a relation

module _ (s ms : List ℕ) (q : ℕ) (r : List ℕ) (e : drop q s ≡ relation_bytes ms ++ r) where
  relation-here : drop q s ≡ record_bytes 1 (length ms ∷ ms) ++ r
  unfolding relation_bytes
  relation-here = e

  relation-length : length (relation_bytes ms) ≡ 5 + length ms
  unfolding relation_bytes
  relation-length = let a = record-length 1 (length ms ∷ ms) in omega arith

  relation-modes : drop (q + 5) s ≡ joined (λ (m : ℕ). m ∷ []) ms ++ r
  relation-modes =
      let z : q + 4 + 1 ≡ q + 5 = omega arith in
      (rw z at (byte_next s (q + 4) (length ms) (ms ++ r) (record-body s 1 (length ms ∷ ms) q r relation-here))) ∙ ap (λ (l : List ℕ). l ++ r) (sym (singles ms))

  pub relation-sized : relation_body s q ≡ relation_sized ms
  unfolding relation_body relation_sized
  relation-sized =
      let a = relation-length in
      let b = relation-arity s ms q r e in
      let c : q + 5 + length ms ≡ record_end s q = sym (record-end s 1 (length ms ∷ ms) q r relation-here ∙ (let d = record-length 1 (length ms ∷ ms) in omega arith)) in
      rw (b, eq-eqb (q + 5 + length ms) (record_end s q) c, true-right (each (mode_range s) mode_end (length ms) (q + 5)))
      (ap (λ (k : Bool). leb (length ms) 4 && k)
      (items-each s (λ (m : ℕ). m ∷ []) mode_end (λ x p t f. refl) (mode_range s) (λ (m : ℕ). leb m 1) (λ x p t f. ap (λ (k : ℕ). leb k 1) (byte-here s p x t f)) ms (q + 5) r relation-modes))

-- ---- a clause

module _ (s : List ℕ) (c : Clause) (q : ℕ) (r : List ℕ) (e : drop q s ≡ clause_bytes c ++ r) where
  abbrev heads : List ℕ
  heads = joined term_bytes c.head

  abbrev guards : List ℕ
  guards = goal_bytes c.guard

  abbrev bodies : List ℕ
  bodies = goal_bytes c.body

  abbrev inner : List ℕ
  inner = c.rel ∷ length c.head ∷ c.mark ∷ c.vars ∷ (heads ++ (guards ++ bodies))

  pub clause-here : drop q s ≡ record_bytes 2 inner ++ r
  unfolding clause_bytes
  clause-here = e

  abbrev rest : List ℕ
  rest = (heads ++ (guards ++ bodies)) ++ r

  at4 : drop (q + 4) s ≡ c.rel ∷ length c.head ∷ c.mark ∷ c.vars ∷ rest
  at4 = record-body s 2 inner q r clause-here

  at5 : drop (q + 5) s ≡ length c.head ∷ c.mark ∷ c.vars ∷ rest
  at5 = let z : q + 4 + 1 ≡ q + 5 = omega arith in rw z at (byte_next s (q + 4) c.rel (length c.head ∷ c.mark ∷ c.vars ∷ rest) at4)

  at6 : drop (q + 6) s ≡ c.mark ∷ c.vars ∷ rest
  at6 = let z : q + 5 + 1 ≡ q + 6 = omega arith in rw z at (byte_next s (q + 5) (length c.head) (c.mark ∷ c.vars ∷ rest) at5)

  at7 : drop (q + 7) s ≡ c.vars ∷ rest
  at7 = let z : q + 6 + 1 ≡ q + 7 = omega arith in rw z at (byte_next s (q + 6) c.mark (c.vars ∷ rest) at6)

  at8 : drop (q + 8) s ≡ heads ++ (guards ++ (bodies ++ r))
  at8 =
      let z : q + 7 + 1 ≡ q + 8 = omega arith in
      (rw z at (byte_next s (q + 7) c.vars rest at7)) ∙ append_assoc heads (guards ++ bodies) r ∙ ap (λ (l : List ℕ). heads ++ l) (append_assoc guards bodies r)

  pub clause-rel : byte_at s (q + 4) ≡ c.rel
  clause-rel = byte-here s (q + 4) c.rel (length c.head ∷ c.mark ∷ c.vars ∷ rest) at4

  clause-arity : byte_at s (q + 5) ≡ length c.head
  clause-arity = byte-here s (q + 5) (length c.head) (c.mark ∷ c.vars ∷ rest) at5

  pub clause-mark : byte_at s (q + 6) ≡ c.mark
  clause-mark = byte-here s (q + 6) c.mark (c.vars ∷ rest) at6

  clause-vars : byte_at s (q + 7) ≡ c.vars
  clause-vars = byte-here s (q + 7) c.vars rest at7

  guard-place : guard_at s q ≡ q + 8 + length heads
  guard-place = let a = clause-arity in let b = terms-length c.head in omega arith

  guard-here : drop (guard_at s q) s ≡ guards ++ (bodies ++ r)
  guard-here = rw guard-place (skip_by s (q + 8) heads (guards ++ (bodies ++ r)) at8)

  body-place : body_at s q ≡ guard_at s q + length guards
  body-place = goal-step s c.guard (guard_at s q) (bodies ++ r) guard-here

  body-here : drop (body_at s q) s ≡ bodies ++ r
  body-here = rw body-place (skip_by s (guard_at s q) guards (bodies ++ r) guard-here)

  clause-ends : goal_end s (body_at s q) ≡ record_end s q
  clause-ends =
      goal-step s c.body (body_at s q) r body-here
      ∙ (let a = body-place in let b = guard-place in let d = record-end s 2 inner q r clause-here in let f = record-length 2 inner in let h = length-append heads (guards ++ bodies) in let k = length-append guards bodies in omega arith)

  pub clause-sized : clause_body s q ≡ clause_sized c
  unfolding clause_body clause_sized
  clause-sized =
      rw (
        goal-sized s c.guard (guard_at s q) (bodies ++ r) guard-here,
        goal-sized s c.body (body_at s q) r body-here,
        eq-eqb (goal_end s (body_at s q)) (record_end s q) clause-ends,
        true-right (goal_sized c.body),
        clause-arity,
        clause-mark,
        clause-vars,
      )

  module _ (rels : List (List ℕ)) (tail : List ℕ) (all : s ≡ joined relation_bytes rels ++ tail) (g : Progress) (count : g.relations ≡ length rels) where
    or-cond : (a b : Bool) → (a || b) ≡ cond a true b
    or-cond true b = refl
    or-cond false b = refl

    pub clause-known : (clause_placed s g q && clause_inside s g.relations q) ≡ clause_known rels g c
    unfolding clause_placed clause_inside clause_known
    clause-known =
        rw (
          clause-vars,
          goal-known s rels tail all g.relations c.vars count c.guard (guard_at s q) (bodies ++ r) guard-here,
          goal-known s rels tail all g.relations c.vars count c.body (body_at s q) r body-here,
          clause-rel,
          clause-arity,
          clause-mark,
          relation-known s rels tail all g.relations c.rel (length c.head) count,
          or-cond (follows g c.rel) (eqb c.mark 0),
          terms-known s c.vars c.head (q + 8) (guards ++ (bodies ++ r)) at8,
        )

-- ---- the goal

module _ (s : List ℕ) (n : ℕ) (g : Goal) (q : ℕ) (r : List ℕ) (e : drop q s ≡ ask_bytes n g ++ r) where
  pub ask-here : drop q s ≡ record_bytes 3 (n ∷ goal_bytes g) ++ r
  unfolding ask_bytes
  ask-here = e

  ask-goal : drop (q + 5) s ≡ goal_bytes g ++ r
  ask-goal = let z : q + 4 + 1 ≡ q + 5 = omega arith in rw z at (byte_next s (q + 4) n (goal_bytes g ++ r) (record-body s 3 (n ∷ goal_bytes g) q r ask-here))

  ask-vars : byte_at s (q + 4) ≡ n
  ask-vars = byte-here s (q + 4) n (goal_bytes g ++ r) (record-body s 3 (n ∷ goal_bytes g) q r ask-here)

  ask-ends : goal_end s (q + 5) ≡ record_end s q
  ask-ends = goal-step s g (q + 5) r ask-goal ∙ (let a = record-end s 3 (n ∷ goal_bytes g) q r ask-here in let b = record-length 3 (n ∷ goal_bytes g) in omega arith)

  pub ask-sized : ask_body s q ≡ ask_sized n g
  unfolding ask_body ask_sized
  ask-sized = rw (ask-vars, goal-sized s g (q + 5) r ask-goal, eq-eqb (goal_end s (q + 5)) (record_end s q) ask-ends, true-right (goal_sized g))

  pub ask-known : (rels : List (List ℕ)) (tail : List ℕ) → s ≡ joined relation_bytes rels ++ tail → (k : ℕ) → k ≡ length rels → goal_named s k (byte_at s (q + 4)) (q + 5) ≡ goal_known rels n g
  ask-known rels tail all k count = rw ask-vars (goal-known s rels tail all k n count g (q + 5) r ask-goal)
