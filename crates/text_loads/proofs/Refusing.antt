-- The records of an encoded program are whole, of the right kinds and end with the goal: what refuses them is 4, 5 or 6.
use Rattle.std.specs.Prelude.{Ok, Err}
use Rattle.parlog.specs.Answer.{Answer}
use mathlib.Core.Path.{◌∙◌, ◌≡◌, ap, refl, sym}
use mathlib.Core.Bool.{◌&&◌, Bool, false, not, true}
use mathlib.Core.List.{[], ◌++◌, ◌∷◌, List}
use Prim.Native.Nat.{◌+◌, ◌-◌, ◌<◌, ◌≤◌, suc, zero, ℕ}
use lib.Dec.{eqb, leb, ltb}
use lib.ListN.{drop, length, length-append, length-drop}
use borrow.Author.Tests.{eq-eqb, le-ltb, leb-false, leb-true, ltb-false, ltb-true, ne_eqb}
use native.Mathlib.Omega.{arith}
use Rattle.parlog.proofs.Along.{along-add, along-snoc}
use Rattle.parlog.proofs.Bools.{never, split}
use Rattle.parlog.proofs.Walk.{walk-holds}
use Rattle.parlog.specs.Body.{body_right}
use Rattle.parlog.specs.Image.{relation_kind}
use Rattle.parlog.specs.Load.{after, block_full, broken, kind_fault, load_end, nothing_read, progressed, refuse_if, too_many, verdict}
use Rattle.parlog.specs.Names.{names_right}
use Rattle.parlog.specs.Program.{clause_of, modes_of, Program}
use Rattle.parlog.specs.Records.{cut, kind_at, record_at, record_end}
use Rattle.parlog.specs.Scan.{along}
use Rattle.parlog.specs.declared.Progress.{Progress}
use Rattle.text_loads.proofs.Counted.{At, encoded-kinds, Kinds, row_at}
use Rattle.text_loads.proofs.Decoded.{clauses, clauses-at, clauses-place, from_start, goal-at, goal-place, relations}
use Rattle.text_loads.specs.Loads.{ClauseFits, RecordsRefused}
use Rattle.text_names.specs.Names.{Name}
use Rattle.text_program.proofs.Fields.{record-end, record-length, record-whole}
use Rattle.text_program.specs.Encoded.{ask_bytes, clause_bytes, goal_bytes, program_bytes, record_bytes, relation_bytes}
use Rattle.text_program.specs.Numbered.{joined, program_in, relation_names}
use Rattle.text_program.specs.Parsing.{image_in, once_by, records_in, repeated, text_verdict}

-- ---- records that stand

pub record Placed (s : List ℕ) (at kind : ℕ) : Type 0 where
  pub body : List ℕ
  pub rest : List ℕ
  pub stands : drop at s ≡ record_bytes kind body ++ rest

module _ (s : List ℕ) (at kind : ℕ) (p : Placed s at kind) where
  placed-long : length s - at ≡ 4 + length p.body + length p.rest
  placed-long =
      sym (length-drop at s) ∙ ap (λ (x : List ℕ). length x) p.stands
      ∙ omega (arith, length-append (record_bytes kind p.body) p.rest, record-length kind p.body)

  pub placed_end : record_end s at ≡ at + 4 + length p.body
  placed_end = record-end s kind p.body at p.rest p.stands ∙ omega (arith, record-length kind p.body)

  pub placed-in : at + 4 + length p.body + length p.rest ≤ length s
  placed-in = omega (arith, placed-long)

  placed-whole : cut s at ≡ false
  placed-whole = record-whole s kind p.body at p.rest p.stands

relation-placed : (s : List ℕ) (at : ℕ) → At s relation_bytes at → Placed s at 1
unfolding relation_bytes
relation-placed s at a = record { body = length a.what ∷ a.what; rest = a.rest; stands = a.stands }

clause-placed : (s : List ℕ) (at : ℕ) → At s clause_bytes at → Placed s at 2
unfolding clause_bytes
clause-placed s at a = record { body = _; rest = a.rest; stands = a.stands }

-- ---- kinds one after the other

module _ (kind : ℕ → ℕ) (r c : ℕ) (K : Kinds kind r c) where
  pub record AtPlace (k : ℕ) : Type 0 where
    pub least : 1 ≤ kind k
    pub most : kind k ≤ 3
    pub early : k < r + c → kind k < 3
    pub later : r ≤ k → 2 ≤ kind k
    pub last : r + c ≤ k → kind k ≡ 3
    pub first-ones : k < r → kind k ≡ 1

  pub at_place : (k : ℕ) → k ≤ r + c → AtPlace k
  at_place k h =
      split (ltb k r)
      (λ e. let l = ltb-true k r e in let q = K.relations k l in record { least = omega arith; most = omega arith; early = λ x. omega arith; later = λ x. absurd (omega arith); last = λ x. absurd (omega arith); first-ones = λ x. q })
      (λ e. let l = ltb-false k r e in
      let i = k - r in
      let z : r + i ≡ k = omega arith in
      split (ltb k (r + c))
      (λ f. let m = ltb-true k (r + c) f in let q : kind k ≡ 2 = (rw z at (K.clauses i (omega arith))) in record { least = omega arith; most = omega arith; early = λ x. omega arith; later = λ x. omega arith; last = λ x. absurd (omega arith); first-ones = λ x. absurd (omega arith) })
      (λ f. let m = ltb-false k (r + c) f in let y : k ≡ r + c = omega arith in let q : kind k ≡ 3 = (rw y K.goal) in record { least = omega arith; most = omega arith; early = λ x. absurd (omega arith); later = λ x. omega arith; last = λ x. q; first-ones = λ x. absurd (omega arith) }))

  -- the kind of the record before is not higher, and not the goal's
  pub goes-up : (j : ℕ) → suc j ≤ r + c → (kind j ≤ kind (suc j)) × (kind j < 3)
  goes-up j h =
      let a = at_place j (omega arith) in
      let b = at_place (suc j) h in
      let x = a.early (omega arith) in
      let y = b.least in
      (split (ltb j r) (λ e. let z = a.first-ones (ltb-true j r e) in omega arith) (λ e. let l = ltb-false j r e in let z = b.later (omega arith) in omega arith), x)

-- ---- the tests

abbrev Among-three : ℕ → Type 0
Among-three n = (4 ≤ n) × (n ≤ 6)

abbrev Refused-so : Answer (ℕ × ℕ) → Type 0
Refused-so (Ok (r, c)) = Unit {0}
Refused-so (Err f) = Among-three f.number

tests-so : (a b c d again : Bool) (rest : Progress → Answer (ℕ × ℕ)) (at : ℕ) (t : Progress) → Refused-so (rest t) → Refused-so (after rest at (once_by again (refuse_if a 6 (refuse_if b 4 (refuse_if c 5 (refuse_if d 6 (Ok t)))))))
tests-so true b c d again rest at t h = (omega arith, omega arith)
tests-so false true c d again rest at t h = (omega arith, omega arith)
tests-so false false true d again rest at t h = (omega arith, omega arith)
tests-so false false false true again rest at t h = (omega arith, omega arith)
tests-so false false false false true rest at t h = (omega arith, omega arith)
tests-so false false false false false rest at t h = h

kind-kept : (s : List ℕ) (g : Progress) (at kind : ℕ) → (progressed s g at kind).kind ≡ kind
unfolding progressed
kind-kept s g at kind = split (eqb kind 1) (λ e. rw e refl) (λ e. split (eqb kind 2) (λ f. rw (e, f) refl) (λ f. rw (e, f) refl))

no-fault : (g : Progress) (kind : ℕ) → 1 ≤ kind → kind ≤ 3 → g.kind ≤ kind → (g.kind ≡ 3 → ⊥) → kind_fault g kind ≡ false
unfolding kind_fault
no-fault g kind a b c d = rw (le-ltb kind 1 a, le-ltb 3 kind b, le-ltb kind g.kind c, ne_eqb g.kind 3 d)

module _ (rels : List Name) (pr : Program) where
  abbrev s : List ℕ
  s = program_bytes pr

  abbrev r : ℕ
  r = length pr.relations

  abbrev c : ℕ
  c = length pr.clauses

  abbrev kind : ℕ → ℕ
  kind k = kind_at s (record_at s k)

  goal-placed : Placed s (record_at s (r + c)) 3
  unfolding ask_bytes
  goal-placed = rw (goal-place pr) (record { body = pr.goal_vars ∷ goal_bytes pr.goal; rest = []; stands = goal-at pr })

  pub placed : (k : ℕ) → k ≤ r + c → (q : ℕ) × Placed s (record_at s k) q
  placed k h =
      split (ltb k r)
      (λ e. (1, relation-placed s (record_at s k) (row_at s relation_bytes (modes_of s) (record_end s) (λ ms. Unit) (relations s) pr.relations 0 k _ (ltb-true k r e) (from_start pr))))
      (λ e. let l = ltb-false k r e in
      let i = k - r in
      let z : r + i ≡ k = omega arith in
      split (ltb k (r + c))
      (λ f. let m = ltb-true k (r + c) f in (2, rw (← z, ← along-add (record_end s) i r 0, clauses-place pr) (clause-placed s _ (row_at s clause_bytes (clause_of s) (record_end s) ClauseFits (clauses s) pr.clauses _ i _ (omega arith) (clauses-at pr)))))
      (λ f. let m = ltb-false k (r + c) f in let y : k ≡ r + c = omega arith in (3, rw y goal-placed)))

  last_end : record_end s (length (joined relation_bytes pr.relations) + length (joined clause_bytes pr.clauses)) ≡ length s
  unfolding ask_bytes
  last_end =
      let at = length (joined relation_bytes pr.relations) + length (joined clause_bytes pr.clauses) in
      let body = pr.goal_vars ∷ goal_bytes pr.goal in
      let a = record-end s 3 body at [] (goal-at pr) in
      let b = sym (length-drop at s) ∙ ap (λ (x : List ℕ). length x) (goal-at pr) ∙ length-append (record_bytes 3 body) [] in
      omega (arith, record-length 3 body)

  pub all_end : record_at s (suc (r + c)) ≡ length s
  all_end = along-snoc (record_end s) (r + c) 0 ∙ ap (record_end s) (goal-place pr) ∙ last_end

  -- the walk stands before record k
  record Here (at : ℕ) (g : Progress) : Type 0 where
    pub which : ℕ
    pub place : at ≡ record_at s which
    pub within : which ≤ suc (r + c)
    pub none : which ≡ 0 → g.kind ≡ 0
    pub before : (j : ℕ) → suc j ≡ which → g.kind ≡ kind j

  nothing-here : Here 0 nothing_read
  unfolding along
  nothing-here = record { which = 0; place = refl; within = omega arith; none = λ e. refl; before = λ j e. absurd (omega arith) }

  module _ (at : ℕ) (g : Progress) (h : Here at g) where
    abbrev k : ℕ
    k = h.which

    -- at the end all records have been seen
    ends_so : length s ≤ at → Refused-so (load_end s g)
    ends_so l = split (leb k (r + c)) (λ e. absurd (inside (leb-true k (r + c) e))) (λ e. let m = leb-false k (r + c) e in let w = h.within in rw (eq-eqb g.kind 3 (h.before (r + c) (omega arith) ∙ (encoded-kinds pr).goal)) tt)
      where
        inside : h.which ≤ r + c → ⊥
        inside m =
            let p = placed h.which m in
            let i = placed-in s (record_at s h.which) p.0 p.1 in
            let e = h.place in
            omega arith

    module _ (more : at < length s) where
      not-past : k ≤ r + c
      not-past =
          split (leb k (r + c)) (λ e. leb-true k (r + c) e)
          (λ e. let m = leb-false k (r + c) e in
          let w = h.within in
          let z : k ≡ suc (r + c) = omega arith in
          let x = h.place ∙ ap (record_at s) z ∙ all_end in
          absurd (omega arith))

      whole : cut s at ≡ false
      whole = let p = placed k not-past in rw h.place (placed-whole s (record_at s k) p.0 p.1)

      kind_is : kind_at s at ≡ kind k
      kind_is = ap (kind_at s) h.place

      up-to-now : (g.kind ≤ kind k) × (g.kind ≡ 3 → ⊥)
      up-to-now = go k refl not-past
        where
          go : (m : ℕ) → h.which ≡ m → m ≤ r + c → (g.kind ≤ kind m) × (g.kind ≡ 3 → ⊥)
          go zero e l = let z = h.none e in (omega arith, λ x. omega arith)
          go (suc j) e l = let z = h.before j (sym e) in let w = goes-up kind r c (encoded-kinds pr) j l in let u = w.0 in let v = w.1 in (omega arith, λ x. omega arith)

      right-kind : kind_fault g (kind_at s at) ≡ false
      right-kind = let a = at_place kind r c (encoded-kinds pr) k not-past in rw kind_is (no-fault g (kind k) a.least a.most up-to-now.0 up-to-now.1)

      here-next : Here (record_end s at) (progressed s g at (kind_at s at))
      here-next = record {
        which = suc k;
        place = ap (record_end s) h.place ∙ sym (along-snoc (record_end s) k 0);
        within = let m = not-past in omega arith;
        none = λ e. absurd (omega arith);
        before = λ j e. let z : j ≡ k = omega arith in kind-kept s g at (kind_at s at) ∙ kind_is ∙ ap kind (sym z);
      }

      goes_so : (rest : Progress → Answer (ℕ × ℕ)) → ((t : Progress) → Here (record_end s at) t → Refused-so (rest t)) → Refused-so (after rest at (text_verdict rels s g at))
      unfolding text_verdict verdict
      goes_so rest later =
          rw right-kind
          (tests-so (too_many g (kind_at s at)) (not (body_right s at (kind_at s at))) (not (names_right s g at (kind_at s at))) (block_full s g at (kind_at s at)) (eqb (kind_at s at) relation_kind && repeated rels g.relations)
          rest at (progressed s g at (kind_at s at)) (later (progressed s g at (kind_at s at)) here-next))

  refused-so : Refused-so (records_in rels s)
  unfolding records_in
  refused-so =
      walk-holds s broken (λ rest at g. after rest at (text_verdict rels s g at)) (load_end s) Here Refused-so
      (λ at g h l e. never (sym (whole at g h l) ∙ e)) (λ at g h l e rest later. goes_so at g h l rest later) (λ at g h l. ends_so at g h l) (length s) 0 nothing_read (omega arith) nothing-here

-- THE LAW: 4, 5 or 6
pub records-refused : RecordsRefused
unfolding image_in
records-refused p f e = rw e at (refused-so (relation_names p) (program_in p))
