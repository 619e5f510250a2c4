-- The index in the load's pass: what it holds between two records.
use mathlib.Core.Path.{◌∙◌, ◌≡◌, ap, refl, sym}
use mathlib.Core.Bool.{cond, false, true}
use mathlib.Core.List.{List}
use Prim.Native.Nat.{◌+◌, ◌<◌, ◌≤◌, suc, zero, ℕ}
use lib.Dec.{eqb, ltb}
use lib.ListN.{get_or, length, length-set, set}
use borrow.Author.Tests.{eq-eqb, lt-ltb, ltb-true, ne_eqb}
use native.Mathlib.Omega.{arith}
use Rattle.index_fill.proofs.Columns.{places-beside, places-more}
use Rattle.index_fill.proofs.Whole.{all-indexed, filled-noted, filled-place, filled-relation, filled-start}
use Rattle.index_fill.specs.Filling.{Filled, Fits, noted, Placed, vars_word}
use Rattle.load_body.specs.Reading.{place_of}
use Rattle.load.proofs.Accepted.{kinds, Passed, Reached, reached, zero_of}
use Rattle.load.proofs.Room.{few-clauses}
use Rattle.parlog.proofs.Bools.{and-true}
use Rattle.parlog.specs.Image.{body_at}
use Rattle.parlog.specs.Load.{nothing_read, progressed}
use Rattle.parlog.specs.Names.{arity_of, follows, relation_named}
use Rattle.parlog.specs.Program.{program_of}
use Rattle.parlog.specs.Records.{byte_at, kind_at, record_at}
use Rattle.parlog.specs.declared.Progress.{Progress}
use Rattle.program_block.specs.Parts.{opens_by, own_before}
use Rattle.program_clause.proofs.Fields.{relation-some}
use Rattle.program_index.specs.Indexed.{behind_from, blocks_from, first_from, Headed, Indexed, index_size}

-- the words for what the records before have shown
pub record Holds (s : List ℕ) (g : Progress) (ix : List ℕ) : Type 0 where
  pub size : length ix ≡ index_size
  pub places : Placed s (g.relations + g.clauses) ix
  pub goal : g.kind ≡ 3 → Placed s (g.relations + g.clauses + 1) ix
  pub filled : (c : ℕ) → g.clauses ≤ c → Filled s g.relations c g.clauses ix

pub holds-start : (s : List ℕ) {ix : List ℕ} → length ix ≡ index_size → ((k : ℕ) → k < 96 → get_or ix (blocks_from + k) 0 ≡ 0) → Holds s nothing_read ix
holds-start s size z = record { size = size; places = λ k h. absurd (omega arith); goal = λ e. absurd (omega arith); filled = λ c h. filled-start s 0 c z }

-- all is indexed when the goal was the last
pub holds-end : (s : List ℕ) (g : Progress) {ix : List ℕ} → g.relations ≤ 32 → g.clauses ≤ 64 → Holds s g ix → g.kind ≡ 3 → Headed (program_of s g.relations g.clauses) → Indexed s g.relations g.clauses ix
holds-end s g few most x e heads = all-indexed s g.relations g.clauses few most (x.goal e) (x.filled g.clauses (omega arith)) heads

-- the clause before is of the relation, by the load's count and by the program
own-before : (s : List ℕ) (g : Progress) (at : ℕ) → Reached s g at → (c q : ℕ) → g.clauses < c → follows g q ≡ own_before (program_of s g.relations c) q g.clauses
unfolding own_before
own-before s g at R c q h = go g.clauses refl
  where
    go : (n : ℕ) → g.clauses ≡ n → follows g q ≡ own_before (program_of s g.relations c) q g.clauses
    go zero e = rw e
    go (suc n) e =
        let l = R.last n (sym e) in
        let o = lt-ltb 0 (suc n) (omega arith) in
        let r = relation-some s g.relations c n (omega arith) refl refl in
        rw (e, o, ← r, l)

module _ (s : List ℕ) (g t : Progress) (at : ℕ) (R : Reached s g at) (P : Passed s g at t) where
  here : at ≡ record_at s (g.relations + g.clauses)
  here = R.here (kinds g (kind_at s at) P.kind).3

  -- what the record adds, by its kind
  after-relation : kind_at s at ≡ 1 → (t.relations ≡ g.relations + 1) × (t.clauses ≡ g.clauses) × (t.kind ≡ 1) × (g.clauses ≡ 0)
  unfolding progressed
  after-relation k1 =
      let e = rw (eq-eqb (kind_at s at) 1 k1) at P.next in
      let ks = kinds g (kind_at s at) P.kind in
      (sym (ap (λ (x : Progress). x.relations) e), sym (ap (λ (x : Progress). x.clauses) e), sym (ap (λ (x : Progress). x.kind) e) ∙ k1, zero_of g.clauses (λ h. let o = R.late h in omega arith))

  after-clause : kind_at s at ≡ 2 → (t.relations ≡ g.relations) × (t.clauses ≡ g.clauses + 1) × (t.kind ≡ 2)
  unfolding progressed
  after-clause k2 =
      let n1 : eqb (kind_at s at) 1 ≡ false = ne_eqb (kind_at s at) 1 (λ f. omega arith) in
      let e = rw (n1, eq-eqb (kind_at s at) 2 k2) at P.next in
      (sym (ap (λ (x : Progress). x.relations) e), sym (ap (λ (x : Progress). x.clauses) e), sym (ap (λ (x : Progress). x.kind) e) ∙ k2)

  after-goal : kind_at s at ≡ 3 → (t.relations ≡ g.relations) × (t.clauses ≡ g.clauses) × (t.kind ≡ 3)
  unfolding progressed
  after-goal k3 =
      let n1 : eqb (kind_at s at) 1 ≡ false = ne_eqb (kind_at s at) 1 (λ f. omega arith) in
      let n2 : eqb (kind_at s at) 2 ≡ false = ne_eqb (kind_at s at) 2 (λ f. omega arith) in
      let e = rw (n1, n2) at P.next in
      (sym (ap (λ (x : Progress). x.relations) e), sym (ap (λ (x : Progress). x.clauses) e), sym (ap (λ (x : Progress). x.kind) e) ∙ k3)

  -- by the kind that is kept
  by_kind : {A : Type 0} → (kind_at s at ≡ 1 → A) → (kind_at s at ≡ 2 → A) → (kind_at s at ≡ 3 → A) → A
  by_kind {A} f1 f2 f3 = go (kind_at s at) refl (kinds g (kind_at s at) P.kind).0 (kinds g (kind_at s at) P.kind).1
    where
      go : (k : ℕ) → kind_at s at ≡ k → 1 ≤ k → k ≤ 3 → A
      go zero e lo hi = absurd (omega arith)
      go (suc zero) e lo hi = f1 e
      go (suc (suc zero)) e lo hi = f2 e
      go (suc (suc (suc zero))) e lo hi = f3 e
      go (suc (suc (suc (suc k)))) e lo hi = absurd (omega arith)

  clause-kind : t.kind ≡ 2 → kind_at s at ≡ 2
  clause-kind e = by_kind (λ k1. let z = (after-relation k1).2 in absurd (omega arith)) (λ k2. k2) (λ k3. let z = (after-goal k3).2 in absurd (omega arith))

  -- the relation of a clause is one of those before
  named : kind_at s at ≡ 2 → byte_at s (at + 4) < g.relations
  unfolding relation_named
  named k2 =
      let a = after-clause k2 in
      let c = (reached s g t at R P).clause g.clauses (omega arith) in
      let q = byte_at s (at + 4) in
      let c' = rw (a.0, ← here) at c in
      ltb-true q g.relations (and-true (ltb q g.relations) (eqb (byte_at s (at + 5)) (arity_of s q)) c'.head).0

  module _ (short : length s ≤ 32768) {ix : List ℕ} (x : Holds s g ix) {body : ℕ} (few : body ≤ 65535) where
    abbrev with-place : List ℕ
    with-place = set ix (g.relations + g.clauses) at

    size-so : length with-place ≡ index_size
    size-so = length-set ix (g.relations + g.clauses) at ∙ x.size

    placed-so : Placed s (g.relations + g.clauses + 1) with-place
    placed-so =
        let a = R.relations in
        let b = R.clauses in
        let w = R.within in
        places-more s (g.relations + g.clauses) ix at (omega (arith, x.size)) here (omega arith) x.places

    filled-so : (c : ℕ) → g.clauses ≤ c → Filled s g.relations c g.clauses with-place
    filled-so c h =
        let a = R.relations in
        let b = R.clauses in
        filled-place s g.relations c g.clauses (g.relations + g.clauses) at (omega arith) (x.filled c h)

    pub holds_fits : t.kind ≡ 2 → Fits s g at body with-place
    holds_fits e =
        let k2 = clause-kind e in
        let q = named k2 in
        let a = R.relations in
        let b = R.clauses in
        let w = R.within in
        let p = (placed-so (byte_at s (at + 4)) (omega arith)).1 in
        let f = filled-so g.clauses (omega arith) in
        let fb = (f.blocks (byte_at s (at + 4)) (omega arith)).1 in
        let ff = (f.first (byte_at s (at + 4)) (omega arith)).1 in
        record { size = size-so; room = few-clauses g (kind_at s at) k2 P.few; place = omega arith; body_few = few; relation = omega arith; record_few = omega arith; blocks_few = omega arith; first_few = omega arith }

    module _ (told : body ≡ place_of s at (kind_at s at)) (vars : t.kind ≡ 2 → vars_word s at (get_or with-place (byte_at s (at + 4)) 0) ≤ 510) where
      next-relation : kind_at s at ≡ 1 → Holds s t (noted t.kind s g at body with-place)
      next-relation k1 =
          let a = after-relation k1 in
          let n2 : eqb t.kind 2 ≡ false = ne_eqb t.kind 2 (λ f. omega (arith, a.2)) in
          rw n2 (record {
            size = size-so;
            places = λ k h. placed-so k (omega (arith, a.0, a.1));
            goal = λ e. absurd (omega (arith, a.2));
            filled = λ c h. rw (a.0, a.1) (filled-relation s g.relations (g.relations + 1) c g.clauses a.3 (filled-so c (omega (arith, a.1))));
          })

      next-goal : kind_at s at ≡ 3 → Holds s t (noted t.kind s g at body with-place)
      next-goal k3 =
          let a = after-goal k3 in
          let n2 : eqb t.kind 2 ≡ false = ne_eqb t.kind 2 (λ f. omega (arith, a.2)) in
          rw n2 (record {
            size = size-so;
            places = λ k h. placed-so k (omega (arith, a.0, a.1));
            goal = λ e k h. placed-so k (omega (arith, a.0, a.1));
            filled = λ c h. rw (a.0, a.1) (filled-so c (omega (arith, a.1)));
          })

      next-clause : kind_at s at ≡ 2 → Holds s t (noted t.kind s g at body with-place)
      next-clause k2 =
          let a = after-clause k2 in
          let y2 : eqb t.kind 2 ≡ true = eq-eqb t.kind 2 a.2 in
          let fits = holds_fits a.2 in
          let q = named k2 in
          let hr = R.relations in
          let eb : body ≡ body_at s at = rw (eq-eqb (kind_at s at) 2 k2) at told in
          let put = places-beside s (g.relations + g.clauses + 1) with-place g.clauses (byte_at s (at + 4)) (vars_word s at (get_or with-place (byte_at s (at + 4)) 0)) body
          (cond (opens_by (byte_at s (at + 4)) (follows g (byte_at s (at + 4))) (byte_at s (at + 6)) (byte_at s (at + 4))) (get_or with-place (blocks_from + byte_at s (at + 4)) 0 + 1) (get_or with-place (blocks_from + byte_at s (at + 4)) 0))
          (cond (eqb (get_or with-place (behind_from + byte_at s (at + 4)) 0) 0) g.clauses (get_or with-place (first_from + byte_at s (at + 4)) 0)) (omega (arith, R.clauses)) placed-so in
          rw y2 (record {
            size = simp length-set x.size;
            places = λ k h. put k (omega (arith, a.0, a.1));
            goal = λ e. absurd (omega (arith, a.2));
            filled = λ c h. rw (a.0, a.1)
                (filled-noted s g.relations c g (omega (arith, a.1)) here fits q (own-before s g at R c (byte_at s (at + 4)) (omega (arith, a.1))) eb (placed-so (byte_at s (at + 4)) (omega arith)).0 (vars a.2) (filled-so c (omega (arith, a.1))));
          })

      pub holds-next : Holds s t (noted t.kind s g at body with-place)
      holds-next = by_kind next-relation next-clause next-goal
