-- An image whose records pass has few bytes, so that it is never too long.
use Rattle.std.specs.Prelude.{Result, Ok, Err}
use Rattle.parlog.specs.Answer.{Answer}
use mathlib.Core.Path.{◌≡◌, refl}
use mathlib.Core.Bool.{◌&&◌, ◌||◌, Bool, cond, false, true}
use mathlib.Core.List.{List}
use Prim.Native.Nat.{◌*◌, ◌+◌, ◌≤◌, suc, zero, ℕ}
use lib.Dec.{eqb, leb, ltb}
use lib.ListN.{length}
use borrow.Author.Tests.{eq-eqb, eqb-false, eqb-true, le-ltb, leb-true, ltb-false, ne_eqb}
use native.Mathlib.Omega.{arith}
use Rattle.load.proofs.Accepted.{all-passed}
use Rattle.load.proofs.Inside.{ask-fields, clause-fields}
use Rattle.load.proofs.Room.{few-clauses, few-relations}
use Rattle.std.proofs.lemmas.Bool.{and_parts, or_parts}
use Rattle.parlog.proofs.Walk.{walk-holds}
use Rattle.parlog.specs.Body.{ask_body, body_right, clause_body, goal_range, literal_count, literal_range, literals_range, modes_range, relation_body, stage_range, stages_range}
use Rattle.parlog.specs.Image.{body_at, goal_end, guard_at, literal_end, literals_end, stage_end, stages_end}
use Rattle.parlog.specs.Load.{after, broken, judged, kind_fault, load_end, long, nothing_read, progressed, records, refusal, too_many, verdict}
use Rattle.parlog.specs.Records.{byte_at, cut, kind_at, record_end}
use Rattle.parlog.specs.Scan.{along, each, total}
use Rattle.parlog.specs.declared.Progress.{Progress}
use Rattle.text_loads.proofs.Walked.{passes}
use Rattle.text_loads.specs.Loads.{most_image, NeverLong}
use Rattle.text_names.specs.Names.{Name}
use Rattle.text_program.specs.Parsing.{records_in}

module _ (s : List ℕ) where
  -- ---- how far each field reaches

  literals-reach : (n at : ℕ) → literals_range s n at ≡ true → literals_end s n at ≤ at + 10 * n
  unfolding each along
  literals-reach zero at e = omega arith
  literals-reach (suc n) at e =
      let w = and_parts (literal_range s at) (literals_range s n (literal_end s at)) e in
      let a = leb-true (byte_at s (at + 1)) 4 w.0 in
      let i = literals-reach n (literal_end s at) w.1 in
      omega arith

  stage-reach : (at : ℕ) → stage_range s at ≡ true → stage_end s at ≤ at + 1 + 10 * byte_at s at
  unfolding stage_range stage_end
  stage-reach at e = literals-reach (byte_at s at) (at + 1) (and_parts (leb 1 (byte_at s at)) (literals_range s (byte_at s at) (at + 1)) e).1

  stages-reach : (n at : ℕ) → stages_range s n at ≡ true → stages_end s n at ≤ at + n + 10 * literal_count s n at
  unfolding each along total
  stages-reach zero at e = omega arith
  stages-reach (suc n) at e =
      let w = and_parts (stage_range s at) (stages_range s n (stage_end s at)) e in
      let a = stage-reach at w.0 in
      let i = stages-reach n (stage_end s at) w.1 in
      omega arith

  goal-reach : (at : ℕ) → goal_range s at ≡ true → goal_end s at ≤ at + 89
  unfolding goal_range goal_end
  goal-reach at e =
      let n = byte_at s at in
      let a = and_parts (leb n 8) (stages_range s n (at + 1) && leb (literal_count s n (at + 1)) 8) e in
      let b = and_parts (stages_range s n (at + 1)) (leb (literal_count s n (at + 1)) 8) a.1 in
      let x = leb-true n 8 a.0 in
      let y = leb-true (literal_count s n (at + 1)) 8 b.1 in
      let i = stages-reach n (at + 1) b.0 in
      omega arith

  -- ---- and each record

  relation-reach : (at : ℕ) → relation_body s at ≡ true → record_end s at ≤ at + 9
  unfolding relation_body
  relation-reach at e =
      let n = byte_at s (at + 4) in
      let a = and_parts (leb n 4) (modes_range s n (at + 5) && eqb (at + 5 + n) (record_end s at)) e in
      let x = leb-true n 4 a.0 in
      let y = eqb-true (at + 5 + n) (record_end s at) (and_parts (modes_range s n (at + 5)) (eqb (at + 5 + n) (record_end s at)) a.1).1 in
      omega arith

  clause-arity : (at : ℕ) → clause_body s at ≡ true → byte_at s (at + 5) ≤ 4
  unfolding clause_body
  clause-arity at e = leb-true (byte_at s (at + 5)) 4 (and_parts (leb (byte_at s (at + 5)) 4) _ e).0

  clause-reach : (at : ℕ) → clause_body s at ≡ true → record_end s at ≤ at + 194
  clause-reach at e =
      let f = clause-fields s at e in
      let a = clause-arity at e in
      let g = goal-reach (guard_at s at) f.guard in
      let b = goal-reach (body_at s at) f.body in
      let z = f.ends in
      omega arith

  ask-reach : (at : ℕ) → ask_body s at ≡ true → record_end s at ≤ at + 94
  ask-reach at e = let f = ask-fields s at e in let g = goal-reach (at + 5) f.goal in let z = f.ends in omega arith

  -- ---- from record to record

  -- what the records before this place have shown
  record Within (at : ℕ) (g : Progress) : Type 0 where
    pub relations : g.relations ≤ 32
    pub clauses : g.clauses ≤ 64
    pub before : (g.kind ≡ 3 → ⊥) → at ≤ 9 * g.relations + 194 * g.clauses
    pub most : at ≤ 9 * g.relations + 194 * g.clauses + 94

  record KindsRight (g : Progress) (kind : ℕ) : Type 0 where
    pub least : 1 ≤ kind
    pub most : kind ≤ 3
    pub open-yet : g.kind ≡ 3 → ⊥

  kinds-right : (g : Progress) (kind : ℕ) → kind_fault g kind ≡ false → KindsRight g kind
  unfolding kind_fault
  kinds-right g kind e =
      let a = or_parts (ltb kind 1) (ltb 3 kind || (ltb kind g.kind || eqb g.kind 3)) e in
      let b = or_parts (ltb 3 kind) (ltb kind g.kind || eqb g.kind 3) a.1 in
      let c = or_parts (ltb kind g.kind) (eqb g.kind 3) b.1 in
      record { least = ltb-false kind 1 a.0; most = ltb-false 3 kind b.0; open-yet = eqb-false g.kind 3 c.1 }

  module _ (at : ℕ) (g : Progress) (w : Within at g) (few : too_many g (kind_at s at) ≡ false) (body : body_right s at (kind_at s at) ≡ true) (still : g.kind ≡ 3 → ⊥) where
    relation-next : kind_at s at ≡ 1 → Within (record_end s at) (progressed s g at (kind_at s at))
    unfolding progressed body_right
    relation-next q =
        let f = few-relations g (kind_at s at) q few in
        let b = relation-reach at (rw (eq-eqb (kind_at s at) 1 q) at body) in
        let p = w.before still in
        let c = w.clauses in
        rw (eq-eqb (kind_at s at) 1 q) (record { relations = omega arith; clauses = c; before = λ z. omega arith; most = omega arith })

    clause-next : kind_at s at ≡ 2 → Within (record_end s at) (progressed s g at (kind_at s at))
    unfolding progressed body_right
    clause-next q =
        let n = ne_eqb (kind_at s at) 1 (λ z. omega arith) in
        let f = few-clauses g (kind_at s at) q few in
        let b = clause-reach at (rw (n, eq-eqb (kind_at s at) 2 q) at body) in
        let p = w.before still in
        let r = w.relations in
        rw (n, eq-eqb (kind_at s at) 2 q) (record { relations = r; clauses = omega arith; before = λ z. omega arith; most = omega arith })

    goal-next : kind_at s at ≡ 3 → Within (record_end s at) (progressed s g at (kind_at s at))
    unfolding progressed body_right
    goal-next q =
        let n = ne_eqb (kind_at s at) 1 (λ z. omega arith) in
        let m = ne_eqb (kind_at s at) 2 (λ z. omega arith) in
        let b = ask-reach at (rw (n, m) at body) in
        let p = w.before still in
        rw (n, m) (record { relations = w.relations; clauses = w.clauses; before = λ z. absurd (z q); most = omega arith })

    within-next : 1 ≤ kind_at s at → kind_at s at ≤ 3 → Within (record_end s at) (progressed s g at (kind_at s at))
    within-next lo hi = go (kind_at s at) refl lo hi
      where
        go : (q : ℕ) → kind_at s at ≡ q → 1 ≤ q → q ≤ 3 → Within (record_end s at) (progressed s g at (kind_at s at))
        go zero e lo hi = absurd (omega arith)
        go (suc zero) e lo hi = relation-next e
        go (suc (suc zero)) e lo hi = clause-next e
        go (suc (suc (suc zero))) e lo hi = goal-next e
        go (suc (suc (suc (suc q)))) e lo hi = absurd (omega arith)

  within-goes : (at : ℕ) (g t : Progress) → Within at g → cut s at ≡ false → verdict s g at ≡ Ok t → Within (record_end s at) t
  within-goes at g t w e v =
      let p = all-passed s g t at e v in
      let k = kinds-right g (kind_at s at) p.kind in
      rw p.next at (within-next at g w p.few p.body k.open-yet k.least k.most)

  abbrev Few-bytes : Answer (ℕ × ℕ) → Type 0
  Few-bytes (Ok (r, c)) = length s ≤ most_image
  Few-bytes (Err f) = Unit {0}

  one-record : (at : ℕ) (g : Progress) → Within at g → cut s at ≡ false → (rest : Progress → Answer (ℕ × ℕ)) → ((t : Progress) → Within (record_end s at) t → Few-bytes (rest t)) → Few-bytes (judged s rest at g)
  one-record at g w e rest more = go (verdict s g at) refl
    where
      go : (v : Result Progress ℕ) → verdict s g at ≡ v → Few-bytes (after rest at v)
      go (Err n) d = tt
      go (Ok t) d = more t (within-goes at g t w e d)

  at-end : (at : ℕ) (g : Progress) → Within at g → length s ≤ at → Few-bytes (load_end s g)
  at-end at g w h = go (eqb g.kind 3)
    where
      go : (b : Bool) → Few-bytes (cond {A = Answer (ℕ × ℕ)} b (Ok (g.relations, g.clauses)) (Err (refusal 7 (length s))))
      go true = let a = w.relations in let b = w.clauses in let c = w.most in omega arith
      go false = tt

  nothing-within : Within 0 nothing_read
  nothing-within = record { relations = omega arith; clauses = omega arith; before = λ z. omega arith; most = omega arith }

  few_bytes : Few-bytes (records s (length s) 0 nothing_read)
  few_bytes = walk-holds s broken (judged s) (load_end s) Within Few-bytes (λ at g w l e. tt) (λ at g w l e rest more. one-record at g w e rest more) at-end (length s) 0 nothing_read (omega arith) nothing-within

-- THE LAW: what passes has few bytes
pub passed-short : (rels : List Name) (s : List ℕ) (r c : ℕ) → records_in rels s ≡ Ok (r, c) → length s ≤ most_image
unfolding records_in
passed-short rels s r c e = rw (passes rels s (length s) 0 nothing_read r c e) at (few_bytes s)

pub never-long : NeverLong
unfolding long
never-long rels s r c e = le-ltb 32768 (length s) (omega (arith, passed-short rels s r c e))
