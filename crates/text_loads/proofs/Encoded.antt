-- An accepted image is the bytes of its program.
use mathlib.Core.Path.{◌∙◌, ◌≡◌, ap, refl, sym}
use mathlib.Core.Bool.{◌&&◌, Bool, cond, false, true}
use mathlib.Core.List.{[], ◌++◌, ◌∷◌, append_assoc, append-nil, List}
use Prim.Native.Nat.{◌%◌, ◌*◌, ◌+◌, ◌-◌, ◌/◌, ◌<◌, ◌≤◌, suc, zero, ℕ}
use lib.Dec.{eqb, leb, ltb}
use lib.ListN.{drop, length}
use lib.Seq.{drop-length}
use borrow.Author.Tests.{eqb-true, ltb-false}
use native.Mathlib.Omega.{arith}
use Rattle.load.proofs.Accepted.{accepted, ClauseRight, GoalRight, RelationRight, Right}
use Rattle.load.proofs.Inside.{ask-fields, clause-fields}
use Rattle.parlog.proofs.Along.{along-add, along-snoc, along-terms, list_length}
use Rattle.std.proofs.lemmas.Bool.{and_parts}
use Rattle.parlog.specs.Body.{modes_range, relation_body}
use Rattle.parlog.specs.Image.{body_at, goal_end, guard_at, literal_end, mode_end, stage_end, term_at, term_end, term_of}
use Rattle.parlog.specs.Program.{clause_of, goal_of, literal_of, modes_of, program_of, stage_of}
use Rattle.parlog.specs.Records.{byte_at, kind_at, record_at, record_end, word_at}
use Rattle.parlog.specs.Scan.{along, list_of}
use Rattle.parlog.specs.declared.Term.TheVariants.{Const, Var}
use Rattle.rows.specs.Rows.{Bytes}
use Rattle.text_loads.proofs.Stands.{along-up, between, Encodes, one_more, row-bytes, two-more}
use Rattle.text_loads.specs.Loads.{EncodeDecode}
use Rattle.text_program.specs.Encoded.{ask_bytes, clause_bytes, goal_bytes, literal_bytes, program_bytes, record_bytes, relation_bytes, stage_bytes, term_bytes, word_bytes}
use Rattle.text_program.specs.Numbered.{joined}

word-half : (a b : ℕ) → a < 256 → word_bytes (a + 256 * b) ≡ a ∷ b ∷ []
word-half a b h = let e : (a + 256 * b) % 256 ≡ a = omega arith in let f : (a + 256 * b) / 256 ≡ b = omega arith in rw (e, f)

word-term : (w : ℕ) → term_bytes (term_of w) ≡ word_bytes w
unfolding term_bytes
word-term w = go (ltb w 32768) refl
  where
    go : (b : Bool) → ltb w 32768 ≡ b → term_bytes (cond b (Const w) (Var (w - 32768))) ≡ word_bytes w
    go true e = refl
    go false e = let h = ltb-false w 32768 e in let z : 32768 + (w - 32768) ≡ w = omega arith in rw z

module _ (s : List ℕ) (are : Bytes s) where
  abbrev Here : ℕ → Type 0
  Here at = Unit {0}

  -- ---- terms

  word-at : (at : ℕ) → word_bytes (word_at s at) ≡ byte_at s at ∷ byte_at s (at + 1) ∷ []
  word-at at = word-half (byte_at s at) (byte_at s (at + 1)) (are at)

  terms : Encodes s term_bytes (term_at s) term_end Here
  terms = record { up = λ at. omega arith; item = λ at p h. two-more s at h ∙ sym (ap (λ (x : List ℕ). x ++ drop (at + 2) s) (word-term (word_at s at) ∙ word-at at)) }

  terms-bytes : (n at : ℕ) → at + 2 * n ≤ length s → drop at s ≡ joined term_bytes (list_of (term_at s) term_end n at) ++ drop (at + 2 * n) s
  terms-bytes n at h = let z = along-terms n at in (rw z at (row-bytes s term_bytes (term_at s) term_end Here terms n at (λ i l. tt) (rw z h)))

  -- ---- literals

  literal-bytes : (at : ℕ) → literal_end s at ≤ length s → drop at s ≡ literal_bytes (literal_of s at) ++ drop (literal_end s at) s
  unfolding literal_bytes literal_of
  literal-bytes at h =
      let n = byte_at s (at + 1) in
      rw (list_length (term_at s) term_end n (at + 2))
      (two-more s at (omega arith) ∙ ap (λ (x : List ℕ). byte_at s at ∷ n ∷ x) (terms-bytes n (at + 2) h))

  literals : Encodes s literal_bytes (literal_of s) (literal_end s) Here
  literals = record { up = λ at. omega arith; item = λ at p h. literal-bytes at h }

  -- ---- stages and goals

  stage-up : (at : ℕ) → at ≤ stage_end s at
  unfolding stage_end
  stage-up at = let u = along-up (literal_end s) literals.up (byte_at s at) (at + 1) in omega arith

  stage-bytes : (at : ℕ) → stage_end s at ≤ length s → drop at s ≡ stage_bytes (stage_of s at) ++ drop (stage_end s at) s
  unfolding stage_bytes stage_of stage_end
  stage-bytes at h =
      let n = byte_at s at in
      let u = along-up (literal_end s) literals.up n (at + 1) in
      rw (list_length (literal_of s) (literal_end s) n (at + 1))
      (one_more s at (omega arith) ∙ ap (λ (x : List ℕ). n ∷ x) (row-bytes s literal_bytes (literal_of s) (literal_end s) Here literals n (at + 1) (λ i l. tt) h))

  stages : Encodes s stage_bytes (stage_of s) (stage_end s) Here
  stages = record { up = stage-up; item = λ at p h. stage-bytes at h }

  goal-up : (at : ℕ) → at < goal_end s at
  unfolding goal_end
  goal-up at = let u = along-up (stage_end s) stage-up (byte_at s at) (at + 1) in omega arith

  goal-bytes : (at : ℕ) → goal_end s at ≤ length s → drop at s ≡ goal_bytes (goal_of s at) ++ drop (goal_end s at) s
  unfolding goal_bytes goal_of goal_end
  goal-bytes at h =
      let n = byte_at s at in
      let u = along-up (stage_end s) stage-up n (at + 1) in
      rw (list_length (stage_of s) (stage_end s) n (at + 1))
      (one_more s at (omega arith) ∙ ap (λ (x : List ℕ). n ∷ x) (row-bytes s stage_bytes (stage_of s) (stage_end s) Here stages n (at + 1) (λ i l. tt) h))

  -- ---- records

  record-bytes : (at kind : ℕ) (body : List ℕ) → kind_at s at ≡ kind → at + 4 ≤ record_end s at → record_end s at ≤ length s → drop (at + 4) s ≡ body ++ drop (record_end s at) s →
      drop at s ≡ record_bytes kind body ++ drop (record_end s at) s
  unfolding record_bytes
  record-bytes at kind body k l h e =
      let m = between s (at + 4) (record_end s at) body (omega arith) h e in
      let n : 4 + length body ≡ word_at s at = omega arith in
      let y : at + 2 + 2 ≡ at + 4 = omega arith in
      let f : record_bytes kind body ≡ byte_at s at ∷ byte_at s (at + 1) ∷ byte_at s (at + 2) ∷ byte_at s (at + 2 + 1) ∷ body =
      ap (λ (w : ℕ). word_bytes w ++ (word_bytes kind ++ body)) n
      ∙ ap (λ (x : List ℕ). x ++ (word_bytes kind ++ body)) (word-at at)
      ∙ ap (λ (w : ℕ). byte_at s at ∷ byte_at s (at + 1) ∷ (word_bytes w ++ body)) (sym k)
      ∙ ap (λ (x : List ℕ). byte_at s at ∷ byte_at s (at + 1) ∷ (x ++ body)) (word-at (at + 2)) in
      two-more s at (omega arith)
      ∙ ap (λ (x : List ℕ). byte_at s at ∷ byte_at s (at + 1) ∷ x)
      (two-more s (at + 2) (omega arith) ∙ ap (λ (x : List ℕ). byte_at s (at + 2) ∷ byte_at s (at + 2 + 1) ∷ x) (rw y e))
      ∙ ap (λ (x : List ℕ). x ++ drop (record_end s at) s) (sym f)

  -- ---- relations

  modes-bytes : (n at : ℕ) → at + n ≤ length s → drop at s ≡ list_of (byte_at s) mode_end n at ++ drop (at + n) s
  unfolding list_of
  modes-bytes zero at h = let z : at + 0 ≡ at = omega arith in rw z
  modes-bytes (suc n) at h =
      let z : at + 1 + n ≡ at + suc n = omega arith in
      one_more s at (omega arith) ∙ ap (λ (x : List ℕ). byte_at s at ∷ x) (rw z at (modes-bytes n (at + 1) (omega arith)))

  relation-fields : (at : ℕ) → relation_body s at ≡ true → at + 5 + byte_at s (at + 4) ≡ record_end s at
  unfolding relation_body
  relation-fields at e =
      let n = byte_at s (at + 4) in
      let a = and_parts (leb n 4) (modes_range s n (at + 5) && eqb (at + 5 + n) (record_end s at)) e in
      eqb-true (at + 5 + n) (record_end s at) (and_parts (modes_range s n (at + 5)) (eqb (at + 5 + n) (record_end s at)) a.1).1

  relation-bytes : (at : ℕ) → RelationRight s at → drop at s ≡ relation_bytes (modes_of s at) ++ drop (record_end s at) s
  unfolding relation_bytes modes_of
  relation-bytes at p =
      let n = byte_at s (at + 4) in
      let f = relation-fields at p.body in
      let h = p.inside in
      let z : at + 4 + 1 ≡ at + 5 = omega arith in
      rw (list_length (byte_at s) mode_end n (at + 5))
      (record-bytes at 1 (n ∷ list_of (byte_at s) mode_end n (at + 5)) p.kind (omega arith) p.inside
      (one_more s (at + 4) (omega arith) ∙ ap (λ (x : List ℕ). n ∷ x) (rw (z, ← f) (modes-bytes n (at + 5) (omega arith)))))

  relations : Encodes s relation_bytes (modes_of s) (record_end s) (RelationRight s)
  relations = record { up = λ at. omega arith; item = λ at p h. relation-bytes at p }

  -- ---- clauses

  module _ (r at : ℕ) (p : ClauseRight s r at) where
    abbrev arity : ℕ
    arity = byte_at s (at + 5)

    the_end : goal_end s (body_at s at) ≡ record_end s at
    the_end = (clause-fields s at p.body).ends

    goals-bytes : drop (guard_at s at) s ≡ (goal_bytes (goal_of s (guard_at s at)) ++ goal_bytes (goal_of s (body_at s at))) ++ drop (record_end s at) s
    goals-bytes =
        let h = p.inside in
        let u = goal-up (body_at s at) in
        goal-bytes (guard_at s at) (omega (arith, the_end))
        ∙ ap (λ (x : List ℕ). goal_bytes (goal_of s (guard_at s at)) ++ x) (rw (← the_end) (goal-bytes (body_at s at) (omega (arith, the_end))))
        ∙ sym (append_assoc (goal_bytes (goal_of s (guard_at s at))) (goal_bytes (goal_of s (body_at s at))) (drop (record_end s at) s))

    four-fields : at + 8 ≤ length s → drop (at + 4) s ≡ byte_at s (at + 4) ∷ byte_at s (at + 5) ∷ byte_at s (at + 6) ∷ byte_at s (at + 7) ∷ drop (at + 8) s
    four-fields h =
        let a : at + 4 + 1 ≡ at + 5 = omega arith in
        let b : at + 4 + 2 ≡ at + 6 = omega arith in
        let c : at + 6 + 1 ≡ at + 7 = omega arith in
        let d : at + 6 + 2 ≡ at + 8 = omega arith in
        (rw (a, b) at (two-more s (at + 4) (omega arith))) ∙ ap (λ (x : List ℕ). byte_at s (at + 4) ∷ byte_at s (at + 5) ∷ x) (rw (c, d) at (two-more s (at + 6) (omega arith)))

    clause-bytes : drop at s ≡ clause_bytes (clause_of s at) ++ drop (record_end s at) s
    unfolding clause_bytes clause_of
    clause-bytes =
        let h = p.inside in
        let u = goal-up (body_at s at) in
        let v = goal-up (guard_at s at) in
        let ts = list_of (term_at s) term_end arity (at + 8) in
        let gs = goal_bytes (goal_of s (guard_at s at)) ++ goal_bytes (goal_of s (body_at s at)) in
        rw (list_length (term_at s) term_end arity (at + 8))
        (record-bytes at 2 (byte_at s (at + 4) ∷ arity ∷ byte_at s (at + 6) ∷ byte_at s (at + 7) ∷ (joined term_bytes ts ++ gs)) p.kind (omega (arith, the_end)) p.inside
        (four-fields (omega (arith, the_end))
        ∙ ap (λ (x : List ℕ). byte_at s (at + 4) ∷ arity ∷ byte_at s (at + 6) ∷ byte_at s (at + 7) ∷ x)
        (terms-bytes arity (at + 8) (omega (arith, the_end)) ∙ ap (λ (x : List ℕ). joined term_bytes ts ++ x) goals-bytes ∙ sym (append_assoc (joined term_bytes ts) gs (drop (record_end s at) s)))))

  clauses : (r : ℕ) → Encodes s clause_bytes (clause_of s) (record_end s) (ClauseRight s r)
  clauses r = record { up = λ at. omega arith; item = λ at p h. clause-bytes r at p }

  -- ---- the goal

  ask-bytes : (r at : ℕ) → GoalRight s r at → drop at s ≡ ask_bytes (byte_at s (at + 4)) (goal_of s (at + 5)) ++ drop (record_end s at) s
  unfolding ask_bytes
  ask-bytes r at p =
      let h = p.inside in
      let f = (ask-fields s at p.body).ends in
      let u = goal-up (at + 5) in
      let z : at + 4 + 1 ≡ at + 5 = omega arith in
      record-bytes at 3 (byte_at s (at + 4) ∷ goal_bytes (goal_of s (at + 5))) p.kind (omega arith) p.inside
      ((rw z at (one_more s (at + 4) (omega arith))) ∙ ap (λ (x : List ℕ). byte_at s (at + 4) ∷ x) (rw (← f) (goal-bytes (at + 5) (omega arith))))

  -- ---- all of it

  module _ (r c : ℕ) (right : Right s r c) where
    abbrev asks : ℕ
    asks = record_at s (r + c)

    last_end : record_end s asks ≡ length s
    last_end = let z : r + c + 1 ≡ suc (r + c) = omega arith in sym (along-snoc (record_end s) (r + c) 0) ∙ (rw z at right.ends)

    clauses-end : along (record_end s) c (record_at s r) ≡ asks
    clauses-end = along-add (record_end s) c r 0

    goal-in : asks ≤ length s
    goal-in = let e = last_end in omega arith

    relations-bytes : drop 0 s ≡ joined relation_bytes (list_of (modes_of s) (record_end s) r 0) ++ drop (record_at s r) s
    relations-bytes =
        let u = along-up (record_end s) relations.up c (record_at s r) in
        row-bytes s relation_bytes (modes_of s) (record_end s) (RelationRight s) relations r 0 right.relation (omega (arith, clauses-end, goal-in))

    clauses-bytes : drop (record_at s r) s ≡ joined clause_bytes (list_of (clause_of s) (record_end s) c (record_at s r)) ++ drop asks s
    clauses-bytes =
        rw (← clauses-end)
        (row-bytes s clause_bytes (clause_of s) (record_end s) (ClauseRight s r) (clauses r) c (record_at s r)
        (λ i h. rw (along-add (record_end s) i r 0) (right.clause i h)) (rw clauses-end goal-in))

    goal-is : drop asks s ≡ ask_bytes (byte_at s (asks + 4)) (goal_of s (asks + 5))
    goal-is = ask-bytes r asks right.goal ∙ rw (last_end, drop-length s) (append-nil (ask_bytes (byte_at s (asks + 4)) (goal_of s (asks + 5))))

    -- THE LAW: encoding gives back what was decoded
    pub encoded : program_bytes (program_of s r c) ≡ s
    unfolding program_bytes program_of
    encoded = sym (relations-bytes ∙ ap (λ (x : List ℕ). joined relation_bytes (list_of (modes_of s) (record_end s) r 0) ++ x) (clauses-bytes ∙ ap (λ (x : List ℕ). joined clause_bytes (list_of (clause_of s) (record_end s) c (record_at s r)) ++ x) goal-is))

pub encode-decode : EncodeDecode
encode-decode s r c are e = encoded s are r c (accepted s r c e)
