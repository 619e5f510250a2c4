-- The bytes of a program, read as an image, are that program.
use mathlib.Core.Path.{◌∙◌, ◌≡◌, ap, refl, sym}
use mathlib.Core.List.{[], ◌++◌, ◌∷◌, append_assoc, append-nil, List}
use Prim.Native.Nat.{◌+◌, ◌-◌, ℕ}
use lib.ListN.{drop, get_or, length}
use borrow.Author.Tests.{le-ltb, lt-ltb}
use native.Mathlib.Omega.{arith}
use Rattle.parlog.proofs.Along.{along-add}
use Rattle.parlog.specs.Image.{body_at, guard_at, literal_end, mode_end, stage_end, term_at, term_end}
use Rattle.parlog.specs.Orders.{Each}
use Rattle.parlog.specs.Program.{Clause, clause_of, Goal, goal_of, Literal, literal_of, modes_of, Program, program_of, stage_of}
use Rattle.parlog.specs.Records.{byte_at, record_at, record_end}
use Rattle.parlog.specs.Scan.{along, list_of}
use Rattle.parlog.specs.declared.Term.{Term}
use Rattle.parlog.specs.declared.Term.TheVariants.{Const, Var}
use Rattle.text_loads.proofs.Stands.{byte-first, byte-in, Decodes, further, row_is}
use Rattle.text_loads.specs.Loads.{ClauseFits, DecodeEncode, GoalFits, LiteralFits, ProgramFits, TermFits}
use Rattle.text_program.proofs.Fields.{goal-size, goal-step, literal-arity, literal-step, record-body, record-end, relation-step, stage-size, stage-step, term-step, terms-length}
use Rattle.text_program.proofs.Here.{items-end, skip_by, word-here}
use Rattle.text_program.specs.Encoded.{ask_bytes, clause_bytes, goal_bytes, literal_bytes, program_bytes, relation_bytes, stage_bytes, term_bytes}
use Rattle.text_program.specs.Numbered.{joined}

module _ (s : List ℕ) where
  -- ---- terms

  pub term_is : (at : ℕ) (t : Term) (rest : List ℕ) → TermFits t → drop at s ≡ term_bytes t ++ rest → term_at s at ≡ t
  unfolding term_bytes
  term_is at (Const c) rest o e = rw (word-here s at c rest e, lt-ltb c 32768 o)
  term_is at (Var v) rest o e =
      let z : 32768 + v - 32768 ≡ v = omega arith in
      rw (word-here s at (32768 + v) rest e, le-ltb (32768 + v) 32768 (omega arith), z)

  pub terms : Decodes s term_bytes (term_at s) term_end TermFits
  terms = record { item = term_is; end = term-step s }

  -- ---- literals

  module _ (at : ℕ) (l : Literal) (rest : List ℕ) (e : drop at s ≡ literal_bytes l ++ rest) where
    literal-is : LiteralFits l → literal_of s at ≡ l
    unfolding literal_bytes literal_of
    literal-is o =
        rw (byte-first s at (literal_bytes l ++ rest) e, literal-arity s l at rest e)
        (ap (λ (ts : List Term). record { rel = l.rel; args = ts })
        (row_is s term_bytes (term_at s) term_end TermFits terms l.args (at + 2) rest o (further s at 2 (literal_bytes l ++ rest) e)))

  pub literals : Decodes s literal_bytes (literal_of s) (literal_end s) LiteralFits
  literals = record { item = λ at l rest o e. literal-is at l rest e o; end = literal-step s }

  -- ---- stages

  module _ (at : ℕ) (st : List Literal) (rest : List ℕ) (e : drop at s ≡ stage_bytes st ++ rest) where
    stage_is : Each LiteralFits st → stage_of s at ≡ st
    unfolding stage_bytes stage_of
    stage_is o = rw (stage-size s st at rest e) (row_is s literal_bytes (literal_of s) (literal_end s) LiteralFits literals st (at + 1) rest o (further s at 1 (stage_bytes st ++ rest) e))

  pub stages : Decodes s stage_bytes (stage_of s) (stage_end s) (Each LiteralFits)
  stages = record { item = λ at st rest o e. stage_is at st rest e o; end = stage-step s }

  -- ---- goals

  module _ (at : ℕ) (g : Goal) (rest : List ℕ) (e : drop at s ≡ goal_bytes g ++ rest) where
    pub goal-is : GoalFits g → goal_of s at ≡ g
    unfolding goal_bytes goal_of
    goal-is o = rw (goal-size s g at rest e) (row_is s stage_bytes (stage_of s) (stage_end s) (Each LiteralFits) stages g (at + 1) rest o (further s at 1 (goal_bytes g ++ rest) e))

  -- ---- relations

  mode-is : (ms : List ℕ) (at : ℕ) (rest : List ℕ) → drop at s ≡ ms ++ rest → list_of (byte_at s) mode_end (length ms) at ≡ ms
  unfolding list_of
  mode-is [] at rest e = refl
  mode-is (m ∷ ms) at rest e =
      rw (byte-first s at _ e) (ap (λ (x : List ℕ). m ∷ x) (mode-is ms (at + 1) rest (further s at 1 _ e)))

  relation-is : (at : ℕ) (ms rest : List ℕ) → drop at s ≡ relation_bytes ms ++ rest → modes_of s at ≡ ms
  unfolding relation_bytes modes_of
  relation-is at ms rest e =
      let b = record-body s 1 (length ms ∷ ms) at rest e in
      let z : at + 4 + 1 ≡ at + 5 = omega arith in
      rw (byte-first s (at + 4) _ b) (mode-is ms (at + 5) rest (rw z at (further s (at + 4) 1 _ b)))

  abbrev Anything : List ℕ → Type 0
  Anything ms = Unit

  pub relations : Decodes s relation_bytes (modes_of s) (record_end s) Anything
  relations = record { item = λ at ms rest o e. relation-is at ms rest e; end = relation-step s }

  -- ---- clauses

  clause_front : Clause → List ℕ
  clause_front c = c.rel ∷ length c.head ∷ c.mark ∷ c.vars ∷ []

  module _ (at : ℕ) (c : Clause) (rest : List ℕ) (e : drop at s ≡ clause_bytes c ++ rest) where
    abbrev goals : List ℕ
    goals = goal_bytes c.guard ++ goal_bytes c.body

    abbrev inside : List ℕ
    inside = c.rel ∷ length c.head ∷ c.mark ∷ c.vars ∷ (joined term_bytes c.head ++ goals)

    clause-end : record_end s at ≡ at + length (clause_bytes c)
    unfolding clause_bytes
    clause-end = record-end s 2 inside at rest e

    clause-body : drop (at + 4) s ≡ inside ++ rest
    unfolding clause_bytes
    clause-body = record-body s 2 inside at rest e

    field : (k n : ℕ) → at + 4 + k ≡ n → byte_at s n ≡ get_or (inside ++ rest) k 0
    field k n z = rw z at (byte-in s (at + 4) k (inside ++ rest) clause-body)

    arity-is : byte_at s (at + 5) ≡ length c.head
    arity-is = field 1 (at + 5) (omega arith)

    head_at : drop (at + 8) s ≡ joined term_bytes c.head ++ (goals ++ rest)
    head_at =
        let z : at + 4 + 4 ≡ at + 8 = omega arith in
        (rw z at (further s (at + 4) 4 (inside ++ rest) clause-body)) ∙ append_assoc (joined term_bytes c.head) goals rest

    guard-place : guard_at s at ≡ at + 8 + length (joined term_bytes c.head)
    guard-place = let a = arity-is in let b = terms-length c.head in omega arith

    guard-at : drop (guard_at s at) s ≡ goal_bytes c.guard ++ (goal_bytes c.body ++ rest)
    guard-at = rw guard-place (skip_by s (at + 8) (joined term_bytes c.head) (goals ++ rest) head_at ∙ append_assoc (goal_bytes c.guard) (goal_bytes c.body) rest)

    body-at : drop (body_at s at) s ≡ goal_bytes c.body ++ rest
    body-at = rw (goal-step s c.guard (guard_at s at) (goal_bytes c.body ++ rest) guard-at) (skip_by s (guard_at s at) (goal_bytes c.guard) (goal_bytes c.body ++ rest) guard-at)

    clause-is : ClauseFits c → clause_of s at ≡ c
    unfolding clause_of
    clause-is o =
        rw (
          byte-first s (at + 4) (inside ++ rest) clause-body,
          field 2 (at + 6) (omega arith),
          field 3 (at + 7) (omega arith),
          goal-is (guard_at s at) c.guard (goal_bytes c.body ++ rest) guard-at o.guard,
          goal-is (body_at s at) c.body rest body-at o.body,
          arity-is,
          row_is s term_bytes (term_at s) term_end TermFits terms c.head (at + 8) (goals ++ rest) o.head head_at,
        )

  pub clauses : Decodes s clause_bytes (clause_of s) (record_end s) ClauseFits
  clauses = record { item = λ at c rest o e. clause-is at c rest e o; end = λ c at rest e. clause-end at c rest e }

-- ---- programs

pub anything : {A : Type 0} (xs : List A) → Each (λ (x : A). Unit {0}) xs
anything [] = tt
anything (x ∷ xs) = (tt, anything xs)

module _ (pr : Program) where
  abbrev s : List ℕ
  s = program_bytes pr

  abbrev front : List ℕ
  front = joined relation_bytes pr.relations

  abbrev middle : List ℕ
  middle = joined clause_bytes pr.clauses

  abbrev last : List ℕ
  last = ask_bytes pr.goal_vars pr.goal

  pub from_start : drop 0 s ≡ front ++ (middle ++ last)
  unfolding program_bytes
  from_start = refl

  pub clauses-place : record_at s (length pr.relations) ≡ length front
  clauses-place = let z : 0 + length front ≡ length front = omega arith in (rw z at (items-end s relation_bytes (record_end s) (relations s).end pr.relations 0 (middle ++ last) from_start))

  pub clauses-at : drop (length front) s ≡ middle ++ last
  clauses-at = let z : 0 + length front ≡ length front = omega arith in (rw z at (skip_by s 0 front (middle ++ last) from_start))

  pub goal-place : record_at s (length pr.relations + length pr.clauses) ≡ length front + length middle
  goal-place =
      sym (along-add (record_end s) (length pr.clauses) (length pr.relations) 0)
      ∙ ap (along (record_end s) (length pr.clauses)) clauses-place
      ∙ items-end s clause_bytes (record_end s) (clauses s).end pr.clauses (length front) last clauses-at

  pub goal-at : drop (length front + length middle) s ≡ last ++ []
  goal-at = skip_by s (length front) middle last clauses-at ∙ sym (append-nil last)

  ask-body : drop (length front + length middle + 4) s ≡ (pr.goal_vars ∷ goal_bytes pr.goal) ++ []
  unfolding ask_bytes
  ask-body = record-body s 3 (pr.goal_vars ∷ goal_bytes pr.goal) (length front + length middle) [] goal-at

  -- THE LAW: decoding gives back what was encoded
  pub decoded : ProgramFits pr → program_of s (length pr.relations) (length pr.clauses) ≡ pr
  unfolding program_of
  decoded o =
      let p = length front + length middle in
      let z : p + 4 + 1 ≡ p + 5 = omega arith in
      rw (
        goal-place,
        byte-first s (p + 4) _ ask-body,
        goal-is s (p + 5) pr.goal [] (rw z at (further s (p + 4) 1 _ ask-body)) o.goal,
        clauses-place,
        row_is s relation_bytes (modes_of s) (record_end s) (λ ms. Unit) (relations s) pr.relations 0 (middle ++ last) (anything pr.relations) from_start,
        row_is s clause_bytes (clause_of s) (record_end s) ClauseFits (clauses s) pr.clauses (length front) last o.clauses clauses-at,
      )

pub decode-encode : DecodeEncode
decode-encode pr o = decoded pr o
