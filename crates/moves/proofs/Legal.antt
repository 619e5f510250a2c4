-- What the rules ask of a mover, from an accepted image and good tables.
use mathlib.Core.Path.{◌∙◌, ◌≡◌, ap}
use mathlib.Core.Bool.{Bool, cond, false, true}
use mathlib.Core.List.{[], ◌∷◌, List}
use Prim.Native.Nat.{◌+◌, ◌<◌, ◌≤◌, suc, zero, ℕ}
use lib.Dec.{ltb}
use lib.ListN.{length}
use borrow.Author.Tests.{ltb-false, ltb-true}
use native.Mathlib.Omega.{arith}
use Rattle.load.proofs.Accepted.{Right}
use Rattle.load.proofs.Inside.{ask-fields, clause-fields, goal-fields}
use Rattle.load.proofs.Sizes.{block-small, members-small}
use Rattle.move_plan.specs.Plans.{new_most}
use Rattle.moves.specs.Legal.{Legal}
use Rattle.parlog.proofs.Along.{along-add, list_at, list_length, list-past}
use Rattle.parlog.proofs.Assume.{assume-block, assume-known, assume-notes, assume-stage}
use Rattle.parlog.proofs.Bools.{split}
use Rattle.parlog.specs.Body.{goal_range}
use Rattle.parlog.specs.Codes.{as_written, Kind, kind_of, the_body, the_goal, the_guard}
use Rattle.parlog.specs.Image.{body_at, byte_at, guard_at, record_at, record_end, stage_end}
use Rattle.parlog.specs.Limits.{Limits}
use Rattle.parlog.specs.Notions.{me}
use Rattle.parlog.specs.Program.{before, block_count, block_of, clause_at, clause_of, committed_body, committed_by, Goal, goal_at, goal_by, goal_of, is_split, Literal, literal_at, modes_at, no_clause, opens, outputs, Program, program_of, stage_of}
use Rattle.parlog.specs.Rules.{block_at, members}
use Rattle.parlog.specs.Sane.{Sane}
use Rattle.parlog.specs.Scan.{tally}
use Rattle.parlog.specs.TableRules.{state_ok}
use Rattle.parlog.specs.Tables.{State}
use Rattle.parlog.specs.declared.Process.{Process}
use Rattle.parlog.specs.declared.Spot.{Spot}
use Rattle.program_index.specs.Indexed.{Headed}
use Rattle.rules_match.proofs.There.{equate-there, match-there}

-- how much of a program there is at a place
pub record Sized (pr : Program) : Type 0 where
  pub members : (p : ℕ) (z : Spot) → length (members pr p z) ≤ new_most
  pub block : (q b : ℕ) → length (block_of pr q b) ≤ 8
  pub goal : (z : Spot) → length (goal_at pr z) ≤ 255
  pub clauses : length pr.clauses ≤ 255

tally-most : (t : ℕ → Bool) (n : ℕ) → tally t n ≤ n
unfolding tally
tally-most t zero = omega arith
tally-most t (suc n) = go (t n) (tally-most t n)
  where
    go : (b : Bool) → tally t n ≤ n → cond b (suc (tally t n)) (tally t n) ≤ suc n
    go true h = omega arith
    go false h = omega arith

blocks_few : (pr : Program) → Sized pr → (q : ℕ) → block_count pr q ≤ 255
unfolding block_count
blocks_few pr z q = let l = z.clauses in let m = tally-most (opens pr q) (length pr.clauses) in omega arith

-- THE LAW: where the program is sane and the tables are good, every process may move
pub legal : (lim : Limits) (pr : Program) (s : State) → Sane pr → Headed pr → Sized pr → state_ok lim pr s ≡ true → (p : ℕ) → p < length s.procs → length s.vars ≤ 65535 → Legal pr s p
unfolding block_at
legal lim pr s sa hd z ok p h u =
    let x : Process = me s p in
    let k = assume-known lim pr s ok p h in
    record {
      tag = k.tag;
      mode = k.mode;
      members = λ q. z.members q x.spot;
      tries = z.block (literal_at pr x.spot).rel x.spot.block;
      stage = λ t m. let a = assume-stage lim pr s ok p h t m in let l = z.goal x.spot in omega arith;
      block = λ t m. let a = assume-block lim pr s ok p h t m in let l = blocks_few pr z (literal_at pr x.spot).rel in omega arith;
      notes = λ m. (assume-notes lim pr s ok p h m).0;
      matching = λ t. match-there lim pr sa s ok u p h hd t;
      equating = λ t. equate-there lim pr sa s ok u p h t;
    }

-- ---- an accepted image

goal-stages : (s : List ℕ) (from : ℕ) → goal_range s from ≡ true → length (goal_of s from) ≤ 8
unfolding goal_of
goal-stages s from e = rw (list_length (stage_of s) (stage_end s) (byte_at s from) (from + 1)) (goal-fields s from e).stages

before-stages : (es : List Literal) (g : Goal) → length g ≤ 8 → length (before es g) ≤ 8
unfolding before
before-stages [] g h = h
before-stages (e ∷ es) [] h = omega arith
before-stages (e ∷ es) (st ∷ g) h = h

committed-stages : (b : Bool) (es : List Literal) (g : Goal) → length g ≤ 8 → length (committed_by b es g) ≤ 8
unfolding committed_by
committed-stages false es g h = before-stages es g h
committed-stages true es g h = omega arith

module _ (s : List ℕ) (r c : ℕ) (ok : Right s r c) where
  abbrev pr : Program
  pr = program_of s r c

  clause-some : (k : ℕ) → k < c → clause_at pr k ≡ clause_of s (record_at s (r + k))
  unfolding program_of
  clause-some k h = list_at (clause_of s) (record_end s) c (record_at s r) k no_clause h ∙ ap (clause_of s) (along-add (record_end s) k r 0)

  clause-none : (k : ℕ) → c ≤ k → clause_at pr k ≡ no_clause
  unfolding program_of
  clause-none k h = list-past (clause_of s) (record_end s) c (record_at s r) k no_clause h

  guard-stages : (k : ℕ) → length (clause_at pr k).guard ≤ 8
  unfolding clause_of
  guard-stages k = split (ltb k c)
      (λ h. let l = ltb-true k c h in rw (clause-some k l) (goal-stages s (guard_at s (record_at s (r + k))) (clause-fields s (record_at s (r + k)) (ok.clause k l).body).guard))
      (λ h. rw (clause-none k (ltb-false k c h)) (omega arith))

  body-stages : (k : ℕ) → length (clause_at pr k).body ≤ 8
  unfolding clause_of
  body-stages k = split (ltb k c)
      (λ h. let l = ltb-true k c h in rw (clause-some k l) (goal-stages s (body_at s (record_at s (r + k))) (clause-fields s (record_at s (r + k)) (ok.clause k l).body).body))
      (λ h. rw (clause-none k (ltb-false k c h)) (omega arith))

  ask-stages : length pr.goal ≤ 8
  unfolding program_of
  ask-stages = goal-stages s (record_at s (r + c) + 5) (ask-fields s (record_at s (r + c)) ok.goal.body).goal

  stages-by : (kind : Kind) (k : ℕ) → length (goal_by kind pr k) ≤ 8
  unfolding goal_by committed_body
  stages-by the_goal k = ask-stages
  stages-by the_guard k = guard-stages k
  stages-by the_body k = committed-stages (is_split pr (clause_at pr k)) (outputs (modes_at pr (clause_at pr k).rel) (clause_at pr k).head (clause_at pr k).vars) (clause_at pr k).body (body-stages k)
  stages-by as_written k = body-stages k

  goal-short : (z : Spot) → length (goal_at pr z) ≤ 8
  unfolding goal_at
  goal-short z = stages-by (kind_of z.kind) z.clause

  clause-count : length pr.clauses ≡ c
  unfolding program_of
  clause-count = list_length (clause_of s) (record_end s) c (record_at s r)

  -- THE LAW: an accepted image is small enough
  pub right-sized : c ≤ 64 → Sized pr
  right-sized l = record {
    members = members-small s r c ok;
    block = block-small s r c ok;
    goal = λ z. let g = goal-short z in omega arith;
    clauses = let n = clause-count in omega arith;
  }
