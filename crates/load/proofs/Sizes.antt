-- How much one move can make of an accepted image: a stage of a goal has at most 8 literals, of a committed body 12; a block at most 8 clauses.
use mathlib.Core.Path.{◌≡◌, refl}
use mathlib.Core.Bool.{Bool, cond, false, true}
use mathlib.Core.List.{[], ◌∷◌, List}
use Prim.Native.Nat.{◌+◌, ◌<◌, ◌≤◌, suc, zero, ℕ}
use lib.Dec.{ltb}
use lib.ListN.{get_or, length, length-append}
use borrow.Author.Tests.{ltb-false, ltb-true}
use native.Mathlib.Omega.{arith}
use Rattle.load.proofs.Accepted.{Right, size_with}
use Rattle.load.proofs.Inside.{ask-fields, clause-fields, goal-fields}
use Rattle.load.proofs.Sanity.{right-sane}
use Rattle.parlog.proofs.Along.{list_at, list_length, list-past}
use Rattle.parlog.proofs.Blocks.{blocks-short, run_size}
use Rattle.parlog.proofs.Bools.{split}
use Rattle.parlog.proofs.Scans.{build-length}
use Rattle.parlog.specs.Body.{goal_range}
use Rattle.parlog.specs.Codes.{as_written, Kind, kind_of, the_body, the_goal, the_guard}
use Rattle.parlog.specs.Image.{body_at, guard_at, is_input, literal_end, stage_end}
use Rattle.parlog.specs.Program.{before, block_of, clause_at, clause_of, committed_body, committed_by, equation, Goal, goal_at, goal_by, goal_of, is_split, Literal, literal_of, modes_at, outputs, Program, program_of, split_at, split_by, stage_at, stage_of}
use Rattle.parlog.specs.Records.{byte_at, record_at}
use Rattle.parlog.specs.Rules.{body_beside, member, members}
use Rattle.parlog.specs.Scan.{build}
use Rattle.parlog.specs.declared.Spot.{Spot}
use Rattle.parlog.specs.declared.Term.{Term}
use Rattle.place.proofs.Clauses.{clause-count, clause-here, clause-past}

stage-few : (s : List ℕ) (from : ℕ) → goal_range s from ≡ true → (i : ℕ) → length (get_or (goal_of s from) i []) ≤ 8
unfolding goal_of stage_of
stage-few s from e i = split (ltb i (byte_at s from))
    (λ h. let l = ltb-true i (byte_at s from) h in
    let f = (goal-fields s from e).few i l in
    rw (list_at (stage_of s) (stage_end s) (byte_at s from) (from + 1) i [] l, list_length (literal_of s) (literal_end s)) f)
    (λ h. rw (list-past (stage_of s) (stage_end s) (byte_at s from) (from + 1) i [] (ltb-false i (byte_at s from) h)) (omega arith))

outputs-few : (ms : List ℕ) (ts : List Term) (v : ℕ) → length (outputs ms ts v) ≤ length ms
unfolding outputs
outputs-few [] ts v = omega arith
outputs-few (m ∷ ms) [] v = omega arith
outputs-few (m ∷ ms) (t ∷ ts) v = go (is_input m) (outputs-few ms ts v) (outputs-few ms ts (suc v))
  where
    go : (b : Bool) → length (outputs ms ts v) ≤ length ms → length (outputs ms ts (suc v)) ≤ length ms → length (cond b (outputs ms ts v) (equation t v ∷ outputs ms ts (suc v))) ≤ suc (length ms)
    go true a o = omega arith
    go false a o = omega arith

before-few : (es : List Literal) (g : Goal) → length es ≤ 4 → ((i : ℕ) → length (get_or g i []) ≤ 8) → (i : ℕ) → length (get_or (before es g) i []) ≤ 12
unfolding before
before-few [] g h f i = let l = f i in omega arith
before-few (e ∷ es) [] h f zero = omega arith
before-few (e ∷ es) [] h f (suc i) = omega arith
before-few (e ∷ es) (st ∷ g) h f zero = let l = f 0 in omega (arith, length-append (e ∷ es) st)
before-few (e ∷ es) (st ∷ g) h f (suc i) = let l = f (suc i) in omega arith

beside-few : (b : Bool) (es : List Literal) (g : Goal) → length es ≤ 4 → ((i : ℕ) → length (get_or g i []) ≤ 8) → (i p : ℕ) (z : Spot)
    → length (get_or (committed_by b es g) i []) + length (body_beside b p z) ≤ 12
unfolding committed_by body_beside
beside-few false es g h f i p z = let l = before-few es g h f i in omega arith
beside-few true es g h f zero p z = omega arith
beside-few true es g h f (suc i) p z = omega arith

module _ (s : List ℕ) (r c : ℕ) (ok : Right s r c) where
  abbrev pr : Program
  pr = program_of s r c

  guard-few : (k i : ℕ) → length (get_or (clause_at pr k).guard i []) ≤ 8
  unfolding clause_of
  guard-few k i = split (ltb k c)
      (λ h. let l = ltb-true k c h in rw (clause-here s r c k l) (stage-few s (guard_at s (record_at s (r + k))) (clause-fields s (record_at s (r + k)) (ok.clause k l).body).guard i))
      (λ h. rw (clause-past s r c k (ltb-false k c h)) (omega arith))

  body_few : (k i : ℕ) → length (get_or (clause_at pr k).body i []) ≤ 8
  unfolding clause_of
  body_few k i = split (ltb k c)
      (λ h. let l = ltb-true k c h in rw (clause-here s r c k l) (stage-few s (body_at s (record_at s (r + k))) (clause-fields s (record_at s (r + k)) (ok.clause k l).body).body i))
      (λ h. rw (clause-past s r c k (ltb-false k c h)) (omega arith))

  goal-few : (i : ℕ) → length (get_or pr.goal i []) ≤ 8
  unfolding program_of
  goal-few i = stage-few s (record_at s (r + c) + 5) (ask-fields s (record_at s (r + c)) ok.goal.body).goal i

  abbrev equations : ℕ → List Literal
  equations k = outputs (modes_at pr (clause_at pr k).rel) (clause_at pr k).head (clause_at pr k).vars

  equations-few : (k : ℕ) → length (equations k) ≤ 4
  equations-few k =
      let m = (right-sane s r c ok).modes (clause_at pr k).rel in
      let o = outputs-few (modes_at pr (clause_at pr k).rel) (clause_at pr k).head (clause_at pr k).vars in
      omega arith

  beside-by : (kind : Kind) (k i p : ℕ) (z : Spot) → length (get_or (goal_by kind pr k) i []) + length (body_beside (split_by kind pr k) p z) ≤ 12
  unfolding goal_by committed_body split_by body_beside
  beside-by the_goal k i p z = let l = goal-few i in omega arith
  beside-by the_guard k i p z = let l = guard-few k i in omega arith
  beside-by the_body k i p z = beside-few (is_split pr (clause_at pr k)) (equations k) (clause_at pr k).body (equations-few k) (body_few k) i p z
  beside-by as_written k i p z = let l = body_few k i in omega arith

  -- THE LAW: a stage, with the body beside it where there is one, has at most 12 members
  pub members-small : (p : ℕ) (z : Spot) → length (members pr p z) ≤ 12
  unfolding members stage_at goal_at split_at
  members-small p z =
      let l = beside-by (kind_of z.kind) z.clause z.stage p z in
      let k = length-append (build (member pr p z) (length (stage_at pr z))) (body_beside (split_at pr z) p z) in
      omega (arith, build-length (member pr p z) (length (stage_at pr z)))

  size-run : (k : ℕ) → k < c → run_size pr k ≡ size_with s r k
  unfolding run_size size_with clause_of
  size-run zero h = refl
  size-run (suc k) h =
      let a = clause-here s r c k (omega arith) in
      let b = clause-here s r c (suc k) h in
      let e = size-run k (omega arith) in
      rw (a, b, e)

  -- THE LAW: a block has at most 8 clauses
  pub block-small : (q b : ℕ) → length (block_of pr q b) ≤ 8
  block-small q b = blocks-short pr 8 (λ k h. let n = clause-count s r c in let l : k < c = omega arith in rw (size-run k l) (ok.blocks k l)) q b
