-- One law for each way through the tests of one process.
use Rattle.parlog.specs.declared.Term.{Term}
use Rattle.std.specs.Prelude.{Option}
use mathlib.Core.Path.{◌∙◌, ◌≡◌, ap, refl, sym}
use mathlib.Core.Bool.{Bool, cond, false, not, true}
use mathlib.Core.List.{List}
use Prim.Native.Nat.{◌%◌, ◌/◌, ◌<◌, ◌≤◌, suc, zero, ℕ}
use lib.Dec.{eqb, ltb}
use lib.Bits.{bit_and}
use lib.ListN.{length, take}
use lib.Seq.{take_all}
use borrow.Author.Tests.{ltb-false}
use native.Mathlib.Omega.{arith}
use Rattle.children.proofs.Small.{agree, agree-is}
use Rattle.move_plan.specs.Plans.{state_in}
use Rattle.parlog.proofs.Able.{can-is, can_in, can_wait}
use Rattle.parlog.proofs.Bools.{split}
use Rattle.parlog.proofs.Scans.{every-at}
use Rattle.parlog.specs.Codes.{and_par, and_seq, equate, guard_eval, input_match, mode_of, or_par, or_search, seq_search, Tag, tag_of, try_clause}
use Rattle.parlog.specs.Program.{Program}
use Rattle.parlog.specs.Run.{can_move}
use Rattle.parlog.specs.Scan.{every}
use Rattle.parlog.specs.Tables.{at, noted, procs_of, State, vars_in}
use Rattle.parlog.specs.Unify.{some_bound}
use Rattle.parlog.specs.declared.Process.{Process}
use Rattle.turn_search.proofs.Saying.{note-says}
use Rattle.turn_search.specs.Notes.{AllSaid, asks_of, tells}

-- ---- what was said, by tag

-- unless exactly this was said
abbrev unlike : ℕ → ℕ → Bool
unlike k s = not (eqb (bit_and s (k % 16)) (k / 16))

asked : (t : Tag) (s : ℕ) → s < 16 → every (λ s. agree (unlike (asks_of t) s) (tells t s)) 16 ≡ true → unlike (asks_of t) s ≡ tells t s
asked t s h e = agree-is (unlike (asks_of t) s) (tells t s) (every-at (λ s. agree (unlike (asks_of t) s) (tells t s)) 16 s e h)

tells-by : (t : Tag) (s : ℕ) → s < 16 → unlike (asks_of t) s ≡ tells t s
unfolding tells every
tells-by and_par s h = asked and_par s h refl
tells-by and_seq s h = asked and_seq s h refl
tells-by or_par s h = asked or_par s h refl
tells-by seq_search s h = asked seq_search s h refl
tells-by or_search s h = asked or_search s h refl
tells-by try_clause s h = asked try_clause s h refl
tells-by input_match s h = asked input_match s h refl
tells-by guard_eval s h = asked guard_eval s h refl
tells-by equate s h = asked equate s h refl

pub tells_is : (t : Tag) (s : ℕ) {k : ℕ} → s < 16 → k ≡ asks_of t → unlike k s ≡ tells t s
tells_is t s h e = rw e (tells-by t s h)

pub asks_at : (k : ℕ) {t : ℕ} → t ≡ k → asks_of (tag_of k) ≡ asks_of (tag_of t)
asks_at k e = rw e

-- the other tags ask for nothing
pub asks_none : (t : ℕ) → (t ≡ 0 → ⊥) → (t ≡ 1 → ⊥) → (t ≡ 2 → ⊥) → (t ≡ 3 → ⊥) → (t ≡ 4 → ⊥) → (t ≡ 5 → ⊥) → (t ≡ 7 → ⊥) → 0 ≡ asks_of (tag_of t)
unfolding tag_of
asks_none zero a b c d e f g = absurd (a refl)
asks_none (suc zero) a b c d e f g = absurd (b refl)
asks_none (suc (suc zero)) a b c d e f g = absurd (c refl)
asks_none (suc (suc (suc zero))) a b c d e f g = absurd (d refl)
asks_none (suc (suc (suc (suc zero)))) a b c d e f g = absurd (e refl)
asks_none (suc (suc (suc (suc (suc zero))))) a b c d e f g = absurd (f refl)
asks_none (suc (suc (suc (suc (suc (suc zero)))))) a b c d e f g = refl
asks_none (suc (suc (suc (suc (suc (suc (suc zero))))))) a b c d e f g = absurd (g refl)
asks_none (suc (suc (suc (suc (suc (suc (suc (suc t)))))))) a b c d e f g = refl

-- ---- what a suspended process noted

-- a count over four reads all of them
pub noted-few : (vs : List (Option Term)) (x : Process) {c k : ℕ} {ns : List ℕ} {b : Bool} → k ≡ x.count → c ≡ cond (ltb k 4) k 4 → ns ≡ x.notes → length ns ≡ 4
    → b ≡ some_bound vs (take c ns) → b ≡ some_bound vs (noted x)
unfolding noted
noted-few vs x {c} {k} {ns} {b} ek ec en four e = rw (← ek, ← en) (e ∙ ap (some_bound vs) (ap (λ (j : ℕ). take j ns) ec ∙ go))
  where
    go : take (cond (ltb k 4) k 4) ns ≡ take k ns
    go = split (ltb k 4) (λ z. rw z) (λ z. rw z (take_all 4 ns (omega arith) ∙ sym (let h : 4 ≤ k = ltb-false k 4 z in take_all k ns (omega arith))))

-- ---- who can move

module _ (st : State) (p : ℕ) (x : Process) where
  in_start : (k : ℕ) → (k ≡ 0 → ⊥) → k < 3 → true ≡ can_in (mode_of k) st p x
  unfolding can_in mode_of
  in_start zero a h = absurd (a refl)
  in_start (suc zero) a h = refl
  in_start (suc (suc zero)) a h = refl
  in_start (suc (suc (suc k))) a h = absurd (omega arith)

  in-suspended : (k : ℕ) → 3 ≤ k → (k ≡ 3 → ⊥) → (k ≡ 4 → ⊥) → can_in (mode_of k) st p x ≡ some_bound st.vars (noted x)
  unfolding can_in mode_of
  in-suspended zero h a b = absurd (omega arith)
  in-suspended (suc zero) h a b = absurd (omega arith)
  in-suspended (suc (suc zero)) h a b = absurd (omega arith)
  in-suspended (suc (suc (suc zero))) h a b = absurd (a refl)
  in-suspended (suc (suc (suc (suc zero)))) h a b = absurd (b refl)
  in-suspended (suc (suc (suc (suc (suc k))))) h a b = refl

module _ (procs vars : List ℕ) (n m p : ℕ) {k : ℕ} (ek : k ≡ (at (procs_of procs n) p).mode) (pr : Program) where
  abbrev here : State
  here = state_in procs n vars m

  by_mode : {b : Bool} → b ≡ can_in (mode_of k) here p (at (procs_of procs n) p) → b ≡ can_move pr here p
  by_mode e = e ∙ ap (λ (j : ℕ). can_in (mode_of j) here p (at (procs_of procs n) p)) ek ∙ sym (can-is pr here p)

  pub can-dormant : k ≡ 0 → false ≡ can_move pr here p
  unfolding can_in mode_of
  can-dormant e = by_mode (rw e)

  pub can-reporting : k ≡ 4 → eqb p 0 ≡ can_move pr here p
  unfolding can_in mode_of
  can-reporting e = by_mode (rw e)

  pub can-start : (k ≡ 0 → ⊥) → k < 3 → true ≡ can_move pr here p
  can-start a h = by_mode (in_start here p (at (procs_of procs n) p) k a h)

  pub can-suspended : 3 ≤ k → (k ≡ 3 → ⊥) → (k ≡ 4 → ⊥) → {b : Bool} → b ≡ some_bound (vars_in vars m) (noted (at (procs_of procs n) p)) → b ≡ can_move pr here p
  can-suspended h a c e = by_mode (e ∙ sym (in-suspended here p (at (procs_of procs n) p) k h a c))

  pub can-waiting : {s t : ℕ} {b : Bool} → k ≡ 3 → AllSaid (procs_of procs n) p s → t ≡ (at (procs_of procs n) p).tag → b ≡ tells (tag_of t) s → b ≡ can_move pr here p
  unfolding can_in mode_of
  can-waiting {s} {t} e (x, is, so) et eb =
      by_mode (rw e (eb ∙ rw (← is) (note-says (procs_of procs n) p x so (tag_of t) ∙ ap (λ (j : ℕ). can_wait (tag_of j) (procs_of procs n) p) et)))

-- what was said is a number of four bits
pub said-small : (ps : List Process) (p : ℕ) {s : ℕ} → AllSaid ps p s → s < 16
said-small ps p (x, is, so) = rw is at so.small
