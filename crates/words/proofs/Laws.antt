-- From the case of an answer to its word.
use Rattle.std.specs.Prelude.{Option, Ok, Some}
use Rattle.parlog.specs.Answer.{Answer}
use mathlib.Core.Path.{◌≡◌}
use Prim.Native.Nat.{◌<◌, ◌≤◌, ℕ}
use borrow.Author.Tests.{le-ltb, lt-ltb}
use native.Mathlib.Omega.{arith}
use Rattle.parlog.specs.Numbers.{end_number, Numbers, run_numbers, step_numbers, touched, watch_numbers, word}
use Rattle.parlog.specs.declared.End.{End}
use Rattle.parlog.specs.declared.Move.{Move}
use Rattle.words.specs.Fits.{MoveWithin, reached, ToldSays, touched_by}
use Rattle.words.specs.declared.Touch.{Touch}
use Rattle.words.specs.declared.Touch.TheVariants.{Process}

module _ {A : Type 0} {a x : A} (e : a ≡ x) where
  -- the word of a case is the word of the answer
  pub word-at : (f : A → Numbers) {w : ℕ} → w ≡ word (f x) → w ≡ word (f a)
  word-at f h = rw e h

  -- what holds of the answer holds of its case
  pub case_at : (F : A → Type 0) → F a → F x
  case_at F h = rw e at h

-- ---- a move

-- a process that a move touched
pub process-fits : {n p : ℕ} (m : Move) {t : Touch} → t ≡ Process p → touched_by t ≡ touched m → MoveWithin n m → p ≤ n
process-fits m e f h = rw (← f, e) at h

pub move-told : {m : Move} {r k w : ℕ} {t : Touch} (x : Touch) → t ≡ x → ToldSays m r t → k ≡ r → w ≡ word (record { refused = 0; a = k; b = (touched_by x).sort; c = (touched_by x).number }) → w ≡ word (step_numbers (Ok m))
move-told x e t q h = rw (h, ← e, q, t.rule_is, t.touched_is)

-- ---- a run and a watch

pub run-ended : {a : Answer (End × ℕ)} {e : End} {n k w : ℕ} → a ≡ Ok (e, n) → k ≡ end_number e → w ≡ word (record { refused = 0; a = k; b = 0; c = n }) → w ≡ word (run_numbers a)
run-ended q k h = rw (h, k, q)

module _ {a : Option ℕ} {i w : ℕ} (e : a ≡ Some i) where
  pub watch-beyond : 4294967295 < i → w ≡ word (record { refused = 0; a = 0; b = 0; c = 0 }) → w ≡ word (watch_numbers (reached a))
  watch-beyond h k = rw (e, le-ltb i 4294967296 (omega arith)) k

  pub watch-at : i ≤ 4294967295 → w ≡ word (record { refused = 0; a = 1; b = 0; c = i }) → w ≡ word (watch_numbers (reached a))
  watch-at h k = rw (e, lt-ltb i 4294967296 (omega arith)) k
