-- A watch refuses nothing, and tells the lowest suspended row or none.
use Rattle.std.specs.Prelude.{Option, Some, None}
use mathlib.Core.Path.{◌∙◌, ◌≡◌, ap, refl, sym}
use mathlib.Core.Logic.{◌≢◌}
use mathlib.Core.Bool.{Bool, false}
use mathlib.Core.List.{List}
use Prim.Native.Nat.{◌/◌, ◌<◌, ◌≤◌, ℕ}
use lib.ListN.{length}
use borrow.Author.Tests.{eqb-false, eqb-true, lt-ltb}
use native.Mathlib.Omega.{arith}
use Rattle.std.proofs.lemmas.Bool.{false_from_ne_true}
use Rattle.parlog.proofs.Scans.{lowest-at, lowest-none}
use Rattle.parlog.specs.Codes.{is_mode, mode_code, suspended}
use Rattle.parlog.specs.Numbers.{watch_numbers, word}
use Rattle.parlog.specs.Run.{watch_of}
use Rattle.parlog.specs.Scan.{lowest}
use Rattle.parlog.specs.Tables.{at, process_at, procs_of, row_size}
use Rattle.parlog.specs.declared.Process.{Process}
use Rattle.promises.proofs.Words.{first_of, large-of, refusal-of}
use Rattle.promises.specs.Moves.{none_waits, one_waits, Watched}
use Rattle.promises.specs.Outcomes.{refusal_in, WatchMeets}
use Rattle.rows.proofs.Tables.{procs-at, procs-length}
use Rattle.words.specs.Fits.{reached}

module _ (rows : List ℕ) where
  abbrev n : ℕ
  n = length rows / row_size

  abbrev waits : ℕ → Bool
  waits i = is_mode suspended (at (procs_of rows n) i).mode

  waits-at : (i : ℕ) → i < n → waits i ≡ is_mode suspended (process_at rows i).mode
  waits-at i h = ap (λ (x : Process). is_mode suspended x.mode) (procs-at rows n i h)

  not-waits : (i : ℕ) → i < n → waits i ≡ false → (process_at rows i).mode ≢ mode_code suspended
  not-waits i h e = eqb-false (process_at rows i).mode 5 (sym (waits-at i h) ∙ e)

  watch-is : watch_of (procs_of rows n) ≡ lowest waits n
  unfolding watch_of
  watch-is = rw (procs-length rows n)

  found-told : (w : ℕ) (f : Option ℕ) → w ≡ word (watch_numbers f) → refusal_in w ≡ 0
  found-told w None e = rw e (refusal-of (watch_numbers None) (omega arith) (omega arith) (omega arith))
  found-told w (Some i) e = rw e (refusal-of (watch_numbers (Some i)) (omega arith) (omega arith) (omega arith))

  module _ (w : ℕ) (meets : WatchMeets rows w) where
    -- it takes any row and refuses nothing
    pub watch-refuses-none : refusal_in w ≡ 0
    watch-refuses-none = found-told w (reached (watch_of (procs_of rows n))) meets.contract

    module _ (within : length rows / row_size ≤ 4294967296) where
      by-lowest : (f : Option ℕ) → lowest waits n ≡ f → Watched rows w
      by-lowest None e =
          let q : w ≡ word (watch_numbers None) = meets.contract ∙ rw (watch-is, e) in
          none_waits (λ j h. not-waits j h (lowest-none waits n j e h)) (rw q (first_of (watch_numbers None) (omega arith) (omega arith) (omega arith))) (rw q (large-of (watch_numbers None) (omega arith) (omega arith) (omega arith)))
      by-lowest (Some i) e =
          let r = lowest-at waits n i e in
          let h : i < n = r.there in
          let q : w ≡ word (watch_numbers (Some i)) = meets.contract ∙ rw (watch-is, e, lt-ltb i 4294967296 (omega arith)) in
          one_waits h (eqb-true (process_at rows i).mode 5 (sym (waits-at i h) ∙ r.passes))
          (λ j u. not-waits j (omega arith) (false_from_ne_true (waits j) (λ g. let k = r.least j (omega arith) g in absurd (omega arith))))
          (rw q (first_of (watch_numbers (Some i)) (omega arith) (omega arith) (omega arith)))
          (rw q (large-of (watch_numbers (Some i)) (omega arith) (omega arith) (omega arith)))

      -- of up to 2^32 rows, the lowest that is suspended, or none
      pub watch-tells : Watched rows w
      watch-tells = by-lowest (lowest waits n) refl
