-- From the answers of the calls that record to the words that C is given.
use Rattle.parlog.specs.declared.Move.{Move}
use Rattle.parlog.specs.declared.End.{End}
use Rattle.std.specs.Prelude.{Ok, Err}
use Rattle.parlog.specs.Answer.{Answer}
use mathlib.Core.List.{List}
use Prim.Native.Nat.{◌≤◌, ℕ}
use lib.Dec.{leb}
use lib.ListN.{length}
use borrow.Author.Tests.{leb-false, leb-true}
use native.Mathlib.Omega.{arith}
use Rattle.bound.specs.Calls.{RowSays}
use Rattle.capi.proofs.Laws.{fits-of}
use Rattle.parlog.proofs.Bools.{split}
use Rattle.parlog.specs.Calls.{step_call, supply_call}
use Rattle.parlog.specs.Limits.{Limits, Usable}
use Rattle.parlog.specs.Tables.{Lent}
use Rattle.run_traced.proofs.Noting.{moves-most}
use Rattle.run_traced.specs.Traced.{moves_for, run_traced_call}
use Rattle.trace.specs.Trace.{trace_size}
use Rattle.traced.proofs.Noting.{step-narrow, step-wide, supply-narrow, supply-wide}
use Rattle.traced.specs.Traced.{step_traced_call, step_unnoted, supply_traced_call, supply_unnoted}
use Rattle.words.proofs.Fitting.{run_fits, step_fits, supply-fits}
use Rattle.words.specs.Fits.{RunFits, StepFits, SupplyFits}

step-unnoted-fits : (a : Answer Move) → StepFits a → StepFits (step_unnoted a)
step-unnoted-fits (Err r) k = k
step-unnoted-fits (Ok m) k = omega arith

supply-unnoted-fits : (a : Answer ℕ) → SupplyFits a → SupplyFits (supply_unnoted a)
supply-unnoted-fits (Err r) k = k
supply-unnoted-fits (Ok u) k = omega arith

module _ (lim : Limits) (s : List ℕ) (l : Lent) (row : List ℕ) {h p v w : List ℕ} where
  pub step-traced-fit : (i stamp : ℕ) {a : Answer Move} → RowSays (step_traced_call lim s l row i stamp) a h p v w → Usable lim → StepFits a
  step-traced-fit i stamp says ok = fits-of says.answer StepFits (split (leb trace_size (length row))
      (λ e. rw (step-wide lim s l i row stamp (leb-true trace_size (length row) e)) (step_fits lim ok s l i))
      (λ e. rw (step-narrow lim s l i row stamp (leb-false trace_size (length row) e)) (step-unnoted-fits (step_call lim s l i).answer (step_fits lim ok s l i))))

  pub supply-traced-fit : (x c stamp : ℕ) {a : Answer ℕ} → RowSays (supply_traced_call lim s l row x c stamp) a h p v w → SupplyFits a
  supply-traced-fit x c stamp says = fits-of says.answer SupplyFits (split (leb trace_size (length row))
      (λ e. rw (supply-wide lim s l row x c stamp (leb-true trace_size (length row) e)) (supply-fits lim s l x c))
      (λ e. rw (supply-narrow lim s l row x c stamp (leb-false trace_size (length row) e)) (supply-unnoted-fits (supply_call lim s l x c).answer (supply-fits lim s l x c))))

  pub run-traced-fit : (limit stamp : ℕ) {a : Answer (End × ℕ)} → RowSays (run_traced_call lim s l row limit stamp) a h p v w → limit ≤ 65535 → RunFits a
  unfolding run_traced_call
  run-traced-fit limit stamp says most =
      let n = moves-most (length row) limit in
      fits-of says.answer RunFits (run_fits lim s l (moves_for (length row) limit) (omega (arith, most, n)))
