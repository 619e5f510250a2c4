use Prim.Native.Nat.{◌<◌, ◌≤◌}
use mathlib.Core.Path.{◌≡◌}
use lib.ListN.{length}
use Rattle.parlog.specs.Scan.{build}
use Rattle.parlog.specs.Tables.{procs_of}
use Rattle.rows.specs.Rows.{Table}
use Rattle.tree.specs.Family.{Marks, most_rows}
use Rattle.tree.proofs.Passing.{passed}
use Rattle.tree.proofs.sleep_from.Given as goal

abbrev pub invariant-loop-q : goal.invariant-loop-q
invariant-loop-q l = (l.q ≤ l.n) × (l.p < l.q) × Table l.initial.procs l.procs (build (passed (procs_of l.initial.procs l.n) l.p l.q) l.n) × (length l.marks ≡ most_rows) × Marks (procs_of l.initial.procs l.n) l.p l.q l.marks
