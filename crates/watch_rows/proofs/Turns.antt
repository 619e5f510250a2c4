-- One turn of the scan of rows, as the loop takes it: x is the record that was read, b what the test says of it.
use Rattle.std.specs.Prelude.{Some, None}
use mathlib.Core.Path.{◌∙◌, ◌≡◌, ap, sym}
use mathlib.Core.Bool.{Bool, true}
use mathlib.Core.List.{List}
use Prim.Native.Nat.{◌<◌, ◌≤◌, ℕ}
use Rattle.parlog.specs.Codes.{is_mode, suspended}
use Rattle.parlog.specs.Run.{watch_of}
use Rattle.parlog.specs.Tables.{at, procs_of}
use Rattle.parlog.specs.declared.Process.{Process}
use Rattle.rows.proofs.Tables.{procs-length}
use Rattle.watch_rows.proofs.Watched.{Quiet, suspended_at, watch-end, watch-hit}

module _ (l : List ℕ) (n q : ℕ) (so : Quiet (procs_of l n) q) where
  pub rows_end : n ≤ q → None ≡ watch_of (procs_of l n)
  rows_end h = sym (watch-end (procs_of l n) q so (rw (procs-length l n) h))

  module _ {x : Process} {b : Bool} (read : x ≡ at (procs_of l n) q) (e : b ≡ is_mode suspended x.mode) where
    -- the test, as one on process q
    tested : b ≡ suspended_at (procs_of l n) q
    tested = e ∙ ap (λ (y : Process). is_mode suspended y.mode) read

    pub rows-hit : q < n → b ≡ true → Some q ≡ watch_of (procs_of l n)
    rows-hit h y = sym (watch-hit (procs_of l n) q so tested (rw (procs-length l n) h) y)
