-- The length of a record, and a row with room for one, or without.
use mathlib.Core.Path.{◌≡◌, refl}
use mathlib.Core.List.{List}
use Prim.Native.Nat.{◌<◌, ◌≤◌, ℕ}
use lib.ListN.{length}
use Rattle.bound.proofs.Rows.{tell-fits, tell-short}
use Rattle.bound.specs.Calls.{tell_in}
use Rattle.lay.specs.Lay.{laid}
use Rattle.parlog.specs.Tables.{Lent}
use Rattle.trace.specs.Trace.{record_bytes, trace_size}

pub record-length : (kind who what stamp : ℕ) → length (record_bytes kind who what stamp) ≡ trace_size
unfolding record_bytes
record-length kind who what stamp = refl

module _ {A : Type 0} (refuse done : A) (after l : Lent) (row : List ℕ) (kind who what stamp : ℕ) where
  pub no_room : length row < trace_size → tell_in refuse done after l row (record_bytes kind who what stamp) ≡ record { answer = refuse; lent = l; row = row }
  no_room h = tell-short refuse done after l row (record_bytes kind who what stamp) (rw (record-length kind who what stamp) h)

  pub has_room : trace_size ≤ length row → tell_in refuse done after l row (record_bytes kind who what stamp) ≡ record { answer = done; lent = after; row = laid row 0 (record_bytes kind who what stamp) }
  has_room h = tell-fits refuse done after l row (record_bytes kind who what stamp) (rw (record-length kind who what stamp) h)
