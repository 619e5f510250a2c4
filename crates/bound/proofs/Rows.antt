-- A row with room for what is to be told, or without.
use mathlib.Core.Path.{◌≡◌}
use mathlib.Core.List.{List}
use Prim.Native.Nat.{◌<◌, ◌≤◌, ℕ}
use lib.ListN.{length}
use borrow.Author.Tests.{le-leb, lt-leb}
use Rattle.bound.specs.Calls.{RowCall, RowSays, tell_in}
use Rattle.lay.specs.Lay.{laid}
use Rattle.parlog.specs.Tables.{Lent, lent}

module _ {A : Type 0} (refuse done : A) (after l : Lent) (row bytes : List ℕ) where
  pub tell-short : length row < length bytes → tell_in refuse done after l row bytes ≡ record { answer = refuse; lent = l; row = row }
  unfolding tell_in
  tell-short h = rw (lt-leb (length bytes) (length row) h)

  pub tell-fits : length bytes ≤ length row → tell_in refuse done after l row bytes ≡ record { answer = done; lent = after; row = laid row 0 bytes }
  unfolding tell_in
  tell-fits h = rw (le-leb (length bytes) (length row) h)

-- a contract, from what the call is
pub row-says : {A : Type 0} {c : RowCall A} {a : A} {h ps vs w : List ℕ} → c ≡ record { answer = a; lent = lent h ps vs; row = w } → RowSays c a h ps vs w
row-says e = record { answer = rw e; head = rw e; procs = rw e; vars = rw e; row = rw e }

-- and of a call that is another
pub row_same : {A : Type 0} {c d : RowCall A} {a : A} {h ps vs w : List ℕ} → c ≡ d → RowSays d a h ps vs w → RowSays c a h ps vs w
row_same e x = rw e x
