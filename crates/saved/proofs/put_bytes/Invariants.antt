use Prim.Native.Nat.{◌+◌}
use mathlib.Core.Path.{◌≡◌}
use Rattle.lay.specs.Lay.{Lays}
use Rattle.saved.specs.Form.{bytes_from}
use Rattle.saved.proofs.put_bytes.Given as goal

abbrev pub invariant-loop-byte : goal.invariant-loop-byte
invariant-loop-byte l = (l.next ≡ l.at + l.byte-index) × Lays l.initial.out l.out l.at (bytes_from l.row 0 l.byte-index) l.next
