use mathlib.Core.Path.{◌≡◌}
use Prim.Native.Nat.{◌≤◌}
use lib.ListN.{get_or, length}
use Rattle.parlog.specs.Scan.{those}
use Rattle.program_clause.specs.Parts.{is_out}
use Rattle.program_clause.proofs.outs_of.Given as goal

abbrev pub invariant-loop-k : goal.invariant-loop-k
invariant-loop-k l = (l.count ≤ l.k) × (l.number ≤ 255) × (l.count ≡ length (those (is_out l.s l.at) l.k)) × (l.number ≡ get_or (those (is_out l.s l.at) l.k) l.j 0)
