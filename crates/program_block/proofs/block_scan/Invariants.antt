use mathlib.Core.Path.{◌≡◌}
use Prim.Native.Nat.{◌≤◌}
use lib.ListN.{get_or, length}
use Rattle.parlog.specs.Program.{in_block, opens, program_of}
use Rattle.parlog.specs.Scan.{tally, those}
use Rattle.program_block.specs.Parts.{own_before}
use Rattle.program_block.proofs.block_scan.Given as goal

abbrev pub invariant-loop-k : goal.invariant-loop-k
invariant-loop-k l = (l.k ≤ l.image.clauses) × (l.count ≤ l.k) × (l.size ≤ l.k) × (l.clause ≤ 255)
    × (l.own ≡ own_before (program_of l.image.bytes.now l.image.relations l.image.clauses) l.q l.k)
    × (l.count ≡ tally (opens (program_of l.image.bytes.now l.image.relations l.image.clauses) l.q) l.k)
    × (l.size ≡ length (those (in_block (program_of l.image.bytes.now l.image.relations l.image.clauses) l.q l.b) l.k))
    × (l.clause ≡ get_or (those (in_block (program_of l.image.bytes.now l.image.relations l.image.clauses) l.q l.b) l.k) l.j 255)
