use mathlib.Core.List.{◌++◌}
use mathlib.Core.Path.{◌≡◌}
use Prim.Native.Nat.{◌+◌, ◌*◌, ◌≤◌}
use lib.ListN.{drop, length}
use Rattle.parlog.specs.Tables.{procs_of}
use Rattle.parlog.specs.Rules.{tries, tries_vars}
use Rattle.parlog.specs.Program.{block_of, program_of}
use Rattle.rules_or.proofs.try_all.Given as goal

abbrev pub invariant-loop-j : goal.invariant-loop-j
invariant-loop-j l = (l.v ≤ l.m + 510 * l.j) × (length l.rows ≡ length l.initial.rows)
    × (procs_of l.rows l.j ++ tries (program_of l.image.bytes.now l.image.relations l.image.clauses) l.p l.z l.v (drop l.j (block_of (program_of l.image.bytes.now l.image.relations l.image.clauses) l.rel l.b)) ≡ tries (program_of l.image.bytes.now l.image.relations l.image.clauses) l.p l.z l.m (block_of (program_of l.image.bytes.now l.image.relations l.image.clauses) l.rel l.b))
    × (l.v + tries_vars (program_of l.image.bytes.now l.image.relations l.image.clauses) (drop l.j (block_of (program_of l.image.bytes.now l.image.relations l.image.clauses) l.rel l.b)) ≡ l.m + tries_vars (program_of l.image.bytes.now l.image.relations l.image.clauses) (block_of (program_of l.image.bytes.now l.image.relations l.image.clauses) l.rel l.b))
