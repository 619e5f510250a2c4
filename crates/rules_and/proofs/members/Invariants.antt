use mathlib.Core.Path.{◌≡◌}
use lib.ListN.{length}
use Rattle.parlog.specs.Program.{program_of}
use Rattle.parlog.specs.Rules.{member}
use Rattle.parlog.specs.Scan.{build}
use Rattle.parlog.specs.Tables.{procs_of}
use Rattle.rules_and.proofs.members.Given as goal

abbrev pub invariant-loop-j : goal.invariant-loop-j
invariant-loop-j l = (length l.new ≡ length l.initial.new) × (procs_of l.new l.j ≡ build (member (program_of l.image.bytes.now l.image.relations l.image.clauses) l.p l.z) l.j)
