use lib.ListN.{drop}
use Prim.Native.Nat.{◌-◌}
use Rattle.read_names.specs.Tables.{modes_from}
use Rattle.read_names.proofs.Lined.{FindLeft}
use Rattle.text_names.specs.Bytes.{front}
use Rattle.text_program.specs.Source.{is_mode_line, read_mode_line, lines_for}
use Rattle.read_names.proofs.relation.Given as goal

abbrev pub invariant-loop-n : goal.invariant-loop-n
invariant-loop-n l = FindLeft l.s (modes_from l.s l.from) (lines_for (l.most - l.n) is_mode_line read_mode_line (drop l.p l.s)).value (front (drop l.q l.s)) l.p l.n (l.most - l.n)
