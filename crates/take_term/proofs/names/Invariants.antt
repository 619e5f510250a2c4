use Rattle.text_program.specs.Source.{read_term, row, row_for}
use Rattle.take_term.specs.Lent.{rows_in, Same}
use Rattle.take_term.proofs.Ways.{NamesLeft}
use Prim.Native.Nat.{◌-◌}
use lib.ListN.{drop}
use Rattle.take_term.proofs.names.Given as goal

abbrev pub invariant-loop-n : goal.invariant-loop-n
invariant-loop-n l = NamesLeft l.s (rows_in l.initial.draft l.initial.vars) l.initial.r (row read_term 44 (drop l.initial.r.end l.s)) (rows_in l.draft l.vars) l.r l.n (row_for (l.most - l.n) read_term 44 (drop l.r.end l.s)) × Same l.initial.draft l.draft
