use lib.ListN.{take}
use Rattle.parlog.specs.Tables.{vars_in}
use Rattle.parlog.specs.Unify.{changed}
use Rattle.vars.specs.Cells.{Cells}
use Rattle.move_write.proofs.bind_all.Given as goal

abbrev pub invariant-loop-c : goal.invariant-loop-c
invariant-loop-c l = Cells l.m l.initial.vars l.vars (changed (vars_in l.initial.vars l.m) (take l.c-index l.c-items))
