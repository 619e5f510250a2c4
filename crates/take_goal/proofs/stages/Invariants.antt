use mathlib.Core.Bool.{false, true}
use Prim.Native.Nat.{◌-◌}
use Rattle.lay_literal.specs.Fits.{stage_fits}
use Rattle.text_program.specs.Numbered.{joined, said_terms}
use Rattle.text_program.specs.Source.{read_literal, row}
use Rattle.mode_table.specs.Held.{lines_in}
use Rattle.take_goal.proofs.Going.{Going}
use Rattle.take_goal.specs.Turns.{stage_in}
use Rattle.take_term.specs.Lent.{rows_in, Same}
use Rattle.take_goal.proofs.stages.Given as goal

abbrev pub invariant-loop-n : goal.invariant-loop-n
invariant-loop-n l = Going (row read_literal 44) 38 (joined said_terms) (stage_in (lines_in l.relations)) (stage_fits true (lines_in l.relations)) (stage_fits false (lines_in l.relations)) l.relations.text.now (rows_in l.initial.draft l.initial.vars) l.initial.x (rows_in l.draft l.vars) l.x l.n (l.most - l.n) × Same l.initial.draft l.draft
