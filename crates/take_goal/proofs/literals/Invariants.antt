use mathlib.Core.Bool.{false, true}
use Prim.Native.Nat.{◌-◌}
use Rattle.lay_literal.specs.Lows.{literal_fits}
use Rattle.text_program.specs.Numbered.{said_terms}
use Rattle.text_program.specs.Source.{read_literal}
use Rattle.mode_table.specs.Held.{lines_in}
use Rattle.take_goal.proofs.Going.{Going}
use Rattle.take_goal.specs.Turns.{literal_in}
use Rattle.take_term.specs.Lent.{rows_in, Same}
use Rattle.take_goal.proofs.literals.Given as goal

abbrev pub invariant-loop-n : goal.invariant-loop-n
invariant-loop-n l = Going read_literal 44 said_terms (literal_in (lines_in l.relations)) (literal_fits true (lines_in l.relations)) (literal_fits false (lines_in l.relations)) l.relations.text.now (rows_in l.initial.draft l.initial.vars) l.initial.x (rows_in l.draft l.vars) l.x l.n (l.most - l.n) × Same l.initial.draft l.draft
