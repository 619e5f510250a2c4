-- The tests of clauses and of the goal, told by what the text says of them.
use Rattle.parlog.specs.Answer.{Answer}
use Rattle.std.specs.Prelude.{◌&&◌, Bool, true, [], ◌∷◌, List, ◌+◌, ℕ, leb, length, Result}
use Rattle.judge_image.specs.Judged.{judged}
use Rattle.lay_lines.specs.Fields.{clause_fits, clause_in}
use Rattle.lay_literal.specs.Fits.{goal_fits}
use Rattle.lay_lines.specs.Lines.{clause_right, with_vars}
use Rattle.parlog.specs.Load.{after}
use Rattle.parlog.specs.declared.Progress.{Progress}
use Rattle.read_goal.specs.Spans.{goal_right}
use Rattle.read_names.specs.Tables.{mode_names}
use Rattle.text_names.specs.Names.{look, Name, same_name}
use Rattle.text_program.specs.Encoded.{clause_bytes}
use Rattle.text_program.specs.Numbered.{goal_terms, mark_by, variable_names}
use Rattle.text_program.specs.Source.{ModeLine, Said, SaidClause}

-- 6, 4, 5 and 6 for a clause
unfoldable pub clause_said : List ModeLine → Progress → Bool → SaidClause → Result Progress ℕ
clause_said ms g opens c =
    judged g 2 (clause_right c) (clause_fits true ms c && leb g.relation (look (mode_names ms) c.name)) (look (mode_names ms) c.name) (mark_by opens)

-- 4 for the goal
unfoldable pub ask_right : List (List Said) → Bool
ask_right g = leb (length (variable_names (goal_terms g))) 16 && goal_right g

-- 4 and 5 for the goal
unfoldable pub ask_said : List ModeLine → Progress → List (List Said) → Result Progress ℕ
ask_said ms g q = judged g 3 (ask_right q) (goal_fits true ms q) 0 0

-- how long a clause's record is, whatever its names are numbered
unfoldable pub clause_size : SaidClause → ℕ
clause_size c = length (clause_bytes (clause_in (with_vars [] [] c) 0 c))

-- clauses one after the other, behind one of a name that ended in `;` or not, and then what follows
unfoldable pub clauses_said : List ModeLine → (ℕ → Progress → Answer (ℕ × ℕ)) → Bool → Name → List SaidClause → ℕ → Progress → Answer (ℕ × ℕ)
clauses_said ms then semicolon name [] at g = then at g
clauses_said ms then semicolon name (c ∷ cs) at g =
    after (clauses_said ms then c.semicolon c.name cs (at + clause_size c)) at (clause_said ms g (semicolon && same_name name c.name) c)
