-- The mode lines and the clauses of a text as what they become, and whether an image may have them.
use Rattle.std.specs.Prelude.{◌&&◌, Bool, [], ◌∷◌, List, map, ℕ, leb, drop, length}
use Rattle.lay_lines.specs.Fields.{clause_in}
use Rattle.parlog.specs.Program.{Clause}
use Rattle.read_goal.specs.Spans.{goal_right}
use Rattle.text_names.specs.Names.{Name, same_name}
use Rattle.text_program.specs.Numbered.{clause_terms, mark_by, Numbering, variable_names}
use Rattle.text_program.specs.Parsing.{all_of}
use Rattle.text_program.specs.Source.{is_clause, lines, ModeLine, read_clause, SaidClause}

-- the modes of some mode lines
abbrev pub modes_of : List ModeLine → List (List ℕ)
modes_of ms = map (λ (m : ModeLine). m.modes) ms

-- Image 3: a relation has up to four arguments
unfoldable pub modes_right : List ModeLine → Bool
modes_right ms = all_of (λ (m : ModeLine). leb (length m.modes) 4) ms

-- Image 5: up to four terms in the head, up to 16 variables, and goals that are right
unfoldable pub clause_right : SaidClause → Bool
clause_right c = leb (length c.terms) 4 && (leb (length (variable_names (clause_terms c))) 16 && (goal_right c.guard && goal_right c.body))

-- the clauses from a place on
abbrev pub clauses_from : List ℕ → ℕ → List SaidClause
clauses_from s at = (lines is_clause read_clause (drop at s)).value

-- the numbering of a clause
abbrev pub with_vars : List Name → List Name → SaidClause → Numbering
with_vars rels consts c = record { relations = rels; constants = consts; variables = variable_names (clause_terms c) }

-- Text 13: clauses behind one of a name that ended in `;` or not
unfoldable pub clauses_with : List Name → List Name → Bool → Name → List SaidClause → List Clause
clauses_with rels consts semicolon name [] = []
clauses_with rels consts semicolon name (c ∷ cs) =
    clause_in (with_vars rels consts c) (mark_by (semicolon && same_name name c.name)) c ∷ clauses_with rels consts c.semicolon c.name cs
