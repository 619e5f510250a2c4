-- The image of mode lines, clauses and a goal, with the constants numbered in any way.
use Rattle.std.specs.Prelude.{false, [], ◌++◌, List, ℕ, length}
use Rattle.lay_lines.specs.Lines.{clauses_with, modes_of}
use Rattle.read_names.specs.Tables.{mode_names}
use Rattle.text_names.specs.Names.{Name}
use Rattle.text_program.specs.Encoded.{ask_bytes, clause_bytes, relation_bytes}
use Rattle.text_program.specs.Numbered.{goal_numbered, goal_terms, joined, Numbering, variable_names}
use Rattle.text_program.specs.Source.{ModeLine, Said, SaidClause}

-- the numbering of the goal
abbrev pub asking : List Name → List Name → List (List Said) → Numbering
asking rels consts g = record { relations = rels; constants = consts; variables = variable_names (goal_terms g) }

-- its record
unfoldable pub ask_with : List Name → List Name → List (List Said) → List ℕ
ask_with rels consts g = ask_bytes (length (variable_names (goal_terms g))) (goal_numbered (asking rels consts g) g)

-- all records
unfoldable pub image_with : List ModeLine → List Name → List SaidClause → List (List Said) → List ℕ
image_with ms consts cs g = joined relation_bytes (modes_of ms) ++ (joined clause_bytes (clauses_with (mode_names ms) consts false [] cs) ++ ask_with (mode_names ms) consts g)
