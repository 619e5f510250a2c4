-- The names that a text calls: those of its clauses, and those of its literals.
use Rattle.std.specs.Prelude.{[], ◌++◌, ◌∷◌, List, ℕ, drop}
use Rattle.text_names.specs.Names.{Name}
use Rattle.text_program.specs.Numbered.{joined}
use Rattle.text_program.specs.Source.{behind_arrow, calls, equals, is_clause, lines_for, read_body, read_clause, Said, SaidClause}

-- Text 16: an equality calls nothing
abbrev pub said_calls : Said → List Name
said_calls (calls p ts) = p ∷ []
said_calls (equals a b) = []

-- the names that a goal calls
abbrev pub goal_calls : List (List Said) → List Name
goal_calls g = joined (joined said_calls) g

-- Text 16: a clause calls its own relation too
abbrev pub clause_calls : SaidClause → List Name
clause_calls c = c.name ∷ (goal_calls c.guard ++ goal_calls c.body)

-- the names that are called in up to n clauses from a place on and in the goal behind them
abbrev pub calls_from : List ℕ → ℕ → ℕ → List Name
calls_from s from n =
    let c = lines_for n is_clause read_clause (drop from s) in
    joined clause_calls c.value ++ goal_calls (read_body (behind_arrow c.rest)).value
