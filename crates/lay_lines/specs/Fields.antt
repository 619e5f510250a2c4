-- What stands in the record of a clause, with names numbered in any way; and the test of each call.
use Rattle.std.specs.Prelude.{◌&&◌, Bool, ◌++◌, ◌∷◌, List, map, ℕ, length}
use Rattle.lay_literal.specs.Fits.{goal_fits}
use Rattle.lay_literal.specs.Lows.{literal_fits}
use Rattle.parlog.specs.Program.{Clause}
use Rattle.text_names.specs.Names.{look}
use Rattle.text_program.specs.Encoded.{goal_bytes, term_bytes}
use Rattle.text_program.specs.Numbered.{goal_numbered, joined, Numbering, term_numbered}
use Rattle.text_program.specs.Source.{calls, ModeLine, SaidClause}

-- a clause by its numbers
abbrev pub clause_in : Numbering → ℕ → SaidClause → Clause
clause_in n mark c = record {
  rel = look n.relations c.name;
  mark = mark;
  vars = length n.variables;
  head = map (term_numbered n) c.terms;
  guard = goal_numbered n c.guard;
  body = goal_numbered n c.body;
}

-- Image 5: what stands in its record
unfoldable pub clause_fields : Clause → List ℕ
clause_fields c = c.rel ∷ length c.head ∷ c.mark ∷ c.vars ∷ (joined term_bytes c.head ++ (goal_bytes c.guard ++ goal_bytes c.body))

-- the head and each call of a clause
unfoldable pub clause_fits : Bool → List ModeLine → SaidClause → Bool
clause_fits arity ms c = literal_fits arity ms (calls c.name c.terms) && (goal_fits arity ms c.guard && goal_fits arity ms c.body)
