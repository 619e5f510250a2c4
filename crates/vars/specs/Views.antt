-- The bindings that a view of a variable table shows.
use Rattle.std.specs.Prelude.{List, Option}
use Rattle.parlog.specs.Tables.{vars_in}
use Rattle.parlog.specs.declared.Term.{Term}
use Rattle.vars.specs.declared.Variables.{Variables}

-- the used rows
abbrev pub variables_in : Variables → List (Option Term)
variables_in v = vars_in v.bytes.now v.count
