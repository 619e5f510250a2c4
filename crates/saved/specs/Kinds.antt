-- The kinds of a saved run's records, and their numbers.
use Rattle.std.specs.Prelude.{cond, eqb, None, Option, Some, ℕ}
use Rattle.saved.specs.Form.{head_kind, process_kind, variable_kind}
use Rattle.saved.specs.declared.Kind.{Kind}
use Rattle.saved.specs.declared.Kind.TheVariants.{Head, Process, Variable}

-- the number of a kind
abbrev pub number_of : Kind → ℕ
number_of Head = head_kind
number_of Process = process_kind
number_of Variable = variable_kind

-- the number of the kind before, 0 where there is none
abbrev pub number_before : Option Kind → ℕ
number_before None = 0
number_before (Some k) = number_of k

-- the kind of a number, where there is one
abbrev pub kind_of : ℕ → Option Kind
kind_of n = cond (eqb n head_kind) (Some Head) (cond (eqb n process_kind) (Some Process) (cond (eqb n variable_kind) (Some Variable) None))
