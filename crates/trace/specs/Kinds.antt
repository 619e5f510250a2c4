-- The kinds of a trace's records, and their numbers.
use Rattle.std.specs.Prelude.{cond, eqb, None, Option, Some, ℕ}
use Rattle.trace.specs.Trace.{step_kind, supply_kind}
use Rattle.trace.specs.declared.Kind.{Kind}
use Rattle.trace.specs.declared.Kind.TheVariants.{Step, Supply}

-- the number of a kind
abbrev pub number_of : Kind → ℕ
number_of Step = step_kind
number_of Supply = supply_kind

-- the kind of a number, where there is one
abbrev pub kind_of : ℕ → Option Kind
kind_of n = cond (eqb n step_kind) (Some Step) (cond (eqb n supply_kind) (Some Supply) None)

-- what is no step is played as a supply
abbrev pub kind_or_supply : ℕ → Kind
kind_or_supply n = cond (eqb n step_kind) Step Supply
