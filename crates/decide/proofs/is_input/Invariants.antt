use mathlib.Core.Path.{◌≡◌}
use lib.ListN.{drop, take}
use Rattle.parlog.specs.Tables.{vars_in}
use Rattle.parlog.specs.Unify.{input_value}
use Rattle.decide.proofs.is_input.Given as goal

abbrev pub invariant-loop-i : goal.invariant-loop-i
invariant-loop-i l = input_value (vars_in l.vars.bytes.now l.vars.count) (drop l.i (take l.call.arity l.call.modes)) (drop l.i (take l.call.arity l.call.args)) l.call.base l.v ≡ input_value (vars_in l.vars.bytes.now l.vars.count) (take l.call.arity l.call.modes) (take l.call.arity l.call.args) l.call.base l.v
