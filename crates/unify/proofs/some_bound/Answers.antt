use Rattle.std.proofs.Common.{◌∙◌, rules, tests}
use Rattle.std.proofs.lemmas.Iterator.{YieldsList-from_slice}
use Rattle.std.proofs.lemmas.Iterator.Search.{any_from_yields_List}
use Rattle.parlog.specs.Tables.{binding_of, vars_in}
use Rattle.parlog.specs.Unify.{is_bound}
use Rattle.unify.proofs.Laws.{some-is}
use Rattle.unify.proofs.some_bound.Goals as goal

pub returns : goal.returns
returns c =
    let a = c.args in
    let vs = vars_in a.vars.now.bytes.now a.vars.now.count in
    any_from_yields_List (λ v. is_bound (binding_of vs v)) _ _ _ c.any.ensures.ran (YieldsList-from_slice a.notes.now cc) (λ x b q k. search (rules, tests)) ∙ some-is vs a.notes.now
