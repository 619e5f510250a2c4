use Rattle.std.proofs.Common.{◌+◌, ◌-◌, ◌≡◌, ◌∙◌, arith, refl, rules, tests}
use Rattle.std.proofs.lemmas.Iterator.{YieldsList-from_range}
use Rattle.std.proofs.lemmas.Iterator.Search.{all_from_yields_List}
use Rattle.parlog.specs.Body.{mode_range}
use Rattle.load_body.proofs.Goals.{modes-all}
use Rattle.load_body.proofs.modes_range.Goals as goal

pub returns : goal.returns
returns c =
    let a = c.args in
    let e : a.from + a.n - a.from ≡ a.n = omega arith in
    all_from_yields_List (mode_range a.s.now) _ _ _ c.all.ensures.ran (YieldsList-from_range a.from (a.from + a.n) a.n refl e) (λ x b q k. search (rules, tests)) ∙ modes-all a.s.now a.n a.from
