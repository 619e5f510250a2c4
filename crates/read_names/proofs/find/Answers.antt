use Rattle.std.proofs.Common.{drop, rules, tests}
use Rattle.std.proofs.lemmas.Iterator.{YieldsList-from_slice}
use Rattle.std.proofs.lemmas.Iterator.Search.{position_from_yields_List}
use Rattle.read_names.proofs.Tabled.{found-by}
use Rattle.text_names.specs.Bytes.{front}
use Rattle.text_names.specs.Names.{same_name}
use Rattle.read_names.proofs.find.Goals as goal

pub returns : goal.returns
returns c =
    let a = c.args in
    let x = front (drop a.q a.s.now) in
    found-by a.s.now x a.table.now _ (position_from_yields_List (λ p. same_name (front (drop p a.s.now)) x) _ _ _ c.position.ensures.ran (YieldsList-from_slice a.table.now c.iter.ensures.rest) (λ p b q k. search (rules, tests)))
