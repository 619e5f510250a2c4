use Rattle.entry.proofs.Entering.{enter-entered, enter-refused, enter-turned, indexed_of}
use Rattle.parlog.specs.Limits.{small}
use Rattle.entry.proofs.enter.Goals as goal

pub returns-in_default : goal.returns-in_default
unfolding small
returns-in_default c = let l = c.load_indexed-l.ensures in
    let e = enter-refused _ _ _ l.value c.in_default.is in
    record { enter_says = e; inside_of = e.inside; indexed_of = l.indexed_of }

pub returns-then-not-lent_ok : goal.returns-then-not-lent_ok
unfolding small
returns-then-not-lent_ok c = record { enter_says = enter-turned _ _ _ c.load_indexed-l.ensures.value c.in-Ok.is c.lent_ok.ensures (c.if-not-lent_ok.true) c.refusal.ensures; inside_of = tt; indexed_of = tt }

pub returns : goal.returns
unfolding small
returns c = let l = c.load_indexed-l.ensures in
    let e = enter-entered _ _ _ l.value c.in-Ok.is c.lent_ok.ensures (c.if-not-lent_ok.false) l.bounded in
    record { enter_says = e; inside_of = e.inside; indexed_of = indexed_of _ _ l.indexed_of c.in-Ok.is }
