use Rattle.trace.proofs.Laws.{fault-body, fault-cut, fault-kind, fault-none, known-as}
use Rattle.std.proofs.Common.{ap, sym, ◌∙◌}
use Rattle.saved.specs.Reading.{some_fault}
use Rattle.trace.proofs.record_fault.Goals as goal

pub cut-requires : goal.cut-requires
cut-requires c = c.requires

pub returns-then-cut : goal.returns-then-cut
returns-then-cut c = ap some_fault (fault-cut _ _ (sym c.cut.ensures ∙ c.if-cut.true))

pub returns-then-is_none : goal.returns-then-is_none
returns-then-is_none c = ap some_fault (fault-kind _ _ (sym c.cut.ensures ∙ c.if-cut.false) (known-as _ c.word_in.ensures.0 c.of-kind.ensures c.is_none.ensures c.if-is_none.true))

pub returns-then-word_in-ne-SIZE : goal.returns-then-word_in-ne-SIZE
returns-then-word_in-ne-SIZE c = ap some_fault (fault-body _ _ (sym c.cut.ensures ∙ c.if-cut.false) (known-as _ c.word_in.ensures.0 c.of-kind.ensures c.is_none.ensures c.if-is_none.false) (λ z. c.if-word_in-ne-SIZE.true (c.word_in-2.ensures.0 ∙ z)))

pub returns : goal.returns
returns c = ap some_fault (fault-none _ _ (sym c.cut.ensures ∙ c.if-cut.false) (known-as _ c.word_in.ensures.0 c.of-kind.ensures c.is_none.ensures c.if-is_none.false) (sym c.word_in-2.ensures.0 ∙ c.if-word_in-ne-SIZE.false))
