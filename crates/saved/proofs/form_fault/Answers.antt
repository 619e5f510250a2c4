use Rattle.saved.proofs.Faults.{begun, form-former, form-long, form-other, form-rule, rule-inside}
use Rattle.std.proofs.Common.{◌∙◌, ap, arith, eqb-true, refl, sym}
use borrow.Author.Tests.{eqb-false}
use Rattle.saved.specs.Reading.{some_fault}
use Rattle.saved.proofs.form_fault.Goals as goal

pub word_in-size-requires : goal.word_in-size-requires
word_in-size-requires c = let b = begun c.args.s.now c.args.at c.requires.0 in omega arith

pub returns-then-former : goal.returns-then-former
returns-then-former c = ap some_fault (form-former c.args.s.now c.args.at c.requires.1 c.word_in-size.ensures.0 (rw c.is_head.ensures) c.if-former.true)

pub returns-then-size-length : goal.returns-then-size-length
returns-then-size-length c = ap some_fault (form-long c.args.s.now c.args.at c.requires.1 c.word_in-size.ensures.0 (rw c.is_head.ensures) c.if-former.false c.length.ensures.0 c.if-size-length.true)

pub returns-then-not-is_head : goal.returns-then-not-is_head
returns-then-not-is_head c = ap some_fault (form-other c.args.s.now c.args.at c.requires.1 c.word_in-size.ensures.0 (rw c.is_head.ensures) c.if-former.false c.length.ensures.0 c.if-size-length.false (eqb-false _ _ (sym c.is_head-2.ensures ∙ c.if-not-is_head.true)))

pub word_in-rule-requires : goal.word_in-rule-requires
word_in-rule-requires c = let r = rule-inside c.args.s.now c.args.at c.requires.1 c.word_in-size.ensures.0 (rw c.is_head.ensures) c.if-former.false c.length.ensures.0 c.if-size-length.false (eqb-true _ _ (sym c.is_head-2.ensures ∙ c.if-not-is_head.false)) c.requires.0 in omega arith

pub returns : goal.returns
returns c = c.rule_fault.ensures ∙ ap some_fault (form-rule c.args.s.now c.args.at c.requires.1 c.word_in-size.ensures.0 (rw c.is_head.ensures) c.if-former.false c.length.ensures.0 c.if-size-length.false (eqb-true _ _ (sym c.is_head-2.ensures ∙ c.if-not-is_head.false)) c.word_in-rule.ensures.0 refl)
