use Rattle.saved.proofs.Faults.{begun, fault-form, fault-three, fault-told, fault-two, fault-untold}
use Rattle.saved.proofs.Following.{behind-none, behind-some}
use Rattle.std.proofs.Common.{◌∙◌, arith, refl, sym}
use Rattle.saved.proofs.tested.Goals as goal

pub returns-then-cut : goal.returns-then-cut
returns-then-cut c = (fault-two c.args.s.now _ c.args.at c.cut.ensures c.if-cut.true, λ z. omega arith)

pub word_in-number-requires : goal.word_in-number-requires
word_in-number-requires c = let b = begun c.args.s.now c.args.at (sym c.cut.ensures ∙ c.if-cut.false) in omega arith

pub returns-in_default : goal.returns-in_default
returns-in_default c = (fault-three c.args.s.now _ c.args.at c.cut.ensures c.if-cut.false c.word_in-number.ensures.0 refl (behind-none _ _ (sym c.in_default.is ∙ c.kind_behind.ensures)), λ z. omega arith)

pub returns-in-None : goal.returns-in-None
returns-in-None c = let b = behind-some _ _ (sym c.in-Some.is ∙ c.kind_behind.ensures) in
    let f = fault-untold (sym c.in-None.is ∙ c.form_fault.ensures) in
    (sym (fault-form c.args.s.now _ c.args.at c.cut.ensures c.if-cut.false c.word_in-number.ensures.0 refl b.0 f), sym c.word_in-number.ensures.0 ∙ b.1)

pub returns-in-Some-form_fault : goal.returns-in-Some-form_fault
returns-in-Some-form_fault c = let b = behind-some _ _ (sym c.in-Some.is ∙ c.kind_behind.ensures) in
    let f = fault-told c.in-Some-form_fault.ensures in
    (fault-form c.args.s.now _ c.args.at c.cut.ensures c.if-cut.false c.word_in-number.ensures.0 refl b.0 f.0, f.1)
