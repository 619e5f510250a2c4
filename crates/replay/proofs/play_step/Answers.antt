use borrow.Author.Rules.{rules}
use Rattle.replay.proofs.Laws.{plays-not, step-away, step-nobody, step-not, step-plays}
use Rattle.step.proofs.Deciding.{told_of}
use Rattle.step.proofs.Stepping.{stepped-moved}
use mathlib.Core.Path.{sym}
use native.Mathlib.Omega.{arith}
use Rattle.replay.proofs.play_step.Goals as goal

pub returns-then-n-p : goal.returns-then-n-p
returns-then-n-p c = plays-not _ _ _ _ _ c.requires (λ b. search rules) (λ b. search rules) (λ b. search rules) (step-nobody _ _ _ _ _ c.requires _ _ c.proc_count-n.ensures.0 c.if-n-p.true)

pub ask-told-requires : goal.ask-told-requires
ask-told-requires c = let en = c.proc_count-n.ensures in en.1

pub planned-d-requires : goal.planned-d-requires
planned-d-requires c = let en = c.proc_count-n.ensures.0 in (c.requires, omega (arith, en, c.if-n-p.false), told_of _ _ (sym en) c.ask-told.ensures)

pub returns-in_default : goal.returns-in_default
returns-in_default c = plays-not _ _ _ _ _ c.requires (λ b. search rules) (λ b. search rules) (λ b. search rules) (step-away _ _ _ _ _ c.requires _ _ c.planned-d.ensures c.in_default.is)

pub returns-then-rule_number-rule : goal.returns-then-rule_number-rule
returns-then-rule_number-rule c = plays-not _ _ _ _ _ c.requires (λ b. search rules) (λ b. search rules) (λ b. search rules) (step-not _ _ _ _ _ c.requires _ _ c.planned-d.ensures c.in-Ok.is c.rule_number.ensures.0 c.if-rule_number-rule.true)

pub carry_out-requires : goal.carry_out-requires
carry_out-requires c = c.planned-d.ensures.carries c.in-Ok.is

pub returns : goal.returns
returns c =
    let i = c.requires in
    step-plays _ _ _ _ _ i _ _ c.planned-d.ensures c.in-Ok.is c.rule_number.ensures.0 c.if-rule_number-rule.false (stepped-moved _ _ _ _ _ i _ c.planned-d.ensures c.in-Ok.is c.carry_out.ensures)

pub invariant_of-used : goal.invariant_of-used
invariant_of-used c = record { whole = omega (arith, c.requires.rows, c.proc_count-n.ensures.0) }
