use Rattle.take_term.proofs.Ways.{take-const, take-var}
use Rattle.text_names.specs.Bytes.{skip}
use mathlib.Core.Path.{◌∙◌, ap}
use Rattle.take_term.proofs.term.Goals as goal

pub returns-then-is_capital-clause-taken : goal.returns-then-is_capital-clause-taken
returns-then-is_capital-clause-taken c = take-var c.args.s.now c.args.draft.now.out.now c.args.draft.now.consts.now c.args.draft.now.links.now c.args.vars.now c.args.w c.skip_blanks-end.result c.byte_at.result c.is_capital.result c.byte_at.ensures.0 c.is_capital.ensures (c.skip_blanks-end.ensures.0 ∙ ap skip c.name_at-word.ensures.end) c.skip_blanks-end.ensures.1 c.requires c.if-is_capital.true c.variable-v.ensures.0 c.variable-v.ensures.1 c.word-to.ensures

pub returns-clause-taken : goal.returns-clause-taken
returns-clause-taken c = take-const c.args.s.now c.args.draft.now.out.now c.args.draft.now.consts.now c.args.draft.now.links.now c.args.vars.now c.args.w c.skip_blanks-end.result c.byte_at.result c.is_capital.result c.byte_at.ensures.0 c.is_capital.ensures (c.skip_blanks-end.ensures.0 ∙ ap skip c.name_at-word.ensures.end) c.skip_blanks-end.ensures.1 c.requires c.if-is_capital.false c.add-c.ensures c.word-to-2.ensures
