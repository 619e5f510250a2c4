use Rattle.write_clause.proofs.Claused.{halves-body, halves-both, halves-none}
use Rattle.lay_text.proofs.Lent.{wrote-none}
use Rattle.write_clause.proofs.halves.Goals as goal

pub returns-then-byte_at-eq0-2 : goal.returns-then-byte_at-eq0-2
returns-then-byte_at-eq0-2 c = halves-none c.args.s.now.relations c.args.s.now.names.row.now c.args.s.now.image.now c.args.at _ c.goal_end-body.ensures.0 _ _ c.byte_at.ensures.0 c.byte_at-then-byte_at-eq0.ensures.0 c.if-byte_at-eq0.true c.if-byte_at-eq0-2.true (wrote-none _)

pub returns-then-byte_at-eq0 : goal.returns-then-byte_at-eq0
returns-then-byte_at-eq0 c = halves-body c.args.s.now.relations c.args.s.now.names.row.now c.args.s.now.image.now c.args.at _ c.goal_end-body.ensures.0 _ _ c.byte_at.ensures.0 c.byte_at-then-byte_at-eq0.ensures.0 c.if-byte_at-eq0.true c.if-byte_at-eq0-2.false c.word.ensures c.goal.ensures

pub returns : goal.returns
returns c = halves-both c.args.s.now.relations c.args.s.now.names.row.now c.args.s.now.image.now c.args.at _ c.goal_end-body.ensures.0 _ c.byte_at.ensures.0 c.if-byte_at-eq0.false c.word-2.ensures c.goal-2.ensures c.word-3.ensures c.goal-3.ensures
