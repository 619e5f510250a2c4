use native.Mathlib.Omega.{arith}
use Rattle.take_term.proofs.Ways.{brackets-none, brackets-some}
use mathlib.Core.List.{[]}
use Rattle.take_term.proofs.terms.Goals as goal

pub returns-then-byte_at-ne-OPEN-clause-taken : goal.returns-then-byte_at-ne-OPEN-clause-taken
returns-then-byte_at-ne-OPEN-clause-taken c = brackets-none c.args.s.now _ c.args.w c.byte_at.result c.byte_at.ensures.0 c.if-byte_at-ne-OPEN.true c.requires c.move_to.ensures (omega arith) (omega arith)

pub after_mark-behind-requires : goal.after_mark-behind-requires
after_mark-behind-requires c = (c.names-inner.ensures.taken []).inside

pub returns-clause-taken : goal.returns-clause-taken
returns-clause-taken c = brackets-some c.args.s.now _ c.args.w c.byte_at.result c.byte_at.ensures.0 c.after_mark-from.result c.after_mark-behind.result c.if-byte_at-ne-OPEN.false c.after_mark-from.ensures.0 c.move_to-2.ensures c.names-inner.ensures.taken c.after_mark-behind.ensures.0 c.after_mark-behind.ensures.1 c.move_to-3.ensures
