use Rattle.judge_text.proofs.Tried.{tested-many, tested-right, tested-known, tested-full, tested-goes}
use mathlib.Core.Path.{ap}
use mathlib.Core.Bool.{not}
use Rattle.judge_text.proofs.verdict.Goals as goal

pub returns-then-many : goal.returns-then-many
returns-then-many c = tested-many c.args.many c.args.right c.args.known c.args.full c.args.next c.if-many.true

pub returns-then-not-right : goal.returns-then-not-right
returns-then-not-right c = tested-right c.args.many c.args.right c.args.known c.args.full c.args.next c.if-many.false (ap not c.if-not-right.true)

pub returns-then-not-known : goal.returns-then-not-known
returns-then-not-known c = tested-known c.args.many c.args.right c.args.known c.args.full c.args.next c.if-many.false (ap not c.if-not-right.false) (ap not c.if-not-known.true)

pub returns-then-full : goal.returns-then-full
returns-then-full c = tested-full c.args.many c.args.right c.args.known c.args.full c.args.next c.if-many.false (ap not c.if-not-right.false) (ap not c.if-not-known.false) c.if-full.true

pub returns : goal.returns
returns c = tested-goes c.args.many c.args.right c.args.known c.args.full c.args.next c.if-many.false (ap not c.if-not-right.false) (ap not c.if-not-known.false) c.if-full.false
