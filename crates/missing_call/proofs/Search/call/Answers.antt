use Rattle.missing_call.proofs.One.{call-first, call-lesser, call_none, call-other}
use mathlib.Core.Path.{ap}
use mathlib.Core.Bool.{not}
use Rattle.missing_call.proofs.Search.call.Goals as goal

pub returns-then-not-missing : goal.returns-then-not-missing
returns-then-not-missing c = call_none c.args.self.now.places.now c.args.self.now.asked c.args.q c.requires.2 c.missing.result c.missing.ensures (ap not c.if-not-missing.true)

pub returns-then-not-before : goal.returns-then-not-before
returns-then-not-before c = call-other c.args.self.now.places.now c.args.self.now.asked c.args.q c.requires.2 c.missing.result c.missing.ensures (ap not c.if-not-missing.false) c.in-Some.least c.before-in-Some.result c.in-Some.is c.before-in-Some.ensures (ap not c.if-not-before.true)

pub returns-else-not-before : goal.returns-else-not-before
returns-else-not-before c = call-lesser c.args.self.now.places.now c.args.self.now.asked c.args.q c.requires.2 c.missing.result c.missing.ensures (ap not c.if-not-missing.false) c.in-Some.least c.before-in-Some.result c.in-Some.is c.before-in-Some.ensures c.requires.0 (ap not c.if-not-before.false)

pub returns-in_default : goal.returns-in_default
returns-in_default c = call-first c.args.self.now.places.now c.args.self.now.asked c.args.q c.requires.2 c.missing.result c.missing.ensures (ap not c.if-not-missing.false) c.requires.0 c.in_default.is
