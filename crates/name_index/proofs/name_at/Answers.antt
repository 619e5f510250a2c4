use lib.ListN.{length}
use native.Mathlib.Omega.{arith}
use mathlib.Core.Path.{sym, ◌∙◌, ◌≡◌}
use Rattle.name_index.proofs.Spelled.{name-stop, name-go, name-none}
use mathlib.Core.Path.{ap}
use mathlib.Core.Bool.{not}
use Rattle.name_index.proofs.name_at.Goals as goal

pub returns-then-not-is_name : goal.returns-then-not-is_name
returns-then-not-is_name c = let p = c.loop-i in let w = name-stop c.args.s.now p.i p.h c.byte_in-b.result c.byte_in-b.ensures.0 c.is_name.result c.loop-i-test.true c.is_name.ensures (ap not c.if-not-is_name.true) in record { end = w.0 ∙ p.invariant.2; inside = omega arith; chain = sym w.1 ∙ p.invariant.3 }

pub loop-i-preserved : goal.loop-i-preserved
loop-i-preserved c = let p = c.loop-i in let w = name-go c.args.s.now p.i p.h c.byte_in-b.result c.byte_in-b.ensures.0 c.is_name.result c.chained-h.result c.loop-i-test.true c.is_name.ensures (ap not c.if-not-is_name.false) c.chained-h.ensures.0 in (omega arith, c.chained-h.ensures.1, sym w.0 ∙ p.invariant.2, sym w.1 ∙ p.invariant.3)

pub returns : goal.returns
returns c = let p = c.loop-i in let e : p.i ≡ length c.args.s.now = omega arith in let w = name-none c.args.s.now p.i p.h (omega arith) in rw (← e) (record { end = w.0 ∙ p.invariant.2; inside = omega arith; chain = sym w.1 ∙ p.invariant.3 })
