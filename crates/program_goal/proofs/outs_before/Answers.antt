use mathlib.Core.Path.{refl}
use native.Mathlib.Omega.{arith}
use Rattle.program_goal.proofs.Outs.{before-count, before-item, before-none}
use Rattle.program_goal.proofs.outs_before.Goals as goal

pub returns-then-not-h-i : goal.returns-then-not-h-i
returns-then-not-h-i c = (before-none c.args.h.body _ c.args.image.now.bytes.now _ _ refl (c.if-not-h-i.true), (λ h. absurd (omega arith)), omega arith, omega arith)

pub returns : goal.returns
returns c = let a = c.args in let e = c.if-not-h-i.false in (before-count a.h.body _ a.image.now.bytes.now _ _ refl e c.byte_at-q.ensures.0 c.byte_at-m.ensures.0 _ _ c.modes_of-ms.ensures.0 c.min.ensures c.outs_of.ensures.0, before-item a.h.body _ a.image.now.bytes.now _ _ refl e c.byte_at-q.ensures.0 c.byte_at-m.ensures.0 _ _ c.modes_of-ms.ensures.0 c.min.ensures _ c.outs_of.ensures.0 c.outs_of.ensures.1, omega arith, omega arith)
