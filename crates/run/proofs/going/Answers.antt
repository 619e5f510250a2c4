use native.Mathlib.Omega.{arith}
use Rattle.run.proofs.Turning.{going-none, going_on, going-room, going-spent, look-below, turning}
use Rattle.run.proofs.Runs.{going_start}
use Rattle.run.proofs.going.Goals as goal

pub loop-k-init : goal.loop-k-init
loop-k-init c = going_start _ _ _ _ _ _ c.requires.0 (λ b. omega (arith, c.type_inv.head b)) (λ b. omega (arith, c.type_inv.procs b)) (λ b. omega (arith, c.type_inv.vars b))

pub look-w-requires : goal.look-w-requires
look-w-requires c = turning _ _ _ _ _ c.loop-k.invariant.inside

pub returns-in_default : goal.returns-in_default
returns-in_default c = going-none _ _ _ _ _ _ c.requires.0 _ _ c.loop-k.invariant c.look-w.ensures c.in_default.is

pub returns-then-k-limit : goal.returns-then-k-limit
returns-then-k-limit c = going-spent _ _ _ _ _ _ c.requires.0 _ _ c.loop-k.invariant c.look-w.ensures c.in-Some.is c.if-k-limit.true

pub stepped-a-requires : goal.stepped-a-requires
stepped-a-requires c = (c.loop-k.invariant.inside, look-below _ c.look-w.ensures c.in-Some.is, (λ w. c.look-w.ensures.told _ c.in-Some.is))

pub returns-in_default-a : goal.returns-in_default-a
returns-in_default-a c = going-room _ _ _ _ _ _ c.requires.0 _ _ c.loop-k.invariant c.look-w.ensures c.in-Some.is c.if-k-limit.false c.stepped-a.ensures c.in_default-a.is

pub loop-k-preserved : goal.loop-k-preserved
loop-k-preserved c = going_on _ _ _ _ _ _ c.requires.0 _ _ c.loop-k.invariant c.look-w.ensures c.in-Some.is c.if-k-limit.false c.stepped-a.ensures c.in-Ok.is
