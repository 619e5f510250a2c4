use Rattle.run.proofs.Turning.{look-below, turning}
use Rattle.run_traced.proofs.Noting.{traced-none, traced-on, traced-room, traced-spent, traced-start}
use native.Mathlib.Omega.{arith}
use Rattle.run_traced.proofs.going.Goals as goal

pub loop-k-init : goal.loop-k-init
loop-k-init c = traced-start _ _ _ _ _ _ _ _ c.requires.0 (λ b. omega (arith, c.type_inv.head b)) (λ b. omega (arith, c.type_inv.procs b)) (λ b. omega (arith, c.type_inv.vars b))

pub look-w-requires : goal.look-w-requires
look-w-requires c = turning _ _ _ _ _ c.loop-k.invariant.going.inside

pub returns-in_default : goal.returns-in_default
returns-in_default c = traced-none _ _ _ _ _ _ _ _ c.requires.0 _ _ _ _ c.loop-k.invariant c.look-w.ensures c.in_default.is

pub returns-then-k-limit : goal.returns-then-k-limit
returns-then-k-limit c = traced-spent _ _ _ _ _ _ _ _ c.requires.0 _ _ _ _ c.loop-k.invariant c.look-w.ensures c.in-Some.is c.if-k-limit.true

pub move_noted-a-requires : goal.move_noted-a-requires
move_noted-a-requires c = (c.loop-k.invariant.going.inside, look-below _ c.look-w.ensures c.in-Some.is, (λ w. c.look-w.ensures.told _ c.in-Some.is), omega (arith, c.loop-k-test.true, c.requires.1))

pub returns-in_default-a : goal.returns-in_default-a
returns-in_default-a c = traced-room _ _ _ _ _ _ _ _ c.requires.0 _ _ _ _ c.loop-k.invariant c.look-w.ensures c.in-Some.is c.if-k-limit.false c.move_noted-a.ensures c.in_default-a.is

pub loop-k-preserved : goal.loop-k-preserved
loop-k-preserved c = traced-on _ _ _ _ _ _ _ _ c.requires.0 _ _ _ _ c.loop-k.invariant c.look-w.ensures c.in-Some.is c.if-k-limit.false c.move_noted-a.ensures c.in-Ok.is c.following-next.ensures
