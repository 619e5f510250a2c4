use Rattle.replay.proofs.Laws.{plays-not, supply-decided, supply-not, supply-plays}
use Rattle.machine.proofs.Giving.{constant-small, writes-of}
use native.Mathlib.Omega.{arith}
use Rattle.replay.proofs.play_supply.Goals as goal

pub asked-a-requires : goal.asked-a-requires
asked-a-requires c = let i = c.requires in (omega (arith, i.head), i.cells, i.goal)

pub returns-in_default : goal.returns-in_default
returns-in_default c = plays-not _ _ _ _ _ c.requires (λ b. omega (arith, c.type_inv.head b)) (λ b. omega (arith, c.type_inv.procs b)) (λ b. omega (arith, c.slice_known-1.given b)) (supply-not _ _ _ _ _ c.requires _ _ c.asked-a.ensures c.in_default.is)

pub var_count-n-requires : goal.var_count-n-requires
var_count-n-requires c = omega (arith, c.requires.head)

pub bind-requires : goal.bind-requires
bind-requires c = let w = writes-of _ _ _ _ _ (supply-decided _ _ _ _ _ c.requires _ _ c.asked-a.ensures) c.in-Ok.is in (omega (arith, w.cells, c.var_count-n.ensures.0), omega (arith, w.row, c.var_count-n.ensures.0), constant-small _ w.constant)

pub returns : goal.returns
returns c = supply-plays _ _ _ _ _ c.requires _ _ c.asked-a.ensures c.in-Ok.is c.var_count-n.ensures.0 c.bind.ensures (λ b. omega (arith, c.type_inv.head b)) (λ b. omega (arith, c.type_inv.procs b)) (λ b. omega (arith, c.type_inv.vars b))
