use mathlib.Core.Path.{ap}
use mathlib.Core.Bool.{not}
use Prim.Native.Nat.{ℕ}
use lib.Dec.{eqb}
use native.Mathlib.Omega.{arith}
use Rattle.program_clause.proofs.Turns.{item-start, item-turn, size-start, size-turn}
use Rattle.program_clause.specs.Parts.{is_out}
use Rattle.program_clause.proofs.outs_of.Goals as goal

pub loop-k-init : goal.loop-k-init
loop-k-init c = (omega arith, omega arith, size-start _, item-start _ _ _)

pub loop-k-preserved : goal.loop-k-preserved
loop-k-preserved c = let p = c.loop-k in
    let a = c.args in
    let out = ap (λ (x : ℕ). not (eqb x 0)) c.byte_at-out.ensures.0 in
    (omega arith, omega arith, size-turn (is_out a.s.now a.at) p.k out p.invariant.2 c.more-count.ensures.0, item-turn (is_out a.s.now a.at) p.k out a.j 0 p.invariant.2 p.invariant.3 c.found-number.ensures.0)
