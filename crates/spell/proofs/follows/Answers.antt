use native.Mathlib.Omega.{arith}
use Rattle.spell.proofs.Sim.{cell_in, cell-is}
use Rattle.spell.proofs.follows.Goals as goal

pub bounds-rs-to : goal.bounds-rs-to
bounds-rs-to c = let a = c.args in omega (arith, cell_in a.ks.now a.row a.b c.from-kind.result c.requires.0 c.requires.2 (omega arith) cc)

pub returns : goal.returns
returns c = let a = c.args in cell-is a.ks.now a.rs.now a.row a.b c.from-kind.result c.from-2.result (c.requires.0) (c.requires.1) (c.requires.2) (omega arith) (cc) (cc)
