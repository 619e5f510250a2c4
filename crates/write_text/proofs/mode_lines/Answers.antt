use native.Mathlib.Omega.{arith}
use Rattle.write_text.proofs.Lined.{lines-stop, lines-turn}
use Rattle.write_text.proofs.mode_lines.Goals as goal

pub loop-k-preserved : goal.loop-k-preserved
loop-k-preserved c = (lines-turn c.args.s.now.relations c.args.s.now.names.row.now c.args.s.now.image.now c.loop-k.k c.loop-k.at _ c.loop-k-test.true (omega arith) c.loop-k.invariant.0 c.mode_line.ensures, omega arith, omega arith)

pub returns : goal.returns
returns c = lines-stop _ _ _ c.loop-k.k c.loop-k.at (omega arith) c.loop-k.invariant.0
