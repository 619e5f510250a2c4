use borrow.Author.Rules.{rules}
use native.Mathlib.Omega.{arith}
use Rattle.saved.proofs.Written.{bytes-done, bytes-none, bytes-step}
use Rattle.saved.proofs.put_bytes.Goals as goal

pub loop-byte-init : goal.loop-byte-init
loop-byte-init c = (search rules, bytes-none c.args.out.now c.args.row.now c.args.at)

pub loop-byte-preserved : goal.loop-byte-preserved
loop-byte-preserved c = bytes-step c.args.out.now c.args.row.now c.args.at c.loop-byte.byte-index c.loop-byte.invariant.0 c.loop-byte.invariant.1 c.put-next.ensures

pub returns : goal.returns
returns c = bytes-done c.args.out.now c.args.row.now c.args.at (omega arith) c.loop-byte.invariant.1
