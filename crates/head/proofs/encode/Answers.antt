use native.Mathlib.Omega.{arith}
use Rattle.head.proofs.Laws.{head_of}
use Rattle.head.proofs.encode.Goals as goal

pub returns : goal.returns
returns c = head_of c.args.n c.args.m c.args.last c.args.steps (omega arith) (omega arith) (omega arith) (omega arith) c.to_le_bytes-procs.ensures c.to_le_bytes-vars.ensures c.to_le_bytes-marker.ensures c.to_le_bytes-steps.ensures
