use Rattle.load_body.proofs.Goals.{stage-none, stage-read}
use native.Mathlib.Omega.{arith}
use Rattle.load_body.proofs.stage_range.Goals as goal

pub returns-then-n-eq0 : goal.returns-then-n-eq0
returns-then-n-eq0 c = let a = c.args in (rw (stage-none a.s.now a.at (omega arith)), tt)

pub returns : goal.returns
returns c = let a = c.args in
    rw (← stage-read a.s.now a.at (λ z. c.if-n-eq0.false (omega arith)), ← c.byte_at-n.ensures.0) c.literals_range.ensures
