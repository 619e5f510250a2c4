use native.Mathlib.Omega.{arith}
use Rattle.parlog.specs.Limits.{small}
use Rattle.resume.proofs.Resuming.{resume-restored, resume-restores}
use Rattle.resume.proofs.resume.Goals as goal

pub restore-requires : goal.restore-requires
unfolding small
restore-requires c = let r = resume-restores _ _ _ _ c.decided.ensures c.in_ok-a.was in
    let n = r.procs in
    let v = r.vars in
    let a = r.procs_most in
    let b = r.vars_most in
    (omega arith, omega arith, r.inside, r.head, omega arith, omega arith, omega arith, omega arith)

pub returns : goal.returns
returns c = resume-restored _ _ _ _ c.decided.ensures c.in_ok-a.was c.restore.ensures
