use Rattle.load_names.proofs.Named.{stage-named-read}
use Rattle.place.proofs.Rows.{row-fault, row_more, row-none, row-right, row-stop}
use Rattle.place.proofs.Grows.{first-in, rest_in, stage-grows, stage-in, stage-up}
use Rattle.parlog.specs.Names.{stage_named}
use Rattle.parlog.specs.Image.{stage_end}
use lib.ListN.{length}
use native.Mathlib.Omega.{arith}
use Rattle.load_names.proofs.stages_named.Goals as goal

pub byte_in-k-requires : goal.byte_in-k-requires
byte_in-k-requires c = let p = c.loop in
    let s = c.args.known.now.image.now in
    let i = first-in (stage_end s) (stage-up s) c.args.n p.counter p.at (length s) c.loop-test.true p.invariant.2 in
    let g = stage-grows s p.at in
    omega arith

pub literals_named-requires : goal.literals_named-requires
literals_named-requires c = let p = c.loop in
    let s = c.args.known.now.image.now in
    let i = first-in (stage_end s) (stage-up s) c.args.n p.counter p.at (length s) c.loop-test.true p.invariant.2 in
    let j = stage-in s p.at c.byte_in-k.result (length s) c.byte_in-k.ensures.0 i in
    omega arith

pub returns-in_err-at : goal.returns-in_err-at
returns-in_err-at c = let p = c.loop in
    let a = c.args in
    let s = a.known.now.image.now in
    let f = row-fault _ _ (rw (stage-named-read s a.known.now.before.relations a.vars p.at c.byte_in-k.result c.byte_in-k.ensures.0) at c.in_err-at.ensures.0) in
    rw c.from_residual.ensures (rw (row-stop (stage_named s a.known.now.before.relations a.vars) (stage_end s) a.n p.counter p.at c.loop-test.true f) at p.invariant.0, tt)

pub loop-preserved : goal.loop-preserved
loop-preserved c = let p = c.loop in
    let a = c.args in
    let s = a.known.now.image.now in
    let f = row-right _ _ _ (rw (stage-named-read s a.known.now.before.relations a.vars p.at c.byte_in-k.result c.byte_in-k.ensures.0) at c.in_ok-at.ensures.0) in
    (rw f.1 (rw (row_more (stage_named s a.known.now.before.relations a.vars) (stage_end s) a.n p.counter p.at c.loop-test.true f.0) at p.invariant.0), omega (arith, c.in_ok-at.ensures.1), rw f.1 (rest_in (stage_end s) (stage-up s) a.n p.counter p.at (length s) c.loop-test.true p.invariant.2))

pub returns : goal.returns
returns c = let a = c.args in
    (rw (row-none (stage_named a.known.now.image.now a.known.now.before.relations a.vars) (stage_end a.known.now.image.now) c.args.n c.loop.counter c.loop.at (omega arith)) at c.loop.invariant.0, omega arith)
