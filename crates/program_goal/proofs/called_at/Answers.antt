use mathlib.Core.Path.{refl}
use Prim.Native.Nat.{◌+◌}
use native.Mathlib.Omega.{arith}
use Rattle.program_goal.proofs.Goals.{between, called-edge, called-short, rel-own, size-both, size-short}
use Rattle.program_goal.proofs.called_at.Goals as goal

pub returns-then-stages-i : goal.returns-then-stages-i
returns-then-stages-i c = let a = c.args in
    let o = c.outs_before-outs.ensures in
    (size-short a.image.now.bytes.now _ a.h _ o.0 c.if-stages-i.true, called-short a.image.now.bytes.now _ a.h _ o.0 _ o.1 c.if-stages-i.true, omega arith, omega arith)

pub returns-then-j-count : goal.returns-then-j-count
returns-then-j-count c = let a = c.args in
    let o = c.outs_before-outs.ensures in
    let size = size-both a.image.now.bytes.now _ a.h _ o.0 c.if-stages-i.false c.stages_end-st.ensures.0 c.byte_at.ensures.0 in
    (size, called-edge a.image.now.bytes.now _ a.h _ o.0 _ o.1 size refl c.if-j-count.true, omega arith, omega arith)

pub returns : goal.returns
returns c = let a = c.args in
    let o = c.outs_before-outs.ensures in
    let n = between c.args.j c.outs_before-outs.result.count (c.outs_before-outs.result.count + c.byte_at.result) refl c.if-j-count.false in
    let st = c.stages_end-st.ensures.0 in
    let m = c.byte_at.ensures.0 in
    (size-both a.image.now.bytes.now _ a.h _ o.0 c.if-stages-i.false st m, rel-own a.image.now.bytes.now _ a.h _ o.0 _ n.0 c.if-stages-i.false st m (omega (arith, n.0, n.1)) c.literals_end-l.ensures.0 c.byte_at-rel.ensures.0, omega arith, omega arith)
