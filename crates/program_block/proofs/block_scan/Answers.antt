use mathlib.Core.Path.{ap, refl}
use Prim.Native.Nat.{◌+◌, ◌<◌, ◌≤◌, ℕ}
use native.Mathlib.Omega.{arith}
use Rattle.parlog.specs.Program.{in_block, opens, program_of}
use Rattle.program_clause.proofs.Turns.{item-turn, size-turn}
use Rattle.program_block.proofs.BlockTurns.{behind_more, clause-end, clause-start, count-end, count-start, opens-turn, own-start, own_turn, size-end, sized-start, tally-turn, there-turn}
use Rattle.program_block.proofs.block_scan.Goals as goal

pub loop-k-init : goal.loop-k-init
loop-k-init c = let a = c.args in
    let e = c.from_of-from.ensures.0 in
    let pr = program_of a.image.now.bytes.now a.image.now.relations a.image.now.clauses in
    (omega arith, omega arith, omega arith, omega arith, own-start pr _ _ e, count-start pr _ _ e, sized-start pr _ _ e a.b, clause-start pr _ _ e a.b _)

pub loop-k-preserved : goal.loop-k-preserved
loop-k-preserved c = let a = c.args in
    let p = c.loop-k in
    let t = c.loop-k-test.true in
    let h : p.k < a.image.now.clauses = omega (arith, c.to_of-to.ensures.1) in
    let pr = program_of a.image.now.bytes.now a.image.now.relations a.image.now.clauses in
    let at = c.record_at-at.ensures.0 in
    let rel = c.byte_at-rel.ensures.0 in
    let new = opens-turn a.image.now.bytes.now a.image.now.relations a.image.now.clauses p.k h at rel a.q c.byte_at-mark.ensures.0 p.invariant.4 c.opens-new.ensures in
    let count = tally-turn (opens pr a.q) p.k new p.invariant.5 c.more-count.ensures.0 in
    let there = there-turn a.image.now.bytes.now a.image.now.relations a.image.now.clauses p.k h at rel a.q a.b count (ap (λ (x : ℕ). x + 1) c.from-next.ensures) refl in (
      omega arith,
      omega arith,
      omega arith,
      omega arith,
      own_turn a.image.now.bytes.now a.image.now.relations a.image.now.clauses p.k h at rel a.q,
      count,
      size-turn (in_block pr a.q a.b) p.k there p.invariant.6 c.more-size.ensures.0,
      item-turn (in_block pr a.q a.b) p.k there a.j 255 p.invariant.6 p.invariant.7 c.found-clause.ensures.0,
    )

pub returns : goal.returns
returns c = let a = c.args in
    let p = c.loop-k in
    let h : p.k ≤ a.image.now.clauses = p.invariant.0 in
    let f = behind_more (program_of a.image.now.bytes.now a.image.now.relations a.image.now.clauses) a.q a.image.now.clauses _ p.k c.loop-k-test.false c.to_of-to.ensures.0 in
    (count-end a.image.now.bytes.now a.image.now.relations a.image.now.clauses a.q p.k h f p.invariant.5, size-end a.image.now.bytes.now a.image.now.relations a.image.now.clauses a.q p.k h f a.b p.invariant.6, clause-end a.image.now.bytes.now a.image.now.relations a.image.now.clauses a.q p.k h f a.b a.j p.invariant.7, omega arith, omega arith, omega arith)
