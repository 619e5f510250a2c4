use Rattle.place.proofs.Rows.{row_more, row-none, row-stop}
use Rattle.place.proofs.Grows.{first-in, literal-grows, rest_in}
use Rattle.parlog.specs.Names.{literal_named}
use Rattle.parlog.specs.Image.{literal_end}
use lib.ListN.{length}
use native.Mathlib.Omega.{arith}
use Rattle.load_names.proofs.literals_named.Goals as goal

pub literal_named-requires : goal.literal_named-requires
literal_named-requires c = let p = c.loop in
    let s = c.args.known.now.image.now in
    let i = first-in (literal_end s) (literal-grows s) c.args.n p.counter p.at (length s) c.loop-test.true p.invariant.2 in
    omega arith

pub returns-then-not-literal_named : goal.returns-then-not-literal_named
returns-then-not-literal_named c = let p = c.loop in
    let a = c.args in
    (rw (row-stop (literal_named a.known.now.image.now a.known.now.before.relations a.vars) (literal_end a.known.now.image.now) c.args.n p.counter p.at c.loop-test.true (rw c.literal_named.ensures at c.if-not-literal_named.true)) at p.invariant.0, tt)

pub byte_in-a-requires : goal.byte_in-a-requires
byte_in-a-requires c = let p = c.loop in
    let s = c.args.known.now.image.now in
    let i = first-in (literal_end s) (literal-grows s) c.args.n p.counter p.at (length s) c.loop-test.true p.invariant.2 in
    omega arith

pub loop-preserved : goal.loop-preserved
loop-preserved c = let p = c.loop in
    let a = c.args in
    let s = a.known.now.image.now in
    let r = rest_in (literal_end s) (literal-grows s) c.args.n p.counter p.at (length s) c.loop-test.true p.invariant.2 in
    (rw c.byte_in-a.ensures.0 (rw (row_more (literal_named s a.known.now.before.relations a.vars) (literal_end s) c.args.n p.counter p.at c.loop-test.true (rw c.literal_named.ensures at c.if-not-literal_named.false)) at p.invariant.0), omega arith, rw c.byte_in-a.ensures.0 r)

pub returns : goal.returns
returns c = let a = c.args in
    (rw (row-none (literal_named a.known.now.image.now a.known.now.before.relations a.vars) (literal_end a.known.now.image.now) c.args.n c.loop.counter c.loop.at (omega arith)) at c.loop.invariant.0, omega arith)
