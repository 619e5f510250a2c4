use native.Mathlib.Omega.{arith}
use Rattle.parlog.specs.Image.{term_end}
use Rattle.parlog.specs.Names.{term_named_at}
use Rattle.load_names.proofs.Named.{term-read}
use Rattle.place.proofs.Rows.{each-stop, each_more, each_none}
use Rattle.load_names.proofs.terms_named.Goals as goal

pub returns-then-not-term_named : goal.returns-then-not-term_named
returns-then-not-term_named c = let p = c.loop in
    let a = c.args in
    let f = rw (c.if-not-term_named.true) at (term-read a.s.now a.vars p.at c.term_in-t.result c.term_named.result c.term_in-t.ensures.0 c.term_named.ensures) in
    rw (each-stop (term_named_at a.s.now a.vars) term_end c.args.n p.counter p.at c.loop-test.true f) at p.invariant.0

pub loop-preserved : goal.loop-preserved
loop-preserved c = let p = c.loop in
    let a = c.args in
    let f = rw (c.if-not-term_named.false) at (term-read a.s.now a.vars p.at c.term_in-t.result c.term_named.result c.term_in-t.ensures.0 c.term_named.ensures) in
    (rw (each_more (term_named_at a.s.now a.vars) term_end c.args.n p.counter p.at c.loop-test.true f) at p.invariant.0, omega arith)

pub returns : goal.returns
returns c = let a = c.args in
    rw (each_none (term_named_at a.s.now a.vars) term_end c.args.n c.loop.counter c.loop.at (omega arith)) at c.loop.invariant.0
