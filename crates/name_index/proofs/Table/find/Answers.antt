use native.Mathlib.Omega.{arith}
use lib.ListN.{drop}
use Rattle.text_names.specs.Bytes.{front}
use Rattle.name_index.proofs.Chains.{left-start, left-found, left-more, left_end}
use Rattle.name_index.proofs.Table.find.Goals as goal

pub loop-k-init : goal.loop-k-init
loop-k-init c = left-start c.args.self.now.text.now c.args.self.now.places.now c.args.self.now.links.now c.args.self.now.count (front (drop c.args.q c.args.self.now.text.now)) c.args.self.now.indexed c.args.chain _ c.requires.1 c.from-k.ensures

pub returns-then-same_name : goal.returns-then-same_name
returns-then-same_name c = left-found c.args.self.now.text.now c.args.self.now.places.now c.args.self.now.links.now c.args.self.now.count (front (drop c.args.q c.args.self.now.text.now)) c.args.self.now.indexed c.within-p.result c.loop-k.k _ c.loop-k-test.true c.within-p.ensures.0 c.same_name.ensures c.loop-k.invariant c.if-same_name.true

pub loop-k-smaller : goal.loop-k-smaller
loop-k-smaller c = (left-more c.args.self.now.text.now c.args.self.now.places.now c.args.self.now.links.now c.args.self.now.count (front (drop c.args.q c.args.self.now.text.now)) c.args.self.now.indexed c.within-p.result c.loop-k.k _ c.loop-k-test.true c.within-p.ensures.0 c.same_name.ensures c.loop-k.invariant c.from-k-in-loop-k.result c.if-same_name.false c.from-k-in-loop-k.ensures).1

pub loop-k-preserved : goal.loop-k-preserved
loop-k-preserved c = (left-more c.args.self.now.text.now c.args.self.now.places.now c.args.self.now.links.now c.args.self.now.count (front (drop c.args.q c.args.self.now.text.now)) c.args.self.now.indexed c.within-p.result c.loop-k.k _ c.loop-k-test.true c.within-p.ensures.0 c.same_name.ensures c.loop-k.invariant c.from-k-in-loop-k.result c.if-same_name.false c.from-k-in-loop-k.ensures).0

pub returns : goal.returns
returns c = left_end c.args.self.now.text.now c.args.self.now.places.now c.args.self.now.links.now c.args.self.now.count (front (drop c.args.q c.args.self.now.text.now)) c.args.self.now.indexed c.loop-k.k (omega arith) c.loop-k.invariant
