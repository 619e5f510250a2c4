use mathlib.Core.Path.{refl}
use lib.ListN.{drop}
use Rattle.text_names.specs.Bytes.{front}
use Rattle.name_index.proofs.Chains.{none-look, one-full, one_known, one-new, some-less}
use Rattle.name_index.proofs.add.Goals as goal

pub returns-in-Some : goal.returns-in-Some
returns-in-Some c = one_known c.args.s.now c.args.places.now c.args.links.now c.args.n c.args.q c.args.chain c.in-Some.number (front (drop c.args.q c.args.s.now)) c.requires.2 refl c.requires.1 c.in-Some.ensures.0 (some-less c.args.s.now c.args.places.now c.args.n (front (drop c.args.q c.args.s.now)) c.requires.2.inside c.in-Some.number c.in-Some.ensures)

pub returns-then-n-places : goal.returns-then-n-places
returns-then-n-places c = one-new c.args.s.now c.args.places.now c.args.links.now c.args.n c.args.q c.args.chain c.args.n (front (drop c.args.q c.args.s.now)) c.requires.2 refl c.requires.1 (none-look c.args.s.now c.args.places.now c.args.n (front (drop c.args.q c.args.s.now)) c.requires.2.inside c.in_default.ensures) refl c.if-n-places.true

pub returns : goal.returns
returns c = one-full c.args.s.now c.args.places.now c.args.links.now c.args.n c.args.q c.args.chain c.args.n (front (drop c.args.q c.args.s.now)) c.requires.2 refl c.requires.1 (none-look c.args.s.now c.args.places.now c.args.n (front (drop c.args.q c.args.s.now)) c.requires.2.inside c.in_default.ensures) c.if-n-places.false
