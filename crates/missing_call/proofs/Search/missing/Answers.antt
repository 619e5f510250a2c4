use Rattle.missing_call.proofs.One.{missing-above, missing-class, missing-free, missing-known}
use Rattle.text_names.proofs.Looked.{found-known}
use Rattle.read_names.specs.Tables.{names_at}
use Rattle.text_names.specs.Bytes.{front}
use lib.ListN.{drop, take}
use mathlib.Core.Path.{◌∙◌, ap}
use mathlib.Core.Bool.{not}
use Rattle.missing_call.proofs.Search.missing.Goals as goal

pub returns-then-not-in_class : goal.returns-then-not-in_class
returns-then-not-in_class c = missing-class c.args.self.now.text.now c.args.self.now.places.now c.args.self.now.asked c.args.q c.args.chain c.requires.1 c.in_class.result c.in_class.ensures (ap not c.if-not-in_class.true)

pub returns-then-is_some : goal.returns-then-is_some
returns-then-is_some c = missing-known c.args.self.now.text.now c.args.self.now.places.now c.args.self.now.asked c.args.q c.args.chain c.requires.1 c.in_class.result c.in_class.ensures c.is_some.result (c.is_some.ensures ∙ found-known (names_at c.args.self.now.text.now (take c.args.self.now.asked.count c.args.self.now.places.now)) (front (drop c.args.q c.args.self.now.text.now)) c.find.result c.find.ensures) c.if-is_some.true

pub returns-in-Some : goal.returns-in-Some
returns-in-Some c = missing-above c.args.self.now.text.now c.args.self.now.places.now c.args.self.now.asked c.args.q c.args.chain c.requires.1 c.in_class.result c.in_class.ensures c.is_some.result (c.is_some.ensures ∙ found-known (names_at c.args.self.now.text.now (take c.args.self.now.asked.count c.args.self.now.places.now)) (front (drop c.args.q c.args.self.now.text.now)) c.find.result c.find.ensures) (ap not c.if-not-in_class.false) c.if-is_some.false c.in-Some.bound c.before-in-Some.result c.in-Some.is c.before-in-Some.ensures

pub returns-in-None : goal.returns-in-None
returns-in-None c = missing-free c.args.self.now.text.now c.args.self.now.places.now c.args.self.now.asked c.args.q c.args.chain c.requires.1 c.in_class.result c.in_class.ensures c.is_some.result (c.is_some.ensures ∙ found-known (names_at c.args.self.now.text.now (take c.args.self.now.asked.count c.args.self.now.places.now)) (front (drop c.args.q c.args.self.now.text.now)) c.find.result c.find.ensures) (ap not c.if-not-in_class.false) c.if-is_some.false c.in-None.is
