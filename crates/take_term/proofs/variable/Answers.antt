use native.Mathlib.Omega.{arith}
use Rattle.text_names.specs.Bytes.{front}
use lib.ListN.{drop}
use mathlib.Core.Path.{refl}
use Rattle.name_index.proofs.Chains.{none-look, some-less}
use Rattle.read_names.proofs.Tabled.{add-full, add-known, add-new}
use Rattle.take_term.proofs.variable.Goals as goal

pub returns-in-Some : goal.returns-in-Some
returns-in-Some c = let x = front (drop c.args.q c.args.s.now) in let h = some-less c.args.s.now c.args.vars.now c.args.n x c.requires.0 c.in-Some.number c.in-Some.ensures in (add-known c.args.s.now c.args.vars.now c.args.n c.args.q c.in-Some.number x c.requires.0 c.in-Some.ensures.0 h, c.in-Some.ensures.0, omega arith)

pub returns-then-n-vars : goal.returns-then-n-vars
returns-then-n-vars c = let x = front (drop c.args.q c.args.s.now) in let f = none-look c.args.s.now c.args.vars.now c.args.n x c.requires.0 c.in_default.ensures in (add-new c.args.s.now c.args.vars.now c.args.n c.args.q c.args.n x c.requires.0 f (omega arith) c.if-n-vars.true refl, f, omega arith)

pub returns : goal.returns
returns c = let x = front (drop c.args.q c.args.s.now) in let f = none-look c.args.s.now c.args.vars.now c.args.n x c.requires.0 c.in_default.ensures in (add-full c.args.s.now c.args.vars.now c.args.n c.args.q c.args.n x c.requires.0 f c.if-n-vars.false, f, omega arith)
