use Rattle.text_names.specs.Bytes.{front}
use lib.ListN.{drop}
use mathlib.Core.Path.{refl}
use native.Mathlib.Omega.{arith}
use Rattle.take_modes.proofs.Walked.{enter-line}
use Rattle.take_modes.proofs.enter.Goals as goal

pub returns-clause-entered : goal.returns-clause-entered
returns-clause-entered c = enter-line c.args.s.now c.args.tables.now.places.now c.args.tables.now.links.now c.args.n (front (drop c.args.line.name c.args.s.now)) (omega arith) c.requires.5 c.add.ensures c.args.line.count refl
