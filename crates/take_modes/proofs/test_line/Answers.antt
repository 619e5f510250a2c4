use Rattle.take_modes.proofs.Walked.{fresh-is}
use Rattle.text_names.specs.Bytes.{front}
use lib.ListN.{drop}
use Rattle.take_modes.proofs.test_line.Goals as goal

pub returns : goal.returns
returns c = rw (fresh-is c.args.s.now c.args.tables.now.places.now c.args.g.relations (front (drop c.args.line.name c.args.s.now)) _ _ c.requires.2.inside c.find.ensures c.is_none-fresh.ensures) c.verdict.ensures
