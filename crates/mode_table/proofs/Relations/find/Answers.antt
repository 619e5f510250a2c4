use lib.ListN.{drop}
use Rattle.text_names.specs.Bytes.{front}
use Rattle.mode_table.proofs.Found.{found_here, found_none}
use Rattle.mode_table.proofs.Relations.find.Goals as goal

pub returns-in-Some : goal.returns-in-Some
returns-in-Some c = let r = c.args.self.now in found_here r.text.now r.places.now r.arities.now r.links.now r.lines (front (drop c.args.q r.text.now)) r.moded c.in-Some.number c.in-Some.ensures

pub returns-in-None : goal.returns-in-None
returns-in-None c = let r = c.args.self.now in found_none r.text.now r.places.now r.arities.now r.links.now r.lines (front (drop c.args.q r.text.now)) r.moded c.in-None.ensures
