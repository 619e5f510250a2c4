use lib.ListN.{drop}
use Rattle.text_names.specs.Bytes.{front}
use Rattle.name_index.proofs.Chains.{Left}
use Rattle.name_index.proofs.Table.find.Given as goal

abbrev pub invariant-loop-k : goal.invariant-loop-k
invariant-loop-k l = Left l.self.text.now l.self.places.now l.self.count (front (drop l.q l.self.text.now)) l.k

abbrev pub decreases-loop-k : goal.decreases-loop-k
decreases-loop-k l = l.k
