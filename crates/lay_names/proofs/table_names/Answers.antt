use mathlib.Core.Path.{ap}
use mathlib.Core.List.{List}
use lib.ListN.{drop, get_or}
use Prim.Native.Nat.{◌+◌, ℕ}
use Rattle.lay_names.proofs.Entered.{entry-end, entry-on, table-end, table_on}
use Rattle.read_names.specs.Tables.{names_at}
use Rattle.text_names.specs.Bytes.{front}
use native.Mathlib.Omega.{arith}
use Rattle.lay_names.proofs.table_names.Goals as goal

pub loop-q-preserved : goal.loop-q-preserved
loop-q-preserved c = entry-on _ (front (drop (get_or c.args.table.now c.loop-q.q-index 0) c.args.s.now)) _ (names_at c.args.s.now (drop (c.loop-q.q-index + 1) c.args.table.now)) (table_on c.args.s.now c.args.table.now c.loop-q.q-index c.loop-q-test.true) (ap (λ (y : List ℕ). front y) c.within.ensures.0) c.loop-q.invariant c.entry-to.ensures

pub returns : goal.returns
returns c = entry-end _ (table-end c.args.s.now c.args.table.now c.loop-q.q-index (omega arith)) c.loop-q.invariant
