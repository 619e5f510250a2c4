use Rattle.std.proofs.Common.{Bool, List, length, ℕ, ◌<◌, ◌≡◌}
use mathlib.Core.Path.{sym}
use lib.ListN.{get_or}
use Rattle.std.proofs.lemmas.List.{get_or_default}
use Rattle.parlog.specs.Codes.{is_mode, suspended}
use Rattle.parlog.specs.Tables.{idle}
use Rattle.parlog.specs.declared.Process.{Process}
use Rattle.watch_rows.proofs.Watched.{suspended_at, watch-end, watch-hit}
use Rattle.watch_records.proofs.watch.Goals as goal

-- what the test says of a record that is there, whatever stands for one that is not
asked : (ps : List Process) (i : ℕ) (d : Process) {b : Bool} → i < length ps → b ≡ is_mode suspended (get_or ps i d).mode → b ≡ suspended_at ps i
asked ps i d there e = rw (get_or_default ps i idle d there) e

pub returns-then-is_suspended : goal.returns-then-is_suspended
returns-then-is_suspended c =
    sym (watch-hit c.args.rows.now c.loop-i.i c.loop-i.invariant (asked c.args.rows.now c.loop-i.i _ c.loop-i-test.true c.is_suspended.ensures) c.loop-i-test.true c.if-is_suspended.true)

pub returns : goal.returns
returns c = sym (watch-end c.args.rows.now c.loop-i.i c.loop-i.invariant c.loop-i-test.false)
