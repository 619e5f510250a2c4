use Rattle.replay.proofs.Laws.{record-step, record-supply}
use Rattle.replay.proofs.play_record.Goals as goal

pub returns-in-Step : goal.returns-in-Step
returns-in-Step c = let r = c.new-record.ensures in
    record-step _ _ _ _ _ c.args.trace.now _ (rw (r.0, r.1) at c.kind.ensures) (rw (r.0, r.1) at c.who-who.ensures.0) (rw (r.0, r.1) at c.what-what.ensures.0) c.in-Step.is c.play_step.ensures

pub returns-in-Supply : goal.returns-in-Supply
returns-in-Supply c = let r = c.new-record.ensures in
    record-supply _ _ _ _ _ c.args.trace.now _ (rw (r.0, r.1) at c.kind.ensures) (rw (r.0, r.1) at c.who-who.ensures.0) (rw (r.0, r.1) at c.what-what.ensures.0) c.in-Supply.is c.play_supply.ensures
