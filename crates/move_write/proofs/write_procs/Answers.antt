use Rattle.move_write.proofs.Writers.{procs-done}
use Rattle.move_write.proofs.write_procs.Goals as goal

pub returns : goal.returns
returns c = procs-done _ _ _ _ _ _ _ c.args.plan c.requires.2 c.cut_below.ensures c.nap_at.ensures c.put.ensures c.append_all.ensures
