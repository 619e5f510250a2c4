use Rattle.move_write.proofs.Writers.{vars-done}
use Rattle.move_write.proofs.write_vars.Goals as goal

pub returns : goal.returns
returns c = vars-done _ _ _ _ c.args.plan c.grow.ensures c.bind_all.ensures
