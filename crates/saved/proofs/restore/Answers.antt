use Rattle.std.proofs.Common.{◌∙◌, arith, sym}
use Rattle.saved.proofs.Bytes.{from-part}
use Rattle.saved.proofs.restore.Goals as goal

pub returns : goal.returns
returns c =
    record {
      head_is = c.copy_from_slice.ensures.after ∙ sym (from-part c.args.s.now 4 10 (omega arith));
      procs_are = c.take_processes.ensures;
      vars_are = c.take_variables.ensures;
    }
