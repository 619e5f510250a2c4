use Rattle.capi.proofs.Laws.{print-tells}
use Rattle.capi.proofs.rissobarm_print.Goals as goal

pub returns : goal.returns
returns c = print-tells _ _ _ c.print-a.ensures c.print_word.ensures
