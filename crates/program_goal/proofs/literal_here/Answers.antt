use Rattle.program_goal.proofs.Rows.{lit-here}
use Rattle.program_goal.proofs.literal_here.Goals as goal

pub returns : goal.returns
returns c = (lit-here c.args.s.now _ c.byte_at-rel.ensures.0 c.byte_at-n.ensures.0 c.term_of-a.ensures c.term_of-b.ensures c.term_of-c.ensures c.term_of-d.ensures, c.byte_at-rel.ensures.1)
