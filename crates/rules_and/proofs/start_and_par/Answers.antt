use native.Mathlib.Omega.{arith}
use Rattle.rules_and.proofs.Ways.{body-fits, literals-few, par-starts}
use borrow.Author.Rules.{rules}
use Rattle.rules_and.proofs.start_and_par.Goals as goal

pub members-requires : goal.members-requires
members-requires c = let h = literals-few _ _ _ c.requires.2 c.stage_size-k.ensures.0 in search rules

pub with_body-count-requires : goal.with_body-count-requires
with_body-count-requires c = let g = c.requires.1 in let l = c.requires.0 in (omega arith, literals-few _ _ _ c.requires.2 c.stage_size-k.ensures.0, body-fits _ _ _ c.requires.2 c.stage_size-k.ensures.0 c.split_by-apart.ensures, search rules)

pub returns : goal.returns
returns c = (par-starts _ _ _ _ _ _ _ c.stage_size-k.ensures.0 c.split_by-apart.ensures c.members.ensures c.with_body-count.ensures.0 c.with_mode-me.ensures c.touched-q.ensures c.make.ensures.0, c.make.ensures.1, c.make.ensures.2)
