use Rattle.take_clause.proofs.relation_at.Goals as goal

pub name_at-word-requires : goal.name_at-word-requires
name_at-word-requires c = c.requires

pub find-requires : goal.find-requires
find-requires c = (c.requires, c.name_at-word.ensures.chain)
