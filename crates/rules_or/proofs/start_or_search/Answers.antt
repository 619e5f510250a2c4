use borrow.Author.Rules.{rules}
use Rattle.parlog.specs.Program.{program_of}
use Rattle.rules_or.proofs.Tried.{block-size-is, or-search-starts}
use Rattle.rules_or.proofs.start_or_search.Goals as goal

pub try_all-v-requires : goal.try_all-v-requires
try_all-v-requires c = let a = c.args in let e = block-size-is (program_of a.image.now.bytes.now a.image.now.relations a.image.now.clauses) a.x.spot c.called-rel.ensures.0 c.block_size-size.ensures.0 in
    (search rules, c.block_size-size.ensures.0, search rules, search rules)

pub make-requires : goal.make-requires
make-requires c = let a = c.args in let e = block-size-is (program_of a.image.now.bytes.now a.image.now.relations a.image.now.clauses) a.x.spot c.called-rel.ensures.0 c.block_size-size.ensures.0 in search rules

pub returns : goal.returns
returns c = let a = c.args in let pr = program_of a.image.now.bytes.now a.image.now.relations a.image.now.clauses in
    (λ s en ev. or-search-starts pr s a.p a.x _ c.called-rel.ensures.0 c.block_size-size.ensures.0 c.try_all-v.ensures.0 c.try_all-v.ensures.1 c.with_mode-me.ensures c.touched-first.ensures c.make.ensures.0 en ev, c.make.ensures.1, c.make.ensures.2)
