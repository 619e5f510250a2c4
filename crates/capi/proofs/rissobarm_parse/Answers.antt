use Rattle.capi.proofs.Laws.{parse-fit, parse-tells}
use Rattle.capi.proofs.rissobarm_parse.Goals as goal

pub parse_word-requires : goal.parse_word-requires
parse_word-requires c = parse-fit _ _ _ c.parse-a.ensures

pub returns : goal.returns
returns c = parse-tells _ _ _ c.parse-a.ensures c.parse_word.ensures
