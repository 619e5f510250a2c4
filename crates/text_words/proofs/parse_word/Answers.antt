use native.Mathlib.Omega.{arith}
use Rattle.text_words.specs.Numbers.{ParseFits, parse_numbers}
use Rattle.text_words.proofs.Laws.{parse-told, parts-are, parts-fit, refused-told}
use Rattle.words.proofs.Laws.{case_at, word-at}
use Rattle.text_words.proofs.parse_word.Goals as goal

pub word-requires : goal.word-requires
word-requires c = let f = case_at c.in-Ok.is ParseFits c.requires in
    let p = parts-are c.in-Ok.n f c.to_le_bytes.ensures c.from.ensures c.from-in-Ok.ensures in
    let h = parts-fit c.in-Ok.n f in (omega arith, rw p.0 h.0, rw p.1 h.1, c.told_number.ensures.1)

pub returns-in-Ok : goal.returns-in-Ok
returns-in-Ok c = parse-told c.in-Ok.is (parts-are c.in-Ok.n (case_at c.in-Ok.is ParseFits c.requires) c.to_le_bytes.ensures c.from.ensures c.from-in-Ok.ensures) c.told_number.ensures.0 c.word.ensures

pub returns-in-Err : goal.returns-in-Err
returns-in-Err c = word-at c.in-Err.is parse_numbers (refused-told c.in-Err.r c.told_refusal.ensures.0 c.refused.ensures)
