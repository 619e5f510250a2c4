use Rattle.text_words.specs.Numbers.{print_numbers}
use Rattle.text_words.proofs.Laws.{print-told, refused-told}
use Rattle.words.proofs.Laws.{word-at}
use Rattle.text_words.proofs.print_word.Goals as goal

pub returns-in-Ok : goal.returns-in-Ok
returns-in-Ok c = print-told c.in-Ok.is c.told_number.ensures.0 c.word.ensures

pub returns-in-Err : goal.returns-in-Err
returns-in-Err c = word-at c.in-Err.is print_numbers (refused-told c.in-Err.r c.told_refusal.ensures.0 c.refused.ensures)
