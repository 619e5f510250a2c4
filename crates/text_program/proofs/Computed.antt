-- The worked examples, computed: their statements stand in specs/Cases.
use mathlib.Core.Path.{refl}
use Rattle.text_program.proofs.Opened.{text_opened}
use Rattle.text_program.specs.Cases.{ImagesPrinted, TextsLeave, TextsParsed, TextsRefused}

pub texts_parsed : TextsParsed
unfolding text_opened
texts_parsed = record { one-fact = refl; much = refl; again = refl }

pub texts_refused : TextsRefused
unfolding text_opened
texts_refused = record { no-mode = refl; other-arity = refl; mode-twice = refl; five-marks = refl; late-no-mode = refl; out_of_order = refl; many-variables = refl; many-relations = refl; many-and-twice = refl; marks-and-twice = refl; many-clauses = refl; nine-in-block = refl; no_room = refl }

pub texts_leave : TextsLeave
unfolding text_opened
texts_leave = record { stuck_first = refl; no-mode = refl; five-marks = refl; mode-twice = refl; nine-in-block = refl; short_image = refl; short_names = refl }

pub images_printed : ImagesPrinted
unfolding text_opened
images_printed = record { one-fact = refl; much = refl; no_name = refl; no_end = refl; upper_case = refl; no_room = refl; no_image = refl }
