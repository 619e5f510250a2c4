-- The worked examples, computed.
use mathlib.Core.Path.{refl}
use Rattle.spell.specs.Cases.{Spellings}
use Rattle.spell.specs.Grammar.{text}
use Rattle.spell.specs.Stuck.{after, afters, all_behind, any_ends, behind, ends, spelling, spelling_of}

-- all of them
pub spellings : Spellings
unfolding after afters all_behind any_ends behind ends spelling spelling_of text
spellings = record { no_body_is = refl; half_arrow_is = refl; late_mode_is = refl; no_end_is = refl; empty_is = refl; no_guard_is = refl; digit_first_is = refl; open_mode_line_is = refl; behind_goal_is = refl; one_fact_is = refl; many_forms_is = refl }
