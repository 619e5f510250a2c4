-- Saves and resumes that are computed: their statements stand in specs/Instances.
use mathlib.Core.Path.{refl}
use Prim.Native.Nat.{ℕ}
use Rattle.parlog.proofs.Opened.{opened}
use Rattle.resume.specs.Calls.{resumable, resume_call, save_call}
use Rattle.resume.specs.Instances.{OnesSaved, ReadBack, RecordsRefused, RulesRefused, TablesRefused, WaitingSaved}
use Rattle.saved.specs.Form.{bytes_from, head_record, numbers, process_record, saved_bytes, variable_record}
use Rattle.saved.specs.Reading.{former, form_fault, kind_wrong, length_wrong, read_saved, rule_wrong}
use Rattle.saved.specs.Restored.{cells_in, counts_agree, resumed_lent, rows_in}

-- opens the definitions of a saved run
unfoldable also_opened : ℕ
unfolding bytes_from numbers head_record process_record variable_record saved_bytes kind_wrong length_wrong former rule_wrong form_fault read_saved counts_agree rows_in cells_in resumed_lent resumable save_call resume_call
also_opened = 0

pub ones_saved : OnesSaved
unfolding opened also_opened
ones_saved = (refl, refl, refl, refl, refl, refl)

pub waiting_saved : WaitingSaved
unfolding opened also_opened
waiting_saved = (refl, refl, refl, refl)

pub read_back : ReadBack
unfolding opened also_opened
read_back = (refl, refl)

pub records_refused : RecordsRefused
unfolding opened also_opened
records_refused = (refl, refl, refl, refl, refl, refl, refl, refl)

pub rules_refused : RulesRefused
unfolding opened also_opened
rules_refused = (refl, refl, refl, refl, refl, refl, refl, refl, refl, refl, refl)

pub tables_refused : TablesRefused
unfolding opened also_opened
tables_refused = (refl, refl, refl, refl, refl, refl)
