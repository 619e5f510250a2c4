-- What is noted of the children of a process while the rows are passed from the last down; 0 where none was heard.
use Rattle.std.specs.Prelude.{◌≡◌, ◌&&◌, ◌||◌, Bool, cond, not, true, List, ◌%◌, ◌/◌, ◌<◌, ℕ, eqb, Option, Some, None}
use Rattle.std.specs.Int.Bits.{bit_and, bit_or}
use Rattle.children.specs.declared.Note.{Note}
use Rattle.parlog.specs.Codes.{failure, success}
use Rattle.parlog.specs.Scan.{every, highest, implies, lowest, or_else, some}
use Rattle.parlog.specs.Tables.{at}
use Rattle.parlog.specs.Tree.{all_children, any_child, bad, child_done, child_reports, good, Heard, heard, heard_from, is_child, lowest_child, reports, silent}
use Rattle.parlog.specs.declared.Process.{Process}

-- ---- what was said, in bits

-- one reports nothing
abbrev pub silent_bit : ℕ
silent_bit = 1

-- one reports success
abbrev pub good_bit : ℕ
good_bit = 2

-- one reports failure
abbrev pub bad_bit : ℕ
bad_bit = 4

-- the latest reports
abbrev pub latest_bit : ℕ
latest_bit = 8

-- a child that reports success, as the latest
abbrev pub good_note : ℕ
good_note = 10

-- one that reports failure
abbrev pub bad_note : ℕ
bad_note = 12

-- what is heard of a child that is not the latest
abbrev pub earlier_bits : ℕ
earlier_bits = 7

-- ---- a note

-- what one child says
unfoldable pub note_of : Process → ℕ
note_of x = cond (reports success x) good_note (cond (reports failure x) bad_note silent_bit)

-- what was said, and f; who is heard first is the latest
unfoldable pub hear : ℕ → ℕ → ℕ
hear s f = cond (eqb s 0) f (bit_or s (bit_and f earlier_bits))

-- the note after process q, that says f; the latest is kept where it reports
abbrev pub heard_by : Note → ℕ → ℕ → Note
heard_by x f q = record { said = hear x.said f; latest = cond (eqb x.said 0 && not (eqb f silent_bit)) q x.latest; lowest = cond (eqb f good_note) q x.lowest }

-- what was said
abbrev pub some_good : ℕ → Bool
some_good s = eqb (s / good_bit % 2) 1

abbrev pub some_bad : ℕ → Bool
some_bad s = eqb (s / bad_bit % 2) 1

abbrev pub none_silent : ℕ → Bool
none_silent s = eqb (s % 2) 0

abbrev pub latest_in : ℕ → Bool
latest_in s = eqb (s / latest_bit % 2) 1

-- c, where this holds
abbrev pub found_by : Bool → ℕ → Option ℕ
found_by b c = cond b (Some c) None

-- what process c has reported, whose row is x
abbrev pub heard_in : Process → ℕ → Heard
heard_in x c = cond (reports success x) (good c) (cond (reports failure x) (bad c) silent)

-- process c has reported
abbrev pub spoke : List Process → ℕ → Bool
spoke ps c = reports success (at ps c) || reports failure (at ps c)

-- what the latest has reported
abbrev pub news_in : List Process → Note → Heard
news_in ps x = cond (latest_in x.said) (heard_in (at ps x.latest) x.latest) silent

-- ---- the pass

-- the rows from q on were heard: the note of p and the rows below q tell together what all tell
pub record Noted (ps : List Process) (p q : ℕ) (x : Note) : Type 0 where
  pub small : x.said < 16
  pub failed : (some (child_reports failure ps p) q || some_bad x.said) ≡ any_child failure ps p
  pub succeeded : (every (child_done success ps p) q && (not (some_bad x.said) && none_silent x.said)) ≡ all_children success ps p
  pub hopeless : (every (child_done failure ps p) q && (not (some_good x.said) && none_silent x.said)) ≡ all_children failure ps p
  pub lowest : or_else (lowest (child_reports success ps p) q) (found_by (some_good x.said) x.lowest) ≡ lowest_child success ps p
  pub latest : cond (eqb x.said 0) (heard_from ps (highest (is_child ps p) q)) (news_in ps x) ≡ heard ps p
  pub told : implies (latest_in x.said) (spoke ps x.latest) ≡ true
