-- A saved run as facts over its bytes: the tests of its records a second time, and what a run looks like that passes them.
use Rattle.std.specs.Prelude.{◌≡◌, ◌≢◌, List, ◌*◌, ◌+◌, ◌<◌, ◌≤◌, ℕ, length}
use Rattle.parlog.specs.Records.{kind_at, record_end, word_at}
use Rattle.saved.specs.Form.{current_rule, former_length, head_kind, head_length, length_of, process_kind, process_length, saved_size, variable_kind, variable_length}
use Rattle.saved.specs.Reading.{rule_at}

-- ---- one record

-- Refusals 2: four bytes are left, and the length is no less than them and leads no further than the last byte
pub record WholeAt (x : List ℕ) (at : ℕ) : Type 0 where
  pub begun : at + 4 ≤ length x
  pub size : 4 ≤ word_at x at
  pub inside : record_end x at ≤ length x

-- Saved 6: behind a record of kind `before`, 0 where there is none
pub data KindFits (before kind : ℕ) : Type 0 where
  is_first : before ≡ 0 → kind ≡ head_kind → KindFits before kind
  is_later : before ≢ 0 → process_kind ≤ kind → kind ≤ variable_kind → before ≤ kind → KindFits before kind

-- Saved 7: the length is that of the kind
abbrev pub LengthFits : List ℕ → ℕ → Type 0
LengthFits x at = word_at x at ≡ length_of (kind_at x at)

-- Saved 13: the head's record has the current rule number
abbrev pub RuleFits : List ℕ → ℕ → Type 0
RuleFits x at = kind_at x at ≡ head_kind → rule_at x at ≡ current_rule

-- Saved 13: the head's record, in its former length
pub record Former (x : List ℕ) (at : ℕ) : Type 0 where
  pub kind : kind_at x at ≡ head_kind
  pub size : word_at x at ≡ former_length

-- Saved 5: all four
pub record RightAt (x : List ℕ) (before at : ℕ) : Type 0 where
  pub whole : WholeAt x at
  pub kind : KindFits before (kind_at x at)
  pub length_fits : LengthFits x at
  pub rule_fits : RuleFits x at

-- ---- the first record that is refused

-- Saved 5: all records before this place are right, the last of this kind; 0 where there is none
pub data Behind (x : List ℕ) : ℕ → ℕ → Type 0 where
  at_front : Behind x 0 0
  one_more : {at before : ℕ} → Behind x at before → RightAt x before at → Behind x (record_end x at) (kind_at x at)

-- Saved 5, 6, 13: the number, and where the record begins, which for OLDRULE is the first
pub data BadSaved (x : List ℕ) : ℕ → ℕ → Type 0 where
  no_record : length x ≡ 0 → BadSaved x 3 0
  saved_cut : {at before : ℕ} → Behind x at before → at < length x → (WholeAt x at → ⊥) → BadSaved x 2 at
  saved_kind : {at before : ℕ} → Behind x at before → at < length x → WholeAt x at → (KindFits before (kind_at x at) → ⊥) → BadSaved x 3 at
  saved_former : 0 < length x → WholeAt x 0 → Former x 0 → BadSaved x 18 0
  saved_body : {at before : ℕ} → Behind x at before → at < length x → WholeAt x at → KindFits before (kind_at x at) → (Former x at → ⊥) → (LengthFits x at → ⊥) → BadSaved x 4 at
  saved_rule : 0 < length x → WholeAt x 0 → kind_at x 0 ≡ head_kind → LengthFits x 0 → rule_at x 0 ≢ current_rule → BadSaved x 18 0

-- ---- a run without fault

-- Image 1: what a record begins with
pub record Front (x : List ℕ) (at size kind : ℕ) : Type 0 where
  pub size_is : word_at x at ≡ size
  pub kind_is : kind_at x at ≡ kind

-- Saved 1: the head's record, a of processes, b of variables, and nothing else
pub record Formed (x : List ℕ) (a b : ℕ) : Type 0 where
  pub size : length x ≡ saved_size a b
  pub head : Front x 0 head_length head_kind
  pub rule : rule_at x 0 ≡ current_rule
  pub procs : (i : ℕ) → i < a → Front x (head_length + i * process_length) process_length process_kind
  pub vars : (v : ℕ) → v < b → Front x (head_length + a * process_length + v * variable_length) variable_length variable_kind
