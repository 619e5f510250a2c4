-- The tests of a saved run's records: refusals 2, 3, 4 and 18, or how many processes and variables there are.
use Rattle.parlog.specs.Answer.{Answer}
use Rattle.std.specs.Prelude.{◌≡◌, ◌≢◌, Result, ◌&&◌, ◌||◌, Bool, cond, not, List, ◌+◌, ℕ, eqb, ltb, length, Err, None, Ok, Option, Some}
use Rattle.parlog.specs.Load.{refusal}
use Rattle.parlog.specs.Records.{cut, front_size, kind_at, walk, word_at}
use Rattle.parlog.specs.Tables.{head_size}
use Rattle.saved.specs.Form.{current_rule, former_length, head_kind, length_of, process_kind, variable_kind}
use Rattle.saved.specs.Kinds.{kind_of, number_before, number_of}
use Rattle.saved.specs.declared.Kind.{Kind}
use Rattle.saved.specs.declared.SoFar.{SoFar}

-- Saved 6: the first record is the head's; a later one is no head's, of a kind that there is, and no lower than the one before
unfoldable pub kind_wrong : ℕ → ℕ → Bool
kind_wrong before kind = cond (eqb before 0) (not (eqb kind head_kind)) (ltb kind process_kind || (ltb variable_kind kind || ltb kind before))

-- Saved 7: the length is that of the kind
unfoldable pub length_wrong : List ℕ → ℕ → Bool
length_wrong x at = not (eqb (word_at x at) (length_of (kind_at x at)))

-- Saved 13: where the rule number stands in the head's record
abbrev pub rule_place : ℕ
rule_place = front_size + head_size + 2

-- Saved 2: the rule number
abbrev pub rule_at : List ℕ → ℕ → ℕ
rule_at x at = word_at x (at + rule_place)

-- Saved 13: it is the head's record, in its former length
unfoldable pub former : List ℕ → ℕ → Bool
former x at = eqb (kind_at x at) head_kind && eqb (word_at x at) former_length

-- Saved 13: it is the head's record, with another rule number than the current one
unfoldable pub rule_wrong : List ℕ → ℕ → Bool
rule_wrong x at = eqb (kind_at x at) head_kind && not (eqb (rule_at x at) current_rule)

-- Saved 7, 13: OLDRULE in the place of BODY, BODY, OLDRULE behind it, or 0
unfoldable pub form_fault : List ℕ → ℕ → ℕ
form_fault x at = cond (former x at) 18 (cond (length_wrong x at) 4 (cond (rule_wrong x at) 18 0))

-- Saved 5: the tests of a record in their order: the refusal, or 0
unfoldable pub fault_at : List ℕ → ℕ → ℕ → ℕ
fault_at x before at = cond (cut x at) 2 (cond (kind_wrong before (kind_at x at)) 3 (form_fault x at))

-- the number of a test that a record fails, where it fails one
abbrev pub some_fault : ℕ → Option ℕ
some_fault n = cond (eqb n 0) None (Some n)

-- what is known between two records: the kind of the one before, 0 where there is none, and how many processes and variables were read
pub record Seen : Type 0 where
  pub kind : ℕ
  pub procs : ℕ
  pub vars : ℕ

-- what is known behind a record of this kind
abbrev pub seen_with : Seen → ℕ → Seen
seen_with g kind = record {
  kind = kind;
  procs = cond (eqb kind process_kind) (g.procs + 1) g.procs;
  vars = cond (eqb kind variable_kind) (g.vars + 1) g.vars;
}

-- Saved 5: one that is cut gives its own place
abbrev pub cut_at : ℕ → Answer (ℕ × ℕ)
cut_at at = Err (refusal 2 at)

-- Saved 5: so does a whole one that is refused; else the records behind it decide
abbrev pub read_one : List ℕ → (Seen → Answer (ℕ × ℕ)) → ℕ → Seen → Answer (ℕ × ℕ)
read_one x rest at g =
    cond (kind_wrong g.kind (kind_at x at)) (Err (refusal 3 at))
    (cond (eqb (form_fault x at) 0) (rest (seen_with g (kind_at x at))) (Err (refusal (form_fault x at) at)))

-- Saved 6: there was a record, or none
abbrev pub read_end : Seen → Answer (ℕ × ℕ)
read_end g = cond (eqb g.kind 0) (Err (refusal 3 0)) (Ok (g.procs, g.vars))

-- nothing is known before the first record
abbrev pub nothing_seen : Seen
nothing_seen = record { kind = 0; procs = 0; vars = 0 }

-- Saved 5: one record after the other
abbrev pub reads : List ℕ → ℕ → ℕ → Seen → Answer (ℕ × ℕ)
reads x n at g = walk x cut_at (read_one x) read_end n at g

-- Saved 5: from the first on
unfoldable pub read_saved : List ℕ → Answer (ℕ × ℕ)
read_saved x = reads x (length x) 0 nothing_seen

-- ---- contracts

-- the kind of this number, where a record of it may stand behind one of kind `before`
abbrev pub kind_behind : ℕ → ℕ → Option Kind
kind_behind before kind = cond (kind_wrong before kind) None (kind_of kind)

-- the tests of a record: its kind, or the number of the first that it fails
abbrev pub TestedSays : List ℕ → ℕ → ℕ → Result Kind ℕ → Type 0
TestedSays x before at (Ok k) = (fault_at x before at ≡ 0) × (kind_at x at ≡ number_of k)
TestedSays x before at (Err n) = (n ≡ fault_at x before at) × (n ≢ 0)

-- what is known, by numbers
abbrev pub known : SoFar → Seen
known g = record { kind = number_before g.kind; procs = g.procs; vars = g.vars }
