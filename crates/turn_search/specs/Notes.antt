-- What one pass over the rows notes for each process about its children, and who can move by it.
use Rattle.std.specs.Prelude.{◌≡◌, ◌||◌, Bool, cond, false, List, ◌<◌, ℕ, get_or, eqb, replicate, set}
use Rattle.std.specs.Int.Bits.{bit_or}
use Rattle.children.specs.Notes.{good_note, hear, latest_bit, latest_in, none_silent, Noted, some_bad, some_good}
use Rattle.children.specs.declared.Note.{Note}
use Rattle.parlog.specs.Codes.{and_par, and_seq, equate, guard_eval, input_match, or_par, or_search, seq_search, Tag, try_clause}
use Rattle.parlog.specs.declared.Process.{Process}
use Rattle.turn_search.specs.declared.Notes.{Notes}

-- what was said to process p: whether one has nothing to tell stands in a row of its own
abbrev pub said_in : {w : ℕ} → Notes w → ℕ → ℕ
said_in x p = bit_or (get_or x.silent p 0) (get_or x.said p 0)

-- the note of process p, in four rows of numbers
abbrev pub note_in : {w : ℕ} → Notes w → ℕ → Note
note_in x p = record { said = said_in x p; latest = get_or x.latest p 0; lowest = get_or x.lowest p 0 }

-- row i becomes q, where this holds
abbrev pub kept : Bool → List ℕ → ℕ → ℕ → List ℕ
kept b rows i q = cond b (set rows i q) rows

-- nobody was heard
abbrev pub none_heard : (w : ℕ) → Notes w
none_heard w = record { silent = replicate w 0; said = replicate w 0; latest = replicate w 0; lowest = replicate w 0 }

-- process i hears q, which tells f
abbrev pub told : {w : ℕ} → Notes w → ℕ → ℕ → ℕ → Notes w
told x i f q = record { silent = x.silent; said = set x.said i (hear (said_in x i) f); latest = kept (eqb (said_in x i) 0) x.latest i q; lowest = kept (eqb f good_note) x.lowest i q }

-- of each of the n the children from row q on were heard
unfoldable pub AllNoted : {w : ℕ} → List Process → ℕ → ℕ → Notes w → Type 0
AllNoted ps n q x = (p : ℕ) → p < n → (get_or x.silent p 0 < 2) × (get_or x.said p 0 < 16) × Noted ps p q (note_in x p)

-- what the children of process p said, once all were heard
abbrev pub AllSaid : List Process → ℕ → ℕ → Type 0
AllSaid ps p s = (x : Note) × (x.said ≡ s) × Noted ps p 0 x

-- a waiting process of this tag can move by what its children said
unfoldable pub tells : Tag → ℕ → Bool
tells and_par s = some_bad s || none_silent s
tells and_seq s = latest_in s
tells or_par s = latest_in s
tells seq_search s = latest_in s
tells or_search s = some_good s || none_silent s
tells try_clause s = some_bad s || none_silent s
tells input_match s = false
tells guard_eval s = latest_in s
tells equate s = false

-- ---- the same as a number: in its low half what is asked for, in the high half what of it must not be all that was said

-- one failure, or that none is silent
abbrev pub failure_or_all : ℕ
failure_or_all = 21

-- one success, or that none is silent
abbrev pub success_or_all : ℕ
success_or_all = 19

-- what a waiting process of this tag asks for
abbrev pub asks_of : Tag → ℕ
asks_of and_par = failure_or_all
asks_of and_seq = latest_bit
asks_of or_par = latest_bit
asks_of seq_search = latest_bit
asks_of or_search = success_or_all
asks_of try_clause = failure_or_all
asks_of input_match = 0
asks_of guard_eval = latest_bit
asks_of equate = 0

-- ---- the search
