-- What was said of all children says whether a waiting process can move.
use mathlib.Core.Path.{◌∙◌, ◌≡◌, ap, refl, sym}
use mathlib.Core.Bool.{◌&&◌, ◌||◌, Bool, cond, false, not, true}
use mathlib.Core.List.{List}
use Prim.Native.Nat.{ℕ}
use Rattle.children.proofs.Noting.{all-failed, all-hopeless, all-latest, all-lowest, all-succeeded}
use Rattle.children.specs.Notes.{found_by, heard_in, latest_in, none_silent, Noted, some_bad, some_good, spoke}
use Rattle.children.specs.declared.Note.{Note}
use Rattle.parlog.proofs.Able.{can_wait, is_found, is_heard}
use Rattle.parlog.specs.Codes.{and_par, and_seq, equate, failure, guard_eval, input_match, or_par, or_search, seq_search, success, Tag, try_clause}
use Rattle.parlog.specs.Scan.{implies}
use Rattle.parlog.specs.Tables.{at}
use Rattle.parlog.specs.Tree.{all_children, any_child, bad, good, heard, lowest_child, reports, silent}
use Rattle.parlog.specs.declared.Process.{Process}
use Rattle.turn_search.specs.Notes.{tells}

or-unless : (a b : Bool) → (a || b) ≡ (a || (not a && b))
or-unless true b = refl
or-unless false b = refl

found-is : (b : Bool) (c : ℕ) → b ≡ is_found (found_by b c)
found-is true c = refl
found-is false c = refl

told-by : (a b : Bool) (c : ℕ) → (a || b) ≡ is_heard (cond a (good c) (cond b (bad c) silent))
told-by true b c = refl
told-by false true c = refl
told-by false false c = refl

module _ (ps : List Process) (p : ℕ) (x : Note) (so : Noted ps p 0 x) where
  abbrev s : ℕ
  s = x.said

  waits-bad : (some_bad s || none_silent s) ≡ (any_child failure ps p || all_children success ps p)
  waits-bad = or-unless (some_bad s) (none_silent s)
      ∙ ap (λ (z : Bool). z || (not (some_bad s) && none_silent s)) (all-failed ps p x so)
      ∙ ap (λ (z : Bool). any_child failure ps p || z) (all-succeeded ps p x so)

  waits-good : (some_good s || none_silent s) ≡ (is_found (lowest_child success ps p) || all_children failure ps p)
  waits-good = or-unless (some_good s) (none_silent s)
      ∙ ap (λ (z : Bool). z || (not (some_good s) && none_silent s)) (found-is (some_good s) x.lowest ∙ ap is_found (all-lowest ps p x so))
      ∙ ap (λ (z : Bool). is_found (lowest_child success ps p) || z) (all-hopeless ps p x so)

  spoke-is : (z : Bool) → implies z (spoke ps x.latest) ≡ true → z ≡ is_heard (cond z (heard_in (at ps x.latest) x.latest) silent)
  spoke-is true w = sym w ∙ told-by (reports success (at ps x.latest)) (reports failure (at ps x.latest)) x.latest
  spoke-is false w = refl

  waits-late : latest_in s ≡ is_heard (heard ps p)
  waits-late = spoke-is (latest_in s) so.told ∙ ap is_heard (all-latest ps p x so)

  pub note-says : (t : Tag) → tells t s ≡ can_wait t ps p
  unfolding tells can_wait
  note-says and_par = waits-bad
  note-says and_seq = waits-late
  note-says or_par = waits-late
  note-says seq_search = waits-late
  note-says or_search = waits-good
  note-says try_clause = waits-bad
  note-says input_match = refl
  note-says guard_eval = waits-late
  note-says equate = refl
