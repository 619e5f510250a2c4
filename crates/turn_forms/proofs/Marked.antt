-- The laws of the marker beside the counts: its bytes and back, and the calls whose counts have another size.
use Rattle.std.specs.Prelude.{Err, Ok}
use Rattle.parlog.specs.Answer.{Answer}
use mathlib.Core.Path.{◌∙◌, ◌≡◌, ap, refl}
use mathlib.Core.Bool.{false}
use mathlib.Core.List.{◌++◌, List}
use Prim.Native.Nat.{◌+◌, ℕ}
use lib.Dec.{eqb}
use lib.ListN.{drop, length, length-append, take}
use lib.Seq.{drop-append_seam, get_or-drop, take-append_seam}
use borrow.Author.Tests.{eqb-false, ne_eqb}
use native.Mathlib.Omega.{arith}
use Rattle.head.proofs.Laws.{steps_back}
use Rattle.parlog.proofs.Rows.{halves}
use Rattle.parlog.specs.Calls.{enter, StepCall, turn_call}
use Rattle.parlog.specs.Limits.{Limits}
use Rattle.parlog.specs.Load.{load_of, refusal}
use Rattle.parlog.specs.Program.{Program, program_of}
use Rattle.parlog.specs.TableRules.{full_size, lent_ok}
use Rattle.parlog.specs.Tables.{head_size, Lent, marker_last, marker_steps}
use Rattle.parlog.specs.declared.Marker.{Marker}
use Rattle.parlog.specs.declared.Refusal.{Refusal}
use Rattle.turn_forms.specs.Away.{away_of}
use Rattle.turn_forms.specs.Turned.{marker_bytes, marker_in}

-- ---- bytes and marker

-- a marker is what its bytes say
pub marker-back : (m : Marker) → marker_in (marker_bytes m) ≡ m
unfolding marker_in marker_bytes
marker-back m = rw (halves m.last, steps_back m.steps)

pub bytes-length : (m : Marker) → length (marker_bytes m) ≡ 6
unfolding marker_bytes
bytes-length m = refl

-- ---- counts and marker

module _ (cs : List ℕ) (m : Marker) where
  pub beside-counts : take (length cs) (cs ++ marker_bytes m) ≡ cs
  beside-counts = take-append_seam cs (marker_bytes m)

  pub beside-marker : marker_in (drop (length cs) (cs ++ marker_bytes m)) ≡ m
  beside-marker = ap marker_in (drop-append_seam cs (marker_bytes m)) ∙ marker-back m

  pub beside-length : length (cs ++ marker_bytes m) ≡ length cs + 6
  beside-length = length-append cs (marker_bytes m) ∙ ap (λ (n : ℕ). length cs + n) (bytes-length m)

-- counts of another size make a head of another size
pub other-size : (cs : List ℕ) (m : Marker) → eqb (length cs) 4 ≡ false → eqb (length (cs ++ marker_bytes m)) head_size ≡ false
other-size cs m h =
    let k = beside-length cs m in
    ne_eqb (length (cs ++ marker_bytes m)) head_size (λ q. let n : length cs ≡ 4 = omega (arith, k, q) in eqb-false (length cs) 4 h n)

-- where a head has its marker
pub head-marker : (h : List ℕ) → marker_in (drop 4 h) ≡ record { last = marker_last h; steps = marker_steps h }
unfolding marker_in
head-marker h =
    rw (get_or-drop 4 h 0 0, get_or-drop 4 h 1 0, get_or-drop 4 h 2 0, get_or-drop 4 h 3 0, get_or-drop 4 h 4 0, get_or-drop 4 h 5 0)

-- ---- calls that are turned away

-- what such a call answers and leaves
abbrev pub away : Refusal → Lent → StepCall
away r l = record { answer = Err r; lent = l }

-- an image that is refused
pub turn-refused : (lim : Limits) (s : List ℕ) (l : Lent) {f : Refusal} → load_of s ≡ Err f → turn_call lim s l ≡ away f l
unfolding turn_call enter
turn-refused lim s l e = rw e

size-wrong : (lim : Limits) (pr : Program) (l : Lent) → eqb (length l.head) head_size ≡ false → lent_ok lim pr l ≡ false
unfolding lent_ok full_size
size-wrong lim pr l e = rw e

-- a head of another size
pub turn-sized : (lim : Limits) (s : List ℕ) (l : Lent) {r c : ℕ} → load_of s ≡ Ok (r, c) → eqb (length l.head) head_size ≡ false → turn_call lim s l ≡ away (refusal 8 0) l
unfolding turn_call enter
turn-sized lim s l {r} {c} e h = rw (e, size-wrong lim (program_of s r c) l h)

-- THE LAW: both
pub turn_away : (a : Answer (ℕ × ℕ)) (lim : Limits) (s : List ℕ) (l : Lent) → load_of s ≡ a → eqb (length l.head) head_size ≡ false → turn_call lim s l ≡ away (away_of a) l
turn_away (Err f) lim s l e h = turn-refused lim s l e
turn_away (Ok (r, c)) lim s l e h = turn-sized lim s l e h
