-- The ways through a turn with the marker by value.
use Rattle.parlog.specs.declared.Move.{Move}
use Rattle.std.specs.Prelude.{Err, Ok}
use Rattle.parlog.specs.Answer.{Answer}
use mathlib.Core.Path.{◌∙◌, ◌≡◌, ap, refl, sym}
use mathlib.Core.Bool.{false}
use mathlib.Core.List.{[], ◌++◌, ◌∷◌, List}
use Prim.Native.Nat.{◌%◌, ◌/◌, ◌<◌, ◌≤◌, ℕ}
use Rattle.std.specs.Int.{to_le_bytes, w16, w32}
use lib.Dec.{eqb}
use lib.ListN.{drop, get_or, length, take}
use native.Mathlib.Omega.{arith}
use Rattle.rows.proofs.Laws.{high_in, low_in}
use Rattle.load.specs.Fields.{refusal_of}
use Rattle.parlog.proofs.Rows.{build-is}
use Rattle.parlog.specs.Limits.{Limits}
use Rattle.parlog.specs.Load.{load_of, refusal}
use Rattle.parlog.specs.Scan.{build}
use Rattle.parlog.specs.Tables.{lent, marker_last, marker_steps}
use Rattle.parlog.specs.declared.Marker.{Marker}
use Rattle.parlog.specs.declared.Refusal.{Refusal}
use Rattle.turn_forms.proofs.Marked.{beside-counts, beside-marker, head-marker, other-size, turn_away}
use Rattle.turn_forms.specs.Away.{away_of}
use Rattle.turn_forms.specs.Turned.{lent_with, marker_bytes, marker_in, turned_from, TurnedSays}
use Rattle.run.specs.Running.{TurnSays}
use Rattle.turn_forms.specs.declared.Turned.{Turned}

-- ---- the head put together and taken apart

four : (cs : List ℕ) → length cs ≡ 4 → build (λ (k : ℕ). get_or cs k 0) 4 ≡ cs
four cs e = rw e at (build-is (λ (k : ℕ). get_or cs k 0) 0 cs (λ i u. refl))

-- the ten bytes one by one
pub joined : (cs : List ℕ) (last steps : ℕ) → length cs ≡ 4 → last ≤ 65535 → steps < 4294967296 → {l p : List ℕ} → l ≡ to_le_bytes w16 last → p ≡ to_le_bytes w32 steps
    → get_or cs 0 0 ∷ get_or cs 1 0 ∷ get_or cs 2 0 ∷ get_or cs 3 0 ∷ get_or l 0 0 ∷ get_or l 1 0 ∷ get_or p 0 0 ∷ get_or p 1 0 ∷ get_or p 2 0 ∷ get_or p 3 0 ∷ []
    ≡ cs ++ marker_bytes (record { last = last; steps = steps })
unfolding marker_bytes build
joined cs last steps len hl hs {l} {p} el ep =
    let mb : List ℕ = marker_bytes (record { last = last; steps = steps }) in
    let a : get_or p 0 0 ≡ steps % 256 = rw ep in
    let b : get_or p 1 0 ≡ steps / 256 % 256 = rw ep in
    let c : get_or p 2 0 ≡ steps / 65536 % 256 = rw ep in
    let d : get_or p 3 0 ≡ steps / 16777216 = rw ep (omega arith) in
    rw (low_in _ el, high_in _ hl el, a, b, c, d) (ap (λ (x : List ℕ). x ++ mb) (four cs len))

-- ---- the refusal of another size

module _ (s : List ℕ) {a : Answer (ℕ × ℕ)} (is : a ≡ load_of s) where
  pub away-refused : {f r : Refusal} → a ≡ Err f → r ≡ refusal_of a → r ≡ away_of (load_of s)
  away-refused e er = rw (← is, er, e)

  pub away-accepted : {r c : ℕ} → a ≡ Ok (r, c) → refusal 8 0 ≡ away_of (load_of s)
  away-accepted e = rw (← is, e)

-- ---- the turn

-- THE LAW: counts of another size
pub core-away : (lim : Limits) (s cs ps vs : List ℕ) (m : Marker) → eqb (length cs) 4 ≡ false → {f : Refusal} → f ≡ away_of (load_of s) → TurnedSays lim s cs ps vs m (turned_from m (Err f)) cs ps vs
core-away lim s cs ps vs m h ef =
    let k = turn_away (load_of s) lim s (lent_with cs m ps vs) refl (other-size cs m h) in
    record { turned = rw (k, beside-marker cs m, ef); counts = rw k (sym (beside-counts cs m)); procs = rw k; vars = rw k }

-- THE LAW: a turn on the head that is counts and marker
pub core-turned : (lim : Limits) (s cs ps vs : List ℕ) (m : Marker) → length cs ≡ 4 → {h : List ℕ} → h ≡ cs ++ marker_bytes m
    → {a : Answer Move} {h' p v : List ℕ} → TurnSays lim s (lent h ps vs) a h' p v
    → {c : List ℕ} → c ≡ take 4 h' → {t : Turned} → t ≡ turned_from (record { last = marker_last h'; steps = marker_steps h' }) a → TurnedSays lim s cs ps vs m t c p v
core-turned lim s cs ps vs m len eh {a} {h'} told ec et =
    let k = rw eh at told in
    record {
      turned = et ∙ ap (λ (x : Marker). turned_from x a) (sym (head-marker h')) ∙ (λ i. turned_from (marker_in (drop (sym len i) (k.head i))) (k.answer i));
      counts = ec ∙ (λ i. take (sym len i) (k.head i));
      procs = k.procs;
      vars = k.vars;
    }
