-- The pass from the last row down: the notes of all, and the lowest that can move.
use Rattle.std.specs.Prelude.{Option, Some}
use mathlib.Core.Path.{◌∙◌, ◌≡◌, refl, sym}
use mathlib.Core.Logic.{◌≢◌}
use mathlib.Core.Bool.{and_comm, Bool, cond, false, true}
use mathlib.Core.List.{[], List}
use Prim.Native.Nat.{◌-◌, ◌<◌, ◌≤◌, suc, ℕ}
use lib.Dec.{eqb}
use lib.Bits.{bit_or}
use lib.ListN.{get_or, get_or-replicate, length, set}
use lib.Seq.{get_or-set_other, get_or-set_same}
use borrow.Author.Tests.{eq-eqb, eqb-false, eqb-true, ne_eqb}
use native.Mathlib.Omega.{arith}
use Rattle.children.proofs.Noting.{noted-child, noted_other, noted-quiet, noted-start}
use Rattle.children.specs.Notes.{good_note, hear, heard_by, Noted, note_of, silent_bit}
use Rattle.children.specs.Telling.{Tells}
use Rattle.children.specs.declared.Note.{Note}
use Rattle.children.specs.declared.Told.{Told}
use Rattle.std.proofs.lemmas.Bool.{false_from_ne_true}
use Rattle.parlog.proofs.Bools.{split}
use Rattle.parlog.proofs.Fine.{child-lower}
use Rattle.parlog.proofs.Kin.{child-at}
use Rattle.parlog.proofs.Repeated.{turn-can}
use Rattle.parlog.specs.Codes.{failure, success}
use Rattle.parlog.specs.Limits.{small}
use Rattle.parlog.specs.Program.{Program, program_of}
use Rattle.parlog.specs.Run.{can_move, turn_for, turn_of}
use Rattle.parlog.specs.Tables.{at, State}
use Rattle.parlog.specs.Tree.{is_child, reports}
use Rattle.parlog.specs.declared.Process.{Process}
use Rattle.tree.specs.Family.{Falls}
use Rattle.turn_search.proofs.Halves.{half-silent, half-small, half-told}
use Rattle.turn_search.specs.declared.Notes.{Notes}
use Rattle.turn_search.specs.Notes.{AllNoted, kept, none_heard, note_in, said_in, told}

-- ---- the notes

kept_same : (b : Bool) (l : List ℕ) (i v : ℕ) → i < length l → get_or (kept b l i v) i 0 ≡ cond b v (get_or l i 0)
kept_same true l i v h = get_or-set_same l i v 0 h
kept_same false l i v h = refl

kept-other : (b : Bool) (l : List ℕ) (i j v : ℕ) → j ≢ i → get_or (kept b l i v) j 0 ≡ get_or l j 0
kept-other true l i j v ne = get_or-set_other l i j v 0 ne
kept-other false l i j v ne = refl

module _ (ps : List Process) (n : ℕ) (en : length ps ≡ n) where
  pub all_start : {w : ℕ} → n ≤ w → AllNoted ps n n (none_heard w)
  unfolding AllNoted
  all_start {w} l p h = rw (get_or-replicate {A = ℕ} w p 0 0 (omega arith)) (omega arith, omega arith, noted-start ps p n 0 0 (sym en))

  module _ (falls : Falls ps) where
    -- no child of p stands at p or before it
    before : (p i : ℕ) → i ≤ p → i < n → is_child ps p i ≡ false
    before p i h l = false_from_ne_true (is_child ps p i) (λ e. let u = child-lower here (record { lower = falls }) p (child-at here p i (omega arith) e) in omega arith)
      where
        here : State
        here = record { procs = ps; vars = [] }

    module _ {w : ℕ} (q : ℕ) (x : Notes w) where
      -- row q - 1 is reached: all its children were heard
      pub all_here : 0 < q → q ≤ n → AllNoted ps n q x → Noted ps (q - 1) 0 (note_in x (q - 1))
      unfolding AllNoted
      all_here h l so = noted-quiet ps (q - 1) q (note_in x (q - 1)) (λ i u. before (q - 1) i (omega arith) (omega arith)) (so (q - 1) (omega arith)).2

      -- and its parent hears it
      module _ (h : q < n) (so : AllNoted ps n (suc q) x) {up : ℕ} (eu : up ≡ (at ps q).parent) where
        child-is : up < q → (p : ℕ) → is_child ps p q ≡ eqb up p
        unfolding is_child
        child-is u p = let ne : q ≢ 0 = λ z. omega (arith, z) in rw (ne_eqb q 0 ne, ← eu)

        -- another's note stays
        stays : up < q → (p : ℕ) → p < n → up ≢ p → (y : Notes w) → get_or y.silent p 0 ≡ get_or x.silent p 0 → get_or y.said p 0 ≡ get_or x.said p 0 → get_or y.latest p 0 ≡ get_or x.latest p 0 → get_or y.lowest p 0 ≡ get_or x.lowest p 0
            → (get_or y.silent p 0 < 2) × (get_or y.said p 0 < 16) × Noted ps p q (note_in y p)
        unfolding AllNoted
        stays u p l ne y es ea el eo =
            let v = so p l in
            rw (es, ea, el, eo) (v.0, v.1, noted_other ps p q (note_in x p) v.2 (child-is u p ∙ ne_eqb up p ne))

        -- the parent's is the one that heard
        hears : up < q → up < n → (y : Notes w) → get_or y.silent up 0 < 2 → get_or y.said up 0 < 16 → note_in y up ≡ heard_by (note_in x up) (note_of (at ps q)) q
            → (get_or y.silent up 0 < 2) × (get_or y.said up 0 < 16) × Noted ps up q (note_in y up)
        unfolding AllNoted
        hears u l y b c e = (b, c, rw e (noted-child ps up q (note_in x up) (so up l).2 (child-is u up ∙ eq-eqb up up refl)))

        module _ (u : up < q) (a : up < length x.silent) (b : up < length x.said) (c : up < length x.latest) (d : up < length x.lowest) {f : ℕ} (ef : f ≡ note_of (at ps q)) where
          pub all-silent : f ≡ silent_bit → AllNoted ps n q (record x { silent = set x.silent up silent_bit })
          unfolding AllNoted
          all-silent e p l = split (eqb up p)
              (λ z. let w : up ≡ p = eqb-true up p z in rw (← w) (hears u (omega arith) y (rw same (omega arith)) (so up (omega arith)).1 note))
              (λ z. let ne : up ≢ p = eqb-false up p z in stays u p l ne y (get_or-set_other x.silent up p silent_bit 0 (λ w. ne (sym w))) refl refl refl)
            where
              y : Notes w
              y = record x { silent = set x.silent up silent_bit }

              same : get_or y.silent up 0 ≡ silent_bit
              same = get_or-set_same x.silent up silent_bit 0 a

              note : note_in y up ≡ heard_by (note_in x up) (note_of (at ps q)) q
              note =
                  let v = so up (omega arith) in
                  rw (← ef, e, same, half-silent (get_or x.silent up 0) (get_or x.said up 0) v.0 v.1, and_comm (eqb (said_in x up) 0) false)

          pub all_told : (f ≡ silent_bit → ⊥) → {y : Notes w} → y ≡ told x up f q → AllNoted ps n q y
          unfolding AllNoted
          all_told ne {y} ey p l = rw ey (split (eqb up p)
              (λ z. let w : up ≡ p = eqb-true up p z in rw (← w) (hears u (omega arith) t (so up (omega arith)).0 (rw same small) note))
              (λ z. let ne : up ≢ p = eqb-false up p z in let on : p ≢ up = λ w. ne (sym w) in
              stays u p l ne t refl (get_or-set_other x.said up p (hear (said_in x up) f) 0 on) (kept-other (eqb (said_in x up) 0) x.latest up p q on) (kept-other (eqb f good_note) x.lowest up p q on)))
            where
              t : Notes w
              t = told x up f q

              same : get_or t.said up 0 ≡ hear (said_in x up) f
              same = get_or-set_same x.said up (hear (said_in x up) f) 0 b

              small : hear (said_in x up) f < 16
              small = let v = so up (omega arith) in rw ef (unfold note_of in (half-small (get_or x.silent up 0) (get_or x.said up 0) v.0 v.1 (reports success (at ps q)) (reports failure (at ps q))))

              whole : bit_or (get_or x.silent up 0) (hear (said_in x up) f) ≡ hear (said_in x up) f
              whole = let v = so up (omega arith) in rw ef (unfold note_of in (half-told (get_or x.silent up 0) (get_or x.said up 0) v.0 v.1 (reports success (at ps q)) (reports failure (at ps q))))

              note : note_in t up ≡ heard_by (note_in x up) (note_of (at ps q)) q
              note =
                  rw (← ef, same, whole, kept_same (eqb (said_in x up) 0) x.latest up q c, kept_same (eqb f good_note) x.lowest up q d, ne_eqb f silent_bit ne, and_comm (eqb (said_in x up) 0) true)

        pub all-kept : q ≤ up → AllNoted ps n q x
        unfolding AllNoted
        all-kept u p l = let v = so p l in (v.0, v.1, noted_other ps p q (note_in x p) v.2 (nobody (eqb q 0) refl))
          where
            nobody : (b : Bool) → eqb q 0 ≡ b → is_child ps p q ≡ false
            nobody true e = unfold is_child in rw e
            nobody false e = let v : (at ps q).parent < q = falls q (omega arith) (eqb-false q 0 e) in absurd (omega arith)

module _ {w : ℕ} (ps : List Process) (n q : ℕ) (x : Notes w) where
  pub all_end : (lo : ℕ) → q ≡ lo → AllNoted ps n q x → AllNoted ps n lo x
  all_end lo e so = rw e at so

-- whose turn it is stands in the table
pub turn-there : (st : State) (n last : ℕ) → length st.procs ≡ n → {g : Option ℕ} → ((pr : Program) → g ≡ turn_of (can_move pr st) n last) → {p : ℕ} → g ≡ Some p → p < n
unfolding turn_for
turn-there st n last en is {p} e =
    let any : Program = program_of [] 0 0 in
    let h = turn-can small any (record { state = st; last = last; steps = 0 }) p (rw en (sym (is any) ∙ e)) in omega (arith, h.0, en)

-- ---- what the children of the process that was found report

module _ {w : ℕ} (ps : List Process) (n : ℕ) (x : Notes w) (so : AllNoted ps n 0 x) {f : Option ℕ} (there : (p : ℕ) → f ≡ Some p → p < n) where
  pub asks-told : {c : ℕ} → f ≡ Some c → {y : Note} {t : Told} → y ≡ note_in x c → ((p : ℕ) → Noted ps p 0 y → Tells ps p t) → (p : ℕ) → f ≡ Some p → Tells ps p t
  unfolding AllNoted
  asks-told {c} a {y} {t} ey told p b =
      let e : c ≡ p = cc in
      told p (rw ey (rw e (so p (there p b)).2))
