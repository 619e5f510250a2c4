-- The note of a process through the pass: at its start, after each row, and what it tells at the end.
use Rattle.std.specs.Prelude.{Option, Some, None}
use mathlib.Core.Path.{◌∙◌, ◌≡◌, refl, sym}
use mathlib.Core.Bool.{◌&&◌, ◌||◌, and_assoc, and_comm, Bool, cond, false, not, or_assoc, or_comm, true, or-false}
use mathlib.Core.List.{[], List}
use Prim.Native.Nat.{◌<◌, suc, zero, ℕ}
use lib.Dec.{eqb}
use lib.ListN.{length}
use borrow.Author.Tests.{eqb-true}
use native.Mathlib.Omega.{arith}
use Rattle.children.proofs.Small.{hear-bad, hear-done, hear-good, hear-late, hear-lost, hear-small, hear-some, says, says-good, says-told}
use Rattle.children.specs.Notes.{found_by, heard_by, heard_in, latest_in, news_in, none_silent, Noted, note_of, some_bad, some_good, spoke}
use Rattle.children.specs.Telling.{heard_of, Tells}
use Rattle.children.specs.declared.Note.{Note}
use Rattle.children.specs.declared.Told.{Told}
use Rattle.std.proofs.lemmas.Bool.{false_from_ne_true, or_parts}
use Rattle.parlog.proofs.Bools.{split}
use Rattle.parlog.proofs.Kin.{not-both, reports-at}
use Rattle.parlog.specs.Codes.{failure, success}
use Rattle.parlog.specs.Scan.{every, highest, implies, lowest, or_else, some}
use Rattle.parlog.specs.Tables.{at, State}
use Rattle.parlog.specs.Tree.{all_children, any_child, child_done, child_reports, heard, heard_from, is_child, latest, lowest_child, reports, silent}
use Rattle.parlog.specs.declared.Process.{Process}

-- ---- laws of tests

or-move : (b r s : Bool) → (r || (s || b)) ≡ ((b || r) || s)
or-move b r s = sym (or_assoc r s b) ∙ or_comm (r || s) b ∙ sym (or_assoc b r s)

and-move : (a r s : Bool) → (r && (s && a)) ≡ ((a && r) && s)
and-move a r s = sym (and_assoc r s a) ∙ and_comm (r && s) a ∙ sym (and_assoc a r s)

pub or_nothing : (f : Option ℕ) → or_else f None ≡ f
or_nothing (Some c) = refl
or_nothing None = refl

low-move : (f : Option ℕ) (a g : Bool) (q v : ℕ) → or_else f (found_by (g || a) (cond a q v)) ≡ or_else (or_else f (cond a (Some q) None)) (found_by g v)
low-move (Some c) a g q v = refl
low-move None true true q v = refl
low-move None true false q v = refl
low-move None false true q v = refl
low-move None false false q v = refl

-- success and failure are not told together
exclusive : (ps : List Process) (c : ℕ) → not (reports success (at ps c) && reports failure (at ps c)) ≡ true
exclusive ps c = split (reports success (at ps c))
    (λ a. rw (a, false_from_ne_true (reports failure (at ps c)) (λ b. not-both here c (reports-at here c success a) (reports-at here c failure b))))
    (λ a. rw a)
  where
    here : State
    here = record { procs = ps; vars = [] }

-- ---- the pass

-- nothing heard yet
pub noted-start : (ps : List Process) (p n v w : ℕ) → n ≡ length ps → Noted ps p n (record { said = 0; latest = v; lowest = w })
unfolding any_child all_children lowest_child heard latest
noted-start ps p n v w e = rw e (record {
  small = omega arith;
  failed = or-false (some (child_reports failure ps p) (length ps));
  succeeded = and_comm (every (child_done success ps p) (length ps)) true;
  hopeless = and_comm (every (child_done failure ps p) (length ps)) true;
  lowest = or_nothing (lowest (child_reports success ps p) (length ps));
  latest = refl;
  told = refl;
})

module _ (ps : List Process) (p q : ℕ) (x : Note) (so : Noted ps p (suc q) x) where
  -- row q is no child of p
  module _ (e : is_child ps p q ≡ false) where
    quiet-some : (r : _) → some (child_reports r ps p) (suc q) ≡ some (child_reports r ps p) q
    unfolding some child_reports
    quiet-some r = rw e

    quiet-every : (r : _) → every (child_done r ps p) (suc q) ≡ every (child_done r ps p) q
    unfolding every child_done
    quiet-every r = rw e

    quiet-lowest : (r : _) → lowest (child_reports r ps p) (suc q) ≡ lowest (child_reports r ps p) q
    quiet-lowest r = unfold lowest child_reports in (rw e (or_nothing (lowest (child_reports r ps p) q)))

    quiet-highest : highest (is_child ps p) (suc q) ≡ highest (is_child ps p) q
    unfolding highest
    quiet-highest = rw e

    pub noted_other : Noted ps p q x
    noted_other = record {
      small = so.small;
      failed = rw (quiet-some failure) at so.failed;
      succeeded = rw (quiet-every success) at so.succeeded;
      hopeless = rw (quiet-every failure) at so.hopeless;
      lowest = rw (quiet-lowest success) at so.lowest;
      latest = rw quiet-highest at so.latest;
      told = so.told;
    }

  -- row q is one
  module _ (e : is_child ps p q ≡ true) where
    abbrev a : Bool
    a = reports success (at ps q)

    abbrev b : Bool
    b = reports failure (at ps q)

    abbrev s : ℕ
    s = x.said

    o : not (a && b) ≡ true
    o = exclusive ps q

    told-some : some (child_reports failure ps p) (suc q) ≡ (b || some (child_reports failure ps p) q)
    unfolding some child_reports
    told-some = rw e

    told-all : every (child_done success ps p) (suc q) ≡ (a && every (child_done success ps p) q)
    unfolding every child_done
    told-all = rw e

    told_none : every (child_done failure ps p) (suc q) ≡ (b && every (child_done failure ps p) q)
    unfolding every child_done
    told_none = rw e

    told-lowest : lowest (child_reports success ps p) (suc q) ≡ or_else (lowest (child_reports success ps p) q) (cond a (Some q) None)
    unfolding lowest child_reports
    told-lowest = rw e

    told-highest : highest (is_child ps p) (suc q) ≡ Some q
    unfolding highest
    told-highest = rw e

    late-here : (z : Bool) → eqb s 0 ≡ z → cond (cond z (a || b) (latest_in s)) (heard_in (at ps (cond (z && (a || b)) q x.latest)) (cond (z && (a || b)) q x.latest)) silent ≡ heard ps p
    late-here true w = split (a || b) (λ y. rw y heard-now) (λ y. let (u, v) = or_parts a b y in rw y ((rw (u, v) at heard-now)))
      where
        heard-now : heard_in (at ps q) q ≡ heard ps p
        heard-now = unfold heard_from in (rw (w, told-highest) at so.latest)
    late-here false w = rw w at so.latest

    told_here : (z : Bool) → eqb s 0 ≡ z → implies (cond z (a || b) (latest_in s)) (spoke ps (cond (z && (a || b)) q x.latest)) ≡ true
    told_here true w = split (a || b) (λ y. rw y y) (λ y. rw y)
    told_here false w = so.told

    heard-here : Noted ps p q (heard_by x (says a b) q)
    heard-here = record {
      small = hear-small a b s so.small o;
      failed = rw (hear-bad a b s so.small o) (or-move b (some (child_reports failure ps p) q) (some_bad s) ∙ (rw told-some at so.failed));
      succeeded = rw (hear-done a b s so.small o) (and-move a (every (child_done success ps p) q) (not (some_bad s) && none_silent s) ∙ (rw told-all at so.succeeded));
      hopeless = rw (hear-lost a b s so.small o) (and-move b (every (child_done failure ps p) q) (not (some_good s) && none_silent s) ∙ (rw told_none at so.hopeless));
      lowest = rw (hear-good a b s so.small o, says-good a b) (low-move (lowest (child_reports success ps p) q) a (some_good s) q x.lowest ∙ (rw told-lowest at so.lowest));
      latest = rw (hear-some a b s so.small o, hear-late a b s so.small o, says-told a b) (late-here (eqb s 0) refl);
      told = rw (hear-late a b s so.small o, says-told a b) (told_here (eqb s 0) refl);
    }

    pub noted-child : Noted ps p q (heard_by x (note_of (at ps q)) q)
    unfolding note_of
    noted-child = heard-here

-- the rows below q have no child of p
pub noted-quiet : (ps : List Process) (p q : ℕ) (x : Note) → ((i : ℕ) → i < q → is_child ps p i ≡ false) → Noted ps p q x → Noted ps p 0 x
noted-quiet ps p zero x h so = so
noted-quiet ps p (suc q) x h so = noted-quiet ps p q x (λ i l. h i (omega arith)) (noted_other ps p q x so (h q (omega arith)))

-- ---- what it tells

module _ (ps : List Process) (p : ℕ) (x : Note) (so : Noted ps p 0 x) where
  pub all-failed : some_bad x.said ≡ any_child failure ps p
  all-failed = unfold some in so.failed

  pub all-succeeded : (not (some_bad x.said) && none_silent x.said) ≡ all_children success ps p
  all-succeeded = unfold every in so.succeeded

  pub all-hopeless : (not (some_good x.said) && none_silent x.said) ≡ all_children failure ps p
  all-hopeless = unfold every in so.hopeless

  pub all-lowest : found_by (some_good x.said) x.lowest ≡ lowest_child success ps p
  all-lowest = unfold lowest in so.lowest

  pub all-latest : news_in ps x ≡ heard ps p
  all-latest = go (eqb x.said 0) refl
    where
      go : (z : Bool) → eqb x.said 0 ≡ z → news_in ps x ≡ heard ps p
      go true w = let e : x.said ≡ 0 = eqb-true x.said 0 w in rw e (unfold highest heard_from in (rw w at so.latest))
      go false w = rw w at so.latest

  pub tells : {t : Told} → t.failed ≡ some_bad x.said → t.succeeded ≡ (not (some_bad x.said) && none_silent x.said)
      → t.hopeless ≡ (not (some_good x.said) && none_silent x.said) → t.lowest ≡ found_by (some_good x.said) x.lowest
      → heard_of t.latest ≡ news_in ps x → Tells ps p t
  tells a b c d e = record {
    failed = a ∙ all-failed;
    succeeded = b ∙ all-succeeded;
    hopeless = c ∙ all-hopeless;
    lowest = d ∙ all-lowest;
    latest = e ∙ all-latest;
  }
