-- Mode lines: the word that they begin with, and the loops over them.
use mathlib.Core.Path.{◌∙◌, ◌≡◌, ap, refl, sym}
use mathlib.Core.Bool.{◌&&◌, ◌||◌, Bool, cond, false, true}
use mathlib.Core.List.{[], ◌∷◌, List}
use Prim.Native.Nat.{◌+◌, ◌-◌, ◌<◌, ◌≤◌, suc, zero, ℕ}
use lib.Dec.{eqb, leb}
use lib.ListN.{drop, get_or, length, length-drop, take}
use lib.Pointwise.{pointwise}
use Rattle.std.specs.Prelude.{None, Some, is_some, unwrap_or}
use native.Mathlib.Omega.{arith}
use Rattle.lay_text.proofs.Laws.{name-part}
use Rattle.read_goal.specs.Spans.{Spans}
use Rattle.read_goal.specs.declared.Span.{Span}
use Rattle.read_names.specs.Tables.{arity_at, arity_for, Finds, mode_names}
use Rattle.text_names.proofs.Looked.{known-cons}
use Rattle.text_names.proofs.Rest.{first-at}
use Rattle.text_names.specs.Bytes.{back, front, is_small, next, past}
use Rattle.text_names.specs.Names.{known, look, Name, same_name}
use Rattle.text_program.specs.Source.{cons_got, got, is_mode_line, lines, lines_for, ModeLine, mode_word, read_brackets, Reader, read_mode, read_mode_line}

-- ---- the word

-- names compared byte by byte
same-bytes : (x y : Name) → pointwise eqb x y ≡ same_name x y
unfolding same_name
same-bytes [] [] = refl
same-bytes [] (b ∷ y) = refl
same-bytes (a ∷ x) [] = refl
same-bytes (a ∷ x) (b ∷ y) = rw (same-bytes x y) refl

pub mode-word : (s : List ℕ) (at end : ℕ) → at ≤ length s → end ≤ length s → drop end s ≡ back (drop at s) → pointwise eqb (take (end - at) (drop at s)) mode_word ≡ same_name (front (drop at s)) mode_word
mode-word s at end h g e = rw (name-part s at end h g e) (same-bytes (take (end - at) (drop at s)) mode_word)

-- ---- lines

module _ {A : Type 0} (is : List ℕ → Bool) (read : Reader A) (s : List ℕ) where
  pub lines-fuel : (at : ℕ) → lines_for (length s - at) is read (drop at s) ≡ lines is read (drop at s)
  lines-fuel at = ap (λ (n : ℕ). lines_for n is read (drop at s)) (sym (length-drop at s))

  pub line-more : (left q e : ℕ) (b : Bool) → 0 < left → b ≡ is (drop q s) → b ≡ true → drop e s ≡ (read (drop q s)).rest →
      lines_for left is read (drop q s) ≡ cons_got (read (drop q s)).value (lines_for (left - 1) is read (drop e s))
  unfolding lines_for
  line-more zero q e b h f g i = absurd (omega arith)
  line-more (suc n) q e b h f g i = let z : suc n - 1 ≡ n = omega arith in rw (z, ← f, g, i)

  pub line-last : (left q : ℕ) (b : Bool) → 0 < left → b ≡ is (drop q s) → b ≡ false → lines_for left is read (drop q s) ≡ got [] (drop q s)
  unfolding lines_for
  line-last zero q b h f g = absurd (omega arith)
  line-last (suc n) q b h f g = rw (← f, g)

  pub line-none : (left q : ℕ) → left ≤ 0 → lines_for left is read (drop q s) ≡ got [] (drop q s)
  unfolding lines_for
  line-none zero q h = refl
  line-none (suc n) q h = absurd (omega arith)

-- ---- one mode, one mode line

module _ (s : List ℕ) (at : ℕ) where
  pub mode-line-is : (p b : ℕ) (w t : Bool) → w ≡ same_name (front (drop at s)) mode_word → drop p s ≡ past (drop at s) → b ≡ get_or s p 0 → t ≡ is_small b → (w && t) ≡ is_mode_line (drop at s)
  unfolding is_mode_line
  mode-line-is p b w t e f g h = rw (← f, first-at s p, ← g, ← e, ← h) refl

  pub mode-line-span : (n o e : ℕ) (t : Span) → drop n s ≡ past (drop at s) → drop o s ≡ past (drop n s) →
      Spans s (read_brackets read_mode (drop o s)).rest (length (read_brackets read_mode (drop o s)).value) true t → drop e s ≡ next (drop t.end s) → e ≤ length s →
      Spans s (read_mode_line (drop at s)).rest (length (read_mode_line (drop at s)).value.modes) (leb (length (read_mode_line (drop at s)).value.modes) 4) (record { end = e; count = t.count; right = leb t.count 4 })
  unfolding read_mode_line
  mode-line-span n o e t f g v i k =
      let z : drop o s ≡ past (past (drop at s)) = g ∙ ap past f in
      record {
        end = i ∙ ap next (v.end ∙ ap (λ (y : List ℕ). (read_brackets read_mode y).rest) z);
        inside = k;
        count = v.count ∙ ap (λ (y : List ℕ). length (read_brackets read_mode y).value) z;
        right = ap (λ (m : ℕ). leb m 4) (v.count ∙ ap (λ (y : List ℕ). length (read_brackets read_mode y).value) z);
      }

  pub mode-name : (n : ℕ) → drop n s ≡ past (drop at s) → front (drop n s) ≡ (read_mode_line (drop at s)).value.name
  unfolding read_mode_line
  mode-name n f = ap front f

-- ---- a relation by its name

-- of the mode lines ms there are left ks, behind n
pub record FindLeft (s : List ℕ) (ms ks : List ModeLine) (x : Name) (p n left : ℕ) : Type 0 where
  pub number : n + look (mode_names ks) x ≡ look (mode_names ms) x
  pub arity : arity_at ks x ≡ arity_at ms x
  pub inside : p ≤ length s
  pub budget : n + left ≤ length s

module _ (s : List ℕ) (x : Name) {ms ks : List ModeLine} {p n left : ℕ} where
  pub find-start : ks ≡ ms → n ≡ 0 → p ≤ length s → left ≤ length s → FindLeft s ms ks x p n left
  find-start e z i l = record { number = let y = ap (λ (k : List ModeLine). look (mode_names k) x) e in omega arith; arity = ap (λ (k : List ModeLine). arity_at k x) e; inside = i; budget = omega arith }

  pub find_none : ks ≡ [] → FindLeft s ms ks x p n left → Finds ms x (record { number = n; arity = None })
  unfolding look arity_at
  find_none e f =
      let y = f.number in
      let z = ap (λ (k : List ModeLine). look (mode_names k) x) e in
      record { number = omega arith; arity = sym (ap (λ (k : List ModeLine). arity_at k x) e) ∙ f.arity }

  pub find-one : (m : ModeLine) (js : List ModeLine) (b : Bool) (c : ℕ) → ks ≡ m ∷ js → b ≡ same_name m.name x → b ≡ true → c ≡ length m.modes →
      FindLeft s ms ks x p n left → Finds ms x (record { number = n; arity = Some c })
  unfolding look arity_at
  find-one m js b c e g h i f =
      let y = f.number in
      let w : look (mode_names ks) x ≡ 0 = rw (e, ← g, h) refl in
      let v : arity_at ks x ≡ Some c = rw (e, ← g, h) (ap (λ (k : ℕ). Some k) (sym i)) in
      record { number = omega arith; arity = sym v ∙ f.arity }

  pub find-more : (m : ModeLine) (js : List ModeLine) (b : Bool) (e : ℕ) → ks ≡ m ∷ js → b ≡ same_name m.name x → b ≡ false → e ≤ length s → 0 < left →
      FindLeft s ms ks x p n left → FindLeft s ms js x e (n + 1) (left - 1)
  unfolding look arity_at
  find-more m js b e a g h i l f =
      let y = f.number in
      let u = f.budget in
      let w : look (mode_names ks) x ≡ suc (look (mode_names js) x) = rw (a, ← g, h) refl in
      let v : arity_at ks x ≡ arity_at js x = rw (a, ← g, h) refl in
      record { number = omega arith; arity = sym v ∙ f.arity; inside = i; budget = omega arith }

-- ---- a relation that has a line, or none

pub arity_known : (ms : List ModeLine) (x : Name) → is_some (arity_at ms x) ≡ known (mode_names ms) x
unfolding look arity_at
arity_known [] x = refl
arity_known (m ∷ ms) x = go (same_name m.name x) (arity_known ms x) ∙ sym (known-cons m.name (mode_names ms) x)
  where
    go : (b : Bool) → is_some (arity_at ms x) ≡ known (mode_names ms) x → is_some (cond b (Some (length m.modes)) (arity_at ms x)) ≡ (b || known (mode_names ms) x)
    go true e = refl
    go false e = e

pub arity-or : (ms : List ModeLine) (x : Name) → unwrap_or (arity_at ms x) 0 ≡ arity_for ms x
unfolding arity_for arity_at
arity-or [] x = refl
arity-or (m ∷ ms) x = go (same_name m.name x) (arity-or ms x)
  where
    go : (b : Bool) → unwrap_or (arity_at ms x) 0 ≡ arity_for ms x → unwrap_or (cond b (Some (length m.modes)) (arity_at ms x)) 0 ≡ cond b (length m.modes) (arity_for ms x)
    go true e = refl
    go false e = e
