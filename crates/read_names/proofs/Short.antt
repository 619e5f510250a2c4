-- A mode line has some bytes, so the mode lines behind it are those from its end on.
use mathlib.Core.Path.{◌∙◌, ◌≡◌, ap, refl, sym}
use mathlib.Core.Bool.{and-eq-true_iff, Bool, false, true}
use mathlib.Core.List.{[], ◌∷◌, List}
use Prim.Native.Nat.{◌<◌, ◌≤◌, suc, zero, ℕ}
use lib.Dec.{eqb}
use lib.ListN.{drop, length, length-drop}
use native.Mathlib.Omega.{arith}
use Rattle.text_names.proofs.Looked.{same-is}
use Rattle.text_names.proofs.Rest.{next-less, past-less}
use Rattle.text_names.specs.Bytes.{first, front, is_small, next, past}
use Rattle.text_names.specs.Names.{same_name}
use Rattle.text_program.specs.Source.{brackets_by, cons_got, got, is_mode_line, lines, lines_by, lines_for, mode_word, read_brackets, read_mode, read_mode_line, row_by, row_for}

-- ---- what is read off a text

-- behind `mode` the text is shorter
word-less : (s : List ℕ) → same_name (front s) mode_word ≡ true → length (past s) < length s
word-less s e = let l = ap length (same-is (front s) mode_word e) in omega (arith, past-less s)

row-less : (n : ℕ) (s : List ℕ) → length (row_for n read_mode 44 s).rest ≤ length s
unfolding row_for
row-less zero s = omega arith
row-less (suc n) s = go (eqb (first (next s)) 44) (row-less n (next (next s)))
  where
    go : (b : Bool) → length (row_for n read_mode 44 (next (next s))).rest ≤ length (next (next s)) → length (row_by (row_for n read_mode 44) b (read_mode s)).rest ≤ length s
    go true i = omega (arith, next-less s, next-less (next s))
    go false i = next-less s

brackets-less : (b : Bool) (s : List ℕ) → length (brackets_by b read_mode s).rest ≤ length s
brackets-less true s = omega (arith, next-less s, row-less (length (next s)) (next s), next-less (row_for (length (next s)) read_mode 44 (next s)).rest)
brackets-less false s = omega arith

line-less : (s : List ℕ) → is_mode_line s ≡ true → length (read_mode_line s).rest < length s
unfolding is_mode_line read_mode_line read_brackets
line-less s e =
    let a = word-less s ((and-eq-true_iff (same_name (front s) mode_word) (is_small (first (past s)))).0 e).0 in
    let b = past-less (past s) in
    let c = brackets-less (eqb (first (past (past s))) 40) (past (past s)) in
    let d = next-less (brackets_by (eqb (first (past (past s))) 40) read_mode (past (past s))).rest in
    omega arith

-- ---- all mode lines, by as many turns as there are bytes

-- where there are enough turns, it does not matter how many
turns : (n m : ℕ) (s : List ℕ) → length s ≤ n → length s ≤ m → lines_for n is_mode_line read_mode_line s ≡ lines_for m is_mode_line read_mode_line s
unfolding lines_for is_mode_line front same_name
turns zero zero s h k = refl
turns zero (suc m) [] h k = refl
turns zero (suc m) (b ∷ s) h k = absurd (omega arith)
turns (suc n) zero [] h k = refl
turns (suc n) zero (b ∷ s) h k = absurd (omega arith)
turns (suc n) (suc m) s h k = go (is_mode_line s) refl (λ f g. turns n m (read_mode_line s).rest f g)
  where
    go : (b : Bool) → is_mode_line s ≡ b →
        (length (read_mode_line s).rest ≤ n → length (read_mode_line s).rest ≤ m → lines_for n is_mode_line read_mode_line (read_mode_line s).rest ≡ lines_for m is_mode_line read_mode_line (read_mode_line s).rest) →
        lines_by (lines_for n is_mode_line read_mode_line) b read_mode_line s ≡ lines_by (lines_for m is_mode_line read_mode_line) b read_mode_line s
    go true e more = let l = line-less s e in ap (cons_got (read_mode_line s).value) (more (omega arith) (omega arith))
    go false e more = refl

lines-on : (s : List ℕ) → is_mode_line s ≡ true → lines is_mode_line read_mode_line s ≡ cons_got (read_mode_line s).value (lines is_mode_line read_mode_line (read_mode_line s).rest)
unfolding lines_for
lines-on s e = go (length s) refl
  where
    go : (n : ℕ) → length s ≡ n → lines_for n is_mode_line read_mode_line s ≡ cons_got (read_mode_line s).value (lines is_mode_line read_mode_line (read_mode_line s).rest)
    go zero f = absurd (let l = line-less s e in omega arith)
    go (suc n) f = let l = line-less s e in rw e (ap (cons_got (read_mode_line s).value) (turns n (length (read_mode_line s).rest) (read_mode_line s).rest (omega arith) (omega arith)))

lines-off : (s : List ℕ) → is_mode_line s ≡ false → lines is_mode_line read_mode_line s ≡ got [] s
unfolding lines_for
lines-off s e = go (length s)
  where
    go : (n : ℕ) → lines_for n is_mode_line read_mode_line s ≡ got [] s
    go zero = refl
    go (suc n) = rw e

module _ (s : List ℕ) (p : ℕ) (b : Bool) (is : b ≡ is_mode_line (drop p s)) where
  -- a line, and those from its end on
  pub lines_more : (e : ℕ) → b ≡ true → drop e s ≡ (read_mode_line (drop p s)).rest → lines is_mode_line read_mode_line (drop p s) ≡ cons_got (read_mode_line (drop p s)).value (lines is_mode_line read_mode_line (drop e s))
  lines_more e h f = lines-on (drop p s) (sym is ∙ h) ∙ ap (λ (y : List ℕ). cons_got (read_mode_line (drop p s)).value (lines is_mode_line read_mode_line y)) (sym f)

  -- which is behind its place
  pub line-behind : (e : ℕ) → b ≡ true → drop e s ≡ (read_mode_line (drop p s)).rest → e ≤ length s → p < e
  line-behind e h f i =
      let l = line-less (drop p s) (sym is ∙ h) in
      let k = ap length f in
      let m = length-drop p s in
      let n = length-drop e s in
      omega arith

  pub lines-last : b ≡ false → lines is_mode_line read_mode_line (drop p s) ≡ got [] (drop p s)
  lines-last h = lines-off (drop p s) (sym is ∙ h)

-- behind the text there is none
pub lines_none : (s : List ℕ) (p : ℕ) → length s ≤ p → lines is_mode_line read_mode_line (drop p s) ≡ got [] (drop p s)
unfolding lines_for
lines_none s p h = go (length (drop p s)) (let l = length-drop p s in omega arith)
  where
    go : (n : ℕ) → n ≡ 0 → lines_for n is_mode_line read_mode_line (drop p s) ≡ got [] (drop p s)
    go zero e = refl
    go (suc n) e = absurd (omega arith)
