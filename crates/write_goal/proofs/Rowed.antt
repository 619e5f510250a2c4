-- One turn of a loop over a row of items.
use mathlib.Core.Path.{◌∙◌, ◌≡◌, ap, refl}
use mathlib.Core.Bool.{◌&&◌, and-true as true-right, Bool, true}
use mathlib.Core.List.{[], ◌++◌, ◌∷◌, append_assoc, List}
use Prim.Native.Nat.{◌%◌, ◌+◌, ◌-◌, ◌<◌, ◌≤◌, suc, zero, ℕ}
use lib.ListN.{get_or, length}
use borrow.Author.Tests.{eq-eqb, ne_eqb}
use native.Mathlib.Omega.{arith}
use native.Mathlib.Numerals.{add-one}
use Rattle.lay_text.proofs.Lent.{Leaves, leaves_as, leaves_end, leaves-start, leaves_step, wrote-both}
use Rattle.lay_text.specs.Wrote.{Wrote}
use Rattle.lay_text.specs.declared.Writer.{Writer}
use Rattle.parlog.proofs.Along.{list_length}
use Rattle.parlog.specs.Image.{literal_end, stage_end}
use Rattle.parlog.specs.Program.{goal_of, Literal, literal_of, stage_of}
use Rattle.parlog.specs.Scan.{list_of}
use Rattle.parlog.specs.declared.Term.{Term}
use Rattle.parlog.specs.declared.Term.TheVariants.{Const, Var}
use Rattle.text_names.specs.Entries.{entry_name, is_entry}
use Rattle.text_program.specs.Numbered.{joined}
use Rattle.text_program.specs.Parsing.{all_of}
use Rattle.text_program.specs.Printing.{and_mark, bracket_text, comma_mark, goal_named, goal_text, literal_named, literal_text, row_text, term_named, term_text}
use Rattle.write_goal.specs.Rows.{lead_of, row_left, terms_at}

module _ {A : Type 0} (text : A → List ℕ) (ok : A → Bool) (mark : List ℕ) where
  row_more : (k : ℕ) (x : A) (xs : List A) → row_left text mark k (x ∷ xs) ≡ lead_of mark k ++ (text x ++ row_left text mark (suc k) xs)
  unfolding row_left lead_of row_text joined
  row_more zero x xs = refl
  row_more (suc k) x xs = append_assoc mark (text x) (joined (λ y. mark ++ text y) xs)

  row-none : (k : ℕ) → row_left text mark k [] ≡ []
  unfolding row_left row_text joined
  row-none zero = refl
  row-none (suc k) = refl

  module _ (read : ℕ → A) (next : ℕ → ℕ) where
    items_more : (n k q : ℕ) → k < n → list_of read next (n - k) q ≡ read q ∷ list_of read next (n - (k + 1)) (next q)
    unfolding list_of
    items_more n k q h = let e : n - k ≡ suc (n - (k + 1)) = omega arith in rw e

    items-none : (n k q : ℕ) → n ≤ k → list_of read next (n - k) q ≡ []
    unfolding list_of
    items-none n k q h = let e : n - k ≡ zero = omega arith in rw e

    turn-text : (n k q : ℕ) → k < n → row_left text mark k (list_of read next (n - k) q) ≡ lead_of mark k ++ (text (read q) ++ row_left text mark (k + 1) (list_of read next (n - (k + 1)) (next q)))
    turn-text n k q h = ap (row_left text mark k) (items_more n k q h) ∙ row_more k (read q) (list_of read next (n - (k + 1)) (next q)) ∙ rw add-one

    turn-ok : (n k q : ℕ) → k < n → all_of ok (list_of read next (n - k) q) ≡ (true && (ok (read q) && all_of ok (list_of read next (n - (k + 1)) (next q))))
    unfolding all_of
    turn-ok n k q h = rw (items_more n k q h)

    -- what is left before item k, at place q
    abbrev pub RowAt : ℕ → ℕ → ℕ → Writer → List ℕ → Bool → Writer → Type 0
    RowAt n k q w bs g x = Leaves w bs g x (row_left text mark k (list_of read next (n - k) q)) (all_of ok (list_of read next (n - k) q))

    -- Kept in three answers, where each loop begins, beside bounds of its own: told to use it, the check gave up at a limit in all three.
    pub row-start : (n q : ℕ) (w : Writer) →
        RowAt n 0 q w (row_text text mark (list_of read next n q)) (all_of ok (list_of read next n q)) w
    unfolding row_left
    row-start n q w = let e : n - 0 ≡ n = omega arith in rw e (leaves-start w _ _)

    pub row-turn : (n k q : ℕ) {w : Writer} {bs : List ℕ} {g : Bool} {x : Writer} {x1 : Writer} {x2 : Writer} → k < n →
        RowAt n k q w bs g x → Wrote x (lead_of mark k) true x1 → Wrote x1 (text (read q)) (ok (read q)) x2 → RowAt n (k + 1) (next q) w bs g x2
    row-turn n k q h l a b =
        leaves_step (text (read q)) (row_left text mark (k + 1) (list_of read next (n - (k + 1)) (next q))) (ok (read q)) (all_of ok (list_of read next (n - (k + 1)) (next q)))
        (leaves_step (lead_of mark k) (text (read q) ++ row_left text mark (k + 1) (list_of read next (n - (k + 1)) (next q))) true (ok (read q) && all_of ok (list_of read next (n - (k + 1)) (next q)))
        (leaves_as (turn-text n k q h) (turn-ok n k q h) l) a) b

    pub row-stop : (n k q : ℕ) {w : Writer} {bs : List ℕ} {g : Bool} {x : Writer} → n ≤ k → RowAt n k q w bs g x → Wrote w bs g x
    unfolding all_of
    row-stop n k q h l = leaves_end (leaves_as (ap (row_left text mark k) (items-none n k q h) ∙ row-none k) (ap (all_of ok) (items-none n k q h)) l)

-- ---- the lead

pub lead-none : (mark : List ℕ) (k : ℕ) → k ≡ 0 → lead_of mark k ≡ []
unfolding lead_of
lead-none mark k e = rw e

pub lead-mark : (mark : List ℕ) (k : ℕ) → (k ≡ 0 → ⊥) → mark ≡ lead_of mark k
unfolding lead_of
lead-mark mark zero h = absurd (h refl)
lead-mark mark (suc k) h = refl

-- ---- a term

module _ (r : ℕ) (nm : List ℕ) {w x : Writer} where
  pub const-term : (t : Term) (c k : ℕ) → t ≡ Const c → k ≡ r + c → Wrote w (entry_name nm k) (is_entry nm k) x → Wrote w (term_text r nm t) (term_named r nm t) x
  unfolding term_text term_named
  const-term t c k e f v = rw (e, ← f) v

  pub var-term : (t : Term) (v b : ℕ) → t ≡ Var v → b ≡ 65 + v % 16 → Wrote w (b ∷ []) true x → Wrote w (term_text r nm t) (term_named r nm t) x
  unfolding term_text term_named
  var-term t v b e f g = rw (e, ← f) g

-- ---- brackets

pub brackets-none : {A : Type 0} (text : A → List ℕ) (ok : A → Bool) (read : ℕ → A) (next : ℕ → ℕ) (n q : ℕ) {w x : Writer} → n ≡ 0 →
    Wrote w [] true x → Wrote w (bracket_text text (list_of read next n q)) (all_of ok (list_of read next n q)) x
unfolding bracket_text list_of all_of
brackets-none text ok read next n q e v = rw e v

brackets-is : {A : Type 0} (text : A → List ℕ) (xs : List A) → 0 < length xs → bracket_text text xs ≡ (40 ∷ []) ++ (row_text text (44 ∷ []) xs ++ (41 ∷ []))
unfolding bracket_text
brackets-is text [] h = absurd (omega arith)
brackets-is text (x ∷ xs) h = refl

pub brackets-some : {A : Type 0} (text : A → List ℕ) (ok : A → Bool) (read : ℕ → A) (next : ℕ → ℕ) (n q : ℕ) {w x x1 x2 : Writer} → 0 < n →
    Wrote w (40 ∷ []) true x → Wrote x (row_text text (44 ∷ []) (list_of read next n q)) (all_of ok (list_of read next n q)) x1 → Wrote x1 (41 ∷ []) true x2 →
    Wrote w (bracket_text text (list_of read next n q)) (all_of ok (list_of read next n q)) x2
brackets-some text ok read next n q h a b c =
    rw (brackets-is text (list_of read next n q) (rw (list_length read next n q) h), ← true-right (all_of ok (list_of read next n q)))
    (wrote-both a (wrote-both b c))

-- ---- a literal

module _ (r : ℕ) (nm s : List ℕ) (at rel n : ℕ) {w x : Writer} where
  pub literal-equality : rel ≡ get_or s at 0 → n ≡ get_or s (at + 1) 0 → rel ≡ 255 →
      Wrote w (row_text (term_text r nm) (32 ∷ 61 ∷ 32 ∷ []) (terms_at s n (at + 2))) (all_of (term_named r nm) (terms_at s n (at + 2))) x →
      Wrote w (literal_text r nm (literal_of s at)) (literal_named r nm (literal_of s at)) x
  unfolding literal_text literal_named literal_of
  literal-equality e f h v = rw (← e, ← f, eq-eqb rel 255 h) v

  pub literal-call : {x1 : Writer} → rel ≡ get_or s at 0 → n ≡ get_or s (at + 1) 0 → (rel ≡ 255 → ⊥) →
      Wrote w (entry_name nm rel) (is_entry nm rel) x → Wrote x (bracket_text (term_text r nm) (terms_at s n (at + 2))) (all_of (term_named r nm) (terms_at s n (at + 2))) x1 →
      Wrote w (literal_text r nm (literal_of s at)) (literal_named r nm (literal_of s at)) x1
  unfolding literal_text literal_named literal_of
  literal-call e f h v u = rw (← e, ← f, ne_eqb rel 255 h) (wrote-both v u)

-- ---- a stage and a goal, by what their loops leave

pub stage-told : (r : ℕ) (nm s : List ℕ) (from n : ℕ) {w x : Writer} → n ≡ get_or s from 0 →
    Wrote w (row_text (literal_text r nm) comma_mark (list_of (literal_of s) (literal_end s) n (from + 1))) (all_of (literal_named r nm) (list_of (literal_of s) (literal_end s) n (from + 1))) x →
    Wrote w (row_text (literal_text r nm) comma_mark (stage_of s from)) (all_of (literal_named r nm) (stage_of s from)) x
unfolding stage_of
stage-told r nm s from n e v = rw (← e) v

abbrev pub stage_text : ℕ → List ℕ → List Literal → List ℕ
stage_text r nm st = row_text (literal_text r nm) comma_mark st

abbrev pub stage_named : ℕ → List ℕ → List Literal → Bool
stage_named r nm st = all_of (literal_named r nm) st

pub goal-told : (r : ℕ) (nm s : List ℕ) (from n : ℕ) {w x : Writer} → n ≡ get_or s from 0 →
    Wrote w (row_text (stage_text r nm) and_mark (list_of (stage_of s) (stage_end s) n (from + 1))) (all_of (stage_named r nm) (list_of (stage_of s) (stage_end s) n (from + 1))) x →
    Wrote w (goal_text r nm (goal_of s from)) (goal_named r nm (goal_of s from)) x
unfolding goal_of goal_text
goal-told r nm s from n e v = rw (← e) v
