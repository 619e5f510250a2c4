-- Terms, literals and goals: what is said is what is read.
use mathlib.Core.Path.{◌∙◌, ◌≡◌, ap}
use mathlib.Core.Bool.{false, true}
use mathlib.Core.List.{[], ◌∷◌, List}
use Prim.Native.Nat.{◌<◌, ◌≤◌, suc, zero, ℕ}
use lib.Dec.{eqb}
use lib.ListN.{length}
use borrow.Author.Tests.{eq-eqb, ne_eqb}
use native.Mathlib.Omega.{arith}
use Rattle.spell.specs.Forms.{Reads}
use Rattle.spell.specs.Grammar.{blanks}
use Rattle.text_back.proofs.Begin.{front-none}
use Rattle.text_forth.proofs.Follows.{and-closed, blanks-before, capital-in-name, close-solid, Closed, comma-closed, comma-solid, equals-solid, First, letter-solid, letter-some, literal-letter, lower-past, mark-at, mark-back, mark-next, mark-shorter, N, name-first, one, shorter, Shut, small-in-name, Solid, span-first, term-past, term-starts, terms-solid}
use Rattle.text_names.specs.Bytes.{first, front, is_blank, is_name, next, past}
use Rattle.text_names.specs.Names.{Name}
use Rattle.text_program.specs.Source.{calls, cons_got, equals, Got, got, read_brackets, Reader, read_goal, read_literal, read_term, row, row_for, Said}
use Rattle.text_said.proofs.Spelled.{literal-spelled, lower-spelled, term-spelled, terms-spelled}
use Rattle.text_said.specs.Saying.{a_byte, a_call, a_constant, a_lower, a_variable, an_equality, in_brackets, last_item, next_item, no_brackets, no_byte, Saying, SaysBrackets, SaysBytes, SaysGoal, SaysLiteral, SaysLower, SaysRow, SaysStage, SaysTerm}

-- ---- words

byte-is : {b : ℕ} {s t : List ℕ} → First N (b ∷ s) t → is_name b ≡ true
byte-is (one e) = e

bytes-front : {s t : List ℕ} {x : Name} → SaysBytes s x t → is_name (first t) ≡ false → front s ≡ x
unfolding front
bytes-front {s} no_byte h = front-none s h
bytes-front (a_byte {b = b} a p) h = rw (byte-is (name-first a)) (ap (λ (y : Name). b ∷ y) (bytes-front p h))

letter-front : {b : ℕ} {s t u : List ℕ} {x : Name} → First N (b ∷ s) s → SaysBytes s x t → Reads blanks t u → Solid u → front (b ∷ s) ≡ b ∷ x
unfolding front
letter-front {b} a p r h = rw (byte-is a) (ap (λ (y : Name). b ∷ y) (bytes-front p (blanks-before r h.name)))

pub lower-front : {s t : List ℕ} {x : Name} → SaysLower s x t → Solid t → front s ≡ x
lower-front (a_lower a p r) h = letter-front (span-first {P = N} small-in-name a) p r h

term-front : {s t : List ℕ} {x : Name} → SaysTerm s x t → Solid t → front s ≡ x
term-front (a_constant w) h = lower-front w h
term-front (a_variable a p r) h = letter-front (span-first {P = N} capital-in-name a) p r h

term-once : (s : List ℕ) (x : Name) (t : List ℕ) → SaysTerm s x t → Solid t → read_term s ≡ got x t
unfolding read_term
term-once s x t w h = rw (term-front w h, term-past (term-spelled w) h)

-- ---- rows of items

-- an item begins with a byte that is no blank, and does not make the text longer
abbrev pub Begins : List ℕ → List ℕ → Type 0
Begins s t = (is_blank (first s) ≡ false) × (0 < length s) × (length t ≤ length s)

module _ {A : Type 0} (Item : Saying A) (read : Reader A) (k : ℕ) (Shut : List ℕ → Type 0)
    (item : (s : List ℕ) (x : A) (t : List ℕ) → Item s x t → Shut t → read s ≡ got x t)
    (begins : (s : List ℕ) (x : A) (t : List ℕ) → Item s x t → Begins s t)
    (shut : (t : List ℕ) → first t ≡ k → Shut t) where
  row_last : (n : ℕ) (s t : List ℕ) (x : A) → read s ≡ got x t → (first t ≡ k → ⊥) → row_for (suc n) read k s ≡ got (x ∷ []) t
  unfolding row_for
  row_last n s t x e h = rw (e, ne_eqb (first t) k h)

  row_next : (n : ℕ) (s m v : List ℕ) (x : A) (g : Got (List A)) → read s ≡ got x m → first m ≡ k → next m ≡ v → row_for n read k v ≡ g → row_for (suc n) read k s ≡ cons_got x g
  unfolding row_for
  row_next n s m v x g e h f o = rw (e, eq-eqb (first m) k h, f, o)

  row-begins : {s t : List ℕ} {xs : List A} → SaysRow Item k s xs t → Begins s t
  row-begins {s} {t} (last_item {x = x} w) = begins s x t w
  row-begins {s} {t} (next_item {t = m} {u = u} {x = x} w a p) =
      let (b, l, i) = begins s x m w in
      let (d, o, j) = row-begins p in
      let z = mark-shorter (mark-back a) in
      (b, l, omega arith)

  row-once : (n : ℕ) {s t : List ℕ} {xs : List A} → SaysRow Item k s xs t → Shut t → (first t ≡ k → ⊥) → length s ≤ n → row_for n read k s ≡ got xs t
  row-once zero {s} w h o l = absurd (let (b, i, j) = row-begins w in omega arith)
  row-once (suc n) {s} {t} (last_item {x = x} w) h o l = row_last n s t x (item s x t w h) o
  row-once (suc n) {s} {t} (next_item {t = m} {u = v} {x = x} {xs = xs} w a p) h o l =
      let z = mark-back a in
      row_next n s m v x (got xs t) (item s x m w (shut m (mark-at z))) (mark-at z) (mark-next z (row-begins p).0)
      (row-once n p h o (let (b, i, j) = begins s x m w in let c = mark-shorter z in omega arith))

-- ---- items in brackets

module _ {A : Type 0} (Item : Saying A) (read : Reader A)
    (item : (s : List ℕ) (x : A) (t : List ℕ) → Item s x t → Solid t → read s ≡ got x t)
    (begins : (s : List ℕ) (x : A) (t : List ℕ) → Item s x t → Begins s t) where
  brackets-yes : (s v u t : List ℕ) (xs : List A) → first s ≡ 40 → next s ≡ v → row read 44 v ≡ got xs u → next u ≡ t → read_brackets read s ≡ got xs t
  unfolding read_brackets
  brackets-yes s v u t xs e k w h = rw (eq-eqb (first s) 40 e, k, w, h)

  brackets-no : (s : List ℕ) → (first s ≡ 40 → ⊥) → read_brackets read s ≡ got [] s
  unfolding read_brackets
  brackets-no s h = rw (ne_eqb (first s) 40 h)

  pub brackets-once : {s t : List ℕ} {xs : List A} → SaysBrackets Item s xs t → is_blank (first t) ≡ false → (first t ≡ 40 → ⊥) → read_brackets read s ≡ got xs t
  brackets-once {s} no_brackets h n = brackets-no s n
  brackets-once {s} {t} {xs} (in_brackets {t = v} {u = u} a p e) h n =
      let w = mark-back a in
      let z = mark-back e in
      let c = mark-at z in
      brackets-yes s v u t xs (mark-at w) (mark-next w (row-begins Item read 44 Solid item begins comma-solid p).0)
      (row-once Item read 44 Solid item begins comma-solid (length v) p (close-solid u c) (λ q. omega arith) (omega arith)) (mark-next z h)

term-begins : (s : List ℕ) (x : Name) (t : List ℕ) → SaysTerm s x t → Begins s t
term-begins s x t w = let r = term-spelled w in let (b, l) = term-starts s t r in (b, l, shorter r)

pub terms-once : {s t : List ℕ} {xs : List Name} → SaysBrackets SaysTerm s xs t → is_blank (first t) ≡ false → (first t ≡ 40 → ⊥) → read_brackets read_term s ≡ got xs t
terms-once = brackets-once SaysTerm read_term term-once term-begins

-- ---- literals

call-once : (s m t : List ℕ) (x : Name) (xs : List Name) → front s ≡ x → past s ≡ m → (first m ≡ 61 → ⊥) → read_brackets read_term m ≡ got xs t → read_literal s ≡ got (calls x xs) t
unfolding read_literal
call-once s m t x xs f e h w = let o : eqb (first (past s)) 61 ≡ false = ap (λ (u : List ℕ). eqb (first u) 61) e ∙ ne_eqb (first m) 61 h in rw (o, f, e, w)

equality-once : (s m v t : List ℕ) (x y : Name) → front s ≡ x → past s ≡ m → first m ≡ 61 → next m ≡ v → read_term v ≡ got y t → read_literal s ≡ got (equals x y) t
unfolding read_literal
equality-once s m v t x y f e h k w = let o : eqb (first (past s)) 61 ≡ true = ap (λ (u : List ℕ). eqb (first u) 61) e ∙ eq-eqb (first m) 61 h in rw (o, f, e, k, w)

literal-once : (s : List ℕ) (l : Said) (t : List ℕ) → SaysLiteral s l t → Closed t → read_literal s ≡ got l t
literal-once s l t (a_call {t = m} {x = x} {xs = xs} p q) h =
    let w = terms-solid (terms-spelled q) h in
    call-once s m t x xs (lower-front p w.0) (lower-past (lower-spelled p) w.0) w.1 (terms-once q h.solid.blank h.bracket)
literal-once s l t (an_equality {t = m} {u = v} {x = x} {y = y} p a q) h =
    let w = mark-back a in
    let o = equals-solid m (mark-at w) in
    equality-once s m v t x y (term-front p o) (term-past (term-spelled p) o) (mark-at w) (mark-next w (term-begins v y t q).0) (term-once v y t q h.solid)

literal-begins : (s : List ℕ) (l : Said) (t : List ℕ) → SaysLiteral s l t → Begins s t
literal-begins s l t w = let r = literal-spelled w in let e = literal-letter r in (letter-solid s e, letter-some s e, shorter r)

-- ---- goals: the same law of rows, twice

-- what cannot go on with a stage
abbrev ShutStage : List ℕ → Type 0
ShutStage t = Closed t × (first t ≡ 44 → ⊥)

stage-begins : (s : List ℕ) (st : List Said) (t : List ℕ) → SaysStage s st t → Begins s t
stage-begins s st t w = row-begins SaysLiteral read_literal 44 Closed literal-once literal-begins comma-closed w

stage-once : (s : List ℕ) (st : List Said) (t : List ℕ) → SaysStage s st t → ShutStage t → row read_literal 44 s ≡ got st t
stage-once s st t w h = row-once SaysLiteral read_literal 44 Closed literal-once literal-begins comma-closed (length s) w h.0 h.1 (omega arith)

and-shut : (t : List ℕ) → first t ≡ 38 → ShutStage t
and-shut t e = (and-closed t e, λ z. omega arith)

pub goal-once : {s t : List ℕ} {g : List (List Said)} → SaysGoal s g t → Shut t → read_goal s ≡ got g t
unfolding read_goal
goal-once {s} w h = row-once SaysStage (row read_literal 44) 38 ShutStage stage-once stage-begins and-shut (length s) w (h.closed, h.comma) h.both (omega arith)
