-- One turn of the loops over entries.
use mathlib.Core.Path.{ap, refl, sym, ◌∙◌, ◌≡◌}
use mathlib.Core.Bool.{true}
use mathlib.Core.List.{[], append_assoc, List, ◌++◌, ◌∷◌}
use Prim.Native.Nat.{ℕ, ◌+◌, ◌<◌, ◌≤◌}
use lib.ListN.{drop, drop_of_length-le, get_or, length}
use lib.Seq.{drop-cons}
use native.Mathlib.Numerals.{add-one}
use Rattle.lay_text.proofs.Laws.{left_as, left_end, left_step}
use Rattle.lay_text.specs.Laying.{Left, Writes}
use Rattle.lay_text.specs.declared.To.{To}
use Rattle.read_names.specs.Tables.{names_at}
use Rattle.text_names.specs.Bytes.{front}
use Rattle.text_names.specs.Entries.{entries}
use Rattle.text_names.specs.Names.{Name}

entries-cons : (x : Name) (xs : List Name) → entries (x ∷ xs) ≡ (x ++ (10 ∷ [])) ++ entries xs
unfolding entries
entries-cons x xs = sym (append_assoc x (10 ∷ []) (entries xs))

module _ {o : List ℕ} {w : To} {bs : List ℕ} {p : List ℕ} {x : To} {q : List ℕ} {y : To} where
  pub entry-on : (names : List Name) (a b : Name) (xs : List Name) → names ≡ a ∷ xs → b ≡ a → Left o w bs true p x (entries names) true → Writes p x (b ++ (10 ∷ [])) true q y → Left o w bs true q y (entries xs) true
  entry-on names a b xs e f l v = left_step (a ++ (10 ∷ [])) (entries xs) true true (left_as (ap entries e ∙ entries-cons a xs) refl l) (rw f at v)

pub entry-end : {o : List ℕ} {w : To} {bs : List ℕ} {p : List ℕ} {x : To} (names : List Name) → names ≡ [] → Left o w bs true p x (entries names) true → Writes o w bs true p x
unfolding entries
entry-end names e l = left_end (left_as (ap entries e) refl l)

pub table_on : (s t : List ℕ) (i : ℕ) → i < length t → names_at s (drop i t) ≡ front (drop (get_or t i 0) s) ∷ names_at s (drop (i + 1) t)
unfolding names_at
table_on s t i h = rw (add-one, drop-cons t i 0 h)

pub table-end : (s t : List ℕ) (i : ℕ) → length t ≤ i → names_at s (drop i t) ≡ []
unfolding names_at
table-end s t i h = rw (drop_of_length-le t h)
