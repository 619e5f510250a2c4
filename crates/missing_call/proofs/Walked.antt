-- What is left of a row gives what the whole gives.
use mathlib.Core.Path.{◌∙◌, ◌≡◌, ap, sym}
use mathlib.Core.List.{[], ◌∷◌, List}
use Prim.Native.Nat.{◌≤◌, ℕ}
use lib.ListN.{drop, length}
use Rattle.missing_call.proofs.Folded.{least-none, least_on}
use Rattle.missing_call.specs.Sees.{least_of, OneIn, Sees, Within}
use Rattle.missing_call.specs.declared.Asked.{Asked}
use Rattle.missing_call.specs.declared.Seen.{Seen}
use Rattle.text_names.specs.Names.{Name}
use Rattle.text_program.proofs.Joined.{joined-cons, joined-none, joined-one}
use Rattle.text_program.specs.Numbered.{joined}
use Rattle.text_program.specs.Source.{cons_got, Got, got}

-- of the row W, which is walked over from w on, there is left Y, from v on
pub record Walked {A : Type 0} (f : A → List Name) (s t : List ℕ) (a : Asked) (w : Seen) (W : Got (List A)) (v : Seen) (Y : Got (List A)) : Type 0 where
  pub rest : Y.rest ≡ W.rest
  pub name : least_of s t a v (joined f Y.value) ≡ least_of s t a w (joined f W.value)
  pub inside : v.end ≤ length s
  pub within : OneIn s v.at

-- both places of a walk are in the text
pub within_of : {s : List ℕ} {v : Seen} → v.end ≤ length s → OneIn s v.at → Within s v
within_of h i = record { inside = h; within = i }

-- the least name with those of a row
abbrev named : {A : Type 0} → (A → List Name) → List ℕ → List ℕ → Asked → Seen → Got (List A) → List Name
named f s t a v Y = least_of s t a v (joined f Y.value)

module _ {A : Type 0} (f : A → List Name) (s t : List ℕ) (a : Asked) (w : Seen) {W : Got (List A)} where
  pub walked_start : {Y : Got (List A)} → Within s w → Y ≡ W → Walked f s t a w W w Y
  walked_start k e = record { rest = ap (λ (y : Got (List A)). y.rest) e; name = ap (named f s t a w) e; inside = k.inside; within = k.within }

  pub walked_on : {v u : Seen} {Y Z : Got (List A)} {rest : List ℕ} (x : A) (e : ℕ) → Y ≡ cons_got x Z → Sees s rest (least_of s t a v (f x)) u → e ≤ length s →
      Walked f s t a w W v Y → Walked f s t a w W (record { end = e; at = u.at }) Z
  walked_on {v = v} {u = u} {Z = Z} x e split sees h k =
      record {
        rest = sym (ap (λ (y : Got (List A)). y.rest) split) ∙ k.rest;
        name = least_on s t a v u (f x) (joined f Z.value) sees.name ∙ sym (ap (least_of s t a v) (joined-cons f x Z.value)) ∙ sym (ap (named f s t a v) split) ∙ k.name;
        inside = h;
        within = sees.within;
      }

  pub walked-last : {v u : Seen} {Y : Got (List A)} {rest : List ℕ} (x : A) → Y ≡ got (x ∷ []) (drop u.end s) → Sees s rest (least_of s t a v (f x)) u → Walked f s t a w W v Y →
      Sees s W.rest (named f s t a w W) u
  walked-last {v = v} x split sees k =
      record {
        end = sym (ap (λ (y : Got (List A)). y.rest) split) ∙ k.rest;
        inside = sees.inside;
        name = sees.name ∙ sym (ap (least_of s t a v) (joined-one f x)) ∙ sym (ap (named f s t a v) split) ∙ k.name;
        within = sees.within;
      }

  pub walked-done : {v : Seen} {Y : Got (List A)} → Y ≡ got [] (drop v.end s) → Walked f s t a w W v Y → Sees s W.rest (named f s t a w W) v
  walked-done {v = v} split k =
      record {
        end = sym (ap (λ (y : Got (List A)). y.rest) split) ∙ k.rest;
        inside = k.inside;
        name = sym (least-none s t a v) ∙ sym (ap (least_of s t a v) (joined-none f)) ∙ sym (ap (named f s t a v) split) ∙ k.name;
        within = k.within;
      }
