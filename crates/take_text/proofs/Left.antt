-- What is left to add to a table of the names of a row.
use mathlib.Core.Path.{◌∙◌, ◌≡◌, ap, refl, sym}
use mathlib.Core.Bool.{Bool}
use mathlib.Core.List.{[], ◌++◌, List}
use Prim.Native.Nat.{◌≤◌, ℕ}
use lib.ListN.{length, take}
use lib.Seq.{take_all}
use native.Mathlib.Omega.{arith}
use Rattle.read_names.proofs.Tabled.{names_fit, sorted-append, sorted_none}
use Rattle.read_names.specs.Tables.{Adds, names_at, sorted}
use Rattle.text_names.proofs.Added.{adds-append, cap-adds}
use Rattle.text_names.specs.Names.{adds, Name}
use Rattle.text_program.specs.Numbered.{joined}
use Rattle.text_program.specs.Source.{cons_got, Got, got}

-- of the names `whole`, to be added to table t with n, there are left `rest`, to be added to table u with m
pub record AddsLeft (s t : List ℕ) (n : ℕ) (u : List ℕ) (m : ℕ) (whole rest : List Name) (q : ℕ) : Type 0 where
  pub names : take (length t) (adds (names_at s (take m u)) rest) ≡ take (length t) (adds (names_at s (take n t)) whole)
  pub size : length u ≡ length t
  pub fits : m ≤ length u
  pub inside : q ≤ length s

pub left-start : (s t : List ℕ) (n : ℕ) (whole rest : List Name) (q : ℕ) → rest ≡ whole → n ≤ length t → q ≤ length s → AddsLeft s t n t n whole rest q
left-start s t n whole rest q e h i = record { names = ap (λ (l : List Name). take (length t) (adds (names_at s (take n t)) l)) e; size = refl; fits = h; inside = i }

left-on : {s t : List ℕ} {n : ℕ} {u : List ℕ} {m : ℕ} {v : List ℕ} {k : ℕ} {whole rest : List Name} {q p : ℕ} (xs zs : List Name) → rest ≡ xs ++ zs → p ≤ length s →
    AddsLeft s t n u m whole rest q → Adds s u m v k xs → AddsLeft s t n v k whole zs p
left-on {s} {t} {n} {u} {m} {v} {k} xs zs e i l f =
    record {
      names =
          rw (f.names, l.size) (cap-adds (length t) zs (adds (names_at s (take m u)) xs))
          ∙ ap (λ (y : List Name). take (length t) y) (adds-append xs zs (names_at s (take m u)))
          ∙ ap (λ (y : List Name). take (length t) (adds (names_at s (take m u)) y)) (sym e)
          ∙ l.names;
      size = f.size ∙ l.size;
      fits = f.inside;
      inside = i;
    }

left_end : {s t : List ℕ} {n : ℕ} {u : List ℕ} {m : ℕ} {whole rest : List Name} {q : ℕ} → rest ≡ [] → AddsLeft s t n u m whole rest q → Adds s t n u m whole
unfolding adds
left_end {s} {t} {n} {u} {m} e l =
    let h = l.fits in
    let z = l.size in
    let f : length (names_at s (take m u)) ≤ length t = omega (arith, names_fit s u m h) in
    record {
      names = sym (take_all (length t) (names_at s (take m u)) f) ∙ ap (λ (y : List Name). take (length t) (adds (names_at s (take m u)) y)) (sym e) ∙ l.names;
      size = l.size;
      inside = l.fits;
    }

-- ---- rows

module _ {A : Type 0} (up : Bool) (names : A → List Name) where
  abbrev pub row_names : Got (List A) → List Name
  row_names g = sorted up (joined names g.value)

  module _ {s t : List ℕ} {n : ℕ} {u : List ℕ} {m : ℕ} {whole : List Name} {q : ℕ} where
    pub left-item : {v : List ℕ} {k : ℕ} (x : A) (p : ℕ) (Y Z : Got (List A)) → Y ≡ cons_got x Z → p ≤ length s →
        AddsLeft s t n u m whole (row_names Y) q → Adds s u m v k (sorted up (names x)) → AddsLeft s t n v k whole (row_names Z) p
    unfolding joined
    left-item x p Y Z e i l f = left-on (sorted up (names x)) (row_names Z) (ap row_names e ∙ sorted-append up (names x) (joined names Z.value)) i l f

    pub left-done : (rest : List ℕ) (Y : Got (List A)) → Y ≡ got [] rest → AddsLeft s t n u m whole (row_names Y) q → Adds s t n u m whole
    unfolding joined
    left-done rest Y e l = left_end (ap row_names e ∙ sorted_none up) l
