-- The table cleared and filled for one class after the other.
use mathlib.Core.Path.{◌∙◌, ◌≡◌, ap, refl, sym}
use mathlib.Core.Bool.{Bool, false, not, true}
use mathlib.Core.List.{List}
use Prim.Native.Nat.{◌+◌, ◌-◌, ◌<◌, ◌≤◌, ℕ}
use lib.ListN.{drop, length}
use borrow.Author.Tests.{not-false, not-true}
use native.Mathlib.Omega.{arith}
use Rattle.declared_calls.proofs.Clearing.{cleared-index}
use Rattle.declared_calls.proofs.Fitted.{calls-fit, class-stops, classes-all, fit-behind}
use Rattle.declared_calls.proofs.Gathered.{links-kept}
use Rattle.declared_calls.specs.Declares.{all_named, Answers, class_declared, Cleared, declared_for, Names}
use Rattle.declared_calls.specs.declared.Named.{Named}
use Rattle.name_index.specs.Index.{Indexed}
use Rattle.parlog.proofs.Scans.{below_suc}
use Rattle.text_program.specs.Source.{is_mode_line, lines, read_mode_line}

-- ---- class by class

-- a table of class k tells of that class
named_here : {s t u l : List ℕ} {m k : ℕ} {w : Named} (from left : ℕ) → Names s t m k u l w → class_declared s w.from w.class from left ≡ class_declared s m k from left
named_here {s = s} {m = m} {w = w} from left n =
    ap (λ (i : ℕ). class_declared s i w.class from left) n.from ∙ ap (λ (i : ℕ). class_declared s m i from left) n.class

-- the calls of the first k classes have mode lines, and the rows are as long as at first
pub record Passed (s : List ℕ) (m from left : ℕ) (t l u h : List ℕ) (k : ℕ) : Type 0 where
  pub calls : (i : ℕ) → i < k → class_declared s m i from left ≡ true
  pub places : length u ≡ length t
  pub links : length h ≡ length l

module _ {s : List ℕ} {m from left : ℕ} {t l : List ℕ} where
  pub passed_start : Passed s m from left t l t l 0
  passed_start = record { calls = λ i g. absurd (omega arith); places = refl; links = refl }

  module _ {u h : List ℕ} {k : ℕ} (p : Passed s m from left t l u h k) (sizes : length l ≡ 512 + length t) (small : length t ≤ 65535) where
    pub passed-clear : {o : List ℕ} → Cleared h o → Indexed s u o 0
    passed-clear c = let a = p.places in let b = p.links in cleared-index s u c (omega arith) (omega arith)

    module _ {o v g : List ℕ} {w : Named} (c : Cleared h o) (n : Names s u m k v g w) where
      pub passed-sizes : (length v ≡ length t) × (length g ≡ length l)
      passed-sizes = (n.size ∙ p.places, links-kept n (passed-clear c) ∙ c.size ∙ p.links)

      module _ (r : Bool) (told : r ≡ class_declared s w.from w.class from left) where
        here : r ≡ class_declared s m k from left
        here = told ∙ named_here from left n

        pub passed-stop : not r ≡ true → false ≡ declared_for s m from left
        passed-stop e = class-stops s m from left k (sym here ∙ not-true r e)

        pub passed_on : not r ≡ false → Passed s m from left t l v g (k + 1)
        passed_on e = record {
          calls = λ i j. below_suc i k (omega arith) (λ z. rw z (sym here ∙ not-false r e)) (λ z. p.calls i z);
          places = passed-sizes.0;
          links = passed-sizes.1;
        }

  pub passed-end : {u h : List ℕ} {k : ℕ} → Passed s m from left t l u h k → 16 ≤ k → true ≡ declared_for s m from left
  passed-end p g = classes-all s m from left (λ i j. p.calls i (omega arith))

-- ---- by one table

-- a table of all names
pub all_told : (s : List ℕ) (m n from left : ℕ) {r : Bool} {w : Named} → w ≡ all_named s m n → r ≡ class_declared s w.from w.class from left → r ≡ declared_for s m from left
all_told s m n from left e f = f ∙ ap (λ (v : Named). class_declared s v.from v.class from left) e ∙ calls-fit s m from left

-- or of those that there was room for
module _ {s t u l : List ℕ} {m : ℕ} {w : Named} (from : ℕ) (n : Names s t m 16 u l w) (behind : drop from s ≡ (lines is_mode_line read_mode_line (drop w.rest s)).rest) {r : Bool} where
  pub behind-each : r ≡ declared_for s m from (length s - from) → Answers s m r
  behind-each e = record { declared = e ∙ fit-behind s m from (behind ∙ n.behind); place = from; behind = behind ∙ n.behind }

  pub behind-once : r ≡ class_declared s w.from w.class from (length s - from) → Answers s m r
  behind-once e = behind-each (e ∙ named_here from (length s - from) n ∙ calls-fit s m from (length s - from))
