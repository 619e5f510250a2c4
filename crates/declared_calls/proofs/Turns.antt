-- One turn of the loop over the calls of a text: the least one that the table does not have, and its mode line behind the table.
use mathlib.Core.Path.{◌∙◌, ◌≡◌, ap, sym}
use mathlib.Core.Bool.{Bool, false, not, true}
use mathlib.Core.List.{[], ◌∷◌, List}
use Prim.Native.Nat.{◌<◌, ◌≤◌, ℕ}
use lib.ListN.{drop, length, take}
use Rattle.declared_calls.proofs.Passes.{count, pass-end, pass-less, pass_on, pass-start, pass-stop, settled}
use Rattle.declared_calls.specs.Declares.{class_declared, Declares}
use Rattle.declared_calls.specs.declared.Named.{Named}
use Rattle.missing_call.specs.Called.{calls_from}
use Rattle.missing_call.specs.Least.{above, least, missing}
use Rattle.missing_call.specs.Sees.{one_at, OneIn}
use Rattle.read_names.proofs.Lined.{arity_known}
use Rattle.std.specs.Prelude.{is_some, None, Option, Some}
use Rattle.text_names.specs.Names.{known, Name}
use Rattle.read_names.specs.Tables.{Finds, mode_names, modes_from, names_at}
use Rattle.read_names.specs.declared.Entry.{Entry}
use Rattle.text_names.specs.Bytes.{front}
use Rattle.text_program.specs.Parsing.{all_of}

-- how many calls are above a bound
abbrev pub calls_above : List ℕ → ℕ → ℕ → Option ℕ → ℕ
calls_above s from left bound = count (above (one_at s bound)) (calls_from s from left)

-- each call of the class has a mode line or is above the bound
pub record Passing (s : List ℕ) (w : Named) (from left : ℕ) (bound : Option ℕ) : Type 0 where
  pub inside : OneIn s bound
  pub passed : all_of (settled w.class (mode_names (modes_from s w.from)) (one_at s bound)) (calls_from s from left) ≡ true

module _ {s t l : List ℕ} {w : Named} {from left : ℕ} (d : Declares s t l w) where
  pub turn-start : Passing s w from left None
  turn-start = record {
    inside = tt;
    passed = pass-start w.class (mode_names (modes_from s w.from)) (names_at s (take w.count t)) (mode_names (modes_from s w.rest)) (calls_from s from left) d.names;
  }

  module _ {bound : Option ℕ} (p : Passing s w from left bound) where
    -- the least call that is left, or none
    abbrev left_over : List Name
    left_over = least (missing w.class (names_at s (take w.count t)) (one_at s bound)) [] (calls_from s from left)

    pub turn_end : [] ≡ left_over → true ≡ class_declared s w.from w.class from left
    turn_end found =
        sym
        (pass-end w.class (mode_names (modes_from s w.from)) (names_at s (take w.count t)) (mode_names (modes_from s w.rest)) (calls_from s from left) d.names (one_at s bound) p.passed (sym found))

    module _ (at : ℕ) (found : front (drop at s) ∷ [] ≡ left_over) (r : Entry) (f : Finds (modes_from s w.rest) (front (drop at s)) r) where
      is-known : (b : Bool) → is_some r.arity ≡ b → known (mode_names (modes_from s w.rest)) (front (drop at s)) ≡ b
      is-known b h = sym (arity_known (modes_from s w.rest) (front (drop at s))) ∙ ap (λ (a : Option ℕ). is_some a) (sym f.arity) ∙ h

      module _ (b : Bool) (none : is_some r.arity ≡ not b) where
        -- it has no mode line
        pub turn-stop : b ≡ true → false ≡ class_declared s w.from w.class from left
        turn-stop k =
            sym
            (pass-stop w.class (mode_names (modes_from s w.from)) (names_at s (take w.count t)) (mode_names (modes_from s w.rest)) (calls_from s from left) d.names (one_at s bound) p.passed
            (front (drop at s)) (sym found) (is-known false (none ∙ ap not k)))

        -- it has one
        pub turn_on : b ≡ false → at ≤ length s → Passing s w from left (Some at)
        turn_on k i = record {
          inside = i;
          passed =
              pass_on w.class (mode_names (modes_from s w.from)) (names_at s (take w.count t)) (mode_names (modes_from s w.rest)) (calls_from s from left) d.names (one_at s bound) p.passed
              (front (drop at s)) (sym found) (is-known true (none ∙ ap not k));
        }

      -- fewer are above it
      pub turn-less : calls_above s from left (Some at) < calls_above s from left bound
      turn-less =
          pass-less w.class (mode_names (modes_from s w.from)) (names_at s (take w.count t)) (mode_names (modes_from s w.rest)) (calls_from s from left) d.names (one_at s bound) p.passed
          (front (drop at s)) (sym found)
