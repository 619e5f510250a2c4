-- A relation found by its name in the tables, or not.
use mathlib.Core.Path.{◌∙◌, ◌≡◌, ap, refl, sym}
use mathlib.Core.Bool.{Bool, cond, false, true}
use mathlib.Core.List.{[], ◌∷◌, List, map}
use Prim.Native.Nat.{◌<◌, suc, ℕ}
use lib.ListN.{get_or, length, length-map, take}
use lib.Seq.{get_or-take}
use native.Mathlib.Omega.{arith}
use Rattle.mode_table.specs.Moded.{Moded}
use Rattle.mode_table.specs.declared.Lines.{Lines}
use Rattle.std.specs.Prelude.{None, Some}
use Rattle.name_index.proofs.Chains.{none-look, some-less}
use Rattle.read_names.proofs.Tabled.{names_fit}
use Rattle.read_names.specs.Tables.{arity_at, Finds, mode_names, modes_from, names_at}
use Rattle.text_names.specs.Names.{FoundAt, look, Name, same_name}
use Rattle.text_program.specs.Source.{ModeLine}

-- ---- rows of mode lines

abbrev arity_of : ModeLine → ℕ
arity_of m = length m.modes

arity-found : (ms : List ModeLine) (x : Name) → look (mode_names ms) x < length ms → arity_at ms x ≡ Some (get_or (map arity_of ms) (look (mode_names ms) x) 0)
unfolding arity_at look
arity-found [] x h = absurd (omega arith)
arity-found (m ∷ ms) x h = go (same_name m.name x) h (arity-found ms x)
  where
    go : (b : Bool) → cond b 0 (suc (look (mode_names ms) x)) < suc (length ms) → (look (mode_names ms) x < length ms → arity_at ms x ≡ Some (get_or (map arity_of ms) (look (mode_names ms) x) 0)) →
        cond b (Some (arity_of m)) (arity_at ms x) ≡ Some (get_or (arity_of m ∷ map arity_of ms) (cond b 0 (suc (look (mode_names ms) x))) 0)
    go true h more = refl
    go false h more = more (omega arith)

arity-none : (ms : List ModeLine) (x : Name) → look (mode_names ms) x ≡ length ms → arity_at ms x ≡ None
unfolding arity_at look
arity-none [] x h = refl
arity-none (m ∷ ms) x h = go (same_name m.name x) h (arity-none ms x)
  where
    go : (b : Bool) → cond b 0 (suc (look (mode_names ms) x)) ≡ suc (length ms) → (look (mode_names ms) x ≡ length ms → arity_at ms x ≡ None) → cond b (Some (arity_of m)) (arity_at ms x) ≡ None
    go true h more = absurd (omega arith)
    go false h more = more (omega arith)

-- ---- a relation

module _ (s t a l : List ℕ) (w : Lines) (x : Name) (m : Moded s t a l w) where
  names-are : length (mode_names (modes_from s w.from)) ≡ w.count
  names-are = ap length m.names ∙ names_fit s t w.count m.index.inside

  lines_are : length (modes_from s w.from) ≡ w.count
  lines_are = sym (length-map (modes_from s w.from) (λ (l : ModeLine). l.name)) ∙ names-are

  look-is : look (names_at s (take w.count t)) x ≡ look (mode_names (modes_from s w.from)) x
  look-is = ap (λ (xs : List Name). look xs x) (sym m.names)

  pub found_here : (k : ℕ) → FoundAt (names_at s (take w.count t)) x (Some k) → Finds (modes_from s w.from) x (record { number = k; arity = Some (get_or a k 0) })
  found_here k f =
      let d = lines_are in
      let h = some-less s t w.count x m.index.inside k f in
      let n = f.0 ∙ look-is in
      record {
        number = n;
        arity =
            ap (λ (i : ℕ). Some i)
            (sym (get_or-take w.count a k 0 h) ∙ ap (λ (r : List ℕ). get_or r k 0) (sym m.arities) ∙ ap (λ (i : ℕ). get_or (map arity_of (modes_from s w.from)) i 0) n)
            ∙ sym (arity-found (modes_from s w.from) x (omega arith));
      }

  pub found_none : FoundAt (names_at s (take w.count t)) x None → Finds (modes_from s w.from) x (record { number = w.count; arity = None })
  found_none f =
      let d = lines_are in
      let n = none-look s t w.count x m.index.inside f ∙ look-is in
      record { number = n; arity = sym (arity-none (modes_from s w.from) x (omega arith)) }
