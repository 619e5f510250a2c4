-- The mode lines of a text in tables.
use Rattle.std.specs.Prelude.{List, map, ◌≡◌, ℕ, length, take}
use Rattle.mode_table.specs.declared.Lines.{Lines}
use Rattle.name_index.specs.Index.{Indexed}
use Rattle.read_names.specs.Tables.{mode_names, modes_from, names_at}
use Rattle.text_program.specs.Source.{ModeLine}

-- the mode lines of a text, each of another name, are in table t by the places of their names, and in a by how many modes they have
pub record Moded (s t a l : List ℕ) (w : Lines) : Type 0 where
  pub names : mode_names (modes_from s w.from) ≡ names_at s (take w.count t)
  pub arities : map (λ (m : ModeLine). length m.modes) (modes_from s w.from) ≡ take w.count a
  pub index : Indexed s t l w.count
  pub size : length a ≡ length t
