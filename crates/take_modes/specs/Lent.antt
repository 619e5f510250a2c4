-- The tables of mode lines that are lent.
use Rattle.std.specs.Prelude.{◌≡◌, length}
use Rattle.take_modes.specs.declared.Tables.{Tables}

-- the same rows are lent, as long as before
abbrev pub Same : Tables → Tables → Type 0
Same t u =
    (u.places.ghost_name ≡ t.places.ghost_name) × (u.arities.ghost_name ≡ t.arities.ghost_name) × (u.links.ghost_name ≡ t.links.ghost_name) × (length u.places.now ≡ length t.places.now)
    × (length u.arities.now ≡ length t.arities.now)
    × (length u.links.now ≡ length t.links.now)
