-- The rows of an image that is being made.
use Rattle.std.specs.Prelude.{List, ◌≡◌, ℕ}
use Rattle.take_term.specs.Takes.{Rows, rows}
use Rattle.take_term.specs.declared.Draft.{Draft}

-- what they hold, with the places of a clause's variables
abbrev pub rows_in : Draft → List ℕ → Rows
rows_in d v = rows d.out.now d.consts.now d.links.now v

-- the same rows are lent
abbrev pub Same : Draft → Draft → Type 0
Same d e = (e.out.ghost_name ≡ d.out.ghost_name) × (e.consts.ghost_name ≡ d.consts.ghost_name) × (e.links.ghost_name ≡ d.links.ghost_name)
