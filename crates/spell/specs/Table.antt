-- The run over the tables: by states, and as the code makes it, by the places where their rows begin.
use Rattle.std.specs.Prelude.{[], ◌∷◌, List, map, ◌*◌, ◌+◌, suc, zero, ℕ, eqb, get_or, Result, ⊤, Err}
use Rattle.spell.specs.Rows.{kind_count, kinds, last_state, rows}
use Rattle.spell.specs.Stuck.{ended}

-- the state that follows state q at byte b
unfoldable pub follows : ℕ → ℕ → ℕ
follows q b = get_or rows (q * kind_count + get_or kinds b 0) 0

-- state 0 is none: the byte at place i is the one
abbrev pub moves : (ℕ → ℕ → Result ⊤ ℕ) → ℕ → ℕ → Result ⊤ ℕ
moves f zero i = Err i
moves f (suc q) i = f (suc q) (i + 1)

-- the run from state q, at place i
unfoldable pub run : List ℕ → ℕ → ℕ → Result ⊤ ℕ
run [] q i = ended (eqb q last_state) i
run (b ∷ s) q i = moves (run s) (follows q b) i

-- for each state that follows, where its row begins
unfoldable pub steps : List ℕ
steps = map (λ (q : ℕ). q * kind_count) rows

-- the row that follows the one at place p, at byte b
unfoldable pub row_after : ℕ → ℕ → ℕ
row_after p b = get_or steps (p + get_or kinds b 0) 0

-- the run from the row at place p, at place i of the text
unfoldable pub row_run : List ℕ → ℕ → ℕ → Result ⊤ ℕ
row_run [] p i = ended (eqb p (last_state * kind_count)) i
row_run (b ∷ s) p i = moves (row_run s) (row_after p b) i
