-- The tests as the code takes them: by the number of the tag, a part behind the other.
use Rattle.std.specs.Prelude.{◌&&◌, ◌||◌, Bool, cond, not, true, List, ℕ, eqb, leb, ltb, length}
use Rattle.parlog.specs.Image.{equality}
use Rattle.parlog.specs.Program.{block_count, clause_at, goal_at, literal_at, Program, split_at, stage_at}
use Rattle.parlog.specs.TableRules.{cell_known, found_in, stage_in, var_ok}
use Rattle.parlog.specs.Tables.{vars_in}
use Rattle.parlog.specs.declared.Spot.{Spot}

-- what a tag asks besides a call of relation rel, of a process that waits or does not
unfoldable pub behind_call : ℕ → Bool → Program → ℕ → Spot → ℕ → Bool
behind_call t waits pr n z rel =
    cond (eqb t 4 || (eqb t 3 && waits)) (ltb z.block (block_count pr rel))
    (cond (ltb t 4) true (found_in pr n z && eqb (clause_at pr z.found).rel rel))

-- what a tag asks of a literal of relation rel
unfoldable pub behind_literal : ℕ → Bool → Program → ℕ → Spot → ℕ → Bool
behind_literal t waits pr n z rel = cond (ltb 7 t) (eqb rel equality) (not (eqb rel equality) && behind_call t waits pr n z rel)

-- what a tag asks besides a goal
unfoldable pub behind_goal : ℕ → Bool → Program → ℕ → Spot → Bool
behind_goal t waits pr n z =
    cond (ltb t 2) (cond (eqb t 0 || waits) (stage_in pr z) (leb z.stage (length (goal_at pr z))) && (eqb t 0 || not (split_at pr z)))
    (ltb z.literal (length (stage_at pr z)) && behind_literal t waits pr n z (literal_at pr z).rel)

-- both tests of the row of variable v
unfoldable pub cell_ok : List ℕ → ℕ → ℕ → Bool
cell_ok l n v = cell_known l v && var_ok (vars_in l n) v
