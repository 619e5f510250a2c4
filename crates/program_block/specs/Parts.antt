-- Whether a clause opens a block, from what a pass over the clauses has at hand.
use Rattle.std.specs.Prelude.{◌&&◌, Bool, false, not, suc, zero, ℕ, eqb}
use Rattle.parlog.specs.Program.{clause_at, Program}

-- whether a clause opens a block of relation q: from its relation, whether the clause before it is of q, and its mark
unfoldable pub opens_by : ℕ → Bool → ℕ → ℕ → Bool
opens_by rel own mark q = eqb rel q && not (own && eqb mark 0)

-- whether there is a clause before clause k and it is of relation q
unfoldable pub own_before : Program → ℕ → ℕ → Bool
own_before pr q zero = false
own_before pr q (suc k) = eqb (clause_at pr k).rel q
