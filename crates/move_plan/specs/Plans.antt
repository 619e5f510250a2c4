-- What a plan means.
use Rattle.std.specs.Prelude.{Bool, cond, get_or, leb, List, Some, suc, zero, ℕ, ◌&&◌, ◌*◌, ◌+◌, ◌<◌}
use Rattle.move_plan.specs.declared.Plan.{Plan}
use Rattle.parlog.specs.Delta.{Delta}
use Rattle.parlog.specs.Rules.{Applied, by_rule, no_rule}
use Rattle.parlog.specs.Tables.{number_code, procs_of, row_size, State, vars_in}
use Rattle.parlog.specs.Unify.{change}
use Rattle.parlog.specs.declared.Change.{Change}
use Rattle.parlog.specs.declared.Term.TheVariants.{Const}
use Rattle.unify.specs.Pending.{pending}

-- ---- a plan

-- how many new processes a plan has room for
abbrev pub new_most : ℕ
new_most = 12

-- the bytes of their rows
abbrev pub new_size : ℕ
new_size = new_most * row_size

-- the change of the tables; the new processes wait as rows
unfoldable pub delta_of : Plan → Delta
delta_of pl = record {
  me = pl.me;
  cut = pl.cut;
  nap = pl.nap;
  new = procs_of pl.rows pl.count;
  changes = pending pl.changes;
  fresh = pl.fresh;
}

unfoldable pub applied_of : Plan → Applied
applied_of pl = cond pl.acts (by_rule pl.mv (delta_of pl)) no_rule

-- 11 ROOM, by numbers: the limits, the counts
unfoldable pub fits_in : ℕ → ℕ → ℕ → ℕ → ℕ → ℕ → Bool
fits_in procs vars n m count fresh = leb (n + count) procs && leb (m + fresh) vars

-- Turns 9: the row that a move touches which makes k processes after n
unfoldable pub touched : ℕ → ℕ → ℕ → ℕ
touched n p zero = p
touched n p (suc k) = n

-- ---- what a plan is carried out on

-- the tables' lists
abbrev pub state_in : List ℕ → ℕ → List ℕ → ℕ → State
state_in procs n vars m = record { procs = procs_of procs n; vars = vars_in vars m }

-- a change of one of the first m variables, to a term that a row can hold
abbrev pub Binds : ℕ → Change → Type 0
Binds m c = (c.var < m) × (number_code (Some c.to) < 16777216)

-- the first k changes are such
abbrev pub Within : ℕ → ℕ → List Change → Type 0
Within m k cs = (i : ℕ) → i < k → Binds m (get_or cs i (change 0 (Const 0)))
