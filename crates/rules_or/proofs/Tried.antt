-- The processes that try the clauses of a block, row by row.
use Rattle.std.specs.Prelude.{None}
use mathlib.Core.Path.{ap, sym, ◌∙◌, ◌≡◌}
use mathlib.Core.List.{[], append-nil, append_assoc, List, ◌++◌, ◌∷◌}
use Prim.Native.Nat.{suc, ℕ, ◌+◌, ◌-◌, ◌<◌}
use lib.ListN.{drop, get_or, length, length-append}
use lib.Seq.{drop-cons, drop-length}
use native.Mathlib.Omega.{arith}
use native.Mathlib.Numerals.{add-one}
use Rattle.move_plan.proofs.Made.{touches}
use Rattle.move_plan.specs.Plans.{touched}
use Rattle.parlog.specs.Codes.{or_search, ready, try_clause, waiting}
use Rattle.parlog.specs.Delta.{making, try_spot, with_mode}
use Rattle.parlog.specs.Program.{block_of, literal_at, Program, vars_of}
use Rattle.parlog.specs.Rules.{Applied, block_at, by_rule, first_made, or_search_start, start_rule, tries, tries_vars}
use Rattle.parlog.specs.Tables.{new_process, procs_of, State}
use Rattle.parlog.specs.declared.Move.TheVariants.{OrSearchStart}
use Rattle.parlog.specs.declared.Process.{Process}
use Rattle.parlog.specs.declared.Spot.{Spot}
use Rattle.rows.proofs.Tables.{procs-length, procs-none, table-rows}
use Rattle.rows.specs.Rows.{Table}

module _ (ks : List ℕ) (j v : ℕ) {k : ℕ} (ek : k ≡ get_or ks j 255) where
  pub tried-row : (p : ℕ) (z : Spot) {y : Process} → y ≡ new_process try_clause ready p (try_spot z k v) → {l m : List ℕ} → Table l m (procs_of l j ++ (y ∷ []))
      → Table l m (procs_of l j ++ (new_process try_clause ready p (try_spot z (get_or ks j 255) v) ∷ []))
  tried-row p z ey t = rw (← ek, ← ey) t

  pub tried-vars : (pr : Program) {w : ℕ} → w ≡ vars_of pr k → v + w ≡ v + vars_of pr (get_or ks j 255)
  tried-vars pr ew = rw (← ek, ← ew)

-- ---- the loop: the rows so far, then the processes for the clauses left, are all of them

module _ (pr : Program) (ks : List ℕ) where
  module _ (p : ℕ) (z : Spot) where
    pub tries-start : (l : List ℕ) (m : ℕ) → procs_of l 0 ++ tries pr p z m (drop 0 ks) ≡ tries pr p z m ks
    tries-start l m = rw (procs-none l)

    pub tries-next : (l l' : List ℕ) (v j : ℕ) {all : List Process} → j < length ks → procs_of l j ++ tries pr p z v (drop j ks) ≡ all → {w : ℕ} → w ≡ v + vars_of pr (get_or ks j 255)
        → Table l l' (procs_of l j ++ (new_process try_clause ready p (try_spot z (get_or ks j 255) v) ∷ []))
        → procs_of l' (j + 1) ++ tries pr p z w (drop (j + 1) ks) ≡ all
    unfolding tries
    tries-next l l' v j {all} h inv ew t =
        let y = new_process try_clause ready p (try_spot z (get_or ks j 255) v) in
        let n : length (procs_of l j ++ (y ∷ [])) ≡ j + 1 = length-append (procs_of l j) (y ∷ []) ∙ omega (arith, procs-length l j) in
        let e : procs_of l' (j + 1) ≡ procs_of l j ++ (y ∷ []) = table-rows (j + 1) t n in
        let f : procs_of l j ++ (y ∷ tries pr p z (v + vars_of pr (get_or ks j 255)) (drop (suc j) ks)) ≡ all = rw (drop-cons ks j 255 h) at inv in
        rw (e, add-one j, ew) (append_assoc (procs_of l j) (y ∷ []) (tries pr p z (v + vars_of pr (get_or ks j 255)) (drop (suc j) ks)) ∙ f)

    pub tries-end : (l : List ℕ) (v j : ℕ) {size : ℕ} {all : List Process} → j ≡ size → size ≡ length ks → procs_of l j ++ tries pr p z v (drop j ks) ≡ all → procs_of l size ≡ all
    unfolding tries
    tries-end l v j {size} {all} ej es inv =
        let d : drop j ks ≡ [] = rw (ej, es) (drop-length ks) in
        let f : procs_of l j ++ [] ≡ all = rw d at inv in
        rw (← ej) (sym (append-nil (procs_of l j)) ∙ f)

  pub vars-next : (v j : ℕ) {all : ℕ} → j < length ks → v + tries_vars pr (drop j ks) ≡ all → {w : ℕ} → w ≡ v + vars_of pr (get_or ks j 255)
      → w + tries_vars pr (drop (j + 1) ks) ≡ all
  unfolding tries_vars
  vars-next v j {all} h inv ew =
      let f : v + (vars_of pr (get_or ks j 255) + tries_vars pr (drop (suc j) ks)) ≡ all = rw (drop-cons ks j 255 h) at inv in
      rw (ew, add-one j) (omega arith)

  pub vars-end : (v j : ℕ) {size all : ℕ} → j ≡ size → size ≡ length ks → v + tries_vars pr (drop j ks) ≡ all → v ≡ all
  unfolding tries_vars
  vars-end v j {size} {all} ej es inv =
      let d : drop j ks ≡ [] = rw (ej, es) (drop-length ks) in
      let f : v + 0 ≡ all = rw d at inv in
      omega arith

-- ---- the whole block

pub block-size-is : (pr : Program) (z : Spot) {rel size : ℕ} → rel ≡ (literal_at pr z).rel → size ≡ length (block_of pr rel z.block) → size ≡ length (block_at pr z)
unfolding block_at
block-size-is pr z er es = rw (← er) es

pub or-search-starts : (pr : Program) (s : State) (p : ℕ) (x : Process) {rel size n m v first : ℕ} {me : Process} (rows : List ℕ)
    → rel ≡ (literal_at pr x.spot).rel → size ≡ length (block_of pr rel x.spot.block)
    → procs_of rows size ≡ tries pr p x.spot m (block_of pr rel x.spot.block) → v ≡ m + tries_vars pr (block_of pr rel x.spot.block)
    → me ≡ with_mode waiting x → first ≡ touched n p size
    → {a : Applied} → a ≡ by_rule (OrSearchStart first) (making me None (procs_of rows size) (v - m))
    → length s.procs ≡ n → length s.vars ≡ m → a ≡ start_rule or_search pr s p x
unfolding start_rule or_search_start block_at
or-search-starts pr s p x {rel} {size} {n} {m} {v} {first} rows er es et ev em ef ea en evs =
    let w : v - m ≡ tries_vars pr (block_of pr rel x.spot.block) = omega arith in
    let f : first ≡ first_made s p (tries pr p x.spot m (block_of pr rel x.spot.block)) =
    ef ∙ touches s n p size (tries pr p x.spot m (block_of pr rel x.spot.block)) en (ap length (sym et) ∙ procs-length rows size) in
    rw (← er, evs, ← f, ← em, ← et, ← w) ea
