-- Bytes that came from a start are let in by every call and hold tables that a run reaches; written over them, these change nothing.
use Rattle.parlog.specs.declared.Term.{Term}
use Rattle.std.specs.Prelude.{None, Option}
use mathlib.Core.Path.{◌∙◌, ◌≡◌}
use mathlib.Core.Bool.{true}
use mathlib.Core.List.{List}
use Prim.Native.Nat.{◌*◌, ◌≤◌, ℕ}
use lib.ListN.{length, length-replicate}
use native.Mathlib.Omega.{arith}
use Rattle.entry.proofs.Held.{cells_fit, put-over, rows_fit}
use Rattle.parlog.proofs.Assume.{sizes-full}
use Rattle.parlog.proofs.Repeated.{run-reached}
use Rattle.parlog.specs.Demands.{at_start, by_number, by_supply, Reached}
use Rattle.parlog.specs.Limits.{Limits, Usable}
use Rattle.parlog.specs.Program.{Program, program_of}
use Rattle.parlog.specs.TableRules.{full_size}
use Rattle.parlog.specs.Tables.{cell_size, fresh, fresh_tables, head_size, Lent, lent, put_tables, row_size, started_lent, Tables, tables_in, zeros}
use Rattle.promises.proofs.Demand2.{begun-at, goal-few}
use Rattle.promises.proofs.Entry.{let-ok, let-tables}
use Rattle.promises.proofs.Keeping.{Goes, goes_none, goes-run, goes_step, goes-supply, goes_then, goes_twice, kept-start, later-by}
use Rattle.promises.specs.Reach.{Came, from_start, Later}
use Rattle.promises.specs.Refusals.{LetIn}
use Rattle.refusals.proofs.Exactly.{accepted-right}
use Rattle.refusals.specs.Right.{RightImage}
use Rattle.resume.proofs.Copied.{copied, copied-put}
use Rattle.rows.proofs.Laws.{zeros-length}

-- a fresh start written over itself
module _ (lim : Limits) (usable : Usable lim) (pr : Program) (few : pr.goal_vars ≤ 255) where
  abbrev blank : Lent
  blank = lent (zeros head_size) (zeros (lim.procs * row_size)) (zeros (lim.vars * cell_size))

  one-row : length (fresh_tables pr).state.procs * row_size ≤ length (zeros (lim.procs * row_size))
  unfolding fresh_tables fresh
  one-row = omega (arith, zeros-length (lim.procs * row_size), usable.goal)

  few-cells : length (fresh_tables pr).state.vars * cell_size ≤ length (zeros (lim.vars * cell_size))
  unfolding fresh_tables fresh
  few-cells = omega (arith, zeros-length (lim.vars * cell_size), length-replicate {A = Option Term} pr.goal_vars None, usable.goal-vars, few)

  started-twice : put_tables (started_lent lim pr) (fresh_tables pr) ≡ started_lent lim pr
  unfolding started_lent
  started-twice = put-over blank (fresh_tables pr) (fresh_tables pr) (omega arith) (omega arith) one-row few-cells

-- ---- a run read back, written over itself

-- rows of zeros
abbrev pub no_bytes : Limits → Lent
no_bytes lim = lent (zeros head_size) (zeros (lim.procs * row_size)) (zeros (lim.vars * cell_size))

pub no-bytes-full : (lim : Limits) → full_size lim (no_bytes lim) ≡ true
no-bytes-full lim = sizes-full lim (no_bytes lim) (zeros-length head_size) (zeros-length (lim.procs * row_size)) (zeros-length (lim.vars * cell_size))

module _ (lim : Limits) (s : List ℕ) {r c : ℕ} {m : Lent} (i : LetIn lim s m r c) where
  -- tables over zeros, written again
  pub zeros-twice : put_tables (put_tables (no_bytes lim) (tables_in m)) (tables_in m) ≡ put_tables (no_bytes lim) (tables_in m)
  zeros-twice =
      let ok = let-ok lim s m i in
      let full = no-bytes-full lim in
      put-over (no_bytes lim) (tables_in m) (tables_in m) (omega arith) (omega arith) (rows_fit lim (program_of s r c) (no_bytes lim) (tables_in m) full ok) (cells_fit lim (program_of s r c) (no_bytes lim) (tables_in m) full ok)

  pub copied-again : put_tables m (tables_in m) ≡ m → {m' : Lent} → m' ≡ copied lim m → tables_in m' ≡ tables_in m → put_tables m' (tables_in m') ≡ m'
  copied-again same e h =
      let k = e ∙ copied-put lim (program_of s r c) m (let-tables i) same in
      rw (h, k) zeros-twice

module _ (lim : Limits) (s : List ℕ) (r c : ℕ) where
  abbrev pr : Program
  pr = program_of s r c

  record Going (l : Lent) : Type 0 where
    same : put_tables l (tables_in l) ≡ l
    reached : Reached lim pr (tables_in l)

  pub record Arrived (l : Lent) : Type 0 where
    pub enters : LetIn lim s l r c
    pub same : put_tables l (tables_in l) ≡ l
    pub reached : Reached lim pr (tables_in l)

  reached-goes : {t u : Tables} → Reached lim pr t → Goes lim pr t u → Reached lim pr u
  reached-goes a (goes_step p e) = by_number p a e
  reached-goes a (goes-run limit) = run-reached lim pr limit a
  reached-goes a (goes-supply v k e) = by_supply v k a e
  reached-goes a goes_none = a
  reached-goes a (goes_then g h) = reached-goes (reached-goes a g) h

  going : (m : Lent) → LetIn lim s m r c → Going m → (t : Tables) → Goes lim pr (tables_in m) t → tables_in (put_tables m t) ≡ t → Going (put_tables m t)
  going m i q t g e = record { same = goes_twice lim s m i t g; reached = rw e (reached-goes q.reached g) }

  nights : (m m' : Lent) → LetIn lim s m r c → Going m → m' ≡ copied lim m → tables_in m' ≡ tables_in m → Going m'
  nights m m' i q e h = record { same = copied-again lim s i q.same e h; reached = rw h q.reached }

  pub arrive-later : {l m : Lent} → Arrived l → Later lim s l m → Arrived m
  arrive-later a k = let (j, q) = later-by lim s Going going nights a.enters (record { same = a.same; reached = a.reached }) k in record { enters = j; same = q.same; reached = q.reached }

  -- THE LAW: bytes that came are let in and reached, for the counts that a load of the image tells
  pub came-arrived : Usable lim → RightImage s r c → {l : Lent} → Came lim s l → Arrived l
  came-arrived usable right (from_start {l} {l'} {w = w} meets z k) =
      let e = (accepted-right s).1 right in
      let b = begun-at lim usable s l w l' meets z e in
      let t : put_tables l' (tables_in l') ≡ l' = rw (b.0, b.1) (started-twice lim usable pr (goal-few s e)) in
      arrive-later (record { enters = kept-start lim usable s l w l' meets z right; same = t; reached = rw b.0 at_start }) k
