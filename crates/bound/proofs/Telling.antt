-- The ways through the step and the supply that tell the variables bound.
use Rattle.std.specs.Prelude.{Ok, Err}
use Rattle.parlog.specs.Answer.{Answer}
use mathlib.Core.Path.{◌∙◌, ◌≡◌, ap, sym}
use mathlib.Core.List.{[], ◌∷◌, List}
use Prim.Native.Nat.{◌<◌, ◌≤◌, ℕ}
use lib.ListN.{length}
use Rattle.bound_row.proofs.Rows.{bytes-length}
use Rattle.bound_row.specs.Row.{bound_bytes}
use Rattle.bound.proofs.Rows.{row-says, tell-fits, tell-short}
use Rattle.bound.specs.Calls.{RowSays, step_binds, step_bound_in, supply_bound_call, tell_in}
use Rattle.entry.specs.Entered.{Inside}
use Rattle.lay.specs.Lay.{laid}
use Rattle.machine.specs.Supplying.{DecidedSays, SupplySays}
use Rattle.move_plan.specs.Plans.{delta_of}
use Rattle.parlog.specs.Limits.{Limits}
use Rattle.parlog.specs.Load.{refusal}
use Rattle.parlog.specs.Program.{program_of}
use Rattle.parlog.specs.Run.{made, stepped, supplied}
use Rattle.parlog.specs.Tables.{Lent, put_tables, Tables, tables_in}
use Rattle.parlog.specs.declared.Refusal.{Refusal}
use Rattle.step.proofs.Stepping.{step-unmade, stepped-moved}
use Rattle.step.specs.Stepping.{CarriedOut, PlannedSays, step_in}
use Rattle.move_plan.specs.declared.Plan.{Plan}
use Rattle.unify.specs.Pending.{pending, vars_bound}

-- ---- the step

module _ (lim : Limits) (s : List ℕ) (r c : ℕ) (l : Lent) (i : Inside lim s r c l) (p : ℕ) (row : List ℕ) {d : Answer Plan} (says : PlannedSays lim s r c l p d) where
  pub bound-refused : {f : Refusal} → d ≡ Err f → RowSays (step_bound_in lim s r c l row p) (Err f) l.head l.procs l.vars row
  bound-refused {f} z =
      let e = step-unmade lim s r c l i p says z in
      let ef = says.plain z in
      row-says (rw e (ap (λ (g : Refusal). record { answer = Err g; lent = l; row = row }) (sym ef)))

  module _ {pl : Plan} (z : d ≡ Ok pl) where
    abbrev vars-told : List ℕ
    vars-told = vars_bound (pending pl.changes)

    abbrev tables-made : Tables
    tables-made = stepped (tables_in l) p (delta_of pl)

    binds-are : step_binds (program_of s r c) (tables_in l) p ≡ vars-told
    unfolding step_binds delta_of
    binds-are = rw (says.rule z)

    made_so : step_in lim s r c l p ≡ made pl.mv tables-made
    made_so = says.step ∙ rw z

    tells-so : step_bound_in lim s r c l row p ≡ tell_in (Err (refusal 11 0)) (Ok pl.mv) (put_tables l tables-made) l row (bound_bytes vars-told)
    tells-so = rw (made_so, binds-are)

    -- 11: the row is too short for what is to be told
    pub bound-short : {n : ℕ} → n ≡ length (bound_bytes vars-told) → length row < n → {f : Refusal} → f ≡ refusal 11 0 → RowSays (step_bound_in lim s r c l row p) (Err f) l.head l.procs l.vars row
    bound-short en h ef = row-says (tells-so ∙ tell-short _ _ _ l row (bound_bytes vars-told) (rw en at h) ∙ rw ef)

    pub bound-told : {n : ℕ} → n ≡ length (bound_bytes vars-told) → n ≤ length row → {h ps vs w : List ℕ} → CarriedOut l p pl h ps vs → w ≡ laid row 0 (bound_bytes vars-told)
        → RowSays (step_bound_in lim s r c l row p) (Ok pl.mv) h ps vs w
    bound-told en wide out ew =
        let k = tells-so ∙ tell-fits (Err (refusal 11 0)) (Ok pl.mv) (put_tables l tables-made) l row (bound_bytes vars-told) (rw en at wide) in
        let x = stepped-moved lim s r c l i p says z out in
        record { answer = rw k; head = rw k (rw made_so at x.head); procs = rw k (rw made_so at x.procs); vars = rw k (rw made_so at x.vars); row = rw k ew }

-- ---- the supply

module _ (lim : Limits) (s : List ℕ) (l : Lent) (row : List ℕ) (v c : ℕ) {a : Answer ℕ} (told : DecidedSays lim s l v c a) where
  pub supply-refused : {f : Refusal} → a ≡ Err f → RowSays (supply_bound_call lim s l row v c) (Err f) l.head l.procs l.vars row
  unfolding supply_bound_call
  supply-refused e = let k = rw e at told.call in row-says (rw k)

  module _ {u : ℕ} (e : a ≡ Ok u) where
    call-given : supply_bound_call lim s l row v c ≡ tell_in (Err (refusal 11 0)) (Ok u) (put_tables l (supplied (tables_in l) u c)) l row (bound_bytes (u ∷ []))
    unfolding supply_bound_call
    call-given = let k = rw e at told.call in rw k

    four : length (bound_bytes (u ∷ [])) ≡ 4
    four = bytes-length (u ∷ [])

    pub supply-short : length row < 4 → {f : Refusal} → f ≡ refusal 11 0 → RowSays (supply_bound_call lim s l row v c) (Err f) l.head l.procs l.vars row
    supply-short h ef = row-says (call-given ∙ tell-short _ _ _ l row (bound_bytes (u ∷ [])) (rw four h) ∙ rw ef)

    pub supply-told : 4 ≤ length row → {m w : List ℕ} → SupplySays lim s l v c (Ok u) l.head l.procs m → w ≡ laid row 0 (bound_bytes (u ∷ []))
        → RowSays (supply_bound_call lim s l row v c) (Ok u) l.head l.procs m w
    supply-told wide x ew =
        let j = rw e at told.call in
        let k = call-given ∙ tell-fits (Err (refusal 11 0)) (Ok u) (put_tables l (supplied (tables_in l) u c)) l row (bound_bytes (u ∷ [])) (rw four wide) in
        record { answer = rw k; head = rw k (rw j at x.head); procs = rw k (rw j at x.procs); vars = rw k (rw j at x.vars); row = rw k ew }
