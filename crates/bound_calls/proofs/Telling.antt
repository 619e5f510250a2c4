-- The ways through the step by number and the turn.
use Rattle.parlog.specs.declared.Move.{Move}
use Rattle.std.specs.Prelude.{Option, Some, Ok, Err, None}
use Rattle.parlog.specs.Answer.{Answer}
use mathlib.Core.Path.{◌∙◌, ◌≡◌, sym}
use mathlib.Core.Bool.{false}
use mathlib.Core.List.{List}
use Prim.Native.Nat.{◌≤◌, ℕ}
use lib.Dec.{ltb}
use lib.ListN.{length}
use borrow.Author.Tests.{le-ltb}
use native.Mathlib.Omega.{arith}
use Rattle.bound.proofs.Rows.{row_same, row-says}
use Rattle.bound.specs.Calls.{RowSays, step_binds, step_bound_call, step_bound_in, turn_binds, turn_bound_call, turn_bound_in}
use Rattle.entry.specs.Entered.{EnterSays}
use Rattle.load.specs.Fields.{refusal_of}
use Rattle.parlog.proofs.Steps.{turn_is}
use Rattle.parlog.specs.Calls.{step_call, turn_call}
use Rattle.parlog.specs.Limits.{Limits}
use Rattle.parlog.specs.Load.{refusal}
use Rattle.parlog.specs.Program.{Program, program_of}
use Rattle.parlog.specs.Run.{procs_in, step_tables, turn_for, turn_tables, turn_to, unmade}
use Rattle.parlog.specs.Tables.{Lent, proc_count, procs_of, tables_in}
use Rattle.parlog.specs.declared.Refusal.{Refusal}
use Rattle.rows.proofs.Tables.{procs-length}

module _ (lim : Limits) (s : List ℕ) (l : Lent) (row : List ℕ) {e : Answer (ℕ × ℕ)} (told : EnterSays lim s l e) where
  pub step_away : (p : ℕ) {f g : Refusal} → e ≡ Err f → g ≡ refusal_of e → RowSays (step_bound_call lim s l row p) (Err g) l.head l.procs l.vars row
  unfolding step_bound_call step_call
  step_away p q eg = row-says (rw (told.entry, eg, q))

  pub turn_away : {f g : Refusal} → e ≡ Err f → g ≡ refusal_of e → RowSays (turn_bound_call lim s l row) (Err g) l.head l.procs l.vars row
  unfolding turn_bound_call turn_call
  turn_away q eg = row-says (rw (told.entry, eg, q))

  module _ {r c : ℕ} (q : e ≡ Ok (r, c)) where
    step_is : (p : ℕ) → step_bound_call lim s l row p ≡ step_bound_in lim s r c l row p
    unfolding step_bound_call step_call
    step_is p = rw (told.entry, q)

    turn-is-in : turn_bound_call lim s l row ≡ turn_bound_in lim s r c l row
    unfolding turn_bound_call turn_call
    turn-is-in = rw (told.entry, q)

    -- 9: there is no such process
    pub step-nobody : (p : ℕ) {n : ℕ} → n ≡ proc_count l.head → n ≤ p → {f : Refusal} → f ≡ refusal 9 0 → RowSays (step_bound_call lim s l row p) (Err f) l.head l.procs l.vars row
    step-nobody p en h ef = row-says (step_is p ∙ rw (nobody, ef))
      where
        past : ltb p (procs_in (tables_in l)) ≡ false
        past = unfold tables_in in le-ltb p (length (procs_of l.procs (proc_count l.head))) (omega (arith, procs-length l.procs (proc_count l.head), en, h))

        nobody : step_tables lim (program_of s r c) (tables_in l) p ≡ unmade 9
        nobody = unfold step_tables in rw past

    pub step-done : (p : ℕ) {a : Answer Move} {h ps vs w : List ℕ} → RowSays (step_bound_in lim s r c l row p) a h ps vs w → RowSays (step_bound_call lim s l row p) a h ps vs w
    step-done p x = row_same (step_is p) x

    pub turn-done : {a : Answer Move} {h ps vs w : List ℕ} → RowSays (turn_bound_in lim s r c l row) a h ps vs w → RowSays (turn_bound_call lim s l row) a h ps vs w
    turn-done x = row_same turn-is-in x

module _ (lim : Limits) (s : List ℕ) (r c : ℕ) (l : Lent) (row : List ℕ) {f : Option ℕ} (whose : (pr : Program) → f ≡ turn_for pr (tables_in l)) where
  pub turn-none : f ≡ None → {x : Refusal} → x ≡ refusal 10 0 → RowSays (turn_bound_in lim s r c l row) (Err x) l.head l.procs l.vars row
  turn-none e ex =
      let z : turn_tables lim (program_of s r c) (tables_in l) ≡ unmade 10 = unfold turn_tables turn_to in rw (sym (whose (program_of s r c)) ∙ e) in
      row-says (rw (z, ex))

  turn-binds : {p : ℕ} → turn_for (program_of s r c) (tables_in l) ≡ Some p → turn_binds (program_of s r c) (tables_in l) ≡ step_binds (program_of s r c) (tables_in l) p
  unfolding turn_binds
  turn-binds q = rw q

  pub turn-some : {p : ℕ} → f ≡ Some p → {a : Answer Move} {h ps vs w : List ℕ} → RowSays (step_bound_in lim s r c l row p) a h ps vs w → RowSays (turn_bound_in lim s r c l row) a h ps vs w
  turn-some {p} e x =
      let q = sym (whose (program_of s r c)) ∙ e in
      let z : turn_tables lim (program_of s r c) (tables_in l) ≡ step_tables lim (program_of s r c) (tables_in l) p = turn_is lim (program_of s r c) (tables_in l) p q in
      row_same (rw (z, turn-binds q)) x
