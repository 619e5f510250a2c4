-- The ways through the run that records.
use Rattle.std.specs.Prelude.{Err, None, Ok, Some}
use mathlib.Core.Path.{ap, refl, sym, ◌∙◌, ◌≡◌}
use mathlib.Core.Bool.{Bool, cond, false, true}
use mathlib.Core.List.{[], List}
use Prim.Native.Nat.{◌*◌, ◌+◌, ◌-◌, ◌/◌, ◌≤◌, min, suc, ℕ}
use lib.Dec.{ltb}
use lib.ListN.{length}
use borrow.Author.Tests.{ltb-false, ltb-true}
use native.Mathlib.Omega.{arith}
use Rattle.bound.proofs.Rows.{row-says}
use Rattle.bound.specs.Calls.{RowSays}
use Rattle.entry.specs.Entered.{EnterSays, Inside}
use Rattle.lay.proofs.Laws.{laid_none}
use Rattle.lay.specs.Lay.{laid}
use Rattle.load.specs.Fields.{refusal_of}
use Rattle.parlog.specs.Answer.{Answer}
use Rattle.parlog.proofs.Bools.{split}
use Rattle.parlog.specs.Calls.{run_call}
use Rattle.parlog.specs.Limits.{Limits}
use Rattle.parlog.specs.Numbers.{rule_number}
use Rattle.parlog.specs.Program.{Program, program_of}
use Rattle.parlog.specs.Run.{goal_ended, made, turn_for}
use Rattle.parlog.specs.Tables.{Lent, lent, tables_in}
use Rattle.parlog.specs.declared.End.{End}
use Rattle.parlog.specs.declared.End.TheVariants.{Budget, Room}
use Rattle.parlog.specs.declared.Move.{Move}
use Rattle.parlog.specs.declared.Refusal.{Refusal}
use Rattle.rows.specs.Rows.{Bytes}
use Rattle.run.proofs.Runs.{going_start, one_less}
use Rattle.run.proofs.Turning.{going-none, going-room, going-spent, going_on, moved-is, run_ran, unmoved-is}
use Rattle.run.specs.Running.{LookSays, unless_ended}
use Rattle.run.specs.declared.View.{View}
use Rattle.run_traced.proofs.Records.{laid-record, records-goes, records-none, records-room}
use Rattle.run_traced.specs.Traced.{GoingTraced, moves_for, MoveSays, RanTraced, run_records, run_traced_call}
use Rattle.step.specs.Stepping.{step_in, SteppedSays}
use Rattle.trace.specs.Trace.{following, record_bytes, step_kind, trace_size}
use Rattle.traced.proofs.Records.{record-length}

-- ---- one move of a run

module _ (lim : Limits) (s : List ℕ) (r c : ℕ) (l : Lent) (p : ℕ) {a : Answer Move} {h ps vs : List ℕ} (x : SteppedSays lim s r c l p a h ps vs) where
  module _ (row : List ℕ) (place stamp : ℕ) where
    pub move-kept : {f : Refusal} → a ≡ Err f → MoveSays lim s r c l row p place stamp (Err f) h ps vs row
    move-kept e = record { step = rw e at x; row_is = sym (laid_none row place) }

    pub move_noted : {m : Move} → a ≡ Ok m → {rule : ℕ} → rule ≡ rule_number m → {w : List ℕ} → w ≡ laid row place (record_bytes step_kind p rule stamp) → MoveSays lim s r c l row p place stamp (Ok m) h ps vs w
    move_noted e er ew = record { step = rw e at x; row_is = rw (← er) ew }

-- ---- the loop of a run

module _ (lim : Limits) (s : List ℕ) (r c : ℕ) (l₀ : Lent) (row₀ : List ℕ) (limit stamp₀ : ℕ) (i₀ : Inside lim s r c l₀) where
  abbrev prog : Program
  prog = program_of s r c

  pub traced-start : Bytes l₀.head → Bytes l₀.procs → Bytes l₀.vars → GoingTraced lim s r c l₀ l₀ row₀ row₀ limit 0 stamp₀ stamp₀
  traced-start hs ps vs = record { going = going_start lim s r c l₀ limit i₀ hs ps vs; row_is = ap (λ (n : ℕ). laid row₀ 0 (run_records n lim prog stamp₀ (tables_in l₀))) (omega arith) }

  module _ (l : Lent) (row : List ℕ) (k stamp : ℕ) (g : GoingTraced lim s r c l₀ l row₀ row limit k stamp₀ stamp) {w : View} (d : LookSays l w) where
    -- no record more
    ends : run_records (limit - k) lim prog stamp (tables_in l) ≡ [] → row ≡ laid row₀ 0 (run_records limit lim prog stamp₀ (tables_in l₀))
    ends e = sym (g.row_is ∙ ap (λ (bs : List ℕ). laid row (k * trace_size) bs) e ∙ laid_none row (k * trace_size))

    pub traced-none : w.who ≡ None → RanTraced lim s r c l₀ row₀ limit stamp₀ (Ok (w.end, k)) l row
    traced-none q = record { ran = going-none lim s r c l₀ limit i₀ l k g.going d q; row_is = ends (records-none lim prog stamp (tables_in l) (sym (d.who prog) ∙ q) (limit - k)) }

    module _ {p : ℕ} (q : w.who ≡ Some p) where
      whose : unless_ended (goal_ended (tables_in l)) (turn_for prog (tables_in l)) ≡ Some p
      whose = sym (d.who prog) ∙ q

      pub traced-spent : k ≡ limit → RanTraced lim s r c l₀ row₀ limit stamp₀ (Ok (Budget, k)) l row
      traced-spent e =
          let z : limit - k ≡ 0 = omega arith in
          record { ran = going-spent lim s r c l₀ limit i₀ l k g.going d q e; row_is = ends (rw z (unfold run_records in refl)) }

      module _ (ne : k ≡ limit → ⊥) {a : Answer Move} {h ps vs b : List ℕ} (x : MoveSays lim s r c l row p (k * trace_size) stamp a h ps vs b) where
        one : limit - k ≡ suc (limit - (k + 1))
        one = let m = g.going.most in let u = ne in one_less limit k (omega (arith, m, u))

        pub traced-room : {f : Refusal} → a ≡ Err f → RanTraced lim s r c l₀ row₀ limit stamp₀ (Ok (Room, k)) (lent h ps vs) b
        traced-room e =
            let (j, y) = unmoved-is (step_in lim s r c l p) l (sym x.step.answer ∙ e) in
            let same : b ≡ row = (rw e at x.row_is) ∙ laid_none row (k * trace_size) in
            record {
              ran = going-room lim s r c l₀ limit i₀ l k g.going d q ne x.step e;
              row_is = same ∙ ends (rw one (records-room lim prog stamp (tables_in l) whose y (limit - (k + 1))));
            }

        pub traced-on : {m : Move} → a ≡ Ok m → {next : ℕ} → next ≡ following stamp → GoingTraced lim s r c l₀ (lent h ps vs) row₀ b limit (k + 1) stamp₀ next
        traced-on {m} e en =
            let z = moved-is (step_in lim s r c l p) l (tables_in l) (sym x.step.answer ∙ e) in
            let y : step_in lim s r c l p ≡ made m (tables_in (lent h ps vs)) = rw x.step.tables z in
            let laid-there : b ≡ laid row (k * trace_size) (record_bytes step_kind p (rule_number m) stamp) = rw e at x.row_is in
            let goes = records-goes lim prog stamp (tables_in l) whose y (limit - (k + 1)) in
            record {
              going = going_on lim s r c l₀ limit i₀ l k g.going d q ne x.step e;
              row_is = g.row_is ∙ rw (one, goes, laid-there, en) (laid-record row (record_bytes step_kind p (rule_number m) stamp) (run_records (limit - (k + 1)) lim prog (following stamp) (tables_in (lent h ps vs))) k (record-length step_kind p (rule_number m) stamp));
            }

-- ---- the run

pub moves-least : (bytes limit : ℕ) {r : ℕ} → r ≡ min (bytes / trace_size) limit → (r ≡ moves_for bytes limit) × (r ≤ limit)
moves-least bytes limit {r} e = split (ltb (bytes / trace_size) limit)
    (λ a. let h = ltb-true (bytes / trace_size) limit a in let m : r ≡ bytes / trace_size = omega (arith, e, h) in (rw a m, omega (arith, e)))
    (λ a. let h = ltb-false (bytes / trace_size) limit a in let m : r ≡ limit = omega (arith, e, h) in (rw a m, omega (arith, e)))

pub moves-most : (bytes limit : ℕ) → moves_for bytes limit ≤ limit
moves-most bytes limit = go (ltb (bytes / trace_size) limit) refl
  where
    go : (b : Bool) → ltb (bytes / trace_size) limit ≡ b → cond b (bytes / trace_size) limit ≤ limit
    go true e = omega (arith, ltb-true (bytes / trace_size) limit e)
    go false e = omega arith

module _ (lim : Limits) (s : List ℕ) (l : Lent) (row : List ℕ) (limit stamp : ℕ) {e : Answer (ℕ × ℕ)} (door : EnterSays lim s l e) where
  pub run_away : {f g : Refusal} → e ≡ Err f → g ≡ refusal_of e → RowSays (run_traced_call lim s l row limit stamp) (Err g) l.head l.procs l.vars row
  unfolding run_traced_call run_call
  run_away q eg = row-says (rw (door.entry, eg, q, laid_none row 0))

  pub run-noted : {r c : ℕ} → e ≡ Ok (r, c) → {n : ℕ} → n ≡ moves_for (length row) limit → {a : Answer (End × ℕ)} {h ps vs w : List ℕ} → RanTraced lim s r c l row n stamp a (lent h ps vs) w
      → RowSays (run_traced_call lim s l row limit stamp) a h ps vs w
  unfolding run_traced_call
  run-noted {r} {c} q {n} en x =
      let d = run_ran lim s l door n q x.ran in
      record { answer = rw (← en) d.answer; head = rw (← en) d.head; procs = rw (← en) d.procs; vars = rw (← en) d.vars; row = rw (← en, door.entry, q) x.row_is }
