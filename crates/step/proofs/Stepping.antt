-- The ways through a step.
use Rattle.parlog.specs.declared.Move.{Move}
use Rattle.std.specs.Prelude.{Ok, Err}
use Rattle.parlog.specs.Answer.{Answer}
use mathlib.Core.Path.{◌∙◌, ◌≡◌, refl, ap}
use mathlib.Core.Bool.{Bool, false, true}
use mathlib.Core.List.{List}
use Prim.Native.Nat.{◌+◌, ◌<◌, ◌≤◌, ℕ}
use lib.Dec.{ltb}
use lib.ListN.{length}
use borrow.Author.Tests.{le-ltb}
use native.Mathlib.Omega.{arith}
use Rattle.entry.specs.Entered.{EnterSays, Inside}
use Rattle.load.specs.Fields.{refusal_of}
use Rattle.move_plan.proofs.Plans.{delta-fresh, delta-new}
use Rattle.move_plan.specs.Plans.{applied_of, delta_of, fits_in, new_most, state_in, Within}
use Rattle.move_plan.specs.declared.Plan.{Plan}
use Rattle.parlog.specs.Calls.{step_answer, step_call}
use Rattle.parlog.specs.Delta.{apply, Delta}
use Rattle.parlog.specs.Limits.{Limits}
use Rattle.parlog.specs.Load.{refusal}
use Rattle.parlog.specs.Program.{program_of}
use Rattle.parlog.specs.Rules.{rule_of}
use Rattle.parlog.specs.Run.{counted, made, procs_in, stepped, step_tables, unmade}
use Rattle.parlog.specs.Tables.{head_bytes, Lent, marker_steps, proc_count, procs_of, tables_in, var_count}
use Rattle.parlog.specs.declared.Refusal.{Refusal}
use Rattle.rows.proofs.Tables.{procs-length}
use Rattle.rows.specs.Rows.{Bytes, Table}
use Rattle.step.proofs.Deciding.{parents-fall, room_for, rule-made, step-full, step-made, step-still}
use Rattle.step.proofs.Making.{made-head, made_inside, made-procs, made-tables, made-vars, procs-after, vars-after}
use Rattle.step.specs.Stepping.{CarriedOut, Carries, PlannedSays, step_in, SteppedSays, StepSays}
use Rattle.tree.specs.Family.{most_rows}
use Rattle.vars.specs.Cells.{Cells}

-- ---- what is decided

no-refusal : {P : Type 0} {pl : Plan} {f : Refusal} → ◌≡◌ {A = Answer Plan} (Ok pl) (Err f) → P
no-refusal e = absurd (let z : ◌≡◌ {A = ℕ} 0 1 = cc in omega arith)

no-plan : {P : Type 0} {pl : Plan} {f : Refusal} → ◌≡◌ {A = Answer Plan} (Err f) (Ok pl) → P
no-plan e = absurd (let z : ◌≡◌ {A = ℕ} 0 1 = cc in omega arith)

plan-is : {pl ql : Plan} → ◌≡◌ {A = Answer Plan} (Ok pl) (Ok ql) → pl ≡ ql
plan-is e = cc

refusal-is : {f g : Refusal} → ◌≡◌ {A = Answer Plan} (Err f) (Err g) → f ≡ g
refusal-is e = cc

-- a decision that is a refusal without an offset
refused_by : {lim : Limits} {s : List ℕ} {r c : ℕ} {l : Lent} {p k : ℕ} {f : Refusal} → f ≡ refusal k 0 → step_in lim s r c l p ≡ unmade k → PlannedSays lim s r c l p (Err f)
refused_by {k = k} {f = f} ef e = record {
  step = e ∙ rw ef;
  plain = λ z. plainly z;
  rule = λ z. no-plan z;
  carries = λ z. no-plan z;
}
  where
    plainly : {g : Refusal} → ◌≡◌ {A = Answer Plan} (Err f) (Err g) → g ≡ refusal g.number 0
    plainly z = let y = refusal-is z in rw (← y, ef)

module _ (lim : Limits) (s : List ℕ) (r c : ℕ) (l : Lent) (i : Inside lim s r c l) (p : ℕ) (h : p < proc_count l.head) {n m : ℕ} (en : n ≡ proc_count l.head) (em : m ≡ var_count l.head)
    (pl : Plan) (is : applied_of pl ≡ rule_of (program_of s r c) (state_in l.procs n l.vars m) p) where
  pub planned-still : pl.acts ≡ false → {f : Refusal} → f ≡ refusal 10 0 → PlannedSays lim s r c l p (Err f)
  planned-still e ef = refused_by ef (step-still lim s r c l p h en em pl is e)

  module _ (e : pl.acts ≡ true) {b : Bool} (eb : b ≡ fits_in lim.procs lim.vars n m pl.count pl.fresh) where
    pub planned-full : b ≡ false → {f : Refusal} → f ≡ refusal 11 0 → PlannedSays lim s r c l p (Err f)
    planned-full q ef = refused_by ef (step-full lim s r c l p h en em pl is e eb q)

    pub planned-made : b ≡ true → lim.procs ≤ most_rows → pl.count ≤ new_most → Within m pl.changes.count pl.changes.list
        → PlannedSays lim s r c l p (Ok pl)
    planned-made q most few w = record {
      step = step-made lim s r c l p h en em pl is e eb q;
      plain = λ z. no-refusal z;
      rule = λ z. rw (← plan-is z) (rule-made lim s r c l p h en em pl is e);
      carries = λ z. rw (← plan-is z) carries_so;
    }
      where
        carries_so : Carries lim l p pl
        carries_so =
            let f = room_for lim n m pl eb q in
            record {
              head = i.head;
              mover = h;
              falls = parents-fall lim s r c l i {n = proc_count l.head} refl;
              marks = omega (arith, i.procs_most);
              rows = omega (arith, i.procs_size, f.0);
              cells = omega (arith, i.vars_size, f.1);
              few_procs = omega (arith, f.0);
              few-vars = omega (arith, f.1);
              new = few;
              within = rw em at w;
            }

-- ---- the step

module _ (lim : Limits) (s : List ℕ) (r c : ℕ) (l : Lent) (i : Inside lim s r c l) (p : ℕ) {d : Answer Plan} (says : PlannedSays lim s r c l p d) where
  -- a step that is refused is not made
  pub step-unmade : {f : Refusal} → d ≡ Err f → step_in lim s r c l p ≡ unmade f.number
  step-unmade z = rw z at says.step

  pub stepped-refused : {f : Refusal} → d ≡ Err f → SteppedSays lim s r c l p (Err f) l.head l.procs l.vars
  stepped-refused {f} z =
      let e = step-unmade z in
      record { answer = rw e (ap Err (says.plain z)); head = rw e; procs = rw e; vars = rw e; inside = i; tables = rw e; more_procs = omega arith; more_vars = omega arith }

  module _ {pl : Plan} (z : d ≡ Ok pl) {h ps vs : List ℕ} (out : CarriedOut l p pl h ps vs) where
    abbrev dl : Delta
    dl = delta_of pl

    made_so : step_in lim s r c l p ≡ made pl.mv (stepped (tables_in l) p dl)
    made_so = says.step ∙ rw z

    few : proc_count l.head + length dl.new ≤ lim.procs
    few = omega (arith, delta-new pl, (says.carries z).few_procs)

    few-vars : var_count l.head + dl.fresh ≤ lim.vars
    few-vars = omega (arith, delta-fresh pl, (says.carries z).few-vars)

    head-is-so : h ≡ head_bytes (proc_count l.head + length dl.new) (var_count l.head + dl.fresh) p (counted (marker_steps l.head))
    head-is-so = out.head ∙ rw (delta-new pl, delta-fresh pl)

    pub stepped-moved : SteppedSays lim s r c l p (Ok pl.mv) h ps vs
    stepped-moved = record {
      answer = rw made_so;
      head = rw made_so (made-head lim s r c l i p dl made_so few few-vars head-is-so out.procs out.vars);
      procs = rw made_so (made-procs lim s r c l i p dl made_so few few-vars head-is-so out.procs out.vars out.procs_bytes);
      vars = rw made_so (made-vars lim s r c l i p dl made_so few few-vars head-is-so out.procs out.vars out.vars_bytes);
      inside = made_inside lim s r c l i p dl made_so few few-vars head-is-so out.procs out.vars;
      tables = rw made_so (made-tables lim s r c l i p dl made_so few few-vars head-is-so out.procs out.vars);
      more_procs = omega (arith, procs-after lim s r c l i p dl made_so few few-vars head-is-so out.procs out.vars);
      more_vars = omega (arith, vars-after lim s r c l i p dl made_so few few-vars head-is-so out.procs out.vars);
    }

-- ---- the writing

-- what is written over the counts that the head holds
pub carried-out : (l : Lent) (p : ℕ) (pl : Plan) {n m k j : ℕ} → n ≡ proc_count l.head → m ≡ var_count l.head → k ≡ marker_steps l.head → j ≡ counted k → {a ps vs : List ℕ}
    → Table l.procs ps (apply (state_in l.procs n l.vars m) p (delta_of pl)).procs → Cells m l.vars vs (apply (state_in l.procs n l.vars m) p (delta_of pl)).vars
    → a ≡ head_bytes (n + pl.count) (m + pl.fresh) p j → Bytes ps → Bytes vs → CarriedOut l p pl a ps vs
carried-out l p pl en em ek ej tp tv ea bp bv = record {
  head = ea ∙ rw (en, em, ej, ek);
  procs = unfold tables_in in rw (en, em) at tp;
  vars = unfold tables_in in rw (en, em) at tv;
  procs_bytes = bp;
  vars_bytes = bv;
}

-- ---- the call

module _ (lim : Limits) (s : List ℕ) (l : Lent) (p : ℕ) {e : Answer (ℕ × ℕ)} (told : EnterSays lim s l e) where
  pub step-refused : {f g : Refusal} → e ≡ Err f → g ≡ refusal_of e → StepSays lim s l p (Err g) l.head l.procs l.vars
  unfolding step_call
  step-refused q eg = record { answer = rw (told.entry, eg, q); head = rw (told.entry, q); procs = rw (told.entry, q); vars = rw (told.entry, q) }

  module _ {r c : ℕ} (q : e ≡ Ok (r, c)) where
    call-is : step_call lim s l p ≡ step_answer (step_in lim s r c l p) l
    unfolding step_call
    call-is = rw (told.entry, q)

    -- 9: there is no such process
    pub step-nobody : {n : ℕ} → n ≡ proc_count l.head → n ≤ p → {f : Refusal} → f ≡ refusal 9 0 → StepSays lim s l p (Err f) l.head l.procs l.vars
    step-nobody en h ef =
        let k : step_call lim s l p ≡ record { answer = Err (refusal 9 0); lent = l } = call-is ∙ nobody in
        record { answer = rw (k, ef); head = rw k; procs = rw k; vars = rw k }
      where
        past : ltb p (procs_in (tables_in l)) ≡ false
        past = unfold tables_in in le-ltb p (length (procs_of l.procs (proc_count l.head))) (omega (arith, procs-length l.procs (proc_count l.head), en, h))

        nobody : step_answer (step_in lim s r c l p) l ≡ record { answer = Err (refusal 9 0); lent = l }
        nobody = unfold step_tables in rw past

    pub step-done : {a : Answer Move} {h ps vs : List ℕ} → SteppedSays lim s r c l p a h ps vs → StepSays lim s l p a h ps vs
    step-done d = record { answer = rw call-is d.answer; head = rw call-is d.head; procs = rw call-is d.procs; vars = rw call-is d.vars }
