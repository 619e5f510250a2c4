-- The ways through the rules: each premise is a fact of the code, the answer is what the definition has.
use Rattle.std.specs.Prelude.{None, Some}
use mathlib.Core.Path.{ap, ap₂, refl, sym, ◌∙◌, ◌≡◌}
use mathlib.Core.Bool.{Bool, false, true}
use mathlib.Core.List.{[], append-nil, List, ◌++◌, ◌∷◌}
use Prim.Native.Nat.{suc, zero, ℕ, ◌+◌, ◌<◌, ◌≤◌}
use lib.ListN.{get_or, length, length-append}
use borrow.Author.Tests.{le-ltb, lt-ltb}
use native.Mathlib.Omega.{arith}
use native.Mathlib.Numerals.{add-one}
use Rattle.children.specs.Telling.{heard_of}
use Rattle.children.specs.declared.News.{News}
use Rattle.children.specs.declared.News.TheVariants.{Bad, Good, Silent}
use Rattle.move_plan.proofs.Made.{touches}
use Rattle.move_plan.specs.Plans.{touched}
use Rattle.parlog.proofs.Scans.{build-length}
use Rattle.parlog.specs.Codes.{and_par, and_seq, as_written, dormant, failure, guard_eval, input_match, kind_of, ready, starting, success, Tag, the_guard, try_clause, waiting}
use Rattle.parlog.specs.Delta.{at_stage, guard_spot, literal_spot, making, only, report, try_spot, with_mode, with_spot}
use Rattle.parlog.specs.Program.{clause_at, Goal, goal_at, goal_by, literal_at, no_literal, Program, split_at, split_by, stage_at, tag_of_goal, tag_of_literal, tag_of_stage}
use Rattle.parlog.specs.Rules.{and_par_start, and_par_wait, and_seq_start, and_seq_wait, Applied, body_beside, by_rule, first_made, guard_eval_start, guard_eval_wait, member, member_tag, members, no_rule, rule_in, start_rule, stop_rule, try_clause_start, try_clause_wait, wait_rule}
use Rattle.parlog.specs.Scan.{build}
use Rattle.parlog.specs.Tables.{goal_spot, new_process, procs_of, State}
use Rattle.parlog.specs.Tree.{all_children, any_child, Heard, heard}
use Rattle.parlog.specs.declared.Move.TheVariants.{AndParFailure, AndParStart, AndParSuccess, AndSeqFailure, AndSeqNext, AndSeqStart, AndSeqSuccess, GuardEvalEmpty, GuardEvalFailure, GuardEvalStart, GuardEvalSuccess, Ready, Stop, TryClauseFailure, TryClauseStart, TryClauseSuccess}
use Rattle.parlog.specs.declared.Process.{Process}
use Rattle.parlog.specs.declared.Spot.{Spot}
use Rattle.rows.proofs.Tables.{procs-length, procs-none, table-rows}
use Rattle.rows.specs.Rows.{Table}
use Rattle.rules_and.specs.Says.{next_stage, Readies, Starts, wait_all, Waits}

-- ---- ready and stop

pub readied : (p : ℕ) (x : Process) {me : Process} {a : Applied} → me ≡ with_mode starting x → a ≡ by_rule (Ready p) (only me) → Readies p x a
unfolding rule_in
readied p x em ea pr s = rw (← em) ea

pub stopped : (p : ℕ) (x : Process) {me : Process} {a : Applied} → p ≡ 0 → me ≡ with_mode dormant x → a ≡ by_rule (Stop 0) (only me) → a ≡ stop_rule p x
unfolding stop_rule
stopped p x z em ea = rw (z, ← em) ea

pub not_stopped : (p : ℕ) (x : Process) {a : Applied} → (p ≡ 0 → ⊥) → a ≡ no_rule → a ≡ stop_rule p x
unfolding stop_rule
not_stopped zero x ne ea = absurd (ne refl)
not_stopped (suc p) x ne ea = ea

-- ---- and-par

literal-of : (pr : Program) (z : Spot) (j : ℕ) → literal_at pr (literal_spot z j) ≡ get_or (stage_at pr z) j no_literal
unfolding literal_at stage_at goal_at literal_spot
literal-of pr z j = refl

pub member_is : (pr : Program) (p : ℕ) (z : Spot) (j : ℕ) {y : Spot} {t : Tag} {c : Process}
    → y ≡ literal_spot z j → t ≡ tag_of_literal (literal_at pr y) → c ≡ new_process t ready p y → c ≡ member pr p z j
unfolding member member_tag
member_is pr p z j ey et ec = rw (et, ey, literal-of pr z j) at ec

made : (s : State) (p : ℕ) {q : ℕ} {me w : Process} {ps qs : List Process} → q ≡ first_made s p ps → me ≡ w → ps ≡ qs
    → by_rule (AndParStart q) (making me None ps 0) ≡ by_rule (AndParStart (first_made s p qs)) (making w None qs 0)
made s p {q} {qs = qs} eq em e =
    let f : q ≡ first_made s p qs = eq ∙ ap (first_made s p) e in
    λ i. by_rule (AndParStart (f i)) (making (em i) None (e i) 0)

-- room for the members, and for the body beside them
module _ (pr : Program) (p : ℕ) (z : Spot) (few : length (members pr p z) ≤ 12) {k : ℕ} (ek : k ≡ length (stage_at pr z)) where
  beside-few : length (build (member pr p z) (length (stage_at pr z))) + length (body_beside (split_at pr z) p z) ≤ 12
  unfolding members
  beside-few = rw (← length-append (build (member pr p z) (length (stage_at pr z))) (body_beside (split_at pr z) p z)) few

  pub literals-few : k ≤ 12
  literals-few = let l = build-length (member pr p z) (length (stage_at pr z)) in let h = beside-few in omega arith

  pub body-fits : {b : Bool} → b ≡ split_by (kind_of z.kind) pr z.clause → b ≡ true → k < 12
  unfolding split_at body_beside
  body-fits eb e =
      let l = build-length (member pr p z) (length (stage_at pr z)) in
      let h : length (build (member pr p z) (length (stage_at pr z))) + 1 ≤ 12 = rw (sym eb ∙ e) at beside-few in
      omega arith

-- with_body
pub body-none : (p : ℕ) (z : Spot) (rows : List ℕ) (k : ℕ) {b : Bool} → b ≡ false → procs_of rows k ≡ procs_of rows k ++ body_beside b p z
unfolding body_beside
body-none p z rows k e = rw e (sym (append-nil (procs_of rows k)))

pub body-some : (p : ℕ) (z : Spot) (rows new : List ℕ) (k : ℕ) {b : Bool} → b ≡ true → {y : Spot} {x : Process} → y ≡ goal_spot as_written z.clause z.base → x ≡ new_process and_seq ready p y
    → Table rows new (procs_of rows k ++ (x ∷ [])) → procs_of new (k + 1) ≡ procs_of rows k ++ body_beside b p z
unfolding body_beside
body-some p z rows new k e {x = x} ey ex t =
    let w : x ≡ new_process and_seq ready p (goal_spot as_written z.clause z.base) = ex ∙ ap (new_process and_seq ready p) ey in
    let n : length (procs_of rows k ++ (x ∷ [])) ≡ k + 1 = length-append (procs_of rows k) (x ∷ []) ∙ omega (arith, procs-length rows k) in
    rw e (table-rows (k + 1) t n ∙ ap (λ (o : Process). procs_of rows k ++ (o ∷ [])) w)

pub par-starts : (pr : Program) (n p : ℕ) (x : Process) (rows new : List ℕ) (m : ℕ) {me : Process} {q k : ℕ} {b : Bool} {a : Applied}
    → k ≡ length (stage_at pr x.spot) → b ≡ split_by (kind_of x.spot.kind) pr x.spot.clause → procs_of rows k ≡ build (member pr p x.spot) k
    → procs_of new m ≡ procs_of rows k ++ body_beside b p x.spot → me ≡ with_mode waiting x → q ≡ touched n p m
    → a ≡ by_rule (AndParStart q) (making me None (procs_of new m) 0) → Starts and_par pr n p x a
unfolding start_rule and_par_start members split_at
par-starts pr n p x rows new m {k = k} ek eb er ew em eq ea s es =
    let f : procs_of rows k ≡ build (member pr p x.spot) (length (stage_at pr x.spot)) = er ∙ ap (build (member pr p x.spot)) ek in
    ea ∙ made s p (eq ∙ touches s n p m (procs_of new m) es (procs-length new m)) em (ew ∙ ap₂ (λ ys c. ys ++ body_beside c p x.spot) f eb)

module _ (ps : List Process) (p : ℕ) (x : Process) {a : Applied} {b d : Bool} (eb : b ≡ any_child failure ps p) (ed : d ≡ all_children success ps p) where
  pub par-waits : a ≡ wait_all (AndParFailure p) (AndParSuccess p) b d x → Waits and_par ps p x a
  unfolding wait_rule wait_all and_par_wait
  par-waits ea pr vs = rw (← eb, ← ed) (ea ∙ go b d)
    where
      go : (b d : Bool) → wait_all (AndParFailure p) (AndParSuccess p) b d x ≡ and_par_wait b d p x
      go true d = refl
      go false true = refl
      go false false = refl

  pub try-waits : a ≡ wait_all (TryClauseFailure p) (TryClauseSuccess p) b d x → Waits try_clause ps p x a
  unfolding wait_rule wait_all try_clause_wait
  try-waits ea pr vs = rw (← eb, ← ed) (ea ∙ go b d)
    where
      go : (b d : Bool) → wait_all (TryClauseFailure p) (TryClauseSuccess p) b d x ≡ try_clause_wait b d p x
      go true d = refl
      go false true = refl
      go false false = refl

-- ---- and-seq

module _ (pr : Program) (n p : ℕ) (x : Process) {a : Applied} {k : ℕ} (ek : k ≡ length (goal_by (kind_of x.spot.kind) pr x.spot.clause)) where
  pub seq-ends : k ≤ x.spot.stage → a ≡ by_rule (AndSeqSuccess p) (report success x) → Starts and_seq pr n p x a
  unfolding start_rule and_seq_start goal_at
  seq-ends h ea s es = rw (← ek, le-ltb x.spot.stage k h) ea

  pub seq-starts : x.spot.stage < k → {t : Tag} {y : Spot} {c me : Process} → t ≡ tag_of_stage (stage_at pr x.spot) → y ≡ literal_spot x.spot 0 → c ≡ new_process t starting p y
      → me ≡ with_mode waiting x → a ≡ by_rule (AndSeqStart n) (making me None (c ∷ []) 0) → Starts and_seq pr n p x a
  unfolding start_rule and_seq_start goal_at
  seq-starts h {c = c} et ey eb em ea s es =
      let ec : c ≡ new_process (tag_of_stage (stage_at pr x.spot)) starting p (literal_spot x.spot 0) = rw (et, ey) at eb in
      rw (← ek, lt-ltb x.spot.stage k h, es, ← em, ← ec) ea

pub next-is : (x : Process) {y : Spot} {r : Process} → y ≡ at_stage (x.spot.stage + 1) x.spot → r ≡ with_spot starting y x → r ≡ next_stage x
unfolding next_stage
next-is x ey er = er ∙ ap (λ (z : Spot). with_spot starting z x) (ey ∙ ap (λ (k : ℕ). at_stage k x.spot) (add-one x.spot.stage))

pub pass-is : (p c : ℕ) (x : Process) (rows : List ℕ) {me : Process} {a : Applied}
    → me ≡ next_stage x → a ≡ by_rule (AndSeqNext p) (making me (Some c) (procs_of rows 0) 0) → a ≡ by_rule (AndSeqNext p) (making (next_stage x) (Some c) [] 0)
pass-is p c x rows em ea = rw (procs-none rows, em) at ea

heard-as : {h : Heard} {f g : News} → heard_of f ≡ h → f ≡ g → heard_of g ≡ h
heard-as e q = sym (ap heard_of q) ∙ e

-- what the latest child tells
module _ (ps : List Process) (p : ℕ) (x : Process) {a : Applied} {f : News} (ef : heard_of f ≡ heard ps p) where
  pub seq-waits : f ≡ Silent → a ≡ no_rule → Waits and_seq ps p x a
  unfolding wait_rule and_seq_wait
  seq-waits h ea pr vs = rw (← heard-as ef h) ea

  pub seq-passes : {c : ℕ} → f ≡ Good c → a ≡ by_rule (AndSeqNext p) (making (next_stage x) (Some c) [] 0) → Waits and_seq ps p x a
  unfolding wait_rule and_seq_wait next_stage
  seq-passes h ea pr vs = rw (← heard-as ef h) ea

  pub seq-fails : {c : ℕ} → f ≡ Bad c → a ≡ by_rule (AndSeqFailure p) (report failure x) → Waits and_seq ps p x a
  unfolding wait_rule and_seq_wait
  seq-fails h ea pr vs = rw (← heard-as ef h) ea

  pub guard-waits : f ≡ Silent → a ≡ no_rule → Waits guard_eval ps p x a
  unfolding wait_rule guard_eval_wait
  guard-waits h ea pr vs = rw (← heard-as ef h) ea

  pub guard-succeeds : {c : ℕ} → f ≡ Good c → a ≡ by_rule (GuardEvalSuccess p) (report success x) → Waits guard_eval ps p x a
  unfolding wait_rule guard_eval_wait
  guard-succeeds h ea pr vs = rw (← heard-as ef h) ea

  pub guard-fails : {c : ℕ} → f ≡ Bad c → a ≡ by_rule (GuardEvalFailure p) (report failure x) → Waits guard_eval ps p x a
  unfolding wait_rule guard_eval_wait
  guard-fails h ea pr vs = rw (← heard-as ef h) ea

-- ---- try-clause

pub try-starts : (n p : ℕ) (x : Process) {u v : Spot} {c d me : Process} {a : Applied}
    → u ≡ try_spot x.spot x.spot.found x.spot.first → c ≡ new_process input_match ready p u → v ≡ guard_spot x.spot.found x.spot.first → d ≡ new_process guard_eval ready p v
    → me ≡ with_mode waiting x → a ≡ by_rule (TryClauseStart n) (making me None (c ∷ d ∷ []) 0) → (pr : Program) → Starts try_clause pr n p x a
unfolding start_rule try_clause_start
try-starts n p x {c = c} {d = d} eu b ev g em ea pr s es =
    let ec : c ≡ new_process input_match ready p (try_spot x.spot x.spot.found x.spot.first) = rw eu at b in
    let ed : d ≡ new_process guard_eval ready p (guard_spot x.spot.found x.spot.first) = rw ev at g in
    rw (es, ← em, ← ec, ← ed) ea

-- ---- guard-eval

guard_none : (g : Goal) (s : State) (p : ℕ) (x : Process) → length g ≡ 0 → guard_eval_start g s p x ≡ by_rule (GuardEvalEmpty p) (report success x)
unfolding guard_eval_start
guard_none [] s p x e = refl
guard_none (st ∷ g) s p x e = absurd (omega arith)

guard-some : (g : Goal) (s : State) (p : ℕ) (x : Process) → (length g ≡ 0 → ⊥)
    → guard_eval_start g s p x ≡ by_rule (GuardEvalStart (length s.procs)) (making (with_mode waiting x) None (new_process (tag_of_goal g) starting p (goal_spot the_guard x.spot.found x.spot.first) ∷ []) 0)
unfolding guard_eval_start
guard-some [] s p x ne = absurd (ne refl)
guard-some (st ∷ g) s p x ne = refl

guard-of : (pr : Program) (k : ℕ) → goal_by (kind_of 1) pr k ≡ (clause_at pr k).guard
unfolding goal_by kind_of
guard-of pr k = refl

module _ (pr : Program) (n p : ℕ) (x : Process) {a : Applied} {k : ℕ} (ek : k ≡ length (goal_by (kind_of 1) pr x.spot.found)) where
  pub guard-ends : k ≡ 0 → a ≡ by_rule (GuardEvalEmpty p) (report success x) → Starts guard_eval pr n p x a
  unfolding start_rule
  guard-ends h ea s es = ea ∙ sym (guard_none (clause_at pr x.spot.found).guard s p x (sym (ek ∙ ap length (guard-of pr x.spot.found)) ∙ h))

  pub guard-starts : (k ≡ 0 → ⊥) → {y : Spot} {t : Tag} {c me : Process} → y ≡ goal_spot the_guard x.spot.found x.spot.first → t ≡ tag_of_goal (goal_by (kind_of 1) pr x.spot.found)
      → c ≡ new_process t starting p y → me ≡ with_mode waiting x → a ≡ by_rule (GuardEvalStart n) (making me None (c ∷ []) 0) → Starts guard_eval pr n p x a
  unfolding start_rule
  guard-starts ne {c = c} ey et eb em ea s es =
      let g = (clause_at pr x.spot.found).guard in
      let eg = guard-of pr x.spot.found in
      let ec : c ≡ new_process (tag_of_goal g) starting p (goal_spot the_guard x.spot.found x.spot.first) = rw (et, ey, eg) at eb in
      let e : a ≡ by_rule (GuardEvalStart (length s.procs)) (making (with_mode waiting x) None (new_process (tag_of_goal g) starting p (goal_spot the_guard x.spot.found x.spot.first) ∷ []) 0) =
      rw (es, ← em, ← ec) ea in
      e ∙ sym (guard-some g s p x (λ z. ne (ek ∙ ap length eg ∙ z)))
