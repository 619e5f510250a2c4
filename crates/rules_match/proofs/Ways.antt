-- The ways through the rules of matching: a law for each return.
use Rattle.std.specs.Prelude.{Option}
use mathlib.Core.Path.{◌∙◌, ◌≡◌, ap, refl}
use mathlib.Core.Logic.{◌≢◌}
use mathlib.Core.Bool.{Bool, false, true}
use mathlib.Core.List.{[], ◌∷◌, List}
use Prim.Native.Nat.{◌+◌, ◌<◌, ◌≤◌, min, suc, zero, ℕ}
use lib.ListN.{get_or, length, take}
use lib.Seq.{get_or-take, length-take-le}
use native.Mathlib.Omega.{arith}
use Rattle.decide.proofs.Told.{shifted-four}
use Rattle.decide.specs.Decision.{changes_of, decided_of, Decides, Shifted, suspended_by, to_bind}
use Rattle.decide.specs.declared.Decision.{Decision}
use Rattle.decide.specs.declared.Decision.TheVariants.{Binds, Fails, Suspends}
use Rattle.move_plan.specs.Plans.{Within}
use Rattle.move_plan.specs.declared.Plan.{Plan}
use Rattle.parlog.specs.Codes.{failure, success}
use Rattle.parlog.specs.Delta.{four_of, only, report, reporting_with, with_notes, woken}
use Rattle.parlog.specs.Program.{call_modes, clause_at, literal_at, modes_at, out_count, Program}
use Rattle.parlog.specs.Rules.{Applied, by_rule, equate_at, equate_start, input_match_start, match_at, no_rule, wake_rule}
use Rattle.parlog.specs.Tables.{noted, State}
use Rattle.parlog.specs.Tree.{enclosing, first_of}
use Rattle.parlog.specs.Unify.{binds, Decided, equate_of, fails, match_of, some_bound, suspends}
use Rattle.parlog.specs.declared.Change.{Change}
use Rattle.parlog.specs.declared.Move.{Move}
use Rattle.parlog.specs.declared.Move.TheVariants.{Wake}
use Rattle.parlog.specs.declared.Process.{Process}
use Rattle.parlog.specs.declared.Spot.{Spot}
use Rattle.parlog.specs.declared.Term.{Term}
use Rattle.parlog.specs.declared.Term.TheVariants.{Const, Var}
use Rattle.program_goal.specs.Parts.{shown}
use Rattle.program_goal.specs.declared.Lit.{Lit}
use Rattle.rules_match.specs.declared.Way.{Way}
use Rattle.rules_match.specs.declared.Way.TheVariants.{Bind, Failure, Success, Suspend}
use Rattle.rules_match.proofs.Lists.{four-take, match-cut, outs-take}
use Rattle.rules_match.specs.Starts.{equate_move, EquateThere, in_four, match_move, MatchThere, start_by, way_of}
use Rattle.unify.proofs.Laws.{noted-many}
use Rattle.unify.specs.Pending.{no_change, noted_in, pending, top, Writable}
use Rattle.unify.specs.declared.waiting.Changes.{Changes}
use Rattle.unify.specs.declared.waiting.Noted.{Noted}

-- ---- plans

-- nothing is bound within any count
pub within_none : (m : ℕ) (r : Plan) → r.changes.count ≡ 0 → Within m r.changes.count r.changes.list
within_none m r e i h = absurd (omega arith)

-- ---- a decision

bind-same : (d : Decision) → to_bind d ≡ changes_of (decided_of d)
unfolding to_bind decided_of
bind-same Fails = refl
bind-same (Suspends s) = go (noted_in s)
  where
    go : (ns : List ℕ) → [] ≡ changes_of (suspended_by ns)
    go [] = unfold suspended_by in refl
    go (v ∷ ns) = unfold suspended_by in refl
bind-same (Binds cs) = refl

module _ {dd : Decided} {d : Decision} (is : Decides dd d) where
  pub itself : Decides (decided_of d) d
  itself = record { told = refl; some = is.some }

  -- what is made can be written
  bound-writable : {n m : ℕ} → n ≡ m → Writable n (changes_of dd) → Writable m (to_bind d)
  bound-writable e w = rw (bind-same d, is.told, ← e) w

pub bound-within : (cs : Changes) → length cs.list ≡ 4 → (m : ℕ) {d : Decision} → d ≡ Binds cs → Writable m (to_bind d) → Within m cs.count cs.list
unfolding to_bind pending
bound-within cs four m {d} ed v i h =
    let w : Writable m (take cs.count cs.list) = rw ed at v in
    let e : length (take cs.count cs.list) ≡ cs.count = length-take-le cs.count cs.list (omega (arith, cs.few)) in
    let l : i < length (take cs.count cs.list) = omega arith in
    let q = get_or-take cs.count cs.list i no_change h in
    (rw q at (w.rows i l), rw q at (w.numbers i l))

-- ---- how it ends

pub way-failing : {d : Decision} → d ≡ Fails → Failure ≡ way_of (decided_of d)
unfolding way_of decided_of
way-failing e = rw e

first-noted : (k : ℕ) (ns : List ℕ) → 0 < k → 0 < length ns → Suspend (Var (get_or ns 0 0)) ≡ way_of (suspended_by (take k ns))
unfolding way_of suspended_by
first-noted zero ns h g = absurd (omega arith)
first-noted (suc k) [] h g = absurd (omega arith)
first-noted (suc k) (v ∷ ns) h g = refl

pub way-noting : {d : Decision} (s : Noted) → d ≡ Suspends s → 0 < s.count → Suspend (Var (get_or s.notes 0 0)) ≡ way_of (decided_of d)
unfolding decided_of noted_in
way-noting s e h = rw e (first-noted s.count s.notes h (let f : length s.notes ≡ 4 = ap length s.filled ∙ (unfold four_of in refl) in omega arith))

pub way-bare : {d : Decision} (cs : Changes) → d ≡ Binds cs → cs.count ≡ 0 → Success ≡ way_of (decided_of d)
unfolding way_of decided_of pending
way-bare cs e z = rw (e, z)

first-bound : (k : ℕ) (cs : List Change) → k ≢ 0 → length cs ≡ 4 → Bind (Var (get_or cs 0 no_change).var) ≡ way_of (binds (take k cs))
unfolding way_of
first-bound zero cs ne four = absurd (ne refl)
first-bound (suc k) [] ne four = absurd (omega arith)
first-bound (suc k) (c ∷ cs) ne four = refl

pub way-binding : {d : Decision} (cs : Changes) → length cs.list ≡ 4 → d ≡ Binds cs → cs.count ≢ 0 → Bind (Var (get_or cs.list 0 no_change).var) ≡ way_of (decided_of d)
unfolding decided_of pending
way-binding cs four e ne = rw e (first-bound cs.count cs.list ne four)

-- ---- start_by

module _ {d : Decision} (mv : Move) (x : Process) {a : Applied} where
  pub by-failing : d ≡ Fails → a ≡ by_rule mv (report failure x) → a ≡ start_by mv (decided_of d) x
  unfolding start_by decided_of
  by-failing e h = rw e h

  pub by-noting : (s : Noted) → d ≡ Suspends s → 0 < s.count → {y : Process} → y ≡ with_notes (noted_in s) x → a ≡ by_rule mv (only y) → a ≡ start_by mv (decided_of d) x
  unfolding decided_of
  by-noting s e h {y} ey ea = rw e (go (noted_in s) (noted-many s) ey)
    where
      go : (ns : List ℕ) → length ns ≡ s.count → y ≡ with_notes ns x → a ≡ start_by mv (suspended_by ns) x
      go [] l q = absurd (omega arith)
      go (v ∷ ns) l q = unfold start_by suspended_by in (rw (← q) ea)

  pub by-binding : (cs : Changes) → d ≡ Binds cs → a ≡ by_rule mv (reporting_with success x (pending cs)) → a ≡ start_by mv (decided_of d) x
  unfolding start_by decided_of
  by-binding cs e h = rw e h

-- ---- the moves of the two rules

module _ {dd : Decided} {d : Decision} (is : Decides dd d) (p : ℕ) (x : Process) {w : Way} (ew : w ≡ way_of (decided_of d)) {mv : Move} {a : Applied} (ea : a ≡ start_by mv (decided_of d) x) where
  pub match-started : mv ≡ match_move p w → a ≡ input_match_start dd p x
  match-started em = (rw (em, ew, is.told) at ea) ∙ go dd
    where
      go : (dd : Decided) → start_by (match_move p (way_of dd)) dd x ≡ input_match_start dd p x
      go fails = unfold start_by way_of input_match_start in refl
      go (suspends u ns) = unfold start_by way_of input_match_start in refl
      go (binds []) = unfold start_by way_of input_match_start in refl
      go (binds (c ∷ cs)) = unfold start_by way_of input_match_start in refl

  pub equate-started : mv ≡ equate_move p w → a ≡ equate_start dd p x
  equate-started em = (rw (em, ew, is.told) at ea) ∙ go dd
    where
      go : (dd : Decided) → start_by (equate_move p (way_of dd)) dd x ≡ equate_start dd p x
      go fails = unfold start_by way_of equate_start in refl
      go (suspends u ns) = unfold start_by way_of equate_start in refl
      go (binds []) = unfold start_by way_of equate_start in refl
      go (binds (c ∷ cs)) = unfold start_by way_of equate_start in refl

-- ---- match_at

module _ (pr : Program) (vs : List (Option Term)) (z : Spot) {m : ℕ} (em : length vs ≡ m) (ok : MatchThere pr vs z) {l : Lit} (el : l ≡ shown (literal_at pr z)) where
  rel-is : l.rel ≡ (literal_at pr z).rel
  unfolding shown
  rel-is = ap (λ (y : Lit). y.rel) el

  size_is : l.arity ≡ length (literal_at pr z).args
  unfolding shown
  size_is = ap (λ (y : Lit). y.arity) el

  args_are : l.args ≡ in_four (Const 0) (literal_at pr z).args
  unfolding shown
  args_are = ap (λ (y : Lit). y.args) el

  pub args_fit : Shifted l.args z.base 4 m
  args_fit = rw (args_are, ← em) (shifted-four (length vs) z.base (literal_at pr z).args ok.args)

  pub head-fit : {head : List Term} → head ≡ in_four (Const 0) (clause_at pr z.found).head → Shifted head z.first 4 m
  head-fit e = rw (e, ← em) (shifted-four (length vs) z.first (clause_at pr z.found).head ok.head)

  module _ {modes : List ℕ} (eo : modes ≡ in_four 0 (modes_at pr l.rel)) {count arity : ℕ} (ec : count ≡ length (modes_at pr l.rel)) (ea : arity ≡ min count l.arity) where
    count-is : count ≡ length (call_modes pr z)
    count-is = rw rel-is at ec

    arity-is : arity ≡ min (length (call_modes pr z)) (length (literal_at pr z).args)
    arity-is = rw (count-is, size_is) at ea

    arity-left : arity ≤ length (call_modes pr z)
    arity-left = omega (arith, arity-is)

    arity-right : arity ≤ length (literal_at pr z).args
    arity-right = omega (arith, arity-is)

    pub arity-few : arity ≤ 4
    arity-few = omega (arith, arity-left, ok.few)

    modes-are : take arity modes ≡ take arity (call_modes pr z)
    modes-are = rw (eo, rel-is) (four-take 0 arity (call_modes pr z) arity-few arity-left)

    pub outs-fit : {own : ℕ} → own ≡ (clause_at pr z.found).vars → z.first + own + out_count (take arity modes) ≤ m
    outs-fit e = rw (e, modes-are) (omega (arith, ok.outs, em, outs-take arity (call_modes pr z)))

    pub match-way : {head : List Term} → head ≡ in_four (Const 0) (clause_at pr z.found).head → {own : ℕ} → own ≡ (clause_at pr z.found).vars → {r : Decision}
        → Decides (match_of vs (take arity modes) (take arity l.args) z.base (take arity head) z.first own) r → Decides (match_at pr vs z) r
    unfolding match_at
    match-way {head} eh {own} eown {r} is =
        let hs : List Term = (clause_at pr z.found).head in
        let e1 : take arity l.args ≡ take arity (literal_at pr z).args = rw args_are (four-take (Const 0) arity (literal_at pr z).args arity-few arity-right) in
        let e2 : take arity head ≡ take arity hs = rw eh (four-take (Const 0) arity hs arity-few (omega (arith, arity-left, ok.whole))) in
        rw (modes-are, e1, e2, eown, match-cut vs (call_modes pr z) (literal_at pr z).args z.base hs z.first (clause_at pr z.found).vars ok.whole arity-is) at is

-- what it binds can be written
pub match-writes : (pr : Program) (vs : List (Option Term)) (z : Spot) {m : ℕ} → length vs ≡ m → MatchThere pr vs z → {d : Decision} → Decides (match_at pr vs z) d → Writable m (to_bind d)
match-writes pr vs z em ok is = bound-writable is em ok.made

-- ---- equate_at

module _ (pr : Program) (vs : List (Option Term)) (z : Spot) {m : ℕ} (em : length vs ≡ m) (ok : EquateThere pr vs z) {l : Lit} (el : l ≡ shown (literal_at pr z)) where
  pub left-fit : top (get_or l.args 0 (Const 0)) + z.base ≤ m
  unfolding shown
  left-fit = rw (el, ← em) ok.left

  pub right-fit : top (get_or l.args 1 (Const 0)) + z.base ≤ m
  unfolding shown
  right-fit = rw (el, ← em) ok.right

module _ (pr : Program) (s : State) (z : Spot) (p : ℕ) where
  pub equate-way : {l : Lit} → l ≡ shown (literal_at pr z) → {bar : ℕ} → bar ≡ first_of s.procs (enclosing s.procs p) → {r : Decision}
      → Decides (equate_of s.vars (get_or l.args 0 (Const 0)) (get_or l.args 1 (Const 0)) z.base bar) r → Decides (equate_at pr s p z) r
  unfolding equate_at shown
  equate-way el eb is = rw (el, eb) at is

  -- what it binds can be written
  pub equate-writes : {m : ℕ} → length s.vars ≡ m → EquateThere pr s.vars z → {d : Decision} → Decides (equate_at pr s p z) d → Writable m (to_bind d)
  unfolding equate_at
  equate-writes em ok is = bound-writable is em (ok.made (first_of s.procs (enclosing s.procs p)))

-- ---- wake

module _ (vs : List (Option Term)) (p : ℕ) (x : Process) {b : Bool} (eb : b ≡ some_bound vs (noted x)) {a : Applied} where
  pub sleeps-on : b ≡ false → a ≡ no_rule → a ≡ wake_rule (some_bound vs (noted x)) p x
  unfolding wake_rule
  sleeps-on e h = rw (← eb, e) h

  pub wakes : b ≡ true → {y : Process} → y ≡ woken x → a ≡ by_rule (Wake p) (only y) → a ≡ wake_rule (some_bound vs (noted x)) p x
  unfolding wake_rule
  wakes e ey h = rw (← eb, e, ← ey) h

pub noted_here : (vs : List (Option Term)) (x : Process) {b : Bool} → b ≡ some_bound vs (take x.count x.notes) → b ≡ some_bound vs (noted x)
unfolding noted
noted_here vs x e = e
