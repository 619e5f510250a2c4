-- Every process has four notes, as its row does: in the tables that bytes hold, and after every move and supply.
use Rattle.std.specs.Prelude.{Option, Some, None}
use mathlib.Core.Path.{◌≡◌, refl}
use mathlib.Core.Bool.{◌&&◌, ◌||◌, Bool, false, true}
use mathlib.Core.List.{[], ◌++◌, ◌∷◌, List}
use Prim.Native.Nat.{◌+◌, ◌-◌, ◌≤◌, suc, zero, ℕ}
use lib.Dec.{eqb, ltb}
use lib.ListN.{length}
use borrow.Author.Tests.{ltb-false, ltb-true}
use native.Mathlib.Omega.{arith}
use Rattle.parlog.proofs.Bools.{split}
use Rattle.parlog.proofs.Effects.{apply-new, apply-row}
use Rattle.parlog.proofs.Steps.{step-made, turn-made}
use Rattle.parlog.specs.Codes.{and_par, and_seq, as_written, dormant, equate, failure, guard_eval, input_match, Mode, mode_of, or_par, or_search, ready, reporting, Result, seq_search, starting, success, suspended, Tag, try_clause, waiting}
use Rattle.parlog.specs.Delta.{apply, asleep, Delta, four_of, is_at, literal_spot, making, only, report, reporting_with, row_after, try_spot, with_mode, with_notes, with_result, with_spot, woken}
use Rattle.parlog.specs.Demands.{no_more, once_more, Repeats}
use Rattle.parlog.specs.Limits.{Limits}
use Rattle.parlog.specs.Program.{Goal, Program, split_at, stage_at, vars_of}
use Rattle.parlog.specs.Rules.{and_par_start, and_par_wait, and_seq_start, and_seq_wait, Applied, body_beside, body_child, by_rule, equate_start, guard_eval_start, guard_eval_wait, input_match_start, member, members, no_rule, or_par_heard, or_par_start, or_par_wait, or_search_start, or_search_wait, rule_in, rule_of, searching, seq_search_next, seq_search_start, seq_search_wait, start_rule, stop_rule, tries, try_clause_start, try_clause_wait, wait_rule, wake_rule, with_found}
use Rattle.parlog.specs.Run.{made, stepped, step_tables, supplied}
use Rattle.parlog.specs.Scan.{build}
use Rattle.parlog.specs.Tables.{at, goal_spot, Lent, new_process, proc_count, State, Tables, tables_in}
use Rattle.parlog.specs.Tree.{bad, below, good, Heard, silent}
use Rattle.parlog.specs.Unify.{binds, Decided, fails, suspends}
use Rattle.parlog.specs.declared.Change.{Change}
use Rattle.parlog.specs.declared.Move.{Move}
use Rattle.parlog.specs.declared.Process.{Process}
use Rattle.parlog.specs.declared.Spot.{Spot}
use Rattle.rows.proofs.Tables.{procs-four}
use Rattle.rows.specs.Rows.{Four}

abbrev pub Fours : State → Type 0
Fours s = (i : ℕ) → Four (at s.procs i)

-- four notes in each of these
data FourRows : List Process → Type 0 where
  four-none : FourRows []
  four-first : {y : Process} {ys : List Process} → Four y → FourRows ys → FourRows (y ∷ ys)

record FourDelta (d : Delta) : Type 0 where
  mover : Four d.me
  new : FourRows d.new

abbrev FourIn : Applied → Type 0
FourIn no_rule = Unit {0}
FourIn (by_rule m d) = FourDelta d

-- ---- rows

four-at : {ps : List Process} → FourRows ps → (i : ℕ) → Four (at ps i)
four-at four-none i = refl
four-at (four-first f g) zero = f
four-at (four-first f g) (suc i) = four-at g i

four-one : (y : Process) → Four y → FourRows (y ∷ [])
four-one y f = four-first f four-none

four-build : (f : ℕ → Process) → ((i : ℕ) → Four (f i)) → (n : ℕ) → FourRows (build f n)
unfolding build
four-build f h zero = four-none
four-build f h (suc n) = four-first (h 0) (four-build (λ i. f (suc i)) (λ i. h (suc i)) n)

four-new : (t : Tag) (m : Mode) (p : ℕ) (z : Spot) → Four (new_process t m p z)
unfolding new_process
four-new t m p z = refl

four-member : (pr : Program) (p : ℕ) (z : Spot) (j : ℕ) → Four (member pr p z j)
unfolding member
four-member pr p z j = four-new _ ready p (literal_spot z j)

four-append : (ys zs : List Process) → FourRows ys → FourRows zs → FourRows (ys ++ zs)
four-append [] zs a b = b
four-append (y ∷ ys) zs (four-first f a) b = four-first f (four-append ys zs a b)

four-beside : (b : Bool) (p : ℕ) (z : Spot) → FourRows (body_beside b p z)
unfolding body_beside
four-beside false p z = four-none
four-beside true p z = four-one _ (four-new and_seq ready p (goal_spot as_written z.clause z.base))

four-members : (pr : Program) (p : ℕ) (z : Spot) → FourRows (members pr p z)
unfolding members
four-members pr p z =
    four-append (build (member pr p z) (length (stage_at pr z))) (body_beside (split_at pr z) p z)
    (four-build (member pr p z) (four-member pr p z) (length (stage_at pr z))) (four-beside (split_at pr z) p z)

four-tries : (pr : Program) (p : ℕ) (z : Spot) (v : ℕ) (ks : List ℕ) → FourRows (tries pr p z v ks)
unfolding tries
four-tries pr p z v [] = four-none
four-tries pr p z v (k ∷ ks) = four-first (four-new try_clause ready p (try_spot z k v)) (four-tries pr p z (v + vars_of pr k) ks)

-- ---- a process changed

module _ (x : Process) (f : Four x) where
  four-mode : (m : Mode) → Four (with_mode m x)
  unfolding with_mode
  four-mode m = f

  four-result : (r : Result) → Four (with_result r x)
  unfolding with_result
  four-result r = f

  four-spot : (m : Mode) (z : Spot) → Four (with_spot m z x)
  unfolding with_spot
  four-spot m z = f

  four-notes : (ns : List ℕ) → Four (with_notes ns x)
  unfolding with_notes four_of
  four-notes ns = refl

  four-woken : Four (woken x)
  unfolding woken
  four-woken = refl

  four-asleep : (b : Bool) → Four (asleep b x)
  four-asleep true = four-mode dormant
  four-asleep false = f

  only-four : (y : Process) → Four y → FourDelta (only y)
  only-four y g = record { mover = g; new = four-none }

  report-four : (r : Result) → FourDelta (report r x)
  report-four r = record { mover = four-result r; new = four-none }

  report-with-four : (r : Result) (cs : List Change) → FourDelta (reporting_with r x cs)
  report-with-four r cs = record { mover = four-result r; new = four-none }

  making-four : (y : Process) → Four y → (nap : Option ℕ) (new : List Process) → FourRows new → (n : ℕ) → FourDelta (making y nap new n)
  making-four y g nap new h n = record { mover = g; new = h }

found-four : (s : State) (c : ℕ) (x : Process) → Four x → FourDelta (report success (with_found s c x))
unfolding with_found
found-four s c x f = report-four _ (four-spot x f reporting _) success

-- ---- by every rule

module _ (pr : Program) (s : State) (p : ℕ) (x : Process) (f : Four x) where
  four-seq : (b : Bool) → FourIn (and_seq_start b pr s p x)
  unfolding and_seq_start
  four-seq false = report-four x f success
  four-seq true = making-four x f _ (four-mode x f waiting) None _ (four-one _ (four-new _ starting p _)) 0

  four-search : (b : Bool) → FourIn (seq_search_start b s p x)
  unfolding seq_search_start searching
  four-search false = report-four x f failure
  four-search true = making-four x f _ (four-spot x f waiting _) None _ (four-one _ (four-new _ starting p _)) 0

  four-match : (o : Decided) → FourIn (input_match_start o p x)
  unfolding input_match_start
  four-match fails = report-four x f failure
  four-match (suspends v ns) = only-four x f _ (four-notes x f (v ∷ ns))
  four-match (binds []) = report-four x f success
  four-match (binds (c ∷ cs)) = report-with-four x f success (c ∷ cs)

  four-equate : (o : Decided) → FourIn (equate_start o p x)
  unfolding equate_start
  four-equate fails = report-four x f failure
  four-equate (suspends v ns) = only-four x f _ (four-notes x f (v ∷ ns))
  four-equate (binds []) = report-four x f success
  four-equate (binds (c ∷ cs)) = report-with-four x f success (c ∷ cs)

  four-guard : (g : Goal) → FourIn (guard_eval_start g s p x)
  unfolding guard_eval_start
  four-guard [] = report-four x f success
  four-guard (st ∷ g) = making-four x f _ (four-mode x f waiting) None _ (four-one _ (four-new _ starting p _)) 0

  four-try : FourIn (try_clause_start s p x)
  unfolding try_clause_start
  four-try = making-four x f _ (four-mode x f waiting) None _ (four-first (four-new _ ready p _) (four-one _ (four-new _ ready p _))) 0

  four-start : (t : Tag) → FourIn (start_rule t pr s p x)
  unfolding start_rule and_par_start or_par_start or_search_start
  four-start and_par = making-four x f _ (four-mode x f waiting) None _ (four-members pr p x.spot) 0
  four-start and_seq = four-seq _
  four-start or_par = making-four x f _ (four-mode x f waiting) None _ (four-one _ (four-new _ starting p _)) 0
  four-start seq_search = four-search _
  four-start or_search = making-four x f _ (four-mode x f waiting) None _ (four-tries pr p x.spot (length s.vars) _) _
  four-start try_clause = four-try
  four-start input_match = four-match _
  four-start guard_eval = four-guard _
  four-start equate = four-equate _

  four-all : (a b : Bool) → FourIn (and_par_wait a b p x)
  unfolding and_par_wait
  four-all true b = report-four x f failure
  four-all false true = report-four x f success
  four-all false false = tt

  four-both : (a b : Bool) → FourIn (try_clause_wait a b p x)
  unfolding try_clause_wait
  four-both true b = report-four x f failure
  four-both false true = report-four x f success
  four-both false false = tt

  four-next : (h : Heard) → FourIn (and_seq_wait h p x)
  unfolding and_seq_wait
  four-next silent = tt
  four-next (good c) = making-four x f _ (four-spot x f starting _) (Some c) [] four-none 0
  four-next (bad c) = report-four x f failure

  four-heard : (b : Bool) (c : ℕ) → FourIn (or_par_heard b pr s p x c)
  unfolding or_par_heard body_child
  four-heard false c = report-four x f success
  four-heard true c = making-four x f x f (Some c) _ (four-one _ (four-new _ starting p _)) 0

  four-or : (h : Heard) → FourIn (or_par_wait h pr s p x)
  unfolding or_par_wait
  four-or silent = tt
  four-or (good c) = four-heard _ c
  four-or (bad c) = report-four x f failure

  four-block : (b : Bool) (c : ℕ) → FourIn (seq_search_next b s p x c)
  unfolding seq_search_next searching
  four-block false c = report-four x f failure
  four-block true c = making-four x f _ (four-spot x f waiting _) (Some c) _ (four-one _ (four-new _ starting p _)) 0

  four-blocks : (h : Heard) (n : ℕ) → FourIn (seq_search_wait h n s p x)
  unfolding seq_search_wait
  four-blocks silent n = tt
  four-blocks (good c) n = found-four s c x f
  four-blocks (bad c) n = four-block _ c

  four-commit : (o : Option ℕ) (b : Bool) → FourIn (or_search_wait o b s p x)
  unfolding or_search_wait
  four-commit (Some c) b = found-four s c x f
  four-commit None true = report-four x f failure
  four-commit None false = tt

  four-ask : (h : Heard) → FourIn (guard_eval_wait h p x)
  unfolding guard_eval_wait
  four-ask silent = tt
  four-ask (good c) = report-four x f success
  four-ask (bad c) = report-four x f failure

  four-wait : (t : Tag) → FourIn (wait_rule t pr s p x)
  unfolding wait_rule
  four-wait and_par = four-all _ _
  four-wait and_seq = four-next _
  four-wait or_par = four-or _
  four-wait seq_search = four-blocks _ _
  four-wait or_search = four-commit _ _
  four-wait try_clause = four-both _ _
  four-wait input_match = tt
  four-wait guard_eval = four-ask _
  four-wait equate = tt

  four-wake : (b : Bool) → FourIn (wake_rule b p x)
  unfolding wake_rule
  four-wake true = only-four x f _ (four-woken x f)
  four-wake false = tt

  four-in : (m : Mode) → FourIn (rule_in m pr s p x)
  unfolding rule_in
  four-in dormant = tt
  four-in ready = only-four x f _ (four-mode x f starting)
  four-in starting = four-start _
  four-in waiting = four-wait _
  four-in reporting = four-stop p
    where
      four-stop : (q : ℕ) → FourIn (stop_rule q x)
      four-stop zero = unfold stop_rule in (only-four x f _ (four-mode x f dormant))
      four-stop (suc q) = unfold stop_rule in tt
  four-in suspended = four-wake _

four-rule : (pr : Program) (s : State) → Fours s → (p : ℕ) (m : Move) (d : Delta) → rule_of pr s p ≡ by_rule m d → FourDelta d
unfolding rule_of
four-rule pr s f p m d e = let h : FourIn (by_rule m d) = rw e at (four-in pr s p (at s.procs p) (f p) (mode_of (at s.procs p).mode)) in h

-- ---- the tables

row-four : (s : State) (p : ℕ) (d : Delta) → Fours s → FourDelta d → (i : ℕ) → Four (row_after s.procs p d i)
unfolding row_after
row-four s p d f g i = split (eqb i p) (λ e. rw e g.mover) (λ e. rw e (four-asleep (at s.procs i) (f i) ((d.cut && below s.procs p i) || is_at d.nap i)))

fours-apply : (s : State) (p : ℕ) (d : Delta) → Fours s → FourDelta d → Fours (apply s p d)
fours-apply s p d f g i = split (ltb i (length s.procs))
    (λ e. rw (apply-row s p d i (ltb-true i (length s.procs) e)) (row-four s p d f g i))
    (λ e. let j : ℕ = i - length s.procs in
    let h : length s.procs ≤ i = ltb-false i (length s.procs) e in
    let z : i ≡ length s.procs + j = omega arith in
    rw (z, apply-new s p d j) (four-at g.new j))

pub fours-in : (l : Lent) → Fours (tables_in l).state
unfolding tables_in
fours-in l = procs-four l.procs (proc_count l.head)

pub fours-step : (lim : Limits) (pr : Program) (t : Tables) → Fours t.state → (p : ℕ) (m : Move) (t' : Tables) → step_tables lim pr t p ≡ made m t' → Fours t'.state
unfolding stepped
fours-step lim pr t f p m t' e =
    let a = step-made lim pr t p m t' e in
    rw a.after (fours-apply t.state p a.delta f (four-rule pr t.state f p m a.delta a.rule))

pub fours-repeats : (lim : Limits) (pr : Program) {t t' : Tables} {n : ℕ} → Fours t.state → Repeats lim pr t n t' → Fours t'.state
fours-repeats lim pr f no_more = f
fours-repeats lim pr {t} f (once_more {t' = u} {m = m} g e r) = let (p, q, z) = turn-made lim pr t m u e in fours-repeats lim pr (fours-step lim pr t f p m u z) r

pub fours-supply : (t t' : Tables) → Fours t.state → (w c : ℕ) → t' ≡ supplied t w c → Fours t'.state
unfolding supplied
fours-supply t t' f w c e = rw e f
