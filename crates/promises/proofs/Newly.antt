-- What a rule binds, by the relation, and that its variables are exactly those newly bound.
use Rattle.parlog.specs.declared.Term.{Term}
use Rattle.std.specs.Prelude.{Option, None, Some}
use mathlib.Core.Path.{◌∙◌, ◌≡◌, refl, sym}
use mathlib.Core.Logic.{◌≢◌}
use mathlib.Core.Bool.{Bool, false, true}
use mathlib.Core.List.{[], ◌++◌, ◌∷◌, append-nil, List}
use Prim.Native.Nat.{◌<◌, suc, zero, ℕ}
use lib.Dec.{eqb, ltb}
use lib.ListN.{length, replicate}
use borrow.Author.Tests.{eqb-false, ltb-true}
use native.Mathlib.Omega.{arith}
use native.Mathlib.Nat.{add-zero, not-suc-le-zero}
use Rattle.parlog.proofs.Bindings.{change_in, changes_in}
use Rattle.std.proofs.lemmas.Bool.{and_parts}
use Rattle.parlog.proofs.Decided.{decide-binds}
use Rattle.parlog.proofs.Good.{Good, state-good}
use Rattle.parlog.proofs.Matched.{matches-complete, matches-sound}
use Rattle.parlog.proofs.Moves.{safe-rule}
use Rattle.parlog.proofs.Placed.{literal-is, literal-only}
use Rattle.parlog.proofs.Stays.{more-free, tells-itself}
use Rattle.parlog.proofs.Unified.{unify-complete}
use Rattle.parlog.proofs.Values.{Falling}
use Rattle.parlog.specs.Codes.{and_par, and_seq, dormant, equate, failure, guard_eval, input_match, is_tag, Mode, mode_of, or_par, or_search, ready, reporting, seq_search, starting, success, suspended, Tag, tag_of, try_clause, waiting}
use Rattle.parlog.specs.Delta.{apply, Delta, reporting_with}
use Rattle.parlog.specs.Limits.{Limits}
use Rattle.parlog.specs.Notions.{me, Unifies}
use Rattle.parlog.specs.Numbers.{rule_number}
use Rattle.parlog.specs.Program.{argument, block_count, call_modes, clause_at, Goal, goal_at, Literal, literal_at, Program}
use Rattle.parlog.specs.Relation.{Equating, Matching, spot_of}
use Rattle.parlog.specs.Rules.{and_par_start, and_par_wait, and_seq_start, and_seq_wait, Applied, by_rule, equate_at, equate_start, guard_eval_start, guard_eval_wait, input_match_start, match_at, no_rule, or_par_heard, or_par_start, or_par_wait, or_search_start, or_search_wait, rule_in, rule_of, searching, seq_search_next, seq_search_start, seq_search_wait, start_rule, stop_rule, try_clause_start, try_clause_wait, wait_rule, wake_rule}
use Rattle.parlog.specs.Sane.{all_of, Sane}
use Rattle.parlog.specs.TableRules.{state_ok}
use Rattle.parlog.specs.Tables.{binding_of, noted, State}
use Rattle.parlog.specs.Tree.{all_children, any_child, bad, enclosing, first_of, good, Heard, heard, lowest_child, silent}
use Rattle.parlog.specs.Unify.{binds, bound, change, changed, decide, Decided, equate_of, fails, input_value, match_of, pairs_of, shift, some_bound, suspends}
use Rattle.parlog.specs.declared.Change.{Change}
use Rattle.parlog.specs.declared.Move.{Move}
use Rattle.parlog.specs.declared.Pair.{Pair}
use Rattle.parlog.specs.declared.Process.{Process}
use Rattle.parlog.specs.declared.Term.TheVariants.{Const}
use Rattle.promises.proofs.Apart.{Apart, apart, newly-bound, Under}
use Rattle.promises.specs.Bound.{BindsBy, by_equate, by_match, by_none, NewlyBound}
use Rattle.unify.specs.Pending.{vars_bound}

-- a rule that binds reports success with its changes, any other changes no variable
data Lists (pr : Program) (s : State) (p : ℕ) : Applied → Type 0 where
  lists-none : Lists pr s p no_rule
  lists-binds : {m : Move} (y : Process) {cs : List Change} → BindsBy pr s p m cs → Lists pr s p (by_rule m (reporting_with success y cs))
  lists-other : {m : Move} {d : Delta} → d.changes ≡ [] → rule_number m ≢ 26 → rule_number m ≢ 33 → Lists pr s p (by_rule m d)

unifies : (vs : List (Option Term)) → Falling vs → (es : List Pair) (held : ℕ → Bool) (cs : List Change) → decide vs es held ≡ binds cs → Unifies vs es cs
unifies vs fall es held cs e = (decide-binds vs fall es held (λ v. held v ≡ true) (tells-itself held) cs e).0

module _ (pr : Program) (s : State) (g : Good s) (p : ℕ) where
  abbrev x : Process
  x = me s p

  other : {m : Move} {d : Delta} → d.changes ≡ [] → eqb (rule_number m) 26 ≡ false → eqb (rule_number m) 33 ≡ false → Lists pr s p (by_rule m d)
  other {m} e a b = lists-other e (eqb-false (rule_number m) 26 a) (eqb-false (rule_number m) 33 b)

  -- ---- the two rules that bind

  abbrev pairs : List Pair
  pairs = pairs_of (call_modes pr x.spot) (literal_at pr x.spot).args x.spot.base (clause_at pr x.spot.found).head x.spot.first (clause_at pr x.spot.found).vars

  abbrev inputs : ℕ → Bool
  inputs = input_value s.vars (call_modes pr x.spot) (literal_at pr x.spot).args x.spot.base

  matching : Matching pr s p (literal_at pr x.spot) pairs
  matching = record {
    literal = literal-is pr x.spot (g.kinds p);
    pairs = matches-sound (call_modes pr x.spot) (literal_at pr x.spot).args x.spot.base (clause_at pr x.spot.found).head x.spot.first (clause_at pr x.spot.found).vars;
  }

  lists-match : (o : Decided) → decide s.vars pairs inputs ≡ o → Lists pr s p (input_match_start o p x)
  unfolding input_match_start
  lists-match fails q = other refl refl refl
  lists-match (suspends v ns) q = other refl refl refl
  lists-match (binds []) q = lists-binds x (by_match refl matching (unifies s.vars g.falls pairs inputs [] q))
  lists-match (binds (c ∷ cs)) q = lists-binds x (by_match refl matching (unifies s.vars g.falls pairs inputs (c ∷ cs) q))

  abbrev sides : Pair
  sides = record { left = shift x.spot.base (argument (literal_at pr x.spot) 0); right = shift x.spot.base (argument (literal_at pr x.spot) 1) }

  abbrev older : ℕ → Bool
  older v = ltb v (first_of s.procs (enclosing s.procs p))

  equating : Equating pr s p sides
  equating = record { call = literal_at pr x.spot; literal = literal-is pr x.spot (g.kinds p); left = refl; right = refl }

  lists-equate : (o : Decided) → decide s.vars (sides ∷ []) older ≡ o → Lists pr s p (equate_start o p x)
  unfolding equate_start
  lists-equate fails q = other refl refl refl
  lists-equate (suspends v ns) q = other refl refl refl
  lists-equate (binds []) q = lists-binds x (by_equate refl equating (unifies s.vars g.falls (sides ∷ []) older [] q))
  lists-equate (binds (c ∷ cs)) q = lists-binds x (by_equate refl equating (unifies s.vars g.falls (sides ∷ []) older (c ∷ cs) q))

  -- ---- the others, by mode and tag

  lists-seq : (b : Bool) → Lists pr s p (and_seq_start b pr s p x)
  unfolding and_seq_start
  lists-seq false = other refl refl refl
  lists-seq true = other refl refl refl

  lists-search : (b : Bool) → Lists pr s p (seq_search_start b s p x)
  unfolding seq_search_start searching
  lists-search false = other refl refl refl
  lists-search true = other refl refl refl

  lists-guard : (a : Goal) → Lists pr s p (guard_eval_start a s p x)
  unfolding guard_eval_start
  lists-guard [] = other refl refl refl
  lists-guard (st ∷ a) = other refl refl refl

  lists-start : (t : Tag) → Lists pr s p (start_rule t pr s p x)
  unfolding start_rule and_par_start or_par_start or_search_start try_clause_start match_at match_of equate_at equate_of
  lists-start and_par = other refl refl refl
  lists-start and_seq = lists-seq (ltb x.spot.stage (length (goal_at pr x.spot)))
  lists-start or_par = other refl refl refl
  lists-start seq_search = lists-search (ltb 0 (block_count pr (literal_at pr x.spot).rel))
  lists-start or_search = other refl refl refl
  lists-start try_clause = other refl refl refl
  lists-start input_match = lists-match (decide s.vars pairs inputs) refl
  lists-start guard_eval = lists-guard (clause_at pr x.spot.found).guard
  lists-start equate = lists-equate (decide s.vars (sides ∷ []) older) refl

  lists-all : (a b : Bool) → Lists pr s p (and_par_wait a b p x)
  unfolding and_par_wait
  lists-all true b = other refl refl refl
  lists-all false true = other refl refl refl
  lists-all false false = lists-none

  lists-both : (a b : Bool) → Lists pr s p (try_clause_wait a b p x)
  unfolding try_clause_wait
  lists-both true b = other refl refl refl
  lists-both false true = other refl refl refl
  lists-both false false = lists-none

  lists-next : (h : Heard) → Lists pr s p (and_seq_wait h p x)
  unfolding and_seq_wait
  lists-next silent = lists-none
  lists-next (good c) = other refl refl refl
  lists-next (bad c) = other refl refl refl

  lists-heard : (b : Bool) (c : ℕ) → Lists pr s p (or_par_heard b pr s p x c)
  unfolding or_par_heard
  lists-heard false c = other refl refl refl
  lists-heard true c = other refl refl refl

  lists-call : (h : Heard) → Lists pr s p (or_par_wait h pr s p x)
  unfolding or_par_wait
  lists-call silent = lists-none
  lists-call (good c) = lists-heard (is_tag seq_search (me s c).tag) c
  lists-call (bad c) = other refl refl refl

  lists-behind : (b : Bool) (c : ℕ) → Lists pr s p (seq_search_next b s p x c)
  unfolding seq_search_next searching
  lists-behind false c = other refl refl refl
  lists-behind true c = other refl refl refl

  lists-blocks : (h : Heard) (n : ℕ) → Lists pr s p (seq_search_wait h n s p x)
  unfolding seq_search_wait
  lists-blocks silent n = lists-none
  lists-blocks (good c) n = other refl refl refl
  lists-blocks (bad c) n = lists-behind (ltb (suc x.spot.block) n) c

  lists-commit : (f : Option ℕ) (b : Bool) → Lists pr s p (or_search_wait f b s p x)
  unfolding or_search_wait
  lists-commit (Some c) b = other refl refl refl
  lists-commit None true = other refl refl refl
  lists-commit None false = lists-none

  lists-guarded : (h : Heard) → Lists pr s p (guard_eval_wait h p x)
  unfolding guard_eval_wait
  lists-guarded silent = lists-none
  lists-guarded (good c) = other refl refl refl
  lists-guarded (bad c) = other refl refl refl

  lists-wait : (t : Tag) → Lists pr s p (wait_rule t pr s p x)
  unfolding wait_rule
  lists-wait and_par = lists-all (any_child failure s.procs p) (all_children success s.procs p)
  lists-wait and_seq = lists-next (heard s.procs p)
  lists-wait or_par = lists-call (heard s.procs p)
  lists-wait seq_search = lists-blocks (heard s.procs p) (block_count pr (literal_at pr x.spot).rel)
  lists-wait or_search = lists-commit (lowest_child success s.procs p) (all_children failure s.procs p)
  lists-wait try_clause = lists-both (any_child failure s.procs p) (all_children success s.procs p)
  lists-wait input_match = lists-none
  lists-wait guard_eval = lists-guarded (heard s.procs p)
  lists-wait equate = lists-none

  lists-woken : (b : Bool) → Lists pr s p (wake_rule b p x)
  unfolding wake_rule
  lists-woken true = other refl refl refl
  lists-woken false = lists-none

  lists-mode : (m : Mode) → Lists pr s p (rule_in m pr s p x)
  unfolding rule_in
  lists-mode dormant = lists-none
  lists-mode ready = other refl refl refl
  lists-mode starting = lists-start (tag_of x.tag)
  lists-mode waiting = lists-wait (tag_of x.tag)
  lists-mode reporting = stops p
    where
      stops : (q : ℕ) → Lists pr s p (stop_rule q x)
      stops zero = unfold stop_rule in other refl refl refl
      stops (suc q) = unfold stop_rule in lists-none
  lists-mode suspended = lists-woken (some_bound s.vars (noted x))

  lists : Lists pr s p (rule_of pr s p)
  unfolding rule_of
  lists = lists-mode (mode_of x.mode)

-- ---- what a move binds is one list

module _ (pr : Program) (s : State) (g : Good s) (p : ℕ) where
  pairs-only : {call call' : Literal} {es fs : List Pair} → Matching pr s p call es → Matching pr s p call' fs → es ≡ fs
  pairs-only {call} {call'} a b =
      let q : call ≡ call' = sym (literal-only pr (spot_of s p) a.literal) ∙ literal-only pr (spot_of s p) b.literal in
      sym (matches-complete a.pairs) ∙ rw q (matches-complete b.pairs)

  sides-only : {e f : Pair} → Equating pr s p e → Equating pr s p f → e ≡ f
  sides-only {e} {f} a b =
      let q : a.call ≡ b.call = sym (literal-only pr (spot_of s p) a.literal) ∙ literal-only pr (spot_of s p) b.literal in
      let x : e.left ≡ f.left = a.left ∙ rw q (sym b.left) in
      let y : e.right ≡ f.right = a.right ∙ rw q (sym b.right) in
      λ i. record { left = x i; right = y i }

  unified-only : {es fs : List Pair} {cs ds : List Change} → es ≡ fs → Unifies s.vars es cs → Unifies s.vars fs ds → cs ≡ ds
  unified-only {es} {fs} {cs} {ds} q u w =
      let z : bound cs ≡ bound ds = sym (unify-complete s.vars g.falls u) ∙ rw q (unify-complete s.vars g.falls w) in
      cc

  pub binds-once : {m : Move} {cs ds : List Change} → BindsBy pr s p m cs → BindsBy pr s p m ds → cs ≡ ds
  binds-once (by_match n i u) (by_match k j w) = unified-only (pairs-only i j) u w
  binds-once (by_match n i u) (by_equate k j w) = absurd (omega (arith, n, k))
  binds-once (by_match n i u) (by_none a b) = absurd (a n)
  binds-once (by_equate n i u) (by_match k j w) = absurd (omega (arith, n, k))
  binds-once (by_equate n i u) (by_equate k j w) = unified-only (rw (sides-only i j)) u w
  binds-once (by_equate n i u) (by_none a b) = absurd (b n)
  binds-once (by_none a b) (by_match k j w) = absurd (a k)
  binds-once (by_none a b) (by_equate k j w) = absurd (b k)
  binds-once (by_none a b) (by_none c d) = refl

-- ---- a move

under_of : (n : ℕ) (cs : List Change) → changes_in n cs ≡ true → Under n cs
unfolding all_of
under_of n [] e = tt
under_of n (c ∷ cs) e =
    let a = and_parts (change_in n c) (changes_in n cs) e in
    (ltb-true c.var n (and_parts (ltb c.var n) _ a.0).0, under_of n cs a.1)

-- nothing is bound by new variables
more-none : (vs : List (Option Term)) (n : ℕ) → NewlyBound vs (vs ++ replicate n None) []
more-none vs n = record {
  free = λ i h. absurd (not-suc-le-zero h);
  bound = λ i h. absurd (not-suc-le-zero h);
  all = λ v f b. absurd (b (more-free vs n v ∙ f));
  once = λ i j l h. absurd (not-suc-le-zero h);
}

module _ (lim : Limits) (pr : Program) (sane : Sane pr) (s : State) (p : ℕ) (ok : state_ok lim pr s ≡ true) (hp : p < length s.procs) {m : Move} {d : Delta} (is : rule_of pr s p ≡ by_rule m d) where
  abbrev pub Told : Move → Delta → Type 0
  Told n e = BindsBy pr s p n e.changes × NewlyBound s.vars (apply s p e).vars (vars_bound e.changes)

  -- the relation's unifier, or nothing; and exactly what is newly bound
  pub rule-binds : Told m d
  rule-binds = by (rule_of pr s p) is (lists pr s (state-good lim pr s ok) p)
    where
      under : {n : Move} (y : Process) {cs : List Change} → rule_of pr s p ≡ by_rule n (reporting_with success y cs) → Under (length s.vars) cs
      under {n} y {cs} e = under_of (length s.vars) cs (rw add-zero at (safe-rule lim pr sane s p ok hp n (reporting_with success y cs) e).changes)

      unified : {n : Move} {cs : List Change} → BindsBy pr s p n cs → Under (length s.vars) cs → Apart s.vars cs
      unified (by_match e i u) h = apart u h
      unified (by_equate e i u) h = apart u h
      unified (by_none a b) h = tt

      go : {n : Move} {e : Delta} → rule_of pr s p ≡ by_rule n e → Lists pr s p (by_rule n e) → Told n e
      go q (lists-binds y {cs} b) = let u = under y q in (b, unfold apply in rw (append-nil s.vars) (newly-bound s.vars cs u (unified b u)))
      go {e = e} q (lists-other z a b) = (rw z (by_none a b), unfold apply changed in rw z (more-none s.vars e.fresh))

      by : (a : Applied) → rule_of pr s p ≡ by_rule m d → Lists pr s p (rule_of pr s p) → Told m d
      by a q l = go q (rw q at l)

-- a supply binds one
pub supply-binds : (vs : List (Option Term)) (u c : ℕ) → u < length vs → binding_of vs u ≡ None → NewlyBound vs (changed vs (change u (Const c) ∷ [])) (u ∷ [])
supply-binds vs u c h f = newly-bound vs (change u (Const c) ∷ []) (h, tt) (f, λ i l. absurd (not-suc-le-zero l), tt)
