-- A move touches its own process, the first that it makes, or a variable.
use Rattle.std.specs.Prelude.{Option, Some, None}
use mathlib.Core.Bool.{Bool, false, true}
use mathlib.Core.List.{[], ◌∷◌, List}
use Prim.Native.Nat.{◌≤◌, suc, zero, ℕ}
use lib.Dec.{ltb}
use lib.ListN.{length}
use Rattle.parlog.specs.Codes.{and_par, and_seq, dormant, equate, guard_eval, input_match, is_tag, Mode, mode_of, or_par, or_search, ready, reporting, seq_search, starting, suspended, Tag, tag_of, try_clause, waiting}
use Rattle.parlog.specs.Program.{Goal, Program}
use Rattle.parlog.specs.Rules.{and_par_start, and_par_wait, and_seq_start, and_seq_wait, Applied, by_rule, equate_start, first_made, guard_eval_start, guard_eval_wait, input_match_start, members, no_rule, or_par_heard, or_par_start, or_par_wait, or_search_start, or_search_wait, rule_in, rule_of, seq_search_next, seq_search_start, seq_search_wait, start_rule, stop_rule, tries, try_clause_start, try_clause_wait, wait_rule, wake_rule}
use Rattle.parlog.specs.Tables.{at, State}
use Rattle.parlog.specs.Tree.{bad, good, Heard, silent}
use Rattle.parlog.specs.Unify.{binds, Decided, fails, suspends}
use Rattle.parlog.specs.declared.Process.{Process}
use Rattle.words.specs.Fits.{MoveWithin}

-- the move of a rule that applies touches no process above n
abbrev pub RuleWithin : ℕ → Applied → Type 0
RuleWithin n no_rule = Unit {0}
RuleWithin n (by_rule m d) = MoveWithin n m

module _ (n : ℕ) (pr : Program) (s : State) (hs : length s.procs ≤ n) where
  first_made_lem : (p : ℕ) → p ≤ n → (ys : List Process) → first_made s p ys ≤ n
  first_made_lem p h [] = h
  first_made_lem p h (y ∷ ys) = hs

  wakes : (p : ℕ) → p ≤ n → (b : Bool) (x : Process) → RuleWithin n (wake_rule b p x)
  unfolding wake_rule
  wakes p h true x = h
  wakes p h false x = tt

  stops : (p : ℕ) → p ≤ n → (x : Process) → RuleWithin n (stop_rule p x)
  unfolding stop_rule
  stops zero h x = h
  stops (suc p) h x = tt

  module _ (p : ℕ) (h : p ≤ n) (x : Process) where
    and-par-wait : (b c : Bool) → RuleWithin n (and_par_wait b c p x)
    unfolding and_par_wait
    and-par-wait true c = h
    and-par-wait false true = h
    and-par-wait false false = tt

    and-seq-start : (b : Bool) → RuleWithin n (and_seq_start b pr s p x)
    unfolding and_seq_start
    and-seq-start true = hs
    and-seq-start false = h

    and-seq-wait : (a : Heard) → RuleWithin n (and_seq_wait a p x)
    unfolding and_seq_wait
    and-seq-wait silent = tt
    and-seq-wait (good c) = h
    and-seq-wait (bad c) = h

    or-par-heard : (b : Bool) (c : ℕ) → RuleWithin n (or_par_heard b pr s p x c)
    unfolding or_par_heard
    or-par-heard true c = hs
    or-par-heard false c = h

    or-par-wait : (a : Heard) → RuleWithin n (or_par_wait a pr s p x)
    unfolding or_par_wait
    or-par-wait silent = tt
    or-par-wait (good c) = or-par-heard (is_tag seq_search (at s.procs c).tag) c
    or-par-wait (bad c) = h

    seq-search-start : (b : Bool) → RuleWithin n (seq_search_start b s p x)
    unfolding seq_search_start
    seq-search-start true = hs
    seq-search-start false = h

    seq-search-next : (b : Bool) (c : ℕ) → RuleWithin n (seq_search_next b s p x c)
    unfolding seq_search_next
    seq-search-next true c = hs
    seq-search-next false c = h

    seq-search-wait : (a : Heard) (k : ℕ) → RuleWithin n (seq_search_wait a k s p x)
    unfolding seq_search_wait
    seq-search-wait silent k = tt
    seq-search-wait (good c) k = h
    seq-search-wait (bad c) k = seq-search-next (ltb (suc x.spot.block) k) c

    or-search-start : (ks : List ℕ) → RuleWithin n (or_search_start pr s p x ks)
    unfolding or_search_start
    or-search-start ks = first_made_lem p h (tries pr p x.spot (length s.vars) ks)

    or-search-wait : (f : Option ℕ) (b : Bool) → RuleWithin n (or_search_wait f b s p x)
    unfolding or_search_wait
    or-search-wait (Some c) b = h
    or-search-wait None true = h
    or-search-wait None false = tt

    try-clause-wait : (b c : Bool) → RuleWithin n (try_clause_wait b c p x)
    unfolding try_clause_wait
    try-clause-wait true c = h
    try-clause-wait false true = h
    try-clause-wait false false = tt

    input-match-start : (d : Decided) → RuleWithin n (input_match_start d p x)
    unfolding input_match_start
    input-match-start fails = h
    input-match-start (suspends v ns) = tt
    input-match-start (binds []) = h
    input-match-start (binds (c ∷ cs)) = tt

    guard-eval-start : (g : Goal) → RuleWithin n (guard_eval_start g s p x)
    unfolding guard_eval_start
    guard-eval-start [] = h
    guard-eval-start (t ∷ g) = hs

    guard-eval-wait : (a : Heard) → RuleWithin n (guard_eval_wait a p x)
    unfolding guard_eval_wait
    guard-eval-wait silent = tt
    guard-eval-wait (good c) = h
    guard-eval-wait (bad c) = h

    equate-start : (d : Decided) → RuleWithin n (equate_start d p x)
    unfolding equate_start
    equate-start fails = h
    equate-start (suspends v ns) = tt
    equate-start (binds []) = h
    equate-start (binds (c ∷ cs)) = tt

    starts : (t : Tag) → RuleWithin n (start_rule t pr s p x)
    unfolding start_rule and_par_start or_par_start try_clause_start
    starts and_par = first_made_lem p h (members pr p x.spot)
    starts and_seq = and-seq-start _
    starts or_par = hs
    starts seq_search = seq-search-start _
    starts or_search = or-search-start _
    starts try_clause = hs
    starts input_match = input-match-start _
    starts guard_eval = guard-eval-start _
    starts equate = equate-start _

    waits : (t : Tag) → RuleWithin n (wait_rule t pr s p x)
    unfolding wait_rule
    waits and_par = and-par-wait _ _
    waits and_seq = and-seq-wait _
    waits or_par = or-par-wait _
    waits seq_search = seq-search-wait _ _
    waits or_search = or-search-wait _ _
    waits try_clause = try-clause-wait _ _
    waits input_match = tt
    waits guard_eval = guard-eval-wait _
    waits equate = tt

    in-mode : (m : Mode) → RuleWithin n (rule_in m pr s p x)
    unfolding rule_in
    in-mode dormant = tt
    in-mode ready = h
    in-mode starting = starts (tag_of x.tag)
    in-mode waiting = waits (tag_of x.tag)
    in-mode reporting = stops p h x
    in-mode suspended = wakes p h _ x

  -- THE LAW: what a move touches is no process behind the first free row
  pub rule-within : (p : ℕ) → p ≤ n → RuleWithin n (rule_of pr s p)
  unfolding rule_of
  rule-within p h = in-mode p h (at s.procs p) (mode_of (at s.procs p).mode)
