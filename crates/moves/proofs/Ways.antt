-- The ways through the choice of a rule: a law for each kind of arm.
use Rattle.parlog.specs.declared.Term.{Term}
use Rattle.std.specs.Prelude.{Option}
use mathlib.Core.Path.{◌≡◌}
use mathlib.Core.Logic.{◌≢◌}
use mathlib.Core.List.{List}
use Prim.Native.Nat.{◌<◌, ◌≤◌, suc, ℕ}
use lib.Dec.{eqb}
use borrow.Author.Tests.{eqb-false, eqb-true}
use native.Mathlib.Omega.{arith}
use Rattle.moves.specs.Legal.{Able}
use Rattle.parlog.proofs.Bools.{split}
use Rattle.parlog.proofs.Coded.{code-mode, code-tag}
use Rattle.parlog.specs.Codes.{dormant, equate, input_match, Mode, mode_code, reporting, starting, suspended, Tag, tag_code, tag_of, waiting}
use Rattle.parlog.specs.Program.{Program}
use Rattle.parlog.specs.Rules.{Applied, equate_at, equate_start, input_match_start, match_at, no_rule, rule_in, rule_of, start_rule, stop_rule, wait_rule, wake_rule}
use Rattle.parlog.specs.Tables.{at, noted, State}
use Rattle.parlog.specs.Unify.{some_bound}
use Rattle.parlog.specs.declared.Process.{Process}

-- ---- the last arms

above : (k t : ℕ) → k ≤ t → t ≢ k → suc k ≤ t
above k t h n = omega arith

from-six : (t : ℕ) → t ≢ 0 → t ≢ 1 → t ≢ 2 → t ≢ 3 → t ≢ 4 → t ≢ 5 → 6 ≤ t
from-six t a b c d e f = above 5 t (above 4 t (above 3 t (above 2 t (above 1 t (above 0 t zero-le a) b) c) d) e) f
  where
    zero-le : 0 ≤ t
    zero-le = omega arith

guard-of : (t : ℕ) → 6 ≤ t → t < 9 → t ≢ 6 → t ≢ 8 → t ≡ 7
guard-of t l h a b = omega arith

equate-of : (t : ℕ) → 6 ≤ t → t < 9 → t ≢ 6 → t ≢ 7 → t ≡ 8
equate-of t l h a b = omega arith

pub guard-left : (t : ℕ) → t < 9 → t ≢ 6 → t ≢ 8 → t ≢ 0 → t ≢ 1 → t ≢ 2 → t ≢ 3 → t ≢ 4 → t ≢ 5 → t ≡ 7
guard-left t h a b c d e f g i = guard-of t (from-six t c d e f g i) h a b

pub suspended-left : (t : ℕ) → t < 6 → t ≢ 0 → t ≢ 1 → t ≢ 2 → t ≢ 3 → t ≢ 4 → t ≡ 5
suspended-left t h a b c d e = omega arith

-- ---- tags and modes

-- a start is one of its tag
pub started : (g : Tag) (t : ℕ) (pr : Program) (s : State) (p : ℕ) (x : Process) {a : Applied} → t ≡ tag_code g → a ≡ start_rule g pr s p x → a ≡ start_rule (tag_of t) pr s p x
started g t pr s p x e q = rw (code-tag g t e) q

pub match-started : (t : ℕ) (pr : Program) (s : State) (p : ℕ) (x : Process) {a : Applied} → t ≡ 6 → a ≡ input_match_start (match_at pr s.vars x.spot) p x → a ≡ start_rule (tag_of t) pr s p x
unfolding start_rule
match-started t pr s p x e q = rw (code-tag input_match t e) q

pub equate-started : (t : ℕ) (pr : Program) (s : State) (p : ℕ) (x : Process) {a : Applied} → t ≡ 8 → a ≡ equate_start (equate_at pr s p x.spot) p x → a ≡ start_rule (tag_of t) pr s p x
unfolding start_rule
equate-started t pr s p x e q = rw (code-tag equate t e) q

-- and a wait
pub waited : (g : Tag) (t : ℕ) (pr : Program) (s : State) (p : ℕ) (x : Process) {a : Applied} → t ≡ tag_code g → a ≡ wait_rule g pr s p x → a ≡ wait_rule (tag_of t) pr s p x
waited g t pr s p x e q = rw (code-tag g t e) q

-- the two that never wait
pub unwaited : (t : ℕ) (pr : Program) (s : State) (p : ℕ) (x : Process) {a : Applied} → t < 9 → t ≢ 0 → t ≢ 1 → t ≢ 2 → t ≢ 3 → t ≢ 4 → t ≢ 5 → t ≢ 7 → a ≡ no_rule → a ≡ wait_rule (tag_of t) pr s p x
unfolding wait_rule
unwaited t pr s p x h z o w r f v g q = split (eqb t 6)
    (λ e. rw (code-tag input_match t (eqb-true t 6 e)) q)
    (λ e. rw (code-tag equate t (equate-of t (from-six t z o w r f v) h (eqb-false t 6 e) g)) q)

-- a process that is at row p, by its mode
pub ruled : (m : Mode) (pr : Program) (s : State) (p : ℕ) (x : Process) {a : Applied} → x ≡ at s.procs p → x.mode ≡ mode_code m → a ≡ rule_in m pr s p x → a ≡ rule_of pr s p
unfolding rule_of
ruled m pr s p x e h q = rw (← e, code-mode m x.mode h) q

module _ (pr : Program) (s : State) (p : ℕ) (x : Process) {a : Applied} (e : x ≡ at s.procs p) where
  pub sleeps : x.mode ≡ 0 → a ≡ no_rule → a ≡ rule_of pr s p
  unfolding rule_in
  sleeps h q = ruled dormant pr s p x e h q

  pub starts : x.mode ≡ 2 → a ≡ start_rule (tag_of x.tag) pr s p x → a ≡ rule_of pr s p
  unfolding rule_in
  starts h q = ruled starting pr s p x e h q

  pub waits : x.mode ≡ 3 → a ≡ wait_rule (tag_of x.tag) pr s p x → a ≡ rule_of pr s p
  unfolding rule_in
  waits h q = ruled waiting pr s p x e h q

  pub reports : x.mode ≡ 4 → a ≡ stop_rule p x → a ≡ rule_of pr s p
  unfolding rule_in
  reports h q = ruled reporting pr s p x e h q

  pub wakes : x.mode ≡ 5 → a ≡ wake_rule (some_bound s.vars (noted x)) p x → a ≡ rule_of pr s p
  unfolding rule_in
  wakes h q = ruled suspended pr s p x e h q

-- what is asked of row p is asked of the process there
pub able-there : (pr : Program) (vs : List (Option Term)) (y x : Process) → x ≡ y → Able pr vs y → Able pr vs x
able-there pr vs y x e h = rw e h
