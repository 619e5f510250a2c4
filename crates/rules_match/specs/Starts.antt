-- What the rules of matching read at the mover's places, and what they make of a decision.
use Rattle.parlog.specs.declared.Term.{Term}
use Rattle.std.specs.Prelude.{[], ◌∷◌, List, ◌+◌, ◌≤◌, ℕ, get_or, length, Option}
use Rattle.decide.specs.Decision.{changes_of, Shifted}
use Rattle.parlog.specs.Codes.{failure, success}
use Rattle.parlog.specs.Delta.{only, report, reporting_with, with_notes}
use Rattle.parlog.specs.Program.{argument, call_modes, clause_at, literal_at, out_count, Program}
use Rattle.parlog.specs.Rules.{Applied, by_rule, match_at}
use Rattle.parlog.specs.Unify.{binds, Decided, equate_of, fails, suspends}
use Rattle.parlog.specs.declared.Move.{Move}
use Rattle.parlog.specs.declared.Move.TheVariants.{EquateBind, EquateFailure, EquateSuccess, EquateSuspend, InputMatchBind, InputMatchFailure, InputMatchSuccess, InputMatchSuspend}
use Rattle.parlog.specs.declared.Process.{Process}
use Rattle.parlog.specs.declared.Spot.{Spot}
use Rattle.parlog.specs.declared.Term.TheVariants.{Var}
use Rattle.rules_match.specs.declared.Way.{Way}
use Rattle.rules_match.specs.declared.Way.TheVariants.{Bind, Failure, Success, Suspend}
use Rattle.unify.specs.Pending.{top, Writable}

-- ---- places

-- the terms of the call and of the head that z names, in the run's numbering, are below the count, and so are the new variables;
-- the head is no shorter than the modes; what the match binds can be written
pub record MatchThere (pr : Program) (vs : List (Option Term)) (z : Spot) : Type 0 where
  pub args : Shifted (literal_at pr z).args z.base 4 (length vs)
  pub head : Shifted (clause_at pr z.found).head z.first 4 (length vs)
  pub outs : z.first + (clause_at pr z.found).vars + out_count (call_modes pr z) ≤ length vs
  pub few : length (call_modes pr z) ≤ 4
  pub whole : length (call_modes pr z) ≤ length (clause_at pr z.found).head
  pub made : Writable (length vs) (changes_of (match_at pr vs z))

-- the same of the two terms of an equation
pub record EquateThere (pr : Program) (vs : List (Option Term)) (z : Spot) : Type 0 where
  pub left : top (argument (literal_at pr z) 0) + z.base ≤ length vs
  pub right : top (argument (literal_at pr z) 1) + z.base ≤ length vs
  pub made : (bar : ℕ) → Writable (length vs) (changes_of (equate_of vs (argument (literal_at pr z) 0) (argument (literal_at pr z) 1) z.base bar))

-- ---- four places

-- a list in four places, d behind it
abbrev pub in_four : {A : Type 0} → A → List A → List A
in_four d xs = get_or xs 0 d ∷ get_or xs 1 d ∷ get_or xs 2 d ∷ get_or xs 3 d ∷ []

-- ---- what is decided

-- how a decision ends
unfoldable pub way_of : Decided → Way
way_of fails = Failure
way_of (suspends v ns) = Suspend (Var v)
way_of (binds []) = Success
way_of (binds (c ∷ cs)) = Bind (Var c.var)

-- the moves of an input-match and of an equate, by how the decision ends
abbrev pub match_move : ℕ → Way → Move
match_move p Failure = InputMatchFailure p
match_move p (Suspend v) = InputMatchSuspend v
match_move p Success = InputMatchSuccess p
match_move p (Bind v) = InputMatchBind v

abbrev pub equate_move : ℕ → Way → Move
equate_move p Failure = EquateFailure p
equate_move p (Suspend v) = EquateSuspend v
equate_move p Success = EquateSuccess p
equate_move p (Bind v) = EquateBind v

-- the rules of input-match and of equate differ in their moves alone
unfoldable pub start_by : Move → Decided → Process → Applied
start_by mv fails x = by_rule mv (report failure x)
start_by mv (suspends v ns) x = by_rule mv (only (with_notes (v ∷ ns) x))
start_by mv (binds cs) x = by_rule mv (reporting_with success x cs)
