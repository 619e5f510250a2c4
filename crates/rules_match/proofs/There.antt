-- What the rules of matching ask of the mover's places, from a sane program and good tables.
use mathlib.Core.Path.{◌≡◌}
use mathlib.Core.Bool.{not, true}
use Prim.Native.Nat.{◌<◌, ◌≤◌, ℕ}
use lib.Dec.{eqb, ltb}
use lib.ListN.{length}
use native.Mathlib.Omega.{arith}
use Rattle.decide.proofs.Told.{shifted_in}
use Rattle.decide.specs.Decision.{changes_of}
use Rattle.parlog.proofs.Assume.{assume-bindings, assume-places}
use Rattle.parlog.proofs.Bindings.{DecidedIn, equate-decided, match-decided}
use Rattle.parlog.proofs.Bools.{and-true}
use Rattle.parlog.proofs.Coded.{code-tag}
use Rattle.parlog.proofs.Keeps.{state-facts}
use Rattle.parlog.proofs.Terms.{literal-terms, size_at}
use Rattle.parlog.specs.Codes.{equate, input_match, Tag, tag_code}
use Rattle.parlog.specs.Limits.{Limits}
use Rattle.parlog.specs.Notions.{me}
use Rattle.parlog.specs.Program.{argument, clause_at, literal_at, Program, stage_at, vars_of}
use Rattle.parlog.specs.Rules.{match_at}
use Rattle.parlog.specs.Sane.{Sane}
use Rattle.parlog.specs.TableRules.{call_in, equality_in, found_in, goal_in, is_equality, literal_in, places_ok, state_ok, try_in}
use Rattle.parlog.specs.Tables.{State}
use Rattle.parlog.specs.Unify.{binds, Decided, equate_of, fails, suspends}
use Rattle.parlog.specs.declared.Spot.{Spot}
use Rattle.program_index.specs.Indexed.{Headed}
use Rattle.rules_match.specs.Starts.{EquateThere, MatchThere}
use Rattle.unify.proofs.Bounds.{in-writable}
use Rattle.unify.specs.Pending.{Writable}

-- what keeps the table rules can be written
decided-made : (n k : ℕ) → n ≤ 65535 → (d : Decided) → DecidedIn n k d → Writable n (changes_of d)
decided-made n k g fails o = record { rows = λ j h. absurd (omega arith); numbers = λ j h. absurd (omega arith) }
decided-made n k g (suspends v ns) o = record { rows = λ j h. absurd (omega arith); numbers = λ j h. absurd (omega arith) }
decided-made n k g (binds cs) o = in-writable n (omega arith) cs o

module _ (lim : Limits) (pr : Program) (sa : Sane pr) (s : State) (ok : state_ok lim pr s ≡ true) (few : length s.vars ≤ 65535) (p : ℕ) (h : p < length s.procs) where
  places : (t : Tag) → (me s p).tag ≡ tag_code t → places_ok t pr (length s.vars) (me s p).spot ≡ true
  places t e = rw (code-tag t (me s p).tag e) at ((state-facts lim pr s ok).each p h).places

  pub match-there : Headed pr → (me s p).tag ≡ tag_code input_match → MatchThere pr s.vars (me s p).spot
  unfolding places_ok call_in literal_in try_in vars_of
  match-there hd e =
      let n : ℕ = length s.vars in
      let z : Spot = (me s p).spot in
      let t = assume-places lim pr s ok p h input_match e in
      let same : (clause_at pr z.found).rel ≡ (literal_at pr z).rel = t.same in
      let f = t.clause.fits in
      let a = and-true (call_in pr n z) (try_in pr n z) (places input_match e) in
      let b = and-true (literal_in pr n z) (not (is_equality (literal_at pr z))) a.0 in
      let c = and-true (goal_in pr n z) (ltb z.literal (length (stage_at pr z))) b.0 in
      let d = and-true (found_in pr n z) (eqb (clause_at pr z.found).rel (literal_at pr z).rel) a.1 in
      record {
        args = shifted_in n (size_at pr z) z.base 4 (literal_at pr z).args t.call.literal.goal.fits (literal-terms pr sa z);
        head = shifted_in n (clause_at pr z.found).vars z.first 4 (clause_at pr z.found).head (omega arith) (sa.clause z.found).head;
        outs = rw (← same) (omega arith);
        few = sa.modes (literal_at pr z).rel;
        whole = rw (← same) (hd z.found);
        made = decided-made n 4 few (match_at pr s.vars z) (match-decided pr sa s.vars (assume-bindings lim pr s ok) z c.0 d.0 same);
      }

  pub equate-there : (me s p).tag ≡ tag_code equate → EquateThere pr s.vars (me s p).spot
  unfolding places_ok equality_in literal_in
  equate-there e =
      let n : ℕ = length s.vars in
      let z : Spot = (me s p).spot in
      let t = assume-places lim pr s ok p h equate e in
      let a = and-true (literal_in pr n z) (is_equality (literal_at pr z)) (places equate e) in
      let c = and-true (goal_in pr n z) (ltb z.literal (length (stage_at pr z))) a.0 in
      let w = shifted_in n (size_at pr z) z.base 4 (literal_at pr z).args t.0.goal.fits (literal-terms pr sa z) in
      record {
        left = w 0 (omega arith);
        right = w 1 (omega arith);
        made = λ bar. decided-made n 4 few (equate_of s.vars (argument (literal_at pr z) 0) (argument (literal_at pr z) 1) z.base bar) (equate-decided pr sa s.vars (assume-bindings lim pr s ok) z c.0 bar);
      }
