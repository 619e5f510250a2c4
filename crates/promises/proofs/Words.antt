-- A word taken apart gives the numbers that were put into it, so that it tells the answer.
use Rattle.std.specs.Prelude.{Ok}
use mathlib.Core.Path.{◌∙◌, ◌≡◌, ap, sym}
use Prim.Native.Nat.{◌≤◌, ℕ}
use native.Mathlib.Omega.{arith}
use Rattle.parlog.specs.Numbers.{end_number, load_numbers, Numbers, refused_as, rule_number, run_numbers, start_numbers, step_numbers, supply_numbers, term_numbers, touched, variable, word}
use Rattle.parlog.specs.declared.End.{End}
use Rattle.parlog.specs.declared.End.TheVariants.{Budget, Failure, Room, Success, Waiting}
use Rattle.parlog.specs.declared.Move.{Move}
use Rattle.parlog.specs.declared.Move.TheVariants.{AndParFailure, AndParStart, AndParSuccess, AndSeqFailure, AndSeqNext, AndSeqStart, AndSeqSuccess, EquateBind, EquateFailure, EquateSuccess, EquateSuspend, GuardEvalEmpty, GuardEvalFailure, GuardEvalStart, GuardEvalSuccess, InputMatchBind, InputMatchFailure, InputMatchSuccess, InputMatchSuspend, OrParFailure, OrParSpawn, OrParStart, OrParSuccess, OrSearchCommit, OrSearchFailure, OrSearchStart, Ready, SeqSearchFailure, SeqSearchNext, SeqSearchNone, SeqSearchStart, SeqSearchSuccess, Stop, TryClauseFailure, TryClauseStart, TryClauseSuccess, Wake}
use Rattle.parlog.specs.declared.Refusal.{Refusal}
use Rattle.parlog.specs.declared.Term.{Term}
use Rattle.parlog.specs.declared.Term.TheVariants.{Const, Var}
use Rattle.promises.specs.Moves.{MoveTold}
use Rattle.promises.specs.Outcomes.{first_in, large_in, refusal_in, second_in}
use Rattle.values.specs.Values.{values_numbers}

-- ---- the parts of a word

module _ (n : Numbers) (r : n.refused ≤ 255) (a : n.a ≤ 255) (b : n.b ≤ 255) where
  pub refusal-of : refusal_in (word n) ≡ n.refused
  unfolding word
  refusal-of = omega arith

  pub first_of : first_in (word n) ≡ n.a
  unfolding word
  first_of = omega arith

  pub second-of : second_in (word n) ≡ n.b
  unfolding word
  second-of = omega arith

  pub large-of : large_in (word n) ≡ n.c
  unfolding word
  large-of = omega arith

-- ---- every part has its room

pub rule-small : (m : Move) → rule_number m ≤ 255
rule-small (Ready p) = omega arith
rule-small (Wake p) = omega arith
rule-small (Stop p) = omega arith
rule-small (AndParStart p) = omega arith
rule-small (AndParSuccess p) = omega arith
rule-small (AndParFailure p) = omega arith
rule-small (AndSeqStart p) = omega arith
rule-small (AndSeqNext p) = omega arith
rule-small (AndSeqSuccess p) = omega arith
rule-small (AndSeqFailure p) = omega arith
rule-small (OrParStart p) = omega arith
rule-small (OrParSpawn p) = omega arith
rule-small (OrParSuccess p) = omega arith
rule-small (OrParFailure p) = omega arith
rule-small (SeqSearchNone p) = omega arith
rule-small (SeqSearchStart p) = omega arith
rule-small (SeqSearchNext p) = omega arith
rule-small (SeqSearchSuccess p) = omega arith
rule-small (SeqSearchFailure p) = omega arith
rule-small (OrSearchStart p) = omega arith
rule-small (OrSearchCommit p) = omega arith
rule-small (OrSearchFailure p) = omega arith
rule-small (TryClauseStart p) = omega arith
rule-small (TryClauseSuccess p) = omega arith
rule-small (TryClauseFailure p) = omega arith
rule-small (InputMatchBind t) = omega arith
rule-small (InputMatchSuccess p) = omega arith
rule-small (InputMatchFailure p) = omega arith
rule-small (InputMatchSuspend t) = omega arith
rule-small (GuardEvalEmpty p) = omega arith
rule-small (GuardEvalStart p) = omega arith
rule-small (GuardEvalSuccess p) = omega arith
rule-small (GuardEvalFailure p) = omega arith
rule-small (EquateBind t) = omega arith
rule-small (EquateSuccess p) = omega arith
rule-small (EquateFailure p) = omega arith
rule-small (EquateSuspend t) = omega arith

variable-sort : (t : Term) → (variable t).sort ≤ 255
variable-sort (Const c) = omega arith
variable-sort (Var v) = omega arith

sort-small : (m : Move) → (touched m).sort ≤ 255
sort-small (Ready p) = omega arith
sort-small (Wake p) = omega arith
sort-small (Stop p) = omega arith
sort-small (AndParStart p) = omega arith
sort-small (AndParSuccess p) = omega arith
sort-small (AndParFailure p) = omega arith
sort-small (AndSeqStart p) = omega arith
sort-small (AndSeqNext p) = omega arith
sort-small (AndSeqSuccess p) = omega arith
sort-small (AndSeqFailure p) = omega arith
sort-small (OrParStart p) = omega arith
sort-small (OrParSpawn p) = omega arith
sort-small (OrParSuccess p) = omega arith
sort-small (OrParFailure p) = omega arith
sort-small (SeqSearchNone p) = omega arith
sort-small (SeqSearchStart p) = omega arith
sort-small (SeqSearchNext p) = omega arith
sort-small (SeqSearchSuccess p) = omega arith
sort-small (SeqSearchFailure p) = omega arith
sort-small (OrSearchStart p) = omega arith
sort-small (OrSearchCommit p) = omega arith
sort-small (OrSearchFailure p) = omega arith
sort-small (TryClauseStart p) = omega arith
sort-small (TryClauseSuccess p) = omega arith
sort-small (TryClauseFailure p) = omega arith
sort-small (InputMatchBind t) = variable-sort t
sort-small (InputMatchSuccess p) = omega arith
sort-small (InputMatchFailure p) = omega arith
sort-small (InputMatchSuspend t) = variable-sort t
sort-small (GuardEvalEmpty p) = omega arith
sort-small (GuardEvalStart p) = omega arith
sort-small (GuardEvalSuccess p) = omega arith
sort-small (GuardEvalFailure p) = omega arith
sort-small (EquateBind t) = variable-sort t
sort-small (EquateSuccess p) = omega arith
sort-small (EquateFailure p) = omega arith
sort-small (EquateSuspend t) = variable-sort t

end-small : (e : End) → end_number e ≤ 255
end-small Success = omega arith
end-small Failure = omega arith
end-small Waiting = omega arith
end-small Room = omega arith
end-small Budget = omega arith

-- ---- what a word tells

module _ (w : ℕ) where
  pub refused-told : (f : Refusal) → f.number ≤ 255 → w ≡ word (refused_as f) → (refusal_in w ≡ f.number) × (large_in w ≡ f.offset)
  refused-told f h e = rw e (refusal-of (refused_as f) h (omega arith) (omega arith), large-of (refused_as f) h (omega arith) (omega arith))

  pub moved_told : (m : Move) → w ≡ word (step_numbers (Ok m)) → MoveTold m w
  moved_told m e =
      let n : Numbers = step_numbers (Ok m) in
      rw e (record {
        accepted = refusal-of n (omega arith) (rule-small m) (sort-small m);
        rule = first_of n (omega arith) (rule-small m) (sort-small m);
        sort = second-of n (omega arith) (rule-small m) (sort-small m);
        number = large-of n (omega arith) (rule-small m) (sort-small m);
      })

  pub ended-told : (e : End) (k : ℕ) → w ≡ word (run_numbers (Ok (e, k))) → (refusal_in w ≡ 0) × (first_in w ≡ end_number e) × (large_in w ≡ k)
  ended-told e k q =
      let n : Numbers = run_numbers (Ok (e, k)) in
      rw q (refusal-of n (omega arith) (end-small e) (omega arith), first_of n (omega arith) (end-small e) (omega arith), large-of n (omega arith) (end-small e) (omega arith))

  pub accepted-told : (r c : ℕ) → r ≤ 255 → c ≤ 255 → w ≡ word (load_numbers (Ok (r, c))) → (refusal_in w ≡ 0) × (first_in w ≡ r) × (second_in w ≡ c)
  accepted-told r c hr hc q =
      let n : Numbers = load_numbers (Ok (r, c)) in
      rw q (refusal-of n (omega arith) hr hc, first_of n (omega arith) hr hc, second-of n (omega arith) hr hc)

  pub begun-told : w ≡ word (start_numbers (Ok tt)) → refusal_in w ≡ 0
  begun-told q = rw q (refusal-of (start_numbers (Ok tt)) (omega arith) (omega arith) (omega arith))

  pub given-told : (v : ℕ) → w ≡ word (supply_numbers (Ok v)) → refusal_in w ≡ 0
  given-told v q = rw q (refusal-of (supply_numbers (Ok v)) (omega arith) (omega arith) (omega arith))

  pub values-told : (k : ℕ) → w ≡ word (values_numbers (Ok k)) → (refusal_in w ≡ 0) × (large_in w ≡ k)
  values-told k q =
      let n : Numbers = values_numbers (Ok k) in
      rw q (refusal-of n (omega arith) (omega arith) (omega arith), large-of n (omega arith) (omega arith) (omega arith))

  pub term_told : (t : Term) → w ≡ word (term_numbers t) → (refusal_in w ≡ 0) × (first_in w ≡ (term_numbers t).a) × (large_in w ≡ (term_numbers t).c)
  term_told (Const c) q =
      let n : Numbers = term_numbers (Const c) in
      rw q (refusal-of n (omega arith) (omega arith) (omega arith), first_of n (omega arith) (omega arith) (omega arith), large-of n (omega arith) (omega arith) (omega arith))
  term_told (Var v) q =
      let n : Numbers = term_numbers (Var v) in
      rw q (refusal-of n (omega arith) (omega arith) (omega arith), first_of n (omega arith) (omega arith) (omega arith), large-of n (omega arith) (omega arith) (omega arith))

-- ---- two answers of a call that look the same are the same, as far as the document tells them apart

-- one part after the other
pub same_parts : (n m : Numbers) → n.refused ≤ 255 → n.a ≤ 255 → n.b ≤ 255 → m.refused ≤ 255 → m.a ≤ 255 → m.b ≤ 255 → word n ≡ word m → n ≡ m
same_parts n m r a b r' a' b' e =
    let x : n.refused ≡ m.refused = sym (refusal-of n r a b) ∙ ap refusal_in e ∙ refusal-of m r' a' b' in
    let y : n.a ≡ m.a = sym (first_of n r a b) ∙ ap first_in e ∙ first_of m r' a' b' in
    let z : n.b ≡ m.b = sym (second-of n r a b) ∙ ap second_in e ∙ second-of m r' a' b' in
    let u : n.c ≡ m.c = sym (large-of n r a b) ∙ ap large_in e ∙ large-of m r' a' b' in
    λ i. record { refused = x i; a = y i; b = z i; c = u i }
