-- What a call answers.
use Rattle.std.specs.Prelude.{Result}
use Rattle.parlog.specs.declared.Refusal.{Refusal}

-- Refusals 19: what the call gives, or the refusal; a load gives how many relations and how many clauses there are
abbrev pub Answer : Type 0 → Type 0
Answer A = Result A Refusal
