-- The answers whose numbers fit into a word: an offset, a process and a count of moves have 32 bits there.
use Rattle.parlog.specs.declared.Term.{Term}
use Rattle.parlog.specs.declared.End.{End}
use Rattle.parlog.specs.Answer.{Answer}
use Rattle.std.specs.Prelude.{◌≡◌, cond, ◌≤◌, suc, zero, ℕ, ltb, ⊤, Option, Some, Err, Ok, None}
use Rattle.parlog.specs.Numbers.{process, rule_number, Touched, touched}
use Rattle.parlog.specs.declared.Move.{Move}
use Rattle.parlog.specs.declared.Refusal.{Refusal}
use Rattle.words.specs.declared.Touch.{Touch}
use Rattle.words.specs.declared.Touch.TheVariants.{Process, Variable}

-- the offset of a refusal
abbrev pub RefusalFits : Refusal → Type 0
RefusalFits r = r.offset ≤ 4294967295

-- a process number up to n; any variable's number is one of 32 bits
abbrev pub NumberWithin : ℕ → ℕ → ℕ → Type 0
NumberWithin n zero p = p ≤ n
NumberWithin n (suc k) v = Unit {0}

-- a move that touched a process up to n, or a variable
abbrev pub MoveWithin : ℕ → Move → Type 0
MoveWithin n m = NumberWithin n (touched m).sort (touched m).number

-- of a start
abbrev pub StartFits : Answer ⊤ → Type 0
StartFits (Ok tt) = Unit {0}
StartFits (Err r) = RefusalFits r

-- of a step or a turn
abbrev pub StepFits : Answer Move → Type 0
StepFits (Ok m) = MoveWithin 4294967295 m
StepFits (Err r) = RefusalFits r

-- of a run
abbrev pub RunFits : Answer (End × ℕ) → Type 0
RunFits (Ok (e, n)) = n ≤ 4294967295
RunFits (Err r) = RefusalFits r

-- of a supply
abbrev pub SupplyFits : Answer ℕ → Type 0
SupplyFits (Ok v) = Unit {0}
SupplyFits (Err r) = RefusalFits r

-- of a look
abbrev pub ValueFits : Answer Term → Type 0
ValueFits (Ok t) = Unit {0}
ValueFits (Err r) = RefusalFits r

-- of a look at all goal variables
abbrev pub ValuesFits : Answer ℕ → Type 0
ValuesFits (Ok n) = n ≤ 4294967295
ValuesFits (Err r) = RefusalFits r

-- of a watch: a row whose number has more than 32 bits cannot be told
abbrev pub reached : Option ℕ → Option ℕ
reached (Some i) = cond (ltb i 4294967296) (Some i) None
reached None = None

-- what a move touched, as it is told
abbrev pub touched_by : Touch → Touched
touched_by (Process p) = process p
touched_by (Variable v) = record { sort = 1; number = v }

-- the rule of a move, and what it touched
pub record ToldSays (m : Move) (rule : ℕ) (touch : Touch) : Type 0 where
  pub rule_is : rule ≡ rule_number m
  pub touched_is : touched_by touch ≡ touched m
