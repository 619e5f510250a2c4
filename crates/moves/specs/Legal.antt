-- What the functions of the rules ask of the process that moves.
use Rattle.parlog.specs.declared.Term.{Term}
use Rattle.std.specs.Prelude.{◌≡◌, List, ◌<◌, ◌≤◌, ℕ, length, Option}
use Rattle.move_plan.specs.Plans.{new_most}
use Rattle.parlog.specs.Program.{Program}
use Rattle.parlog.specs.Rules.{block_at, members}
use Rattle.parlog.specs.Tables.{at, State}
use Rattle.parlog.specs.declared.Process.{Process}
use Rattle.rules_match.specs.Starts.{EquateThere, MatchThere}

-- of a process x, by the numbers of its tag and mode
pub record Able (pr : Program) (vs : List (Option Term)) (x : Process) : Type 0 where
  pub tag : x.tag < 9
  pub mode : x.mode < 6
  pub members : (p : ℕ) → length (members pr p x.spot) ≤ new_most
  pub tries : length (block_at pr x.spot) ≤ 8
  pub stage : x.tag ≡ 1 → x.mode ≡ 3 → x.spot.stage < 255
  pub block : x.tag ≡ 3 → x.mode ≡ 3 → x.spot.block < 255
  pub notes : x.mode ≡ 5 → x.count ≤ 4
  pub matching : x.tag ≡ 6 → MatchThere pr vs x.spot
  pub equating : x.tag ≡ 8 → EquateThere pr vs x.spot

-- of process p of a state
abbrev pub Legal : Program → State → ℕ → Type 0
Legal pr s p = Able pr s.vars (at s.procs p)
