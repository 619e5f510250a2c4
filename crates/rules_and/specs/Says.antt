-- What a rule's answer says: it is what the definition has for that tag, whatever else the tables hold.
use Rattle.parlog.specs.declared.Term.{Term}
use Rattle.std.specs.Prelude.{◌≡◌, Bool, false, List, suc, ℕ, length, Option, true}
use Rattle.parlog.specs.Codes.{failure, ready, starting, success, Tag}
use Rattle.parlog.specs.Delta.{at_stage, report, with_spot}
use Rattle.parlog.specs.Program.{Program}
use Rattle.parlog.specs.Rules.{Applied, by_rule, no_rule, rule_in, start_rule, wait_rule}
use Rattle.parlog.specs.Tables.{State}
use Rattle.parlog.specs.declared.Move.{Move}
use Rattle.parlog.specs.declared.Process.{Process}

-- a ready process, in every program and every state
abbrev pub Readies : ℕ → Process → Applied → Type 0
Readies p x a = (pr : Program) (s : State) → a ≡ rule_in ready pr s p x

-- one about to start, among n processes
abbrev pub Starts : Tag → Program → ℕ → ℕ → Process → Applied → Type 0
Starts t pr n p x a = (s : State) → length s.procs ≡ n → a ≡ start_rule t pr s p x

-- one that waits, among these processes
abbrev pub Waits : Tag → List Process → ℕ → Process → Applied → Type 0
Waits t ps p x a = (pr : Program) (vs : List (Option Term)) → a ≡ wait_rule t pr (record { procs = ps; vars = vs }) p x

-- Tags 15: about to start the stage behind
unfoldable pub next_stage : Process → Process
next_stage x = with_spot starting (at_stage (suc x.spot.stage) x.spot) x

-- one failure decides, else all must succeed: the rules that wait so differ in their moves alone
unfoldable pub wait_all : Move → Move → Bool → Bool → Process → Applied
wait_all failed succeeded true all x = by_rule failed (report failure x)
wait_all failed succeeded false true x = by_rule succeeded (report success x)
wait_all failed succeeded false false x = no_rule
