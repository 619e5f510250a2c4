-- The ways through a parse: what is known behind the mode lines, and which refusal is told.
use Rattle.parlog.specs.Answer.{Answer}
use Rattle.std.specs.Prelude.{◌≡◌, Bool, false, true, List, ◌≤◌, ℕ, drop, length, Err, Ok, ⊤}
use Rattle.judge_image.specs.Judged.{relations_judged}
use Rattle.judge_lines.specs.Whole.{Opening}
use Rattle.lay.specs.Lay.{laid}
use Rattle.lay_lines.specs.Lines.{modes_of}
use Rattle.lay_literal.specs.Lows.{lows}
use Rattle.mode_table.specs.declared.Lines.{Lines}
use Rattle.parlog.specs.Load.{nothing_read, refusal}
use Rattle.parlog.specs.declared.Progress.{Progress}
use Rattle.parlog.specs.declared.Refusal.{Refusal}
use Rattle.read_names.specs.Tables.{mode_names, modes_from}
use Rattle.text_names.specs.Bytes.{skip}
use Rattle.text_program.specs.Encoded.{relation_bytes}
use Rattle.text_program.specs.Numbered.{joined}
use Rattle.text_program.specs.Source.{is_mode_line, lines, read_mode_line}

-- a refusal, or 17 where a call has no mode line
abbrev pub stop_as : Bool → ℕ → ℕ → Refusal
stop_as true number at = refusal number at
stop_as false number at = refusal 17 0

-- 17, 4, 5 or none for the goal at a place; 17 is told without it
abbrev pub ask_tested : Bool → Bool → Bool → ℕ → Answer ⊤
ask_tested false right fits at = Err (refusal 17 0)
ask_tested true false fits at = Err (refusal 4 at)
ask_tested true true false at = Err (refusal 5 at)
ask_tested true true true at = Ok tt

-- the mode lines of a text are taken into row o, up to a place, and this is known behind them; the clauses begin at another place
pub record Behind (s o : List ℕ) (w : Lines) (begin at : ℕ) (g : Progress) : Type 0 where
  pub start : List ℕ
  pub size : length start ≡ 12800
  pub row : o ≡ laid start 0 (lows (joined relation_bytes (modes_of (modes_from s w.from))))
  pub place : at ≡ length (joined relation_bytes (modes_of (modes_from s w.from)))
  pub said : (next : ℕ → Progress → Answer (ℕ × ℕ)) → relations_judged (mode_names (modes_from s w.from)) next (modes_of (modes_from s w.from)) 0 nothing_read ≡ next at g
  pub opening : Opening g
  pub near : at ≤ 16384
  pub from : drop w.from s ≡ skip s
  pub from_in : w.from ≤ length s
  pub rest_in : begin ≤ length s
  pub rest : drop begin s ≡ (lines is_mode_line read_mode_line (drop w.from s)).rest
