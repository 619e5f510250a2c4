-- The clauses and the goal behind the mode lines of a text, and what is known before them.
use Rattle.parlog.specs.Answer.{Answer}
use Rattle.std.specs.Prelude.{false, [], List, ◌≡◌, ◌≤◌, ℕ, drop}
use Rattle.judge_image.specs.Judged.{taken}
use Rattle.judge_said.specs.Said.{ask_said, clauses_said}
use Rattle.parlog.specs.Load.{after}
use Rattle.parlog.specs.declared.Progress.{Progress}
use Rattle.read_names.specs.Tables.{modes_from}
use Rattle.text_program.specs.Source.{behind_arrow, is_clause, is_mode_line, lines, read_body, read_clause, read_mode_line}

-- the clauses and the goal behind the mode lines from a place on
abbrev pub clauses_behind_modes : List ℕ → ℕ → ℕ → Progress → Answer (ℕ × ℕ)
clauses_behind_modes s m at g =
    let c = lines is_clause read_clause (lines is_mode_line read_mode_line (drop m s)).rest in
    clauses_said (modes_from s m) (λ at g. after taken at (ask_said (modes_from s m) g (read_body (behind_arrow c.rest)).value)) false [] c.value at g

-- what is known before a mode line
pub record Opening (g : Progress) : Type 0 where
  pub relations : g.relations ≤ 32
  pub clauses : g.clauses ≡ 0
  pub kind : g.kind ≤ 1
  pub block : g.block ≡ 0
