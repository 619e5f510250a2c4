-- The clauses as they are taken from a text, each tested.
use Rattle.parlog.specs.Answer.{Answer}
use Rattle.std.specs.Prelude.{◌≡◌, ◌&&◌, false, [], List, ◌+◌, ◌<◌, ◌≤◌, ℕ, drop, length, take}
use Rattle.judge_said.specs.Said.{clauses_said}
use Rattle.judge_text.specs.Tests.{Counted}
use Rattle.lay.specs.Lay.{laid}
use Rattle.lay_lines.specs.Fields.{clause_fits}
use Rattle.lay_lines.specs.Lines.{clauses_from, clauses_with}
use Rattle.lay_literal.specs.Lows.{lows}
use Rattle.name_index.specs.Index.{Indexed}
use Rattle.parlog.specs.declared.Progress.{Progress}
use Rattle.read_names.specs.Tables.{Adds, mode_names, names_at, sorted}
use Rattle.take_modes.specs.TakesModes.{said_by}
use Rattle.take_term.specs.Takes.{Extends}
use Rattle.take_text.specs.declared.Clauses.{Clauses}
use Rattle.text_names.specs.Names.{Name}
use Rattle.text_program.specs.Encoded.{clause_bytes}
use Rattle.text_program.specs.Numbered.{clause_terms, joined}
use Rattle.text_program.specs.Parsing.{all_of}
use Rattle.text_program.specs.Source.{is_clause, lines, lines_for, ModeLine, read_clause}

-- the records of some clauses, with the constants numbered by a list
abbrev pub clauses_in : List ℕ → List ModeLine → ℕ → List Name → List ℕ
clauses_in s ms from cs = joined clause_bytes (clauses_with (mode_names ms) cs false [] (clauses_from s from))

-- the clauses from a place on are tested one after the other up to the first that is refused; where none is, their constants are in the table and their records are laid into row o
pub record TakesClauses (s : List ℕ) (ms : List ModeLine) (o t : List ℕ) (from at n : ℕ) (g : Progress) (p u l : List ℕ) (r : Clauses) : Type 0 where
  pub inside : r.end ≤ length s
  pub declared : (r.declared && all_of (clause_fits false ms) (lines_for r.left is_clause read_clause (drop r.end s)).value) ≡ all_of (clause_fits false ms) (clauses_from s from)
  pub rest : (lines_for r.left is_clause read_clause (drop r.end s)).rest ≡ (lines is_clause read_clause (drop from s)).rest
  pub said : (next : ℕ → Progress → Answer (ℕ × ℕ)) → clauses_said ms next false [] (clauses_from s from) at g ≡ said_by r.number r.at (next r.at r.known)
  pub counted : Counted r.known
  pub near : r.at ≤ 65536
  pub index : Indexed s u l r.consts
  pub all : r.number ≡ 0 → r.declared ≡ all_of (clause_fits false ms) (clauses_from s from)
  pub done : r.number ≡ 0 → drop r.end s ≡ (lines is_clause read_clause (drop from s)).rest
  pub consts : r.number ≡ 0 → Adds s t n u r.consts (sorted false (joined clause_terms (clauses_from s from)))
  pub place : r.number ≡ 0 → (cs : List Name) → r.at ≡ at + length (clauses_in s ms from cs)
  pub bytes : r.number ≡ 0 → r.consts < length u → (cs : List Name) → Extends (names_at s (take r.consts u)) cs → p ≡ laid o at (lows (clauses_in s ms from cs))
  pub table : length u ≡ length t
  pub size : length p ≡ length o
