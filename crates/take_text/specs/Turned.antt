-- One clause more of a text, and its tests.
use Rattle.std.specs.Prelude.{◌≡◌, ◌&&◌, Bool, true, List, ◌-◌, ℕ, leb, drop, Result, Err, Ok}
use Rattle.judge_image.specs.Judged.{judged}
use Rattle.judge_text.specs.Tests.{kept}
use Rattle.parlog.specs.declared.Progress.{Progress}
use Rattle.take_clause.specs.TakesClause.{TakesClause}
use Rattle.take_clause.specs.declared.Taken.{Taken}
use Rattle.take_text.specs.declared.Behind.{Behind}
use Rattle.take_text.specs.declared.Clauses.{Clauses}
use Rattle.text_program.specs.Numbered.{mark_by}
use Rattle.text_program.specs.Source.{ModeLine, read_clause}

-- 6, 4, 5 and 6 for a clause by its relation, whether it is right and whether its calls fit
unfoldable pub taken_said : Progress → Bool → ℕ → Bool → Bool → Result Progress ℕ
taken_said g opens number right fits = judged g 2 right (fits && leb g.relation number) number (mark_by opens)

-- before the first clause
abbrev pub started : ℕ → ℕ → ℕ → ℕ → Progress → Clauses
started left from n at g = record { end = from; left = left; number = 0; at = at; consts = n; known = g; declared = true }

-- behind a clause that goes or is refused; one that is refused has its record's place
abbrev pub turned_by : Result Progress ℕ → Clauses → Taken → Clauses
turned_by (Err number) w c = record { end = c.end; left = w.left - 1; number = number; at = w.at; consts = c.consts; known = w.known; declared = w.declared && c.declared }
turned_by (Ok next) w c = record { end = c.end; left = w.left - 1; number = 0; at = c.at; consts = c.consts; known = next; declared = w.declared && c.declared }

-- one clause more is taken and tested
pub record Turns (s : List ℕ) (ms : List ModeLine) (o t : List ℕ) (w : Clauses) (opens : Bool) (p u l : List ℕ) (r : Behind) : Type 0 where
  pub taken : Taken
  pub takes : TakesClause s ms o t w.at w.consts opens (read_clause (drop w.end s)) p u l taken
  pub next : r.next ≡ turned_by (taken_said w.known opens taken.number taken.right taken.fits) w taken
  pub kept : kept (taken_said w.known opens taken.number taken.right taken.fits)
  pub semicolon : r.semicolon ≡ taken.semicolon
