-- The relations of a text's mode lines in a table, and the calls that have one.
use Rattle.std.specs.Prelude.{◌≡◌, ◌&&◌, ◌||◌, Bool, false, not, true, List, ◌<◌, ◌≤◌, ℕ, drop, get_or, length, take}
use Rattle.declared_calls.specs.declared.Named.{Named}
use Rattle.lay_lines.specs.Fields.{clause_fits}
use Rattle.lay_literal.specs.Fits.{goal_fits}
use Rattle.missing_call.specs.Called.{calls_from}
use Rattle.missing_call.specs.Least.{of_class}
use Rattle.name_index.specs.Index.{Indexed}
use Rattle.read_names.specs.Tables.{mode_names, modes_from, names_at}
use Rattle.text_names.specs.Names.{known, Name}
use Rattle.text_program.specs.Parsing.{all_of}
use Rattle.text_program.specs.Source.{behind_arrow, Got, is_clause, is_mode_line, lines, lines_for, read_body, read_clause, read_mode_line, SaidClause}

-- ---- mode lines

-- a name of a class has a mode line where it is in the table or has one of those that are left over
pub record Declares (s t l : List ℕ) (r : Named) : Type 0 where
  pub index : Indexed s t l r.count
  pub names : (x : Name) → of_class r.class x ≡ true → known (mode_names (modes_from s r.from)) x ≡ (known (names_at s (take r.count t)) x || known (mode_names (modes_from s r.rest)) x)
  pub inside : r.rest ≤ length s

-- the names of class k in the mode lines from place m on, in a table as long as t; behind the lines left over stands what stands behind all
pub record Names (s t : List ℕ) (m k : ℕ) (u l : List ℕ) (r : Named) : Type 0 where
  pub declares : Declares s u l r
  pub from : r.from ≡ m
  pub class : r.class ≡ k
  pub behind : (lines is_mode_line read_mode_line (drop r.rest s)).rest ≡ (lines is_mode_line read_mode_line (drop m s)).rest
  pub size : length u ≡ length t

-- all n names of the mode lines from place m on are in a table: no line is left over
abbrev pub all_named : List ℕ → ℕ → ℕ → Named
all_named s m n = record { from = m; class = 16; count = n; rest = length s }

-- a row in which no chain has a name
pub record Cleared (l k : List ℕ) : Type 0 where
  pub heads : (h : ℕ) → h < 512 → get_or k h 0 ≡ 0
  pub size : length k ≡ length l

-- ---- calls

-- each call in some clauses and in the goal behind them has a mode line
abbrev pub declared_in : List ℕ → ℕ → Got (List SaidClause) → Bool
declared_in s m c = all_of (clause_fits false (modes_from s m)) c.value && goal_fits false (modes_from s m) (read_body (behind_arrow c.rest)).value

-- so it is in up to n clauses from a place on
abbrev pub declared_for : List ℕ → ℕ → ℕ → ℕ → Bool
declared_for s m from n = declared_in s m (lines_for n is_clause read_clause (drop from s))

-- and in all clauses behind the mode lines from place m on
abbrev pub declared_behind : List ℕ → ℕ → Bool
declared_behind s m = declared_in s m (lines is_clause read_clause (lines is_mode_line read_mode_line (drop m s)).rest)

-- whether each call behind the mode lines has one; and a place of the text where the clauses begin, by which the text's tests are told
pub record Answers (s : List ℕ) (m : ℕ) (r : Bool) : Type 0 where
  pub declared : r ≡ declared_behind s m
  pub place : ℕ
  pub behind : drop place s ≡ (lines is_mode_line read_mode_line (drop m s)).rest

-- each call of class k has a mode line
abbrev pub class_declared : List ℕ → ℕ → ℕ → ℕ → ℕ → Bool
class_declared s m k from n = all_of (λ (x : Name). not (of_class k x) || known (mode_names (modes_from s m)) x) (calls_from s from n)
