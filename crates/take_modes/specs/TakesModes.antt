-- The mode lines as they are taken from a text, each tested.
use Rattle.parlog.specs.Answer.{Answer}
use Rattle.std.specs.Prelude.{◌≡◌, [], ◌++◌, ◌∷◌, List, ◌+◌, ◌≤◌, suc, zero, ℕ, drop, length, set, take, Err, Ok}
use Rattle.judge_image.specs.Judged.{relations_judged}
use Rattle.judge_lines.specs.Whole.{Opening}
use Rattle.lay.specs.Lay.{laid}
use Rattle.lay_lines.specs.Lines.{modes_of}
use Rattle.lay_literal.specs.Lows.{lows}
use Rattle.mode_table.specs.Moded.{Moded}
use Rattle.name_index.specs.Index.{chain_of, Indexed}
use Rattle.parlog.specs.Load.{nothing_read, refusal}
use Rattle.parlog.specs.declared.Progress.{Progress}
use Rattle.parlog.specs.declared.Refusal.{Refusal}
use Rattle.read_names.specs.Tables.{mode_names, modes_from, names_at}
use Rattle.take_modes.specs.declared.Line.{Line}
use Rattle.take_modes.specs.declared.Modes.{Modes}
use Rattle.text_names.specs.Bytes.{front}
use Rattle.text_names.specs.Names.{Name}
use Rattle.text_program.specs.Encoded.{relation_bytes, word_bytes}
use Rattle.text_program.specs.Numbered.{joined}
use Rattle.text_program.specs.Source.{is_mode_line, lines, read_mode_line}

-- refused with a number and a place, or with number 0 what follows
abbrev pub said_by : ℕ → ℕ → Answer (ℕ × ℕ) → Answer (ℕ × ℕ)
said_by zero at next = next
said_by (suc n) at next = Err (refusal (suc n) at)

-- a mode line that was read: its name, the place behind it, and how many modes it has, which are laid where they stand in its record
pub record ReadsLine (s : List ℕ) (p : ℕ) (o : List ℕ) (at : ℕ) (q : List ℕ) (r : Line) : Type 0 where
  pub name : front (drop r.name s) ≡ (read_mode_line (drop p s)).value.name
  pub inside : r.name ≤ length s
  pub chain : r.chain ≡ chain_of (front (drop r.name s))
  pub end : drop r.end s ≡ (read_mode_line (drop p s)).rest
  pub behind : r.end ≤ length s
  pub count : r.count ≡ length (read_mode_line (drop p s)).value.modes
  pub bytes : q ≡ laid o (at + 5) (lows (read_mode_line (drop p s)).value.modes)

-- the record of a relation up to its modes
abbrev pub modes_front : ℕ → List ℕ
modes_front count = word_bytes (5 + count) ++ (word_bytes 1 ++ (count ∷ []))

-- a line in the tables: its name is number n, with so many modes
pub record EntersLine (s : List ℕ) (x : Name) (count : ℕ) (t a : List ℕ) (n : ℕ) (u b l : List ℕ) : Type 0 where
  pub names : names_at s (take (n + 1) u) ≡ names_at s (take n t) ++ (x ∷ [])
  pub index : Indexed s u l (n + 1)
  pub table : length u ≡ length t
  pub arities : b ≡ set a n count

-- what is known behind a mode line
abbrev pub one_more : Progress → Progress
one_more g = record { relations = g.relations + 1; clauses = g.clauses; kind = 1; relation = g.relation; block = g.block }

-- what is told of mode lines
abbrev pub told_by : ℕ → ℕ → Progress → ℕ → Modes
told_by m p g at = record { lines = record { from = m; count = g.relations }; rest = p; at = at; known = g }

-- what the tests of the mode lines from place m on come to, and what follows them
abbrev pub modes_judged : List ℕ → ℕ → (ℕ → Progress → Answer (ℕ × ℕ)) → Answer (ℕ × ℕ)
modes_judged s m next = relations_judged (mode_names (modes_from s m)) next (modes_of (modes_from s m)) 0 nothing_read

-- no mode line is refused: all are in the tables and their records are laid into row o
pub record ModesTaken (s : List ℕ) (m : ℕ) (o p t a l : List ℕ) (r : Modes) : Type 0 where
  pub from : r.lines.from ≡ m
  pub moded : Moded s t a l r.lines
  pub said : (next : ℕ → Progress → Answer (ℕ × ℕ)) → modes_judged s m next ≡ next r.at r.known
  pub opening : Opening r.known
  pub inside : r.rest ≤ length s
  pub rest : drop r.rest s ≡ (lines is_mode_line read_mode_line (drop m s)).rest
  pub place : r.at ≡ length (joined relation_bytes (modes_of (modes_from s m)))
  pub bytes : p ≡ laid o 0 (lows (joined relation_bytes (modes_of (modes_from s m))))
  pub near : r.at ≤ 16384
  pub size : length p ≡ length o

-- one is refused, whatever would follow
pub record ModesRefused (s : List ℕ) (m : ℕ) (o p : List ℕ) (f : Refusal) : Type 0 where
  pub said : (next : ℕ → Progress → Answer (ℕ × ℕ)) → modes_judged s m next ≡ Err f
  pub near : f.offset ≤ 16384
  pub size : length p ≡ length o

-- the mode lines from place m on are tested one after the other
abbrev pub TakesModes : List ℕ → ℕ → List ℕ → List ℕ → List ℕ → List ℕ → List ℕ → Answer Modes → Type 0
TakesModes s m o p t a l (Ok r) = ModesTaken s m o p t a l r
TakesModes s m o p t a l (Err f) = ModesRefused s m o p f
