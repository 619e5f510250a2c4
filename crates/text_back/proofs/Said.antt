-- What the text of a program says, line by line, with the names of a list.
use mathlib.Core.Bool.{Bool, false, true}
use mathlib.Core.List.{[], ◌∷◌, List, map}
use Prim.Native.Nat.{suc, ℕ}
use lib.Dec.{eqb}
use lib.ListN.{length}
use Rattle.parlog.specs.Image.{equality}
use Rattle.parlog.specs.Program.{argument, Clause, Goal, Literal, Program}
use Rattle.text_names.specs.Entries.{entry_name}
use Rattle.text_program.specs.Printing.{next_mark, term_text}
use Rattle.text_program.specs.Source.{calls, equals, ModeLine, Said, SaidClause, Source}

module _ (r : ℕ) (nm : List ℕ) where
  -- Text 24: a call, or an equality of two terms
  abbrev pub said_by : Bool → Literal → Said
  said_by true l = equals (term_text r nm (argument l 0)) (term_text r nm (argument l 1))
  said_by false l = calls (entry_name nm l.rel) (map (term_text r nm) l.args)

  unfoldable pub said : Literal → Said
  said l = said_by (eqb l.rel equality) l

  abbrev pub said_goal : Goal → List (List Said)
  said_goal g = map (map said) g

  -- Text 25: a clause, and the mark of the next
  abbrev pub said_clause : Clause → ℕ → SaidClause
  said_clause c m = record {
    name = entry_name nm c.rel;
    terms = map (term_text r nm) c.head;
    guard = said_goal c.guard;
    body = said_goal c.body;
    semicolon = eqb m 1;
  }

  -- Text 25: clauses, line by line
  unfoldable pub said_clauses : List Clause → List SaidClause
  said_clauses [] = []
  said_clauses (c ∷ cs) = said_clause c (next_mark cs) ∷ said_clauses cs

  -- Text 25: mode lines from relation k on
  unfoldable pub said_modes : ℕ → List (List ℕ) → List ModeLine
  said_modes k [] = []
  said_modes k (ms ∷ mss) = record { name = entry_name nm k; modes = ms } ∷ said_modes (suc k) mss

-- Text 25: all lines of the text of a program
unfoldable pub said_program : List ℕ → Program → Source
said_program nm pr =
    let r = length pr.relations in
    record { modes = said_modes r nm 0 pr.relations; clauses = said_clauses r nm pr.clauses; goal = said_goal r nm pr.goal }
