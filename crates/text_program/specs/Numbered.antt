-- The program that a source means: names are numbered.
use Rattle.std.specs.Prelude.{◌&&◌, Bool, cond, false, [], ◌++◌, ◌∷◌, List, map, ℕ, length}
use Rattle.parlog.specs.Image.{equality}
use Rattle.parlog.specs.Program.{Clause, Goal, Literal, Program}
use Rattle.parlog.specs.declared.Term.{Term}
use Rattle.parlog.specs.declared.Term.TheVariants.{Const, Var}
use Rattle.text_names.specs.Bytes.{first, is_capital}
use Rattle.text_names.specs.Names.{adds, look, Name, same_name}
use Rattle.text_program.specs.Source.{calls, equals, ModeLine, Said, SaidClause, Source}

-- ---- the names of a source, as they stand

-- what each item gives, one behind the other
unfoldable pub joined : {A B : Type 0} → (A → List B) → List A → List B
joined f [] = []
joined f (x ∷ xs) = f x ++ joined f xs

-- the terms of a literal
abbrev pub said_terms : Said → List Name
said_terms (calls p ts) = ts
said_terms (equals a b) = a ∷ b ∷ []

-- the terms of a goal
abbrev pub goal_terms : List (List Said) → List Name
goal_terms g = joined (joined said_terms) g

-- the terms of a clause: head, guard, body
abbrev pub clause_terms : SaidClause → List Name
clause_terms c = c.terms ++ (goal_terms c.guard ++ goal_terms c.body)

-- Text 1: a name in upper case
abbrev pub is_upper : Name → Bool
is_upper x = is_capital (first x)

-- the variables among some terms
unfoldable pub uppers : List Name → List Name
uppers [] = []
uppers (x ∷ xs) = cond (is_upper x) (x ∷ uppers xs) (uppers xs)

-- the constants among them
unfoldable pub lowers : List Name → List Name
lowers [] = []
lowers (x ∷ xs) = cond (is_upper x) (lowers xs) (x ∷ lowers xs)

-- ---- their numbers

-- Text 10: relations are numbered by mode line
abbrev pub relation_names : Source → List Name
relation_names p = map (λ (m : ModeLine). m.name) p.modes

-- Text 11: constants by first appearance in the whole text
unfoldable pub constant_names : Source → List Name
constant_names p = adds [] (lowers (joined clause_terms p.clauses ++ goal_terms p.goal))

-- Text 12: variables by first appearance in the clause, or in the goal
abbrev pub variable_names : List Name → List Name
variable_names ts = adds [] (uppers ts)

-- the names that are numbered
pub record Numbering : Type 0 where
  pub relations : List Name
  pub constants : List Name
  pub variables : List Name

-- Text 11, 12: the term of a name
unfoldable pub term_numbered : Numbering → Name → Term
term_numbered n x = cond (is_upper x) (Var (look n.variables x)) (Const (look n.constants x))

-- Text 10: the literal
abbrev pub literal_numbered : Numbering → Said → Literal
literal_numbered n (calls p ts) = record { rel = look n.relations p; args = map (term_numbered n) ts }
literal_numbered n (equals a b) = record { rel = equality; args = term_numbered n a ∷ term_numbered n b ∷ [] }

abbrev pub goal_numbered : Numbering → List (List Said) → Goal
goal_numbered n g = map (map (literal_numbered n)) g

-- the names of a source, with the variables of some terms
abbrev pub numbering_for : Source → List Name → Numbering
numbering_for p ts = record { relations = relation_names p; constants = constant_names p; variables = variable_names ts }

-- Text 13: mark 1 where the clause before is of the same relation and ended in `;`
abbrev pub mark_by : Bool → ℕ
mark_by b = cond b 1 0

abbrev pub clause_numbered : Source → Bool → SaidClause → Clause
clause_numbered p opens c =
    let n = numbering_for p (clause_terms c) in
    record {
      rel = look n.relations c.name;
      mark = mark_by opens;
      vars = length n.variables;
      head = map (term_numbered n) c.terms;
      guard = goal_numbered n c.guard;
      body = goal_numbered n c.body;
    }

-- Text 13: the clauses behind this one
unfoldable pub clauses_behind : Source → SaidClause → List SaidClause → List Clause
clauses_behind p b [] = []
clauses_behind p b (c ∷ cs) = clause_numbered p (b.semicolon && same_name b.name c.name) c ∷ clauses_behind p c cs

-- Text 13: nothing stands before the first
unfoldable pub clauses_numbered : Source → List SaidClause → List Clause
clauses_numbered p [] = []
clauses_numbered p (c ∷ cs) = clause_numbered p false c ∷ clauses_behind p c cs

-- Text 10 to 13: the program of a source
unfoldable pub program_in : Source → Program
program_in p =
    let n = numbering_for p (goal_terms p.goal) in
    record {
      relations = map (λ (m : ModeLine). m.modes) p.modes;
      clauses = clauses_numbered p p.clauses;
      goal_vars = length n.variables;
      goal = goal_numbered n p.goal;
    }
