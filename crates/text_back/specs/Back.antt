-- Request 4: "back too": when the text of an image is parsed to that image again.
use Rattle.std.specs.Prelude.{◌≡◌, ◌≢◌, true, [], ◌++◌, ◌∷◌, List, ◌+◌, ◌<◌, ◌≤◌, suc, zero, ℕ, length, take, Ok}
use Rattle.parlog.specs.Load.{load_of}
use Rattle.parlog.specs.Orders.{Each}
use Rattle.parlog.specs.Program.{Clause, Goal, Literal, Program, program_of}
use Rattle.parlog.specs.Tables.{written}
use Rattle.parlog.specs.declared.Term.{Term}
use Rattle.parlog.specs.declared.Term.TheVariants.{Const, Var}
use Rattle.rows.specs.Rows.{Bytes}
use Rattle.text_names.specs.Entries.{entries, entry_name}
use Rattle.text_names.specs.Names.{Name}
use Rattle.text_program.specs.Numbered.{joined}
use Rattle.text_program.specs.Parsing.{parse_call}
use Rattle.text_program.specs.Printing.{print_call, program_named}

-- ---- the terms of a program, as they stand

-- Image 10: the terms of a goal
abbrev pub terms_of_goal : Goal → List Term
terms_of_goal g = joined (joined (λ (l : Literal). l.args)) g

-- Image 5: the terms of a clause: head, guard, body
abbrev pub terms_of_clause : Clause → List Term
terms_of_clause c = c.head ++ (terms_of_goal c.guard ++ terms_of_goal c.body)

-- Image 1: all terms
abbrev pub terms_of : Program → List Term
terms_of pr = joined terms_of_clause pr.clauses ++ terms_of_goal pr.goal

-- the constants among some terms
unfoldable pub constants_in : List Term → List ℕ
constants_in [] = []
constants_in (Const c ∷ ts) = c ∷ constants_in ts
constants_in (Var v ∷ ts) = constants_in ts

-- the variables among them
unfoldable pub variables_in : List Term → List ℕ
variables_in [] = []
variables_in (Const c ∷ ts) = variables_in ts
variables_in (Var v ∷ ts) = v ∷ variables_in ts

-- ---- the conditions

-- Request 4: "numbered from 0 by first appearance": where m numbers have been met, the next is one of them or is m; in the end n have been met
pub data Appear : ℕ → ℕ → List ℕ → Type 0 where
  no_more : {n : ℕ} → Appear n n []
  met_before : {m n k : ℕ} {ks : List ℕ} → k < m → Appear m n ks → Appear m n (k ∷ ks)
  first_time : {m n : ℕ} {ks : List ℕ} → Appear (suc m) n ks → Appear m n (m ∷ ks)

-- Request 4: "a distinct name": the first n of these names are different
abbrev pub Distinct : (ℕ → Name) → ℕ → Type 0
Distinct name n = (i j : ℕ) → i < j → j < n → name i ≢ name j

-- Request 4: "the variables of each clause", "all used", in that order
abbrev pub VariablesAppear : Clause → Type 0
VariablesAppear c = Appear 0 c.vars (variables_in (terms_of_clause c))

-- Request 4: the list has a distinct lower-case name for each relation and each of the n constants used; these, and the variables of each clause and of the goal, are numbered in that order
pub record PrintsBack (nm : List ℕ) (pr : Program) (n : ℕ) : Type 0 where
  pub named : program_named nm pr ≡ true
  pub relations : Distinct (entry_name nm) (length pr.relations)
  pub constants : Distinct (λ c. entry_name nm (length pr.relations + c)) n
  pub constants_appear : Appear 0 n (constants_in (terms_of pr))
  pub variables_appear : Each VariablesAppear pr.clauses
  pub goal_appears : Appear 0 pr.goal_vars (variables_in (terms_of_goal pr.goal))

-- ---- the theorem

-- f 0 to f (n - 1)
unfoldable pub firsts : (ℕ → Name) → ℕ → List Name
firsts f zero = []
firsts f (suc n) = firsts f n ++ (f n ∷ [])

-- Text 15: the names used of a list: those of r relations and of n constants
abbrev pub names_used : List ℕ → ℕ → ℕ → List ℕ
names_used nm r n = entries (firsts (entry_name nm) r ++ firsts (λ c. entry_name nm (r + c)) n)

-- Request 4: "reads back to it": parsing the text that was printed gives the image, and the names used
abbrev pub PrintParse : Type 0
PrintParse = (s nm row image names : List ℕ) (r c n k : ℕ) → Bytes s → load_of s ≡ Ok (r, c) → PrintsBack nm (program_of s r c) n → (print_call row s nm).answer ≡ Ok k →
    length s ≤ length image → length (names_used nm r n) ≤ length names →
    parse_call image names (take k (print_call row s nm).text) ≡ record { answer = Ok ((length s), (length (names_used nm r n))); image = written s image; names = written (names_used nm r n) names }
