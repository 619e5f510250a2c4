-- The text of an image, and what printing it answers.
use Rattle.parlog.specs.Answer.{Answer}
use Rattle.std.specs.Prelude.{◌&&◌, Bool, cond, false, true, [], ◌++◌, ◌∷◌, List, ◌%◌, ◌+◌, suc, ℕ, eqb, leb, length, Err, Ok}
use Rattle.parlog.specs.Image.{equality, is_input}
use Rattle.parlog.specs.Load.{load_of, refusal}
use Rattle.parlog.specs.Program.{Clause, Goal, Literal, Program, program_of}
use Rattle.parlog.specs.Tables.{written}
use Rattle.parlog.specs.declared.Refusal.{Refusal}
use Rattle.parlog.specs.declared.Term.{Term}
use Rattle.parlog.specs.declared.Term.TheVariants.{Const, Var}
use Rattle.text_names.specs.Entries.{entry_name, is_entry, line_end}
use Rattle.text_program.specs.Numbered.{joined}
use Rattle.text_program.specs.Parsing.{all_of}
use Rattle.text_program.specs.Source.{mode_word}

-- ---- items with something between them

-- what stands between, and the item, for each of them
abbrev pub rest_text : {A : Type 0} → (A → List ℕ) → List ℕ → List A → List ℕ
rest_text text mark xs = joined (λ x. mark ++ text x) xs

-- Text 24: the first, and the rest
unfoldable pub row_text : {A : Type 0} → (A → List ℕ) → List ℕ → List A → List ℕ
row_text text mark [] = []
row_text text mark (x ∷ xs) = text x ++ rest_text text mark xs

-- Text 24: in brackets with `,` between them, no brackets where there are none
unfoldable pub bracket_text : {A : Type 0} → (A → List ℕ) → List A → List ℕ
bracket_text text [] = []
bracket_text text (x ∷ xs) = 40 ∷ (row_text text (44 ∷ []) (x ∷ xs) ++ (41 ∷ []))

-- ---- words

-- Text 24: `, `
abbrev pub comma_mark : List ℕ
comma_mark = 44 ∷ 32 ∷ []

-- Text 24: ` & `
abbrev pub and_mark : List ℕ
and_mark = 32 ∷ 38 ∷ 32 ∷ []

-- Text 24: ` = `
abbrev pub equals_mark : List ℕ
equals_mark = 32 ∷ 61 ∷ 32 ∷ []

-- Text 24: ` <- `
abbrev pub arrow_mark : List ℕ
arrow_mark = 32 ∷ 60 ∷ 45 ∷ 32 ∷ []

-- Text 24: ` : `
abbrev pub guard_mark : List ℕ
guard_mark = 32 ∷ 58 ∷ 32 ∷ []

-- Text 25: the end of a line, with `.`
abbrev pub stop_mark : List ℕ
stop_mark = 46 ∷ line_end ∷ []

-- Text 25: with `;`
abbrev pub semicolon_mark : List ℕ
semicolon_mark = 59 ∷ line_end ∷ []

-- Text 25: `;` where the next clause has mark 1
abbrev pub end_mark : ℕ → List ℕ
end_mark m = cond (eqb m 1) semicolon_mark stop_mark

-- the mark of the first of these clauses, 0 where there is none
abbrev pub next_mark : List Clause → ℕ
next_mark [] = 0
next_mark (c ∷ cs) = c.mark

-- Text 24: `?` for an input, `^` for an output
abbrev pub mode_text : ℕ → List ℕ
mode_text m = cond (is_input m) 63 94 ∷ []

-- ---- over a names row nm, with r relations

module _ (r : ℕ) (nm : List ℕ) where
  -- Text 15, 22: the name of a constant, or the letter of a variable, one of the sixteen from `A` on
  unfoldable pub term_text : Term → List ℕ
  term_text (Const c) = entry_name nm (r + c)
  term_text (Var v) = (65 + v % 16) ∷ []

  -- Text 24: an equality, or a call
  unfoldable pub literal_text : Literal → List ℕ
  literal_text l =
      cond (eqb l.rel equality)
      (row_text term_text equals_mark l.args)
      (entry_name nm l.rel ++ bracket_text term_text l.args)

  -- Text 24: literals of a stage have `, ` between them, stages ` & `
  unfoldable pub goal_text : Goal → List ℕ
  goal_text g = row_text (row_text literal_text comma_mark) and_mark g

  -- Text 23: guard and body; no `<-` where there is neither, no `:` without a guard
  unfoldable pub halves_text : Goal → Goal → List ℕ
  halves_text [] [] = []
  halves_text [] (st ∷ g) = arrow_mark ++ goal_text (st ∷ g)
  halves_text (st ∷ g) b = arrow_mark ++ (goal_text (st ∷ g) ++ (guard_mark ++ goal_text b))

  -- Text 25: a clause, and the mark of the next
  unfoldable pub clause_text : Clause → ℕ → List ℕ
  clause_text c m = entry_name nm c.rel ++ (bracket_text term_text c.head ++ (halves_text c.guard c.body ++ end_mark m))

  -- Text 25: clauses, line by line
  unfoldable pub clauses_text : List Clause → List ℕ
  clauses_text [] = []
  clauses_text (c ∷ cs) = clause_text c (next_mark cs) ++ clauses_text cs

  -- Text 25: `<- `, the goal, the end
  unfoldable pub goal_line_text : Goal → List ℕ
  goal_line_text g = 60 ∷ 45 ∷ 32 ∷ (goal_text g ++ stop_mark)

  -- Text 25: the mode line of relation k
  unfoldable pub mode_line_text : ℕ → List ℕ → List ℕ
  mode_line_text k ms = mode_word ++ (32 ∷ (entry_name nm k ++ (bracket_text mode_text ms ++ stop_mark)))

  -- Text 25: mode lines from relation k on
  unfoldable pub mode_lines_text : ℕ → List (List ℕ) → List ℕ
  mode_lines_text k [] = []
  mode_lines_text k (ms ∷ mss) = mode_line_text k ms ++ mode_lines_text (suc k) mss

-- Text 25: the text of a program
unfoldable pub program_text : List ℕ → Program → List ℕ
program_text nm pr =
    let r = length pr.relations in
    mode_lines_text r nm 0 pr.relations ++ (clauses_text r nm pr.clauses ++ goal_line_text r nm pr.goal)

-- ---- 17, UNDECLARED

module _ (r : ℕ) (nm : List ℕ) where
  -- Text 26: a constant in use has its name
  unfoldable pub term_named : Term → Bool
  term_named (Const c) = is_entry nm (r + c)
  term_named (Var v) = true

  -- Text 26: so has a relation that is called
  unfoldable pub literal_named : Literal → Bool
  literal_named l = cond (eqb l.rel equality) (all_of term_named l.args) (is_entry nm l.rel && all_of term_named l.args)

  abbrev pub goal_named : Goal → Bool
  goal_named g = all_of (all_of literal_named) g

  abbrev pub clause_named : Clause → Bool
  clause_named c = is_entry nm c.rel && (all_of term_named c.head && (goal_named c.guard && goal_named c.body))

  -- Text 26: so have all relations from k on, as many as there are modes
  unfoldable pub relations_named : ℕ → List (List ℕ) → Bool
  relations_named k [] = true
  relations_named k (ms ∷ mss) = is_entry nm k && relations_named (suc k) mss

-- Text 26: all that a text of the program would name
unfoldable pub program_named : List ℕ → Program → Bool
program_named nm pr =
    let r = length pr.relations in
    relations_named r nm 0 pr.relations && (all_of (clause_named r nm) pr.clauses && goal_named r nm pr.goal)

-- ---- the call

-- what it answers, and the row afterwards
pub record PrintCall : Type 0 where
  pub answer : Answer ℕ
  pub text : List ℕ

module _ (text : List ℕ) where
  -- Text 27: a refusal changes nothing
  abbrev pub unwritten : Refusal → PrintCall
  unwritten r = record { answer = Err r; text = text }

  -- Text 27, 28: 11 where the row is too short, else the text is written
  abbrev pub roomy : Bool → List ℕ → PrintCall
  roomy false t = unwritten (refusal 11 0)
  roomy true t = record { answer = Ok (length t); text = written t text }

  -- Text 26: 17 before
  abbrev pub nameable : Bool → List ℕ → PrintCall
  nameable false t = unwritten (refusal 17 0)
  nameable true t = roomy (leb (length t) (length text)) t

  -- Refusals 20: the image's own refusals before that
  abbrev pub print_loaded : Answer (ℕ × ℕ) → List ℕ → List ℕ → PrintCall
  print_loaded (Err r) s nm = unwritten r
  print_loaded (Ok (r, c)) s nm = nameable (program_named nm (program_of s r c)) (program_text nm (program_of s r c))

  -- Text 28: the whole call
  unfoldable pub print_call : List ℕ → List ℕ → PrintCall
  print_call s nm = print_loaded (load_of s) s nm
