-- The loader's tests of the records of a program, told by the program.
use Rattle.parlog.specs.Answer.{Answer}
use Rattle.std.specs.Prelude.{◌&&◌, Bool, cond, not, true, [], ◌∷◌, List, ◌+◌, ℕ, eqb, leb, ltb, get_or, length, Result, Ok}
use Rattle.parlog.specs.Image.{clause_kind, equality, first_variable, goal_kind, relation_kind, term_of}
use Rattle.parlog.specs.Load.{after, block_with, kind_fault, refuse_if, too_many}
use Rattle.parlog.specs.Names.{follows, term_named}
use Rattle.parlog.specs.Program.{Clause, Goal, Literal}
use Rattle.parlog.specs.declared.Progress.{Progress}
use Rattle.parlog.specs.declared.Term.{Term}
use Rattle.parlog.specs.declared.Term.TheVariants.{Const, Var}
use Rattle.text_names.specs.Names.{Name}
use Rattle.text_program.specs.Encoded.{clause_bytes, relation_bytes}
use Rattle.text_program.specs.Parsing.{all_of, once_by, repeated}

-- the number that a term is written as
abbrev pub word_of : Term → ℕ
word_of (Const c) = c
word_of (Var v) = first_variable + v

-- ---- 4

abbrev pub literal_sized : Literal → Bool
literal_sized l = leb (length l.args) 4

unfoldable pub stage_sized : List Literal → Bool
stage_sized st = leb 1 (length st) && all_of literal_sized st

unfoldable pub literals_of : Goal → ℕ
literals_of [] = 0
literals_of (st ∷ g) = length st + literals_of g

unfoldable pub goal_sized : Goal → Bool
goal_sized g = leb (length g) 8 && (all_of stage_sized g && leb (literals_of g) 8)

unfoldable pub relation_sized : List ℕ → Bool
relation_sized ms = leb (length ms) 4 && all_of (λ (m : ℕ). leb m 1) ms

unfoldable pub clause_sized : Clause → Bool
clause_sized c = leb (length c.head) 4 && (leb c.mark 1 && (leb c.vars 16 && (goal_sized c.guard && goal_sized c.body)))

unfoldable pub ask_sized : ℕ → Goal → Bool
ask_sized n g = leb n 16 && goal_sized g

-- ---- 5

abbrev pub term_known : ℕ → Term → Bool
term_known vars t = term_named vars (term_of (word_of t))

-- rels has the modes of each relation
unfoldable pub relation_known : List (List ℕ) → ℕ → ℕ → Bool
relation_known rels r a = ltb r (length rels) && eqb a (length (get_or rels r []))

unfoldable pub literal_known : List (List ℕ) → ℕ → Literal → Bool
literal_known rels vars l =
    cond (eqb l.rel equality) (eqb (length l.args) 2) (relation_known rels l.rel (length l.args)) && all_of (term_known vars) l.args

unfoldable pub goal_known : List (List ℕ) → ℕ → Goal → Bool
goal_known rels vars g = all_of (all_of (literal_known rels vars)) g

unfoldable pub clause_known : List (List ℕ) → Progress → Clause → Bool
clause_known rels g c =
    (relation_known rels c.rel (length c.head) && (leb g.relation c.rel && cond (follows g c.rel) true (eqb c.mark 0)))
    && (all_of (term_known c.vars) c.head && (goal_known rels c.vars c.guard && goal_known rels c.vars c.body))

-- ---- a record, and all of them

-- what is known after a record of a kind, with the relation and the mark of a clause
unfoldable pub progress_of : Progress → ℕ → ℕ → ℕ → Progress
progress_of g kind r mark =
    cond (eqb kind relation_kind)
    (record { relations = g.relations + 1; clauses = g.clauses; kind = kind; relation = g.relation; block = g.block })
    (cond (eqb kind clause_kind)
    (record { relations = g.relations; clauses = g.clauses + 1; kind = kind; relation = r; block = block_with g r mark })
    (record { relations = g.relations; clauses = g.clauses; kind = kind; relation = g.relation; block = g.block }))

-- the tests in their order, once 4 and 5 are told
unfoldable pub judged : Progress → ℕ → Bool → Bool → ℕ → ℕ → Result Progress ℕ
judged g kind sized known r mark =
    refuse_if (kind_fault g kind) 3
    (refuse_if (too_many g kind) 6
    (refuse_if (not sized) 4
    (refuse_if (not known) 5
    (refuse_if (eqb kind clause_kind && ltb 8 (block_with g r mark)) 6
    (Ok (progress_of g kind r mark))))))

-- Text 17: the tests of a relation, of a clause and of the goal
unfoldable pub relation_judged : List Name → Progress → List ℕ → Result Progress ℕ
relation_judged names g ms = once_by (repeated names g.relations) (judged g relation_kind (relation_sized ms) true 0 0)

unfoldable pub clause_judged : List (List ℕ) → Progress → Clause → Result Progress ℕ
clause_judged rels g c = judged g clause_kind (clause_sized c) (clause_known rels g c) c.rel c.mark

unfoldable pub ask_judged : List (List ℕ) → Progress → ℕ → Goal → Result Progress ℕ
ask_judged rels g n q = judged g goal_kind (ask_sized n q) (goal_known rels n q) 0 0

-- relations one after the other, and then what follows
unfoldable pub relations_judged : List Name → (ℕ → Progress → Answer (ℕ × ℕ)) → List (List ℕ) → ℕ → Progress → Answer (ℕ × ℕ)
relations_judged names then [] at g = then at g
relations_judged names then (m ∷ ms) at g = after (relations_judged names then ms (at + length (relation_bytes m))) at (relation_judged names g m)

-- clauses likewise
unfoldable pub clauses_judged : List (List ℕ) → (ℕ → Progress → Answer (ℕ × ℕ)) → List Clause → ℕ → Progress → Answer (ℕ × ℕ)
clauses_judged rels then [] at g = then at g
clauses_judged rels then (c ∷ cs) at g = after (clauses_judged rels then cs (at + length (clause_bytes c))) at (clause_judged rels g c)

-- an image with these counts is taken
abbrev pub taken : Progress → Answer (ℕ × ℕ)
taken g = Ok (g.relations, g.clauses)
