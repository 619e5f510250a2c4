-- Request 4: an image and its program tell the same, and the image of a text loads.
use Rattle.std.specs.Prelude.{◌≡◌, false, true, List, ◌<◌, ◌≤◌, ℕ, length, take, Err, Ok}
use Rattle.parlog.specs.Image.{first_variable}
use Rattle.parlog.specs.Load.{load_of, long}
use Rattle.parlog.specs.Orders.{Each}
use Rattle.parlog.specs.Program.{Clause, Goal, Literal, Program, program_of}
use Rattle.parlog.specs.declared.Refusal.{Refusal}
use Rattle.parlog.specs.declared.Term.{Term}
use Rattle.parlog.specs.declared.Term.TheVariants.{Const, Var}
use Rattle.rows.specs.Rows.{Bytes}
use Rattle.spell.specs.Stuck.{spelling_of}
use Rattle.text_names.specs.Names.{Name}
use Rattle.text_program.specs.Encoded.{program_bytes}
use Rattle.text_program.specs.Numbered.{program_in, relation_names}
use Rattle.text_program.specs.Parsing.{declared, image_in, names_in, parse_call, records_in}
use Rattle.text_program.specs.Source.{Source, source_of}

-- Image 9: a constant has one of the numbers that are no variables
abbrev pub TermFits : Term → Type 0
TermFits (Const c) = c < first_variable
TermFits (Var v) = Unit

-- so have the constants of a literal
abbrev pub LiteralFits : Literal → Type 0
LiteralFits l = Each TermFits l.args

-- of a goal
abbrev pub GoalFits : Goal → Type 0
GoalFits g = Each (Each LiteralFits) g

-- of a clause
pub record ClauseFits (c : Clause) : Type 0 where
  pub head : Each TermFits c.head
  pub guard : GoalFits c.guard
  pub body : GoalFits c.body

-- of a program
pub record ProgramFits (pr : Program) : Type 0 where
  pub clauses : Each ClauseFits pr.clauses
  pub goal : GoalFits pr.goal

-- Text 14: the program of the bytes of a program is that program
abbrev pub DecodeEncode : Type 0
DecodeEncode = (pr : Program) → ProgramFits pr → program_of (program_bytes pr) (length pr.relations) (length pr.clauses) ≡ pr

-- Text 14: the bytes of the program of an accepted image are that image
abbrev pub EncodeDecode : Type 0
EncodeDecode = (s : List ℕ) (r c : ℕ) → Bytes s → load_of s ≡ Ok (r, c) → program_bytes (program_of s r c) ≡ s

-- Text 17: of the loader's tests only 4, 5 and 6 refuse the records of a text
abbrev pub RecordsRefused : Type 0
RecordsRefused = (p : Source) (f : Refusal) → records_in (relation_names p) (image_in p) ≡ Err f → (4 ≤ f.number) × (f.number ≤ 6)

-- the most bytes that the image of a text has
abbrev pub most_image : ℕ
most_image = 12798

-- Text 18: no image that passes the tests of its records is too long, so that 1 is never given
abbrev pub NeverLong : Type 0
NeverLong = (rels : List Name) (s : List ℕ) (r c : ℕ) → records_in rels s ≡ Ok (r, c) → long s ≡ false

-- Text 14, 21: the image of a text loads, with as many relations as there are mode lines and as many clauses as there are, and holds the program that the text means
pub record TextLoads (s : List ℕ) (p : Source) : Type 0 where
  pub loads : load_of s ≡ Ok ((length p.modes), (length p.clauses))
  pub means : program_of s (length p.modes) (length p.clauses) ≡ program_in p

-- Text 14, 21: where a text is parsed, the first n bytes of the image row do so
abbrev pub ParseLoads : Type 0
ParseLoads = (image names text : List ℕ) (n m : ℕ) → (parse_call image names text).answer ≡ Ok (n, m) → TextLoads (take n (parse_call image names text).image) (source_of text)

-- Text 15: the names of a text have no more bytes than the text
abbrev pub NamesFit : Type 0
NamesFit = (text : List ℕ) → length (names_in (source_of text)) ≤ length text

-- Text 19: in an image row of that many bytes and a names row as long as the text, whatever nothing but 11 would refuse is parsed
abbrev pub RowsSuffice : Type 0
RowsSuffice = (image names text : List ℕ) (r c : ℕ) → spelling_of text ≡ Ok tt → declared (source_of text) ≡ true → records_in (relation_names (source_of text)) (image_in (source_of text)) ≡ Ok (r, c) →
    most_image ≤ length image → length text ≤ length names → (parse_call image names text).answer ≡ Ok ((length (image_in (source_of text))), (length (names_in (source_of text))))
