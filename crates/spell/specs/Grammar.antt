-- What a clause text is.
use Rattle.std.specs.Prelude.{[], List, ℕ}
use Rattle.spell.specs.Forms.{◌or◌, ◌then◌, Form, many, nothing, Reads, span}

-- ---- bytes

-- just this byte
abbrev pub byte : ℕ → Form
byte b = span b 0

-- Text 1: a to z
abbrev pub small : Form
small = span 97 25

-- Text 1: A to Z
abbrev pub capital : Form
capital = span 65 25

-- Text 1: letters, digits and `_`
abbrev pub name_byte : Form
name_byte = small or capital or span 48 9 or byte 95

-- Text 2: blanks and line ends
abbrev pub blank : Form
blank = span 9 1 or byte 13 or byte 32

-- Text 2: any number of them
abbrev pub blanks : Form
blanks = many blank

-- ---- words

-- Text 2: what may have blanks behind it
abbrev pub word : Form → Form
word f = f then blanks

-- Text 2: a mark of one byte
abbrev pub mark : ℕ → Form
mark b = word (byte b)

-- Text 2: `<-`, with nothing inside
abbrev pub arrow : Form
arrow = byte 60 then mark 45

-- Text 1: the name of a constant or a relation
abbrev pub lower : Form
lower = word (small then many name_byte)

-- Text 1, 4: the name of a constant or a variable
abbrev pub term : Form
term = word ((small or capital) then many name_byte)

-- ---- lines

-- a form or nothing
abbrev pub perhaps : Form → Form
perhaps f = nothing or f

-- Text 3, 4: items in brackets with `,` between them, or no brackets
abbrev pub bracketed : Form → Form
bracketed f = perhaps (mark 40 then f then many (mark 44 then f) then mark 41)

-- Text 3: `mode p(?,^).`
abbrev pub mode_line : Form
mode_line = byte 109 then byte 111 then byte 100 then byte 101 then word blank then lower then bracketed (mark 63 or mark 94) then mark 46

-- Text 4: `p(a,B)` or `A = b`
abbrev pub literal : Form
literal = (lower then bracketed term) or (term then mark 61 then term)

-- Text 5: literals with `,` or `&` between them
abbrev pub goal : Form
goal = literal then many ((mark 44 or mark 38) then literal)

-- Text 6: `p(a,B).`, `p <- body;`, `p <- guard : body.` or `p <- guard : .`
abbrev pub clause : Form
clause = lower then bracketed term then perhaps (arrow then goal then perhaps (mark 58 then perhaps goal)) then (mark 46 or mark 59)

-- Text 7: `<- body.` or `<- .`
abbrev pub goal_line : Form
goal_line = arrow then perhaps goal then mark 46

-- Text 8: mode lines, clauses, one goal line
unfoldable pub text : Form
text = blanks then many mode_line then many clause then goal_line

-- Text 8: s is a clause text
unfoldable pub ClauseText : List ℕ → Type 0
ClauseText s = Reads text s []
