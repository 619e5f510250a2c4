-- What is taken from a text into rows: bytes of an image, and the names that they number.
use Rattle.std.specs.Prelude.{◌&&◌, Bool, false, true, [], ◌∷◌, List, map, ◌≡◌, ◌+◌, ◌<◌, ◌≤◌, ℕ, drop, length, take}
use Rattle.lay.specs.Lay.{laid}
use Rattle.lay_literal.specs.Lows.{lows}
use Rattle.lay_text.specs.Laying.{capped, most}
use Rattle.name_index.specs.Index.{Indexed}
use Rattle.read_names.specs.Tables.{Adds, names_at, sorted}
use Rattle.take_term.specs.declared.Reading.{Reading}
use Rattle.text_names.specs.Bytes.{front, past}
use Rattle.text_names.specs.Names.{known, look, Name}
use Rattle.text_program.specs.Encoded.{term_bytes}
use Rattle.text_program.specs.Numbered.{joined, Numbering, term_numbered}
use Rattle.text_program.specs.Source.{Got}

-- the rows: bytes of an image, places of constants with their chains, places of variables
pub record Rows : Type 0 where
  pub out : List ℕ
  pub consts : List ℕ
  pub links : List ℕ
  pub vars : List ℕ

abbrev pub rows : List ℕ → List ℕ → List ℕ → List ℕ → Rows
rows o t l v = record { out = o; consts = t; links = l; vars = v }

-- another place in the text, another count
abbrev pub moved : Reading → ℕ → ℕ → Reading
moved w e n = record { end = e; count = n; at = w.at; consts = w.consts; vars = w.vars; fits = w.fits; declared = w.declared }

-- and another place in the image
abbrev pub stands : Reading → ℕ → ℕ → ℕ → Reading
stands w e n at = record { end = e; count = n; at = at; consts = w.consts; vars = w.vars; fits = w.fits; declared = w.declared }

-- other answers
abbrev pub flagged : Reading → Bool → Bool → Reading
flagged w f d = record { end = w.end; count = w.count; at = w.at; consts = w.consts; vars = w.vars; fits = f; declared = d }

-- the rows with other bytes
abbrev pub relaid : Rows → List ℕ → Rows
relaid a p = rows p a.consts a.links a.vars

-- the constants in the table, and the variables
abbrev pub consts_in : List ℕ → Rows → Reading → List Name
consts_in s a w = names_at s (take w.consts a.consts)

abbrev pub vars_in : List ℕ → Rows → Reading → List Name
vars_in s a w = names_at s (take w.vars a.vars)

-- the names of one list have their numbers in another one too
abbrev pub Extends : List Name → List Name → Type 0
Extends xs ys = (x : Name) → known xs x ≡ true → look ys x ≡ look xs x

-- names numbered by three lists
abbrev pub numbers_by : List Name → List Name → List Name → Numbering
numbers_by rels cs vs = record { relations = rels; constants = cs; variables = vs }

-- what a taking needs
pub record Ready (s : List ℕ) (a : Rows) (w : Reading) : Type 0 where
  pub inside : w.end ≤ length s
  pub index : Indexed s a.consts a.links w.consts
  pub vars : w.vars ≤ length a.vars

-- from place w .end of the text to `rest` stand so many items with these terms; their names are in the tables, and where these had room for all, the bytes are laid, whatever names are added later
pub record Takes (s : List ℕ) (a : Rows) (w : Reading) (rest : List ℕ) (items : ℕ) (terms : List Name) (bs : List Name → List Name → List ℕ) (right known : Bool) (b : Rows) (x : Reading) : Type 0 where
  pub end : drop x.end s ≡ rest
  pub inside : x.end ≤ length s
  pub count : x.count ≡ items
  pub consts : Adds s a.consts w.consts b.consts x.consts (sorted false terms)
  pub index : Indexed s b.consts b.links x.consts
  pub vars : Adds s a.vars w.vars b.vars x.vars (sorted true terms)
  pub fits : x.fits ≡ (w.fits && right)
  pub declared : x.declared ≡ (w.declared && known)
  pub place : (cs vs : List Name) → x.at ≡ capped (w.at + length (bs cs vs))
  pub bytes : x.consts < length b.consts → x.vars < length b.vars → (cs vs : List Name) → Extends (consts_in s b x) cs → Extends (vars_in s b x) vs → b.out ≡ laid a.out w.at (lows (bs cs vs))
  pub small : length a.out ≤ most
  pub size : length b.out ≡ length a.out

-- a name as a term
abbrev pub TakesTerm : List ℕ → Rows → Reading → Rows → Reading → Type 0
TakesTerm s a w b x =
    (rels : List Name) →
    Takes s a w (past (drop w.end s)) x.count (front (drop w.end s) ∷ []) (λ cs vs. term_bytes (term_numbered (numbers_by rels cs vs) (front (drop w.end s)))) true true b x

-- some terms as they were read
abbrev pub TakesTerms : List ℕ → Rows → Reading → Got (List Name) → Rows → Reading → Type 0
TakesTerms s a w g b x =
    (rels : List Name) → Takes s a w g.rest (length g.value) g.value (λ cs vs. joined term_bytes (map (term_numbered (numbers_by rels cs vs)) g.value)) true true b x
