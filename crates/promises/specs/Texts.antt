-- Clause text as a C program sees it: outcomes of a print and of a parse, what each leaves, and how one reads the other back. When they are refused is in crate `text_refusals`.
use Rattle.std.specs.Prelude.{◌≡◌, List, ◌%◌, ◌/◌, ◌<◌, ◌≤◌, ℕ, length, take}
use Rattle.capi.specs.Tells.{ParseTells, PrintTells}
use Rattle.parlog.specs.Program.{program_of}
use Rattle.parlog.specs.Tables.{written}
use Rattle.promises.specs.Outcomes.{large_in, refusal_in}
use Rattle.refusals.specs.Right.{RightImage}
use Rattle.spell.specs.Grammar.{ClauseText}
use Rattle.text_program.specs.Numbered.{program_in}
use Rattle.text_program.specs.Parsing.{image_in, names_in}
use Rattle.text_program.specs.Printing.{program_text}
use Rattle.text_program.specs.Source.{source_of}
use Rattle.text_refusals.specs.Unread.{ParseRefused, Undeclared}
use Rattle.text_refusals.specs.Unwritten.{Unnamed}
use Rattle.words.specs.Nights.{told_offset}

-- ---- a print: image and names are lent to read only

-- an outcome of rissobarm_print: the word w, and the row for the text afterwards
pub record PrintMeets (image names text : List ℕ) (w : ℕ) (text' : List ℕ) : Type 0 where
  pub contract : PrintTells image names text w text'

-- Text 28, 29: what is not refused is written, and its length told
pub record PrintsText (image names text : List ℕ) (w : ℕ) (text' : List ℕ) : Type 0 where
  pub relations : ℕ
  pub clauses : ℕ
  pub right : RightImage image relations clauses
  pub named : Unnamed names (program_of image relations clauses) → ⊥
  pub size : large_in w ≡ told_offset (length (program_text names (program_of image relations clauses)))
  pub fits : length (program_text names (program_of image relations clauses)) ≤ length text
  pub bytes : text' ≡ written (program_text names (program_of image relations clauses)) text

-- ---- a parse: the text is lent to read only

-- an outcome of rissobarm_parse: the word w, and the rows for image and names afterwards
pub record ParseMeets (image names text : List ℕ) (w : ℕ) (image' names' : List ℕ) : Type 0 where
  pub contract : ParseTells image names text w image' names'

-- Text 29: the length of the image in the word of a parse: bits 8 to 23
abbrev pub image_length_in : ℕ → ℕ
image_length_in w = w / 256 % 65536

-- Text 29: the reason for a refusal, with its offset as a word tells it
pub data ParseRefusedTold (image names text : List ℕ) : ℕ → ℕ → Type 0 where
  as_told : {n o : ℕ} → ParseRefused image names text n o → ParseRefusedTold image names text n (told_offset o)

-- Text 14, 15, 21, 29: what is not refused is written as image and names, their lengths are told, and the image is right and has the program that the text means
pub record ParsesText (image names text : List ℕ) (w : ℕ) (image' names' : List ℕ) : Type 0 where
  pub right : ClauseText text
  pub declared : Undeclared (source_of text) → ⊥
  pub image_size : image_length_in w ≡ length (image_in (source_of text))
  pub names_size : large_in w ≡ told_offset (length (names_in (source_of text)))
  pub image_fits : length (image_in (source_of text)) ≤ length image
  pub names_fit : length (names_in (source_of text)) ≤ length names
  pub image_bytes : image' ≡ written (image_in (source_of text)) image
  pub names_bytes : names' ≡ written (names_in (source_of text)) names
  pub loads : RightImage (take (image_length_in w) image') (length (source_of text).modes) (length (source_of text).clauses)
  pub means : program_of (take (image_length_in w) image') (length (source_of text).modes) (length (source_of text).clauses) ≡ program_in (source_of text)

-- ---- one reads the other

-- a row of which every length can be told
abbrev pub Tellable : List ℕ → Type 0
Tellable row = length row ≤ 4294967295

-- Request 4: a parse gives the image s and the names nm again
pub record ReadsAgain (s nm image names : List ℕ) (w : ℕ) (image' names' : List ℕ) : Type 0 where
  pub accepted : refusal_in w ≡ 0
  pub image_size : image_length_in w ≡ length s
  pub names_size : large_in w ≡ told_offset (length nm)
  pub image_bytes : image' ≡ written s image
  pub names_bytes : names' ≡ written nm names

-- Request 4: the image s and the names nm can be printed into any row that is long enough for one text, and that text is parsed to them again
pub record GoesForth (s nm : List ℕ) : Type 0 where
  pub text : List ℕ
  pub fits : {row : List ℕ} {w : ℕ} {row' : List ℕ} → PrintMeets s nm row w row' → length text ≤ length row → (refusal_in w ≡ 0) × (large_in w ≡ told_offset (length text)) × (row' ≡ written text row)
  pub short : {row : List ℕ} {w : ℕ} {row' : List ℕ} → PrintMeets s nm row w row' → length row < length text → refusal_in w ≡ 11
  pub parsed : {image names : List ℕ} {w : ℕ} {image' names' : List ℕ} → ParseMeets image names text w image' names' → length s ≤ length image → length nm ≤ length names → ReadsAgain s nm image names w image' names'
