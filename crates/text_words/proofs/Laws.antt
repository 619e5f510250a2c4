-- From the case of an answer to its word, and that an image that was made fits.
use Rattle.std.specs.Int.{to_le_bytes, w16}
use Rattle.std.specs.Prelude.{Err, Ok, Result, ⊤}
use Rattle.parlog.specs.Answer.{Answer}
use mathlib.Core.Path.{◌∙◌, ◌≡◌, ap, refl}
use mathlib.Core.Bool.{◌&&◌, Bool, false, true}
use mathlib.Core.List.{List}
use Prim.Native.Nat.{◌%◌, ◌/◌, ◌≤◌, ℕ}
use lib.Dec.{leb}
use lib.ListN.{get_or, length}
use borrow.Author.Tests.{le-ltb, ltb-false}
use native.Mathlib.Omega.{arith}
use Rattle.parlog.specs.Load.{long}
use Rattle.parlog.specs.Numbers.{refused_as, word}
use Rattle.parlog.specs.declared.Refusal.{Refusal}
use Rattle.spell.specs.Stuck.{spelling_of}
use Rattle.text_program.specs.Numbered.{relation_names}
use Rattle.text_program.specs.Parsing.{declared, fitting, image_in, names_in, not_long, parse_call, records_in, sourced, spelled, tested}
use Rattle.text_program.specs.Source.{Source, source_of}
use Rattle.text_words.specs.Numbers.{ParseFits, parse_numbers, print_numbers}
use Rattle.words.specs.Nights.{told_offset, told_refusal}

module _ (n : ℕ) where
  pub told_same : n ≤ 4294967295 → n ≡ told_offset n
  told_same h = rw (le-ltb 4294967295 n h)

-- a refusal told in place of another
pub refused-told : (r : Refusal) {t : Refusal} {w : ℕ} → t ≡ told_refusal r → w ≡ word (refused_as t) → w ≡ word (refused_as (told_refusal r))
refused-told r e k = k ∙ ap (λ (x : Refusal). word (refused_as x)) e

-- a length told in place of another
pub print-told : {a : Answer ℕ} {n t w : ℕ} → a ≡ Ok n → t ≡ told_offset n → w ≡ word (record { refused = 0; a = 0; b = 0; c = t }) → w ≡ word (print_numbers a)
print-told e h k = rw (k, h, e)

pub parse-told : {a : Answer (ℕ × ℕ)} {n m p q t w : ℕ} → a ≡ Ok (n, m) → (p ≡ n % 256) × (q ≡ n / 256) → t ≡ told_offset m → w ≡ word (record { refused = 0; a = p; b = q; c = t }) → w ≡ word (parse_numbers a)
parse-told e f h k = rw (k, f.0, f.1, h, e)

-- a number of two bytes in two parts
pub parts-fit : (n : ℕ) → n ≤ 65535 → (n % 256 ≤ 255) × (n / 256 ≤ 255)
parts-fit n h = (omega arith, omega arith)

pub parts-are : {l : List ℕ} {p q : ℕ} (n : ℕ) → n ≤ 65535 → l ≡ to_le_bytes w16 n → p ≡ get_or l 0 0 → q ≡ get_or l 1 0 → (p ≡ n % 256) × (q ≡ n / 256)
parts-are n h e f g = (rw (f, e), rw (g, e) (omega arith))

-- ---- the image of a text that is parsed has at most 32,768 bytes

module _ (image names : List ℕ) where
  room_fits : (p : Source) → long (image_in p) ≡ false → (b : Bool) → ParseFits (fitting image names b p).answer
  unfolding long
  room_fits p h false = tt
  room_fits p h true = let k = ltb-false 32768 (length (image_in p)) h in omega arith

  length_fits : (p : Source) → (b : Bool) → long (image_in p) ≡ b → ParseFits (not_long image names b p).answer
  length_fits p true h = tt
  length_fits p false h = room_fits p h (leb (length (image_in p)) (length image) && leb (length (names_in p)) (length names))

  tests-fit : (p : Source) → (a : Answer (ℕ × ℕ)) → ParseFits (tested image names a p).answer
  tests-fit p (Err r) = tt
  tests-fit p (Ok (r, c)) = length_fits p (long (image_in p)) refl

  names_fit : (p : Source) → (b : Bool) → ParseFits (sourced image names b p).answer
  names_fit p false = tt
  names_fit p true = tests-fit p (records_in (relation_names p) (image_in p))

  spelling-fits : (text : List ℕ) → (q : Result ⊤ ℕ) → ParseFits (spelled image names q text).answer
  spelling-fits text (Err i) = tt
  spelling-fits text (Ok tt) = names_fit (source_of text) (declared (source_of text))

  pub parse-fits : (text : List ℕ) → ParseFits (parse_call image names text).answer
  unfolding parse_call
  parse-fits text = spelling-fits text (spelling_of text)
