-- A text that is parsed loads.
use Rattle.parlog.proofs.Answered.{ok-both}
use Rattle.std.specs.Prelude.{Err, Ok, Result, ⊤}
use Rattle.parlog.specs.Answer.{Answer}
use mathlib.Core.Path.{◌∙◌, ◌≡◌, ap, refl, sym}
use mathlib.Core.Bool.{◌&&◌, Bool, false, true}
use mathlib.Core.List.{List}
use Prim.Native.Nat.{◌≤◌, ℕ}
use lib.Dec.{leb}
use lib.ListN.{drop, length, take}
use lib.Seq.{take-append_seam}
use borrow.Author.Tests.{le-leb, ltb-false}
use native.Mathlib.Omega.{arith}
use Rattle.parlog.specs.Load.{long}
use Rattle.parlog.specs.Tables.{written}
use Rattle.spell.specs.Stuck.{spelling_of}
use Rattle.text_loads.proofs.Counted.{counted}
use Rattle.text_loads.proofs.Decoded.{decoded}
use Rattle.text_loads.proofs.Fitting.{program-clauses, program-relations, short-fits}
use Rattle.text_loads.proofs.Walked.{text-loads}
use Rattle.text_loads.specs.Loads.{ParseLoads, TextLoads}
use Rattle.text_program.specs.Encoded.{program_bytes}
use Rattle.text_program.specs.Numbered.{program_in, relation_names}
use Rattle.text_program.specs.Parsing.{declared, fitting, image_in, names_in, not_long, ParseCall, parse_call, records_in, sourced, spelled, tested}
use Rattle.text_program.specs.Source.{Source, source_of}

-- what a parse that answers `Read` has gone through
pub record Parses (image names text : List ℕ) (n m : ℕ) : Type 0 where
  pub spells : spelling_of text ≡ Ok tt
  pub declares : declared (source_of text) ≡ true
  pub relations : ℕ
  pub clauses : ℕ
  pub passes : records_in (relation_names (source_of text)) (image_in (source_of text)) ≡ Ok (relations, clauses)
  pub short : long (image_in (source_of text)) ≡ false
  pub image_size : n ≡ length (image_in (source_of text))
  pub names_size : m ≡ length (names_in (source_of text))
  pub image-row : (parse_call image names text).image ≡ written (image_in (source_of text)) image
  pub names-row : (parse_call image names text).names ≡ written (names_in (source_of text)) names

module _ (image names text : List ℕ) (n m : ℕ) where
  abbrev p : Source
  p = source_of text

  abbrev image-of : ParseCall → List ℕ
  image-of c = c.image

  abbrev names_of : ParseCall → List ℕ
  names_of c = c.names

  by_room : spelling_of text ≡ Ok tt → declared p ≡ true → (r c : ℕ) → records_in (relation_names p) (image_in p) ≡ Ok (r, c) → long (image_in p) ≡ false
      → (b : Bool) → parse_call image names text ≡ fitting image names b p → (fitting image names b p).answer ≡ Ok (n, m) → Parses image names text n m
  by_room e f r c g h false w x = absurd (let z : ◌≡◌ {A = ℕ} 0 1 = cc in omega arith)
  by_room e f r c g h true w x =
      let q = ok-both {a = length (image_in p)} {c = n} {b = length (names_in p)} {d = m} x in
      let y : length (image_in p) ≡ n = q.0 in
      let z : length (names_in p) ≡ m = q.1 in
      record { spells = e; declares = f; relations = r; clauses = c; passes = g; short = h; image_size = sym y; names_size = sym z; image-row = ap image-of w; names-row = ap names_of w }

  by_length : spelling_of text ≡ Ok tt → declared p ≡ true → (r c : ℕ) → records_in (relation_names p) (image_in p) ≡ Ok (r, c)
      → (b : Bool) → long (image_in p) ≡ b → parse_call image names text ≡ not_long image names b p → (not_long image names b p).answer ≡ Ok (n, m) → Parses image names text n m
  by_length e f r c g true h w x = absurd (let z : ◌≡◌ {A = ℕ} 0 1 = cc in omega arith)
  by_length e f r c g false h w x = by_room e f r c g h (leb (length (image_in p)) (length image) && leb (length (names_in p)) (length names)) w x

  by_tests : spelling_of text ≡ Ok tt → declared p ≡ true → (a : Answer (ℕ × ℕ)) → records_in (relation_names p) (image_in p) ≡ a
      → parse_call image names text ≡ tested image names a p → (tested image names a p).answer ≡ Ok (n, m) → Parses image names text n m
  by_tests e f (Err r) g w x = absurd (let z : ◌≡◌ {A = ℕ} 0 1 = cc in omega arith)
  by_tests e f (Ok (r, c)) g w x = by_length e f r c g (long (image_in p)) refl w x

  by_names : spelling_of text ≡ Ok tt → (b : Bool) → declared p ≡ b → parse_call image names text ≡ sourced image names b p → (sourced image names b p).answer ≡ Ok (n, m) → Parses image names text n m
  by_names e false f w x = absurd (let z : ◌≡◌ {A = ℕ} 0 1 = cc in omega arith)
  by_names e true f w x = by_tests e f (records_in (relation_names p) (image_in p)) refl w x

  by-spelling : (q : Result ⊤ ℕ) → spelling_of text ≡ q → parse_call image names text ≡ spelled image names q text → (spelled image names q text).answer ≡ Ok (n, m) → Parses image names text n m
  by-spelling (Err i) e w x = absurd (let z : ◌≡◌ {A = ℕ} 0 1 = cc in omega arith)
  by-spelling (Ok tt) e w x = by_names e (declared p) refl w x

  pub parses : (parse_call image names text).answer ≡ Ok (n, m) → Parses image names text n m
  unfolding parse_call
  parses x = by-spelling (spelling_of text) refl refl x

-- THE LAW: an image that passes, and is not too long, loads as the program
pub source-loads : (p : Source) (r c : ℕ) → records_in (relation_names p) (image_in p) ≡ Ok (r, c) → long (image_in p) ≡ false → TextLoads (image_in p) p
unfolding image_in long
source-loads p r c e h =
    let s = program_bytes (program_in p) in
    let f = text-loads (relation_names p) s r c e h in
    let k = counted (program_in p) r c f in
    let a : r ≡ length p.modes = k.0 ∙ program-relations p in
    let b : c ≡ length p.clauses = k.1 ∙ program-clauses p in
    let d = decoded (program_in p) (short-fits p (ltb-false 32768 (length s) h)) in
    record { loads = rw (a, b) at f; means = rw (program-relations p, program-clauses p) at d }

pub parse-loads : ParseLoads
unfolding written
parse-loads image names text n m e =
    let w = parses image names text n m e in
    let x = image_in (source_of text) in
    let f : take n (parse_call image names text).image ≡ x = ap (take n) w.image-row ∙ ap (λ (k : ℕ). take k (written x image)) w.image_size ∙ take-append_seam x (drop (length x) image) in
    rw f (source-loads (source_of text) w.relations w.clauses w.passes w.short)

-- ---- the call, step by step

pub parse-steps : (image names t : List ℕ) (p : Source) (r c : ℕ) → spelling_of t ≡ Ok tt → source_of t ≡ p → declared p ≡ true → records_in (relation_names p) (image_in p) ≡ Ok (r, c) → long (image_in p) ≡ false →
    length (image_in p) ≤ length image → length (names_in p) ≤ length names →
    parse_call image names t ≡ record { answer = Ok ((length (image_in p)), (length (names_in p))); image = written (image_in p) image; names = written (names_in p) names }
unfolding parse_call
parse-steps image names t p r c a b d e f g h = rw (a, b, d, e, f, le-leb (length (image_in p)) (length image) g, le-leb (length (names_in p)) (length names) h)
