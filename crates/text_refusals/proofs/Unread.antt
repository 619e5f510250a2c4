-- A parse is refused exactly where there is a reason.
use Rattle.std.specs.Prelude.{Err, Ok, Result, ⊤}
use Rattle.parlog.specs.Answer.{Answer}
use mathlib.Core.Path.{◌∙◌, ◌≡◌, ap, refl, sym}
use mathlib.Core.Logic.{◌⊎◌, inl, inr}
use mathlib.Core.Bool.{◌&&◌, Bool, false, true}
use mathlib.Core.List.{[], ◌∷◌, List}
use Prim.Native.Nat.{◌<◌, ℕ}
use lib.Dec.{leb}
use lib.ListN.{length, length-map}
use borrow.Author.Tests.{leb-false, lt-leb}
use native.Mathlib.Omega.{arith}
use Rattle.parlog.proofs.Bools.{never, split}
use Rattle.parlog.specs.Load.{refusal}
use Rattle.parlog.specs.declared.Refusal.{Refusal}
use Rattle.spell.proofs.Exact.{accepted-right, right-accepted, stuck-exact, stuck-found}
use Rattle.spell.specs.Grammar.{ClauseText}
use Rattle.spell.specs.Stuck.{spelling_of}
use Rattle.text_loads.proofs.Fitting.{program-relations}
use Rattle.text_loads.proofs.Short.{never-long}
use Rattle.text_names.specs.Names.{Name}
use Rattle.text_program.specs.Numbered.{program_in, relation_names}
use Rattle.text_program.specs.Parsing.{declared, fitting, image_in, names_in, ParseCall, parse_call, records_in, sourced, spelled, tested, unread}
use Rattle.text_program.specs.Source.{ModeLine, Source, source_of}
use Rattle.text_refusals.proofs.Declared.{declared-not, not-declared}
use Rattle.text_refusals.proofs.Tested.{refused, told}
use Rattle.text_refusals.specs.Unread.{at_record, bad_line, behind, In, in_front, LineRefused, LinesRefused, ninth_of_block, no_room, no_text, one_too_many, ParseExactly, ParseKept, ParseNumbers, ParseRefused, second_line, Undeclared, undeclared, wrong_body, wrong_name}

module _ (p : Source) where
  as_many : length (relation_names p) ≡ length (program_in p).relations
  as_many = length-map p.modes (λ (m : ModeLine). m.name) ∙ sym (program-relations p)

  declared-so : (Undeclared p → ⊥) → declared p ≡ true
  declared-so h = split (declared p) (λ e. e) (λ e. absurd (h (declared-not p e)))

  tests-refuse : {n o : ℕ} → LinesRefused (relation_names p) (image_in p) n o → records_in (relation_names p) (image_in p) ≡ Err (refusal n o)
  unfolding image_in
  tests-refuse l = refused (relation_names p) (program_in p) as_many l

  -- what the tests say
  record Tested : Type 0 where
    pub refuses : (f : Refusal) → records_in (relation_names p) (image_in p) ≡ Err f → LinesRefused (relation_names p) (image_in p) f.number f.offset

  tests-told : Tested
  unfolding image_in
  tests-told = record { refuses = λ f e. rw e at (told (relation_names p) (program_in p) as_many) }

  record Passed : Type 0 where
    pub relations : ℕ
    pub clauses : ℕ
    pub passes : records_in (relation_names p) (image_in p) ≡ Ok (relations, clauses)

  none-refused : ((n o : ℕ) → LinesRefused (relation_names p) (image_in p) n o → ⊥) → Passed
  none-refused h = go (records_in (relation_names p) (image_in p)) refl
    where
      go : (a : Answer (ℕ × ℕ)) → records_in (relation_names p) (image_in p) ≡ a → Passed
      go (Ok (r, c)) e = record { relations = r; clauses = c; passes = e }
      go (Err f) e = absurd (h f.number f.offset (tests-told.refuses f e))

  passed_none : (r c : ℕ) → records_in (relation_names p) (image_in p) ≡ Ok (r, c) → (n o : ℕ) → LinesRefused (relation_names p) (image_in p) n o → ⊥
  passed_none r c e n o l = let d = sym e ∙ tests-refuse l in let z : ◌≡◌ {A = ℕ} 0 1 = cc in absurd (omega arith)

-- ---- from a reason to the refusal

module _ (image names text : List ℕ) where
  abbrev p : Source
  p = source_of text

  room-false : (length image < length (image_in p)) ⊎ (length names < length (names_in p)) → (leb (length (image_in p)) (length image) && leb (length (names_in p)) (length names)) ≡ false
  room-false (inl h) = rw (lt-leb (length (image_in p)) (length image) h)
  room-false (inr h) = rw (lt-leb (length (names_in p)) (length names) h) (go (leb (length (image_in p)) (length image)))
    where
      go : (b : Bool) → (b && false) ≡ false
      go true = refl
      go false = refl

  pub parse-refused : {n o : ℕ} → ParseRefused image names text n o → parse_call image names text ≡ unread image names (refusal n o)
  unfolding parse_call
  parse-refused (no_text {i} h) = rw (stuck-found text i h)
  parse-refused (undeclared c u) = rw (right-accepted text c, not-declared p u)
  parse-refused (bad_line c u l) = rw (right-accepted text c, declared-so p u, tests-refuse p l)
  parse-refused (no_room c u h x) =
      let w = none-refused p h in
      rw (right-accepted text c, declared-so p u, w.passes, never-long (relation_names p) (image_in p) w.relations w.clauses w.passes, room-false x)

  -- ---- from the refusal to a reason

  abbrev Told : Answer (ℕ × ℕ) → Type 0
  Told (Ok (a, b)) = Unit {0}
  Told (Err f) = ParseRefused image names text f.number f.offset

  no-room-so : (leb (length (image_in p)) (length image) && leb (length (names_in p)) (length names)) ≡ false → (length image < length (image_in p)) ⊎ (length names < length (names_in p))
  no-room-so e =
      split (leb (length (image_in p)) (length image))
      (λ f. inr (leb-false (length (names_in p)) (length names) (rw f at e)))
      (λ f. inl (leb-false (length (image_in p)) (length image) f))

  told-room : ClauseText text → (Undeclared p → ⊥) → (r c : ℕ) → records_in (relation_names p) (image_in p) ≡ Ok (r, c) → (b : Bool) → (leb (length (image_in p)) (length image) && leb (length (names_in p)) (length names)) ≡ b → Told (fitting image names b p).answer
  told-room t u r c e true f = tt
  told-room t u r c e false f = no_room t u (passed_none p r c e) (no-room-so f)

  told-tests : ClauseText text → (Undeclared p → ⊥) → (a : Answer (ℕ × ℕ)) → records_in (relation_names p) (image_in p) ≡ a → Told (tested image names a p).answer
  told-tests t u (Err f) e = bad_line t u ((tests-told p).refuses f e)
  told-tests t u (Ok (r, c)) e =
      rw (never-long (relation_names p) (image_in p) r c e) (told-room t u r c e (leb (length (image_in p)) (length image) && leb (length (names_in p)) (length names)) refl)

  told_names : ClauseText text → (b : Bool) → declared p ≡ b → Told (sourced image names b p).answer
  told_names t false e = undeclared t (declared-not p e)
  told_names t true e = told-tests t (λ u. never (sym (not-declared p u) ∙ e)) (records_in (relation_names p) (image_in p)) refl

  told-spelling : (q : Result ⊤ ℕ) → spelling_of text ≡ q → Told (spelled image names q text).answer
  told-spelling (Err i) e = no_text (stuck-exact text i e)
  told-spelling (Ok tt) e = told_names (accepted-right text e) (declared p) refl

  parse-told : Told (parse_call image names text).answer
  unfolding parse_call
  parse-told = told-spelling (spelling_of text) refl

-- THE LAW: exactly
pub parse-exactly : ParseExactly
parse-exactly image names text n o = (λ e. rw e at (parse-told image names text), λ w. ap (λ (c : ParseCall). c.answer) (parse-refused image names text w))

pub parse-kept : ParseKept
parse-kept image names text f e =
    let w = parse-refused image names text (rw e at (parse-told image names text)) in
    (ap (λ (c : ParseCall). c.image) w, ap (λ (c : ParseCall). c.names) w)

line-number : {rels : List Name} {s : List ℕ} {k n : ℕ} → LineRefused rels s k n → In n (16 ∷ 17 ∷ 4 ∷ 5 ∷ 6 ∷ 11 ∷ [])
line-number (one_too_many f) = behind (behind (behind (behind in_front)))
line-number (wrong_body f b) = behind (behind in_front)
line-number (wrong_name f b n) = behind (behind (behind in_front))
line-number (ninth_of_block f b n h) = behind (behind (behind (behind in_front)))
line-number (second_line f b n h t) = behind (behind (behind in_front))

lines-number : {rels : List Name} {s : List ℕ} {n o : ℕ} → LinesRefused rels s n o → In n (16 ∷ 17 ∷ 4 ∷ 5 ∷ 6 ∷ 11 ∷ [])
lines-number (at_record f more x) = line-number x

reason-number : {image names text : List ℕ} {n o : ℕ} → ParseRefused image names text n o → In n (16 ∷ 17 ∷ 4 ∷ 5 ∷ 6 ∷ 11 ∷ [])
reason-number (no_text h) = in_front
reason-number (undeclared c u) = behind in_front
reason-number (bad_line c u l) = lines-number l
reason-number (no_room c u h x) = behind (behind (behind (behind (behind in_front))))

pub parse-numbers : ParseNumbers
parse-numbers image names text n o w = reason-number w
