-- Clause text: one result only, demands 1 and 2 of print and parse.
use Rattle.std.specs.Prelude.{Err, Ok}
use Rattle.parlog.specs.Answer.{Answer}
use mathlib.Core.Path.{◌∙◌, ◌≡◌, ap, refl, sym}
use mathlib.Core.Logic.{◌≢◌, inl, inr}
use mathlib.Core.Bool.{true}
use mathlib.Core.List.{[], ◌∷◌, List}
use Prim.Native.Nat.{◌%◌, ◌/◌, ◌≤◌, ℕ}
use lib.Dec.{leb}
use lib.ListN.{drop, length, take}
use lib.Seq.{take-append_seam}
use borrow.Author.Tests.{le-leb, leb-false, leb-true, ltb-false}
use native.Mathlib.Omega.{arith}
use Rattle.parlog.proofs.Bools.{split}
use Rattle.parlog.specs.Load.{load_of, long, refusal}
use Rattle.parlog.specs.Numbers.{refused_as, word}
use Rattle.parlog.specs.Program.{program_of}
use Rattle.parlog.specs.Tables.{written}
use Rattle.parlog.specs.declared.Refusal.{Refusal}
use Rattle.promises.proofs.Demand1.{a-refusal, Answered, no-refusal, refusing}
use Rattle.promises.proofs.Entry.{bad-is}
use Rattle.promises.proofs.Words.{large-of, refusal-of}
use Rattle.promises.specs.Outcomes.{large_in, refusal_in}
use Rattle.promises.specs.Refusals.{Refusing}
use Rattle.promises.specs.Texts.{as_told, image_length_in, ParseMeets, ParseRefusedTold, ParsesText, PrintMeets, PrintsText}
use Rattle.refusals.proofs.Exactly.{accepted-right, refused-number}
use Rattle.spell.specs.Grammar.{ClauseText}
use Rattle.spell.specs.Stuck.{spelling_of}
use Rattle.text_loads.proofs.Parsed.{Parses, parses, source-loads}
use Rattle.text_loads.proofs.Refusing.{records-refused}
use Rattle.text_loads.proofs.Roomy.{rows-suffice}
use Rattle.text_loads.specs.Loads.{most_image}
use Rattle.text_names.specs.Names.{Name}
use Rattle.text_program.specs.Numbered.{relation_names}
use Rattle.text_program.specs.Parsing.{declared, image_in, names_in, parse_call, records_in}
use Rattle.text_program.specs.Printing.{print_call, program_named, program_text}
use Rattle.text_program.specs.Source.{Source, source_of}
use Rattle.text_refusals.proofs.Unread.{parse-exactly, parse-kept, parse-numbers}
use Rattle.text_refusals.proofs.Unwritten.{each_in, print-exactly, print-kept}
use Rattle.text_refusals.specs.Unread.{at_record, bad_line, In, LinesRefused, ninth_of_block, no_room, no_text, one_too_many, ParseRefused, second_line, Undeclared, undeclared, wrong_body, wrong_name}
use Rattle.text_refusals.specs.Unwritten.{bad_image, lacks_name, PrintRefused, row_short}
use Rattle.text_words.proofs.Laws.{parts-fit}
use Rattle.text_words.specs.Numbers.{parse_numbers, print_numbers}
use Rattle.words.proofs.Nights.{image-near, told-near}
use Rattle.words.specs.Nights.{told_offset, told_refusal}
use Rattle.spell.proofs.Exact as exact

-- ---- only one result

pub once-print : {image names text : List ℕ} {w w' : ℕ} {a b : List ℕ} → PrintMeets image names text w a → PrintMeets image names text w' b → (w ≡ w') × (a ≡ b)
once-print x y = (x.contract.answer ∙ sym y.contract.answer, x.contract.text_is ∙ sym y.contract.text_is)

pub once-parse : {image names text : List ℕ} {w w' : ℕ} {i n i' n' : List ℕ} → ParseMeets image names text w i n → ParseMeets image names text w' i' n' → (w ≡ w') × (i ≡ i') × (n ≡ n')
once-parse x y = (x.contract.answer ∙ sym y.contract.answer, x.contract.image_is ∙ sym y.contract.image_is, x.contract.names_is ∙ sym y.contract.names_is)

-- ---- words

pub wrote-told : (w n : ℕ) → w ≡ word (print_numbers (Ok n)) → (refusal_in w ≡ 0) × (large_in w ≡ told_offset n)
wrote-told w n e =
    (ap refusal_in e ∙ refusal-of (print_numbers (Ok n)) (omega arith) (omega arith) (omega arith), ap large_in e ∙ large-of (print_numbers (Ok n)) (omega arith) (omega arith) (omega arith))

parts-told : (n c : ℕ) → n ≤ 65535 → image_length_in (word (record { refused = 0; a = n % 256; b = n / 256; c = c })) ≡ n
unfolding word
parts-told n c h = omega arith

pub read_told : (w n m : ℕ) → n ≤ 65535 → w ≡ word (parse_numbers (Ok (n, m))) → (refusal_in w ≡ 0) × (image_length_in w ≡ n) × (large_in w ≡ told_offset m)
read_told w n m h e =
    let p = parts-fit n h in
    let x = refusal-of (parse_numbers (Ok (n, m))) (omega arith) p.0 p.1 in
    let z = large-of (parse_numbers (Ok (n, m))) (omega arith) p.0 p.1 in
    (ap refusal_in e ∙ x, ap image_length_in e ∙ parts-told n (told_offset m) h, ap large_in e ∙ z)

-- ---- a print

print-numbered : {image names text : List ℕ} {n o : ℕ} → PrintRefused text image names n o → (1 ≤ n) × (n ≤ 17)
print-numbered (bad_image b) = let a = refused-number b in (a.0, omega (arith, a.1))
print-numbered (lacks_name i h) = (omega arith, omega arith)
print-numbered (row_short i h l) = (omega arith, omega arith)

-- the offset of a refused print can be told
print-near : {image names text : List ℕ} {n o : ℕ} → PrintRefused text image names n o → o ≤ 4294967295
print-near {image} (bad_image b) = image-near image (bad-is b)
print-near (lacks_name i h) = omega arith
print-near (row_short i h l) = omega arith

module _ (image names text : List ℕ) where
  pub print-made : {r c : ℕ} → load_of image ≡ Ok (r, c) → program_named names (program_of image r c) ≡ true → length (program_text names (program_of image r c)) ≤ length text
      → print_call text image names ≡ record { answer = Ok (length (program_text names (program_of image r c))); text = written (program_text names (program_of image r c)) text }
  unfolding print_call
  print-made {r} {c} e h l = rw (e, h, le-leb (length (program_text names (program_of image r c))) (length text) l)

  not-refused : {n o k : ℕ} → (print_call text image names).answer ≡ Ok k → PrintRefused text image names n o → ⊥
  not-refused {n} {o} e x = let f = sym e ∙ (print-exactly text image names n o).1 x in let z : ◌≡◌ {A = ℕ} 0 1 = cc in omega arith

  module _ (w : ℕ) (text' : List ℕ) (meets : PrintMeets image names text w text') where
    print-word : (n o : ℕ) → PrintRefused text image names n o → w ≡ word (refused_as (refusal n o))
    print-word n o y =
        let e = (print-exactly text image names n o).1 y in
        let k : told_refusal (refusal n o) ≡ refusal n o = sym (told-near (refusal n o) (print-near y)) in
        meets.contract.answer ∙ rw e (ap (λ (f : Refusal). word (refused_as f)) k)

    unprinted : (n o : ℕ) → PrintRefused text image names n o → text' ≡ text
    unprinted n o y = meets.contract.text_is ∙ print-kept text image names (refusal n o) ((print-exactly text image names n o).1 y)

    data Printing : Type 0 where
      is-unprinted : {n o : ℕ} → PrintRefused text image names n o → Printing
      is-printed : refusal_in w ≡ 0 → PrintsText image names text w text' → Printing

    printing-so : Printing
    unfolding print_call
    printing-so = load (load_of image) refl
      where
        refused : (f : Refusal) → (print_call text image names).answer ≡ Err f → Printing
        refused f e = is-unprinted ((print-exactly text image names f.number f.offset).0 e)

        made : (r c : ℕ) → load_of image ≡ Ok (r, c) → program_named names (program_of image r c) ≡ true → length (program_text names (program_of image r c)) ≤ length text → Printing
        made r c e h l =
            let q = print-made e h l in
            let i = (accepted-right image).0 e in
            let k = wrote-told w (length (program_text names (program_of image r c))) (meets.contract.answer ∙ rw q) in
            is-printed k.0 (record { relations = r; clauses = c; right = i; named = λ u. not-refused {k = length (program_text names (program_of image r c))} (rw q) (lacks_name i u); size = k.1; fits = l; bytes = meets.contract.text_is ∙ rw q })

        load : (a : Answer (ℕ × ℕ)) → load_of image ≡ a → Printing
        load (Err f) e = refused f (rw e)
        load (Ok (r, c)) e =
            let t = program_text names (program_of image r c) in
            split (program_named names (program_of image r c))
            (λ h. split (leb (length t) (length text)) (λ l. made r c e h (leb-true (length t) (length text) l)) (λ l. refused (refusal 11 0) (rw (e, h, l))))
            (λ h. refused (refusal 17 0) (rw (e, h)))

    -- Text 26, 27: refused exactly where there is a reason, and then the row is as it was
    pub demand-1-print : Refusing 17 (PrintRefused text image names) text w text'
    demand-1-print = refusing w (λ n o y. print-numbered y) (omega arith) print-word (go printing-so) unprinted
      where
        go : Printing → Answered (PrintRefused text image names) w
        go (is-unprinted y) = a-refusal y
        go (is-printed e k) = no-refusal e

    -- Text 28: what is not refused is printed
    pub demand-2-print : refusal_in w ≡ 0 → PrintsText image names text w text'
    demand-2-print z = go printing-so
      where
        go : Printing → PrintsText image names text w text'
        go (is-unprinted y) = let g = demand-1-print.by.given y in let m = print-numbered y in absurd (omega (arith, g.0, m.0))
        go (is-printed e k) = k

-- ---- a parse

one_of : {n : ℕ} → In n (16 ∷ 17 ∷ 4 ∷ 5 ∷ 6 ∷ 11 ∷ []) → (4 ≤ n) × (n ≤ 17)
one_of i = each_in (λ n. (4 ≤ n) × (n ≤ 17)) i ((omega arith, omega arith), ((omega arith, omega arith), ((omega arith, omega arith), ((omega arith, omega arith), ((omega arith, omega arith), ((omega arith, omega arith), tt))))))

parse-numbered : {image names text : List ℕ} {n o : ℕ} → ParseRefusedTold image names text n o → (1 ≤ n) × (n ≤ 17)
parse-numbered {image} {names} {text} (as_told {n} {o} x) = let a = one_of (parse-numbers image names text n o x) in (omega (arith, a.0), a.1)

module _ (image names text : List ℕ) where
  abbrev p : Source
  p = source_of text

  module _ {n m : ℕ} (e : (parse_call image names text).answer ≡ Ok (n, m)) where
    not-unread : {k o : ℕ} → ParseRefused image names text k o → ⊥
    not-unread {k} {o} x = let f = sym e ∙ (parse-exactly image names text k o).1 x in let z : ◌≡◌ {A = ℕ} 0 1 = cc in omega arith

    is-text : ClauseText text
    is-text = exact.accepted-right text (parses image names text n m e).spells

    all-declared : Undeclared p → ⊥
    all-declared u = not-unread (undeclared is-text u)

    image_fits : length (image_in p) ≤ length image
    image_fits = split (leb (length (image_in p)) (length image)) (λ l. leb-true (length (image_in p)) (length image) l)
        (λ l. absurd (not-unread (no_room is-text all-declared (λ k o x. not-unread (bad_line is-text all-declared x)) (inl (leb-false (length (image_in p)) (length image) l)))))

    names_fit : length (names_in p) ≤ length names
    names_fit = split (leb (length (names_in p)) (length names)) (λ l. leb-true (length (names_in p)) (length names) l)
        (λ l. absurd (not-unread (no_room is-text all-declared (λ k o x. not-unread (bad_line is-text all-declared x)) (inr (leb-false (length (names_in p)) (length names) l)))))

  module _ (w : ℕ) (image' names' : List ℕ) (meets : ParseMeets image names text w image' names') where
    parse-word : (n o : ℕ) → ParseRefusedTold image names text n o → w ≡ word (refused_as (refusal n o))
    parse-word n o (as_told {n = k} {o = q} x) = let e = (parse-exactly image names text k q).1 x in meets.contract.answer ∙ rw e

    unparsed : (n o : ℕ) → ParseRefusedTold image names text n o → ◌≡◌ {A = List ℕ × List ℕ} (image', names') (image, names)
    unparsed n o (as_told {n = k} {o = q} x) =
        let h = parse-kept image names text (refusal k q) ((parse-exactly image names text k q).1 x) in
        λ i. ((meets.contract.image_is ∙ h.0) i, (meets.contract.names_is ∙ h.1) i)

    data Parsing : Type 0 where
      is-unparsed : {n o : ℕ} → ParseRefused image names text n o → Parsing
      is-parsed : {n m : ℕ} → (parse_call image names text).answer ≡ Ok (n, m) → Parsing

    parsing-so : Parsing
    parsing-so = go (parse_call image names text).answer refl
      where
        go : (a : Answer (ℕ × ℕ)) → (parse_call image names text).answer ≡ a → Parsing
        go (Err f) e = is-unparsed ((parse-exactly image names text f.number f.offset).0 e)
        go (Ok (n, m)) e = is-parsed e

    read-so : {n m : ℕ} → (parse_call image names text).answer ≡ Ok (n, m) → (refusal_in w ≡ 0) × (image_length_in w ≡ length (image_in p)) × (large_in w ≡ told_offset (length (names_in p)))
    unfolding long
    read-so {n} {m} e =
        let q = parses image names text n m e in
        let few = ltb-false 32768 (length (image_in p)) q.short in
        let a = q.image_size in
        let b = q.names_size in
        let k = read_told w n m (omega arith) (meets.contract.answer ∙ rw e) in
        (k.0, k.1 ∙ a, k.2 ∙ ap told_offset b)

    -- Text 9, 16 to 20: refused exactly where there is a reason, and then both rows are as they were
    pub demand-1-parse : Refusing {A = List ℕ × List ℕ} 17 (ParseRefusedTold image names text) (image, names) w (image', names')
    demand-1-parse = refusing w (λ n o y. parse-numbered y) (omega arith) parse-word (go parsing-so) unparsed
      where
        go : Parsing → Answered (ParseRefusedTold image names text) w
        go (is-unparsed y) = a-refusal (as_told y)
        go (is-parsed e) = no-refusal (read-so e).0

    accepted-answer : refusal_in w ≡ 0 → (n : ℕ) × (m : ℕ) × ((parse_call image names text).answer ≡ Ok (n, m))
    accepted-answer z = go parsing-so
      where
        go : Parsing → (n : ℕ) × (m : ℕ) × ((parse_call image names text).answer ≡ Ok (n, m))
        go (is-unparsed y) = let g = demand-1-parse.by.given (as_told y) in let m = parse-numbered (as_told y) in absurd (omega (arith, g.0, m.0))
        go (is-parsed {n} {m} e) = (n, m, e)

    -- and that is its answer
    pub parse-answer : refusal_in w ≡ 0 → (parse_call image names text).answer ≡ Ok ((length (image_in p)), (length (names_in p)))
    parse-answer z = let a = accepted-answer z in let q = parses image names text a.0 a.1 a.2 in a.2 ∙ rw (q.image_size, q.names_size)

    -- Text 21: what is not refused is parsed, and its image is right
    pub demand-2-parse : refusal_in w ≡ 0 → ParsesText image names text w image' names'
    unfolding written
    demand-2-parse z =
        let e = parse-answer z in
        let q : Parses image names text (length (image_in p)) (length (names_in p)) = parses image names text _ _ e in
        let k = read-so e in
        let bytes : image' ≡ written (image_in p) image = meets.contract.image_is ∙ q.image-row in
        let front : take (image_length_in w) image' ≡ image_in p = rw (k.1, bytes) (take-append_seam (image_in p) (drop (length (image_in p)) image)) in
        let l = source-loads p q.relations q.clauses q.passes q.short in
        record {
          right = is-text e;
          declared = all-declared e;
          image_size = k.1;
          names_size = k.2;
          image_fits = image_fits e;
          names_fit = names_fit e;
          image_bytes = bytes;
          names_bytes = meets.contract.names_is ∙ q.names-row;
          loads = rw front ((accepted-right (image_in p)).0 l.loads);
          means = rw front l.means;
        }

    -- ---- rows that are always long enough

    same_number : {A : Type 0} {f g : Refusal} → ◌≡◌ {A = Answer A} (Err f) (Err g) → f.number ≡ g.number
    same_number {f = f} {g = g} e = let h : f ≡ g = cc in ap (λ (r : Refusal). r.number) h

    eleven-not : most_image ≤ length image → length text ≤ length names → ClauseText text → (parse_call image names text).answer ≡ Err (refusal 11 0) → ⊥
    unfolding parse_call
    eleven-not a b t e =
        let q = exact.right-accepted text t in
        split (declared p) (λ d. records q d (records_in (relation_names p) (image_in p)) refl) (λ d. let z = same_number {f = refusal 11 0} {g = refusal 17 0} (sym e ∙ rw (q, d)) in omega (arith, z))
      where
        records : spelling_of text ≡ Ok tt → declared p ≡ true → (l : Answer (ℕ × ℕ)) → records_in (relation_names p) (image_in p) ≡ l → ⊥
        records q d (Err f) g =
            let z = same_number {f = refusal 11 0} {g = f} (sym e ∙ rw (q, d, g)) in
            let k = records-refused p f g in
            omega (arith, z, k.1)
        records q d (Ok (r, c)) g = let h = sym e ∙ rows-suffice image names text r c q d g a b in let z : ◌≡◌ {A = ℕ} 0 1 = cc in omega arith

    line_low : {rels : List Name} {s : List ℕ} {n o : ℕ} → LinesRefused rels s n o → n ≤ 6
    line_low (at_record f more (one_too_many h)) = omega arith
    line_low (at_record f more (wrong_body h b)) = omega arith
    line_low (at_record f more (wrong_name h b n)) = omega arith
    line_low (at_record f more (ninth_of_block h b n g)) = omega arith
    line_low (at_record f more (second_line h b n g t)) = omega arith

    -- Text 19: with an image row of 12,798 bytes and a names row as long as the text, 11 is never given
    pub room-enough : most_image ≤ length image → length text ≤ length names → refusal_in w ≢ 11
    room-enough a b z = go parsing-so
      where
        told : {n o : ℕ} → ParseRefused image names text n o → n ≡ 11
        told y = let g = demand-1-parse.by.given (as_told y) in sym g.0 ∙ z

        go : Parsing → ⊥
        go (is-parsed e) = let k = read-so e in omega (arith, k.0, z)
        go (is-unparsed (no_text h)) = let k = told (no_text h) in omega (arith, k)
        go (is-unparsed (undeclared t u)) = let k = told (undeclared t u) in omega (arith, k)
        go (is-unparsed (bad_line t u l)) = let k = told (bad_line t u l) in let m = line_low l in omega (arith, k, m)
        go (is-unparsed (no_room t u h x)) = eleven-not a b t ((parse-exactly image names text 11 0).1 (no_room t u h x))
