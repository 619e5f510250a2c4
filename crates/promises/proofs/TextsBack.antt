-- Request 4: what was printed is parsed to the image again, and what was parsed is printed and parsed again.
use Rattle.std.specs.Prelude.{Ok}
use mathlib.Core.Path.{◌∙◌, ◌≡◌, sym}
use mathlib.Core.Bool.{true}
use mathlib.Core.List.{List}
use Prim.Native.Nat.{◌≤◌, ℕ}
use lib.Dec.{leb}
use lib.ListN.{drop, length, take}
use lib.Seq.{take-append_seam}
use borrow.Author.Tests.{le-leb, leb-true, lt-leb}
use native.Mathlib.Omega.{arith}
use Rattle.parlog.proofs.Bools.{split}
use Rattle.parlog.specs.Load.{load_of, refusal}
use Rattle.parlog.specs.Program.{program_of}
use Rattle.parlog.specs.Tables.{written}
use Rattle.promises.proofs.Texts.{demand-2-parse, parse-answer, print-made, read_told, wrote-told}
use Rattle.promises.proofs.Words.{refused-told}
use Rattle.promises.specs.Outcomes.{large_in, refusal_in}
use Rattle.promises.specs.Texts.{GoesForth, image_length_in, ParseMeets, PrintMeets, ReadsAgain, Tellable}
use Rattle.refusals.proofs.Exactly.{accepted-right}
use Rattle.refusals.specs.Right.{RightImage}
use Rattle.rows.specs.Rows.{Bytes}
use Rattle.text_back.proofs.Again.{print-parse}
use Rattle.text_back.specs.Back.{names_used, PrintsBack}
use Rattle.text_forth.proofs.Forth.{parse-print}
use Rattle.text_forth.specs.Forth.{PrintsAgain}
use Rattle.text_program.specs.Parsing.{image_in, names_in, parse_call}
use Rattle.text_program.specs.Printing.{print_call, program_named, program_text}
use Rattle.text_program.specs.Source.{source_of}
use Rattle.text_words.proofs.Laws.{told_same}

-- a parse of which the definitions give image and names
reads-again : (s nm image names text : List ℕ) → length s ≤ 32768 → parse_call image names text ≡ record { answer = Ok ((length s), (length nm)); image = written s image; names = written nm names }
    → (w : ℕ) (image' names' : List ℕ) → ParseMeets image names text w image' names' → ReadsAgain s nm image names w image' names'
reads-again s nm image names text few e w image' names' meets =
    let k = read_told w (length s) (length nm) (omega arith) (meets.contract.answer ∙ rw e) in
    record { accepted = k.0; image_size = k.1; names_size = k.2; image_bytes = meets.contract.image_is ∙ rw e; names_bytes = meets.contract.names_is ∙ rw e }

-- the front of a row is what was written there
front-is : (x row : List ℕ) → take (length x) (written x row) ≡ x
unfolding written
front-is x row = take-append_seam x (drop (length x) row)

-- ---- back

module _ (s nm row : List ℕ) (w : ℕ) (row' : List ℕ) (prints : PrintMeets s nm row w row') (short : Tellable row) (z : refusal_in w ≡ 0) where
  print-fits : {r c : ℕ} → load_of s ≡ Ok (r, c) → program_named nm (program_of s r c) ≡ true → length (program_text nm (program_of s r c)) ≤ length row
  unfolding print_call
  print-fits {r} {c} e h =
      let t = program_text nm (program_of s r c) in
      split (leb (length t) (length row)) (λ l. leb-true (length t) (length row) l)
      (λ l. let g = refused-told w (refusal 11 0) (omega arith) (prints.contract.answer ∙ rw (e, h, l)) in absurd (omega (arith, g.0, z)))

  -- THE LAW: the text that was printed is parsed to the image, and to the names used, where the list has a distinct name for each of them and all are numbered by first appearance
  pub back : {r c n : ℕ} → Bytes s → RightImage s r c → PrintsBack nm (program_of s r c) n
      → (image names : List ℕ) → length s ≤ length image → length (names_used nm r n) ≤ length names
      → (v : ℕ) (image' names' : List ℕ) → ParseMeets image names (take (large_in w) row') v image' names' → ReadsAgain s (names_used nm r n) image names v image' names'
  back {r} {c} {n} are i b image names a d v image' names' parses =
      let t = program_text nm (program_of s r c) in
      let e = (accepted-right s).1 i in
      let l = print-fits e b.named in
      let m = print-made s nm row e b.named l in
      let k : large_in w ≡ length t = (wrote-told w (length t) (prints.contract.answer ∙ rw m)).1 ∙ sym (told_same (length t) (omega arith)) in
      let q : take (large_in w) row' ≡ take (length t) (print_call row s nm).text = rw (k, prints.contract.text_is) in
      let few = i.short in
      reads-again s (names_used nm r n) image names (take (large_in w) row') few (rw q (print-parse s nm row image names r c n (length t) are e b (rw m) a d)) v image' names' parses

-- ---- forth

module _ (image names text : List ℕ) (w : ℕ) (image' names' : List ℕ) (parses : ParseMeets image names text w image' names') (short : Tellable names) (z : refusal_in w ≡ 0) where
  abbrev s : List ℕ
  s = take (image_length_in w) image'

  abbrev nm : List ℕ
  nm = take (large_in w) names'

  names-told : large_in w ≡ length (names_in (source_of text))
  names-told =
      let k = demand-2-parse image names text w image' names' parses z in
      let h = k.names_fit in
      k.names_size ∙ sym (told_same (length (names_in (source_of text))) (omega arith))

  printable : PrintsAgain s nm
  printable =
      let k = demand-2-parse image names text w image' names' parses z in
      let e = parse-answer image names text w image' names' parses z in
      rw (k.image_size, names-told, parses.contract.image_is, parses.contract.names_is) (parse-print image names text (length (image_in (source_of text))) (length (names_in (source_of text))) e)

  few : length s ≤ 32768
  few = let k = demand-2-parse image names text w image' names' parses z in k.loads.short

  -- THE LAW: what was parsed can be printed, and is then parsed to the same
  pub forth : GoesForth (take (image_length_in w) image') (take (large_in w) names')
  forth = record {
    text = printable.text;
    fits = λ {row} {w = v} {row'} prints h.
        let e = printable.printed row in
        let f = le-leb (length printable.text) (length row) h in
        let k = wrote-told v (length printable.text) (prints.contract.answer ∙ rw (e, f)) in
        (k.0, k.1, prints.contract.text_is ∙ rw (e, f));
    short = λ {row} {w = v} {row'} prints h.
        let e = printable.printed row in
        let f = lt-leb (length printable.text) (length row) h in
        (refused-told v (refusal 11 0) (omega arith) (prints.contract.answer ∙ rw (e, f))).0;
    parsed = λ {image = im} {names = na} {w = v} {image' = im'} {names' = na'} meets a b. reads-again s nm im na printable.text few (printable.parsed im na a b) v im' na' meets;
  }
