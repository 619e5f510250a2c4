-- What was printed is parsed to what it was printed from.
use Rattle.std.specs.Prelude.{Ok}
use mathlib.Core.Path.{◌∙◌, ◌≡◌, ap, refl}
use mathlib.Core.Bool.{◌&&◌, Bool, false, true}
use mathlib.Core.List.{[], ◌∷◌, List, map}
use Prim.Native.Nat.{◌<◌, ◌≤◌, suc, zero, ℕ}
use lib.Dec.{eqb, leb}
use lib.ListN.{drop, get_or, length, get_or-append, take}
use lib.Seq.{get_or_at, take-append_seam}
use borrow.Author.Tests.{eqb-false, le-ltb, lt-ltb}
use native.Mathlib.Omega.{arith}
use Rattle.load.proofs.Accepted.{accepted}
use Rattle.parlog.proofs.Along.{list_length}
use Rattle.std.proofs.lemmas.Bool.{and_from}
use Rattle.parlog.proofs.Scans.{below_suc}
use Rattle.parlog.specs.Load.{load_of, long}
use Rattle.parlog.specs.Orders.{Each}
use Rattle.parlog.specs.Program.{Clause, Goal, Literal, modes_of, Program, program_of}
use Rattle.parlog.specs.Records.{record_end}
use Rattle.parlog.specs.Tables.{written}
use Rattle.text_back.proofs.Firsts.{firsts-length, look-first}
use Rattle.text_back.proofs.Lines.{text-back}
use Rattle.text_back.proofs.Made.{accepted-made}
use Rattle.text_back.proofs.Numbers.{ClauseMade, constants-are, GoalMade, lines_ok, LiteralMade, Made, program-again, relations-are, rows-each}
use Rattle.text_back.proofs.Said.{said, said_by, said_clause, said_clauses, said_goal, said_program}
use Rattle.text_back.proofs.Spelling.{text-right}
use Rattle.text_back.specs.Back.{Distinct, firsts, names_used, PrintParse, PrintsBack}
use Rattle.text_loads.proofs.Encoded.{encode-decode}
use Rattle.text_loads.proofs.Parsed.{parse-steps}
use Rattle.text_loads.proofs.Walked.{loads-text}
use Rattle.text_names.specs.Entries.{entry_name}
use Rattle.text_names.specs.Names.{known, Name}
use Rattle.text_program.specs.Encoded.{program_bytes}
use Rattle.text_program.specs.Numbered.{relation_names}
use Rattle.text_program.specs.Parsing.{all_of, clause_declared, declared, goal_declared, image_in, literal_declared, names_in, parse_call, records_in, repeated}
use Rattle.text_program.specs.Printing.{nameable, next_mark, print_call, program_named, program_text, roomy}
use Rattle.text_program.specs.Source.{Source}

-- ---- relations are found by their names

at-firsts : (f : ℕ → Name) (n k : ℕ) → k < n → get_or (firsts f n) k [] ≡ f k
unfolding firsts
at-firsts f zero k h = absurd (omega arith)
at-firsts f (suc n) k h =
    let l = firsts-length f n in
    below_suc k n h (λ e. rw e (get_or_at (firsts f n) (f n) [] [] n l)) (λ g. get_or-append (firsts f n) (f n ∷ []) [] k (omega arith) ∙ at-firsts f n k g)

pub not-repeated : (f : ℕ → Name) (r k : ℕ) → Distinct f r → k < r → repeated (firsts f r) k ≡ false
unfolding repeated
not-repeated f r k d h = rw (at-firsts f r k h, look-first f r k d h, le-ltb k k (omega arith))

known-first : (f : ℕ → Name) (r k : ℕ) → Distinct f r → k < r → known (firsts f r) (f k) ≡ true
known-first f r k d h = rw (look-first f r k d h, firsts-length f r, lt-ltb k r h)

all_map : {A B : Type 0} (P : A → Type 0) (f : B → Bool) (g : A → B) → ((x : A) → P x → f (g x) ≡ true) → (xs : List A) → Each P xs → all_of f (map g xs) ≡ true
unfolding all_of
all_map P f g h [] p = refl
all_map P f g h (x ∷ xs) p = and_from (f (g x)) (all_of f (map g xs)) (h x p.0) (all_map P f g h xs p.1)

module _ (r : ℕ) (nm : List ℕ) (d : Distinct (entry_name nm) r) where
  abbrev rels : List Name
  rels = firsts (entry_name nm) r

  literal-declared : (l : Literal) → LiteralMade r l → literal_declared rels (said r nm l) ≡ true
  unfolding said
  literal-declared l m = go (eqb l.rel 255) refl
    where
      go : (b : Bool) → eqb l.rel 255 ≡ b → literal_declared rels (said_by r nm b l) ≡ true
      go true e = refl
      go false e = known-first (entry_name nm) r l.rel d (m.known (eqb-false l.rel 255 e))

  goal-declared : (g : Goal) → GoalMade r g → goal_declared rels (said_goal r nm g) ≡ true
  goal-declared g m = all_map (Each (LiteralMade r)) (all_of (literal_declared rels)) (map (said r nm)) (λ st p. all_map (LiteralMade r) (literal_declared rels) (said r nm) literal-declared st p) g (rows-each (LiteralMade r) g m)

  clauses-declared : (cs : List Clause) → Each (ClauseMade r) cs → all_of (clause_declared rels) (said_clauses r nm cs) ≡ true
  unfolding all_of said_clauses
  clauses-declared [] m = refl
  clauses-declared (c ∷ cs) m =
      let a = m.0 in
      and_from (clause_declared rels (said_clause r nm c (next_mark cs))) (all_of (clause_declared rels) (said_clauses r nm cs))
      (and_from (known rels (entry_name nm c.rel)) (goal_declared rels (said_goal r nm c.guard) && goal_declared rels (said_goal r nm c.body)) (known-first (entry_name nm) r c.rel d a.known)
      (and_from (goal_declared rels (said_goal r nm c.guard)) (goal_declared rels (said_goal r nm c.body)) (goal-declared c.guard a.guard) (goal-declared c.body a.body)))
      (clauses-declared cs m.1)

-- ---- the call

module _ (nm : List ℕ) (pr : Program) (n : ℕ) (made : Made pr) (fit : PrintsBack nm pr n) where
  abbrev r : ℕ
  r = length pr.relations

  abbrev p : Source
  p = said_program nm pr

  abbrev s : List ℕ
  s = program_bytes pr

  image-again : image_in p ≡ s
  unfolding image_in
  image-again = ap program_bytes (program-again nm pr n made fit)

  names-are : names_in p ≡ names_used nm r n
  unfolding names_in
  names-are = rw (relations-are nm pr n made fit, constants-are nm pr n made fit)

  declares : declared p ≡ true
  unfolding declared
  declares = rw (relations-are nm pr n made fit) (parts (and_from _ _ (clauses-declared r nm fit.relations pr.clauses made.clauses) (goal-declared r nm fit.relations pr.goal made.goal)))
    where
      parts : (all_of (clause_declared (firsts (entry_name nm) r)) (said_clauses r nm pr.clauses) && goal_declared (firsts (entry_name nm) r) (said_goal r nm pr.goal)) ≡ true →
          (all_of (clause_declared (firsts (entry_name nm) r)) p.clauses && goal_declared (firsts (entry_name nm) r) p.goal) ≡ true
      parts e = unfold said_program in e

  passes : (c : ℕ) → load_of s ≡ Ok (r, c) → records_in (relation_names p) s ≡ Ok (r, c)
  passes c e = rw (relations-are nm pr n made fit) (loads-text (firsts (entry_name nm) r) s r c (λ k h. not-repeated (entry_name nm) r k fit.relations h) e)

  not-long : (c : ℕ) → load_of s ≡ Ok (r, c) → long s ≡ false
  unfolding long
  not-long c e = le-ltb 32768 (length s) (accepted s r c e).short

  -- THE LAW: over programs
  pub parsed-again : (c : ℕ) (image names : List ℕ) → load_of s ≡ Ok (r, c) → length s ≤ length image → length (names_used nm r n) ≤ length names →
      parse_call image names (program_text nm pr) ≡ record { answer = Ok ((length s), (length (names_used nm r n))); image = written s image; names = written (names_used nm r n) names }
  parsed-again c image names e g h =
      let ok = lines_ok nm pr made fit.named in
      let w = parse-steps image names (program_text nm pr) p r c (text-right nm pr ok) (text-back nm pr ok) declares (rw image-again (passes c e)) (rw image-again (not-long c e)) (rw image-again g) (rw names-are h) in
      rw (image-again, names-are) at w

-- ---- what was printed

module _ (row : List ℕ) (k : ℕ) (t : List ℕ) where
  with-room : (b : Bool) → (roomy row b t).answer ≡ Ok k → take k (roomy row b t).text ≡ t
  unfolding written
  with-room false x = absurd (let z : ◌≡◌ {A = ℕ} 0 1 = cc in omega arith)
  with-room true x = let z : length t ≡ k = cc in rw (← z) (take-append_seam t (drop (length t) row))

  with-names : (b : Bool) → (nameable row b t).answer ≡ Ok k → take k (nameable row b t).text ≡ t
  with-names false x = absurd (let z : ◌≡◌ {A = ℕ} 0 1 = cc in omega arith)
  with-names true x = with-room (leb (length t) (length row)) x

pub printed : (s nm row : List ℕ) (r c k : ℕ) → load_of s ≡ Ok (r, c) → (print_call row s nm).answer ≡ Ok k → take k (print_call row s nm).text ≡ program_text nm (program_of s r c)
unfolding print_call
printed s nm row r c k e f = rw e (with-names row k (program_text nm (program_of s r c)) (program_named nm (program_of s r c)) (rw e at f))

pub relations-many : (s : List ℕ) (r c : ℕ) → length (program_of s r c).relations ≡ r
unfolding program_of
relations-many s r c = list_length (modes_of s) (record_end s) r 0

-- THE LAW: over calls
pub print-parse : PrintParse
print-parse s nm row image names r c n k are e fit f g h =
    let pr = program_of s r c in
    let z = relations-many s r c in
    let x = encode-decode s r c are e in
    let w = parsed-again nm pr n (accepted-made s r c e) fit c image names (rw (x, z) e) (rw x g) (rw z h) in
    rw (printed s nm row r c k e f) (rw (x, z) at w)
