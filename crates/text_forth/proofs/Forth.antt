-- What was parsed is printed, and what was printed is parsed to it again.
use Rattle.std.specs.Prelude.{Ok}
use mathlib.Core.Path.{◌∙◌, ◌≡◌, ap, sym}
use mathlib.Core.Bool.{false, true}
use mathlib.Core.List.{[], ◌++◌, ◌∷◌, List, map}
use Prim.Native.Nat.{◌+◌, ◌<◌, ℕ}
use lib.ListN.{drop, get_or, length, length-append, length-map, get_or-append, take}
use lib.Seq.{get_or-append-add, take-append_seam}
use native.Mathlib.Omega.{arith}
use Rattle.parlog.specs.Load.{load_of, long}
use Rattle.parlog.specs.Orders.{Each}
use Rattle.parlog.specs.Program.{Program}
use Rattle.parlog.specs.Tables.{written}
use Rattle.spell.proofs.Exact.{accepted-right}
use Rattle.text_back.proofs.Again.{parsed-again}
use Rattle.text_back.proofs.Begin.{Lower, Spelt}
use Rattle.text_back.proofs.Firsts.{appear-below, Below}
use Rattle.text_back.proofs.Made.{accepted-made}
use Rattle.text_back.proofs.Named.{ConstantNamed, program-named}
use Rattle.text_back.proofs.Numbers.{each-also, each-join, Made}
use Rattle.text_back.specs.Back.{constants_in, Distinct, firsts, names_used, PrintsBack, terms_of, VariablesAppear}
use Rattle.text_forth.proofs.Entered.{entry-is, entry-name, firsts-all}
use Rattle.text_forth.proofs.Followed.{ClauseSpelt, ModeSpelt, SourceSpelt, text-spelt}
use Rattle.text_forth.proofs.Follows.{GoalSpelt, SaidSpelt}
use Rattle.text_forth.proofs.Named.{clauses-appear, constants_appear, goal_appears}
use Rattle.text_forth.proofs.Ordered.{adds-each, lowers-lower, none-unique, once-distinct, Unique, unique-adds, unique-distinct}
use Rattle.text_forth.specs.Forth.{ParsePrint, PrintsAgain}
use Rattle.text_loads.proofs.Counted.{counted}
use Rattle.text_loads.proofs.Fitting.{program-relations}
use Rattle.text_loads.proofs.Parsed.{parses, source-loads}
use Rattle.text_loads.proofs.Walked.{once-each, text-loads}
use Rattle.text_loads.specs.Loads.{TextLoads}
use Rattle.text_names.specs.Entries.{entries, entry_name, is_entry}
use Rattle.text_names.specs.Names.{Name}
use Rattle.text_program.specs.Encoded.{program_bytes}
use Rattle.text_program.specs.Numbered.{clause_terms, constant_names, goal_terms, joined, lowers, program_in, relation_names, said_terms}
use Rattle.text_program.specs.Parsing.{image_in, names_in, parse_call, records_in}
use Rattle.text_program.specs.Printing.{print_call, program_text}
use Rattle.text_program.specs.Source.{ModeLine, Said, SaidClause, Source, source_of}

-- ---- the terms of a text are spelt

spelt-goal : (g : List (List Said)) → GoalSpelt g → Each Spelt (goal_terms g)
unfolding joined
spelt-goal [] e = tt
spelt-goal (st ∷ g) e = each-join Spelt (joined said_terms st) (goal_terms g) (go st e.0) (spelt-goal g e.1)
  where
    go : (st : List Said) → Each SaidSpelt st → Each Spelt (joined said_terms st)
    go [] e = unfold joined in tt
    go (l ∷ ls) e = unfold joined in each-join Spelt (said_terms l) (joined said_terms ls) e.0 (go ls e.1)

spelt-clause : (c : SaidClause) → ClauseSpelt c → Each Spelt (clause_terms c)
spelt-clause c e = each-join Spelt c.terms (goal_terms c.guard ++ goal_terms c.body) e.terms (each-join Spelt (goal_terms c.guard) (goal_terms c.body) (spelt-goal c.guard e.guard) (spelt-goal c.body e.body))

spelt-clauses : (cs : List SaidClause) → Each ClauseSpelt cs → Each Spelt (joined clause_terms cs)
unfolding joined
spelt-clauses [] e = tt
spelt-clauses (c ∷ cs) e = each-join Spelt (clause_terms c) (joined clause_terms cs) (spelt-clause c e.0) (spelt-clauses cs e.1)

constants-lower : (p : Source) → SourceSpelt p → Each Lower (constant_names p)
unfolding constant_names
constants-lower p e =
    let ts = joined clause_terms p.clauses ++ goal_terms p.goal in
    adds-each Lower (lowers ts) [] tt (lowers-lower ts (each-join Spelt (joined clause_terms p.clauses) (goal_terms p.goal) (spelt-clauses p.clauses e.clauses) (spelt-goal p.goal e.goal)))

relations-lower : (ms : List ModeLine) → Each ModeSpelt ms → Each Lower (map (λ (m : ModeLine). m.name) ms)
relations-lower [] e = tt
relations-lower (m ∷ ms) e = (e.0, relations-lower ms e.1)

-- ---- of a source whose image loads

module _ (p : Source) (spelt : SourceSpelt p) (r c : ℕ) (passes : records_in (relation_names p) (image_in p) ≡ Ok (r, c)) (short : long (image_in p) ≡ false) where
  abbrev rels : List Name
  rels = relation_names p

  abbrev consts : List Name
  consts = constant_names p

  abbrev nm : List ℕ
  nm = entries (rels ++ consts)

  abbrev n : ℕ
  n = length consts

  abbrev pr : Program
  pr = program_in p

  abbrev k : ℕ
  k = length pr.relations

  loads : TextLoads (image_in p) p
  loads = source-loads p r c passes short

  made : Made pr
  made = rw loads.means at (accepted-made (image_in p) (length p.modes) (length p.clauses) loads.loads)

  as_many : k ≡ length rels
  as_many = program-relations p ∙ sym (length-map p.modes (λ (m : ModeLine). m.name))

  all-lower : Each Lower (rels ++ consts)
  all-lower = each-join Lower rels consts (relations-lower p.modes spelt.modes) (constants-lower p spelt)

  in_all : length (rels ++ consts) ≡ length rels + n
  in_all = length-append rels consts

  relation-name : (i : ℕ) → i < length rels → entry_name nm i ≡ get_or rels i []
  relation-name i h = let l = in_all in entry-name (rels ++ consts) all-lower i (omega arith) ∙ get_or-append rels consts [] i h

  constant-name : (i : ℕ) → i < n → entry_name nm (k + i) ≡ get_or consts i []
  constant-name i h = let l = in_all in rw as_many (entry-name (rels ++ consts) all-lower (length rels + i) (omega arith) ∙ get_or-append-add rels consts i [])

  relation-is : (i : ℕ) → i < k → is_entry nm i ≡ true
  relation-is i h = let l = in_all in let e = as_many in entry-is (rels ++ consts) all-lower i (omega arith)

  constant-is : (i : ℕ) → i < n → is_entry nm (k + i) ≡ true
  constant-is i h = let l = in_all in let e = as_many in entry-is (rels ++ consts) all-lower (k + i) (omega arith)

  accepted-relations : r ≡ length rels
  accepted-relations = (counted pr r c (loaded-first)).0 ∙ as_many
    where
      loaded-first : load_of (program_bytes pr) ≡ Ok (r, c)
      loaded-first = unfold image_in in text-loads (relation_names p) (program_bytes (program_in p)) r c passes short

  relations-distinct : Distinct (entry_name nm) k
  relations-distinct i j h l e =
      let z = as_many in
      let y = accepted-relations in
      once-distinct rels (λ q g. once-each rels (image_in p) r c q (omega arith) passes) i j h (omega arith) (sym (relation-name i (omega arith)) ∙ e ∙ relation-name j (omega arith))

  constants-distinct : Distinct (λ c. entry_name nm (k + c)) n
  constants-distinct i j h l e = unique-distinct consts all-unique i j h l (sym (constant-name i (omega arith)) ∙ e ∙ constant-name j l)
    where
      all-unique : Unique consts
      all-unique = unfold constant_names in unique-adds (lowers (joined clause_terms p.clauses ++ goal_terms p.goal)) [] none-unique

  clauses-in-order : Each VariablesAppear pr.clauses
  unfolding program_in
  clauses-in-order = clauses-appear p p.clauses

  fits : PrintsBack nm pr n
  fits = record {
    named = program-named nm pr made relation-is (each-also (Below n) (Below n) (ConstantNamed k nm) (λ i h g. constant-is i h) (constants_in (terms_of pr)) (appear-below (constants_appear p)) (appear-below (constants_appear p)));
    relations = relations-distinct;
    constants = constants-distinct;
    constants_appear = constants_appear p;
    variables_appear = clauses-in-order;
    goal_appears = goal_appears p;
  }

  used-are : names_used nm k n ≡ nm
  used-are =
      let a : firsts (entry_name nm) k ≡ rels = rw as_many (firsts-all (entry_name nm) rels relation-name) in
      let b : firsts (λ c. entry_name nm (k + c)) n ≡ consts = firsts-all (λ c. entry_name nm (k + c)) consts constant-name in
      rw (a, b)

  image-loads : load_of (program_bytes pr) ≡ Ok (k, (length p.clauses))
  unfolding image_in
  image-loads = rw (program-relations p) loads.loads

  -- THE LAW: over sources
  pub source-again : PrintsAgain (image_in p) (names_in p)
  unfolding image_in names_in print_call
  source-again = record {
    text = program_text nm pr;
    printed = λ row. rw (loads.loads, loads.means, fits.named);
    parsed = λ image names g h. (rw used-are at (parsed-again nm pr n made fits (length p.clauses) image names image-loads g (rw used-are h)));
  }

pub parse-print : ParsePrint
unfolding written
parse-print image names text n m e =
    let w = parses image names text n m e in
    let p = source_of text in
    let x = image_in p in
    let y = names_in p in
    let f : take n (parse_call image names text).image ≡ x = ap (take n) w.image-row ∙ ap (λ (k : ℕ). take k (written x image)) w.image_size ∙ take-append_seam x (drop (length x) image) in
    let g : take m (parse_call image names text).names ≡ y = ap (take m) w.names-row ∙ ap (λ (k : ℕ). take k (written y names)) w.names_size ∙ take-append_seam y (drop (length y) names) in
    rw (f, g) (source-again p (text-spelt text (accepted-right text w.spells)) w.relations w.clauses w.passes w.short)
