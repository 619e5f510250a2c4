-- In the image of a text that passes 4, 5 and 6 every number fits its byte.
use mathlib.Core.Path.{◌∙◌, ◌≡◌, ap, refl, sym}
use mathlib.Core.Bool.{◌&&◌, Bool, cond, false, true}
use mathlib.Core.List.{[], ◌++◌, ◌∷◌, append_assoc, append-nil, List, map}
use Prim.Native.Nat.{◌%◌, ◌+◌, ◌/◌, ◌<◌, ◌≤◌, ℕ}
use lib.Dec.{leb, ltb}
use lib.ListN.{length, length-append, length-map}
use borrow.Author.Tests.{leb-true, ltb-true}
use native.Mathlib.Omega.{arith}
use Rattle.judge_image.specs.Judged.{relation_sized}
use Rattle.judge_said.proofs.Clauses.{goal-few}
use Rattle.judge_said.proofs.First.{terms-okay-in}
use Rattle.judge_said.proofs.Known.{term_okay}
use Rattle.judge_said.proofs.Told.{ask-parts}
use Rattle.judge_said.specs.Said.{ask_right}
use Rattle.lay_lines.proofs.Sizes.{clause-long, clause-record, goal-long, right-parts}
use Rattle.lay_lines.specs.Fields.{clause_fields, clause_in}
use Rattle.lay_lines.specs.Imaged.{asking, ask_with, image_with}
use Rattle.lay_lines.specs.Lines.{clause_right, clauses_with, modes_of, with_vars}
use Rattle.lay_literal.proofs.Laid.{lows-append}
use Rattle.lay_literal.specs.Lows.{lows}
use Rattle.parlog.proofs.Bools.{and-true}
use Rattle.parlog.specs.declared.Term.TheVariants.{Const, Var}
use Rattle.read_goal.specs.Spans.{goal_right, literal_right, literals_in, stage_right, stages_right}
use Rattle.read_names.specs.Tables.{mode_names}
use Rattle.text_names.specs.Names.{adds, known, look, Name, same_name}
use Rattle.text_program.proofs.Joined.{all-parts, lowers-append}
use Rattle.text_program.specs.Encoded.{ask_bytes, clause_bytes, goal_bytes, literal_bytes, record_bytes, relation_bytes, stage_bytes, term_bytes, word_bytes}
use Rattle.text_program.specs.Numbered.{clause_terms, goal_numbered, goal_terms, is_upper, joined, literal_numbered, lowers, mark_by, Numbering, said_terms, term_numbered, variable_names}
use Rattle.text_program.specs.Parsing.{all_of, clause_declared, goal_declared, literal_declared}
use Rattle.text_program.specs.Source.{calls, equals, ModeLine, Said, SaidClause}

-- each number fits a byte
abbrev Low : List ℕ → Type 0
Low bs = lows bs ≡ bs

low-none : Low []
unfolding lows
low-none = refl

low-cons : (b : ℕ) (bs : List ℕ) → b < 256 → Low bs → Low (b ∷ bs)
unfolding lows
low-cons b bs h e = let z : b % 256 ≡ b = omega arith in rw (z, e)

low-append : (bs cs : List ℕ) → Low bs → Low cs → Low (bs ++ cs)
low-append bs cs e f = lows-append bs cs ∙ rw (e, f)

low_word : (w : ℕ) → w < 65536 → Low (word_bytes w)
low_word w h = low-cons (w % 256) (w / 256 ∷ []) (omega arith) (low-cons (w / 256) [] (omega arith) low-none)

low-record : (kind : ℕ) (body : List ℕ) → kind < 65536 → length body ≤ 60000 → Low body → Low (record_bytes kind body)
unfolding record_bytes
low-record kind body h l e = low-append (word_bytes (4 + length body)) (word_bytes kind ++ body) (low_word (4 + length body) (omega arith)) (low-append (word_bytes kind) body (low_word kind h) e)

-- ---- terms

module _ (n : Numbering) (vars : length n.variables ≤ 16) where
  low-term : (x : Name) → term_okay n x ≡ true → Low (term_bytes (term_numbered n x))
  unfolding term_okay term_numbered term_bytes
  low-term x = go (is_upper x)
    where
      go : (b : Bool) → cond b (known n.variables x) (ltb (look n.constants x) 32768) ≡ true → Low (term_bytes (cond b (Var (look n.variables x)) (Const (look n.constants x))))
      go true e = let h = ltb-true (look n.variables x) (length n.variables) e in low_word (32768 + look n.variables x) (omega arith)
      go false e = let h = ltb-true (look n.constants x) 32768 e in low_word (look n.constants x) (omega arith)

  low-terms : (xs : List Name) → all_of (term_okay n) xs ≡ true → Low (joined term_bytes (map (term_numbered n) xs))
  unfolding all_of joined
  low-terms [] e = low-none
  low-terms (x ∷ xs) e = let p = and-true (term_okay n x) (all_of (term_okay n) xs) e in low-append (term_bytes (term_numbered n x)) (joined term_bytes (map (term_numbered n) xs)) (low-term x p.0) (low-terms xs p.1)

  -- ---- literals and goals

  module _ (ms : List ModeLine) (few : length ms ≤ 32) (rels : n.relations ≡ mode_names ms) where
    rel-small : (x : Name) → known (mode_names ms) x ≡ true → look n.relations x < 256
    rel-small x e = rw rels (let a = ltb-true (look (mode_names ms) x) (length (mode_names ms)) e in let b = length-map ms (λ (m : ModeLine). m.name) in omega arith)

    low-literal : (l : Said) → literal_right l ≡ true → literal_declared (mode_names ms) l ≡ true → all_of (term_okay n) (said_terms l) ≡ true → Low (literal_bytes (literal_numbered n l))
    unfolding literal_bytes literal_right
    low-literal (calls p ts) r d t =
        let a = leb-true (length ts) 4 r in
        let b = length-map ts (term_numbered n) in
        low-cons (look n.relations p) (length (map (term_numbered n) ts) ∷ joined term_bytes (map (term_numbered n) ts)) (rel-small p d) (low-cons (length (map (term_numbered n) ts)) (joined term_bytes (map (term_numbered n) ts)) (omega arith) (low-terms ts t))
    low-literal (equals a b) r d t = low-cons 255 (2 ∷ joined term_bytes (map (term_numbered n) (a ∷ b ∷ []))) (omega arith) (low-cons 2 (joined term_bytes (map (term_numbered n) (a ∷ b ∷ []))) (omega arith) (low-terms (a ∷ b ∷ []) t))

    low-literals : (st : List Said) → all_of literal_right st ≡ true → all_of (literal_declared (mode_names ms)) st ≡ true → all_of (term_okay n) (joined said_terms st) ≡ true → Low (joined literal_bytes (map (literal_numbered n) st))
    unfolding all_of joined
    low-literals [] r d t = low-none
    low-literals (l ∷ st) r d t =
        let p = and-true (literal_right l) (all_of literal_right st) r in
        let q = and-true (literal_declared (mode_names ms) l) (all_of (literal_declared (mode_names ms)) st) d in
        let u = all-parts (term_okay n) (said_terms l) (joined said_terms st) t in
        low-append (literal_bytes (literal_numbered n l)) (joined literal_bytes (map (literal_numbered n) st)) (low-literal l p.0 q.0 u.0) (low-literals st p.1 q.1 u.1)

    low-stages : (g : List (List Said)) → all_of stage_right g ≡ true → literals_in g ≤ 8 → goal_declared (mode_names ms) g ≡ true → all_of (term_okay n) (goal_terms g) ≡ true → Low (joined stage_bytes (goal_numbered n g))
    unfolding all_of joined stage_right literals_in stage_bytes
    low-stages [] r l d t = low-none
    low-stages (st ∷ g) r l d t =
        let p = and-true (stage_right st) (all_of stage_right g) r in
        let p1 = and-true (leb 1 (length st)) (all_of literal_right st) p.0 in
        let q = and-true (all_of (literal_declared (mode_names ms)) st) (goal_declared (mode_names ms) g) d in
        let u = all-parts (term_okay n) (joined said_terms st) (goal_terms g) t in
        let b = length-map st (literal_numbered n) in
        low-append (length (map (literal_numbered n) st) ∷ joined literal_bytes (map (literal_numbered n) st)) (joined stage_bytes (goal_numbered n g))
        (low-cons (length (map (literal_numbered n) st)) (joined literal_bytes (map (literal_numbered n) st)) (omega arith) (low-literals st p1.1 q.0 u.0))
        (low-stages g p.1 (omega arith) q.1 u.1)

    low-goal : (g : List (List Said)) → goal_right g ≡ true → goal_declared (mode_names ms) g ≡ true → all_of (term_okay n) (goal_terms g) ≡ true → Low (goal_bytes (goal_numbered n g))
    unfolding goal_right stages_right goal_bytes
    low-goal g r d t =
        let p = and-true (leb (length g) 8) (all_of stage_right g && leb (literals_in g) 8) r in
        let q = and-true (all_of stage_right g) (leb (literals_in g) 8) p.1 in
        let a = leb-true (length g) 8 p.0 in
        let b = length-map g (map (literal_numbered n)) in
        low-cons (length (goal_numbered n g)) (joined stage_bytes (goal_numbered n g)) (omega arith) (low-stages g q.0 (leb-true (literals_in g) 8 q.1) d t)

    -- ---- a clause

    mark-small : (b : Bool) → mark_by b < 256
    mark-small true = omega arith
    mark-small false = omega arith

    low-fields : (c : SaidClause) (opens : Bool) → clause_right c ≡ true → clause_declared (mode_names ms) c ≡ true → all_of (term_okay n) (clause_terms c) ≡ true → Low (clause_fields (clause_in n (mark_by opens) c))
    unfolding clause_fields
    low-fields c opens r d t =
        let p = right-parts c r in
        let h = p.head in
        let q = and-true (known (mode_names ms) c.name) (goal_declared (mode_names ms) c.guard && goal_declared (mode_names ms) c.body) d in
        let q1 = and-true (goal_declared (mode_names ms) c.guard) (goal_declared (mode_names ms) c.body) q.1 in
        let u = all-parts (term_okay n) c.terms (goal_terms c.guard ++ goal_terms c.body) t in
        let v = all-parts (term_okay n) (goal_terms c.guard) (goal_terms c.body) u.1 in
        let b = length-map c.terms (term_numbered n) in
        let tail = joined term_bytes (map (term_numbered n) c.terms) ++ (goal_bytes (goal_numbered n c.guard) ++ goal_bytes (goal_numbered n c.body)) in
        low-cons (look n.relations c.name) (length (map (term_numbered n) c.terms) ∷ mark_by opens ∷ length n.variables ∷ tail) (rel-small c.name q.0)
        (low-cons (length (map (term_numbered n) c.terms)) (mark_by opens ∷ length n.variables ∷ tail) (omega arith)
        (low-cons (mark_by opens) (length n.variables ∷ tail) (mark-small opens)
        (low-cons (length n.variables) tail (omega arith)
        (low-append (joined term_bytes (map (term_numbered n) c.terms)) (goal_bytes (goal_numbered n c.guard) ++ goal_bytes (goal_numbered n c.body)) (low-terms c.terms u.0)
        (low-append (goal_bytes (goal_numbered n c.guard)) (goal_bytes (goal_numbered n c.body)) (low-goal c.guard p.guard q1.0 v.0) (low-goal c.body p.body q1.1 v.1))))))

    low-clause : (c : SaidClause) (opens : Bool) → clause_right c ≡ true → clause_declared (mode_names ms) c ≡ true → all_of (term_okay n) (clause_terms c) ≡ true → Low (clause_bytes (clause_in n (mark_by opens) c))
    low-clause c opens r d t = rw (clause-record (clause_in n (mark_by opens) c)) (low-record 2 (clause_fields (clause_in n (mark_by opens) c)) (omega arith) (let l = clause-long n (mark_by opens) c r in omega arith) (low-fields c opens r d t))

-- ---- all clauses, and the goal

module _ (ms : List ModeLine) (few : length ms ≤ 32) (goal : List (List Said)) (consts : List Name) where
  low-clauses : (cs : List SaidClause) (before : List Name) (b : Bool) (name : Name) → consts ≡ adds [] (lowers (before ++ (joined clause_terms cs ++ goal_terms goal))) → length before + length (joined clause_terms cs) ≤ 32767 →
      all_of clause_right cs ≡ true → all_of (clause_declared (mode_names ms)) cs ≡ true → Low (joined clause_bytes (clauses_with (mode_names ms) consts b name cs))
  unfolding joined all_of clauses_with
  low-clauses [] before b name e l r d = low-none
  low-clauses (c ∷ cs) before b name e l r d =
      let p = and-true (clause_right c) (all_of clause_right cs) r in
      let q = and-true (clause_declared (mode_names ms) c) (all_of (clause_declared (mode_names ms)) cs) d in
      let n = with_vars (mode_names ms) consts c in
      let k = length-append (clause_terms c) (joined clause_terms cs) in
      let j = length-append before (clause_terms c) in
      let f : consts ≡ adds [] (lowers ((before ++ clause_terms c) ++ (joined clause_terms cs ++ goal_terms goal))) = e ∙ ap (λ (y : List Name). adds [] (lowers y)) (ap (λ (y : List Name). before ++ y) (append_assoc (clause_terms c) (joined clause_terms cs) (goal_terms goal)) ∙ sym (append_assoc before (clause_terms c) (joined clause_terms cs ++ goal_terms goal))) in
      let h : consts ≡ adds [] (lowers (before ++ clause_terms c) ++ lowers (joined clause_terms cs ++ goal_terms goal)) = f ∙ ap (λ (y : List Name). adds [] y) (lowers-append (before ++ clause_terms c) (joined clause_terms cs ++ goal_terms goal)) in
      low-append (clause_bytes (clause_in n (mark_by (b && same_name name c.name)) c)) (joined clause_bytes (clauses_with (mode_names ms) consts c.semicolon c.name cs))
      (low-clause n (right-parts c p.0).vars ms few refl c (b && same_name name c.name) p.0 q.0 (terms-okay-in n before (clause_terms c) (lowers (joined clause_terms cs ++ goal_terms goal)) (omega arith) refl h))
      (low-clauses cs (before ++ clause_terms c) c.semicolon c.name f (omega arith) p.1 q.1)

  low-ask : (before : List Name) → consts ≡ adds [] (lowers (before ++ goal_terms goal)) → length before ≤ 32000 → ask_right goal ≡ true → goal_declared (mode_names ms) goal ≡ true → Low (ask_with (mode_names ms) consts goal)
  unfolding ask_with ask_bytes
  low-ask before e l r d =
      let n = asking (mode_names ms) consts goal in
      let p = ask-parts goal r in
      let p0 = p.0 in
      let k = length-append before (goal_terms goal) in
      let a = goal-few goal p.1 in
      let b = goal-long n goal p.1 in
      low-record 3 (length (variable_names (goal_terms goal)) ∷ goal_bytes (goal_numbered n goal)) (omega arith) (omega arith)
      (low-cons (length (variable_names (goal_terms goal))) (goal_bytes (goal_numbered n goal)) (omega arith)
      (low-goal n p0 ms few refl goal p.1 d (terms-okay-in n before (goal_terms goal) [] (omega arith) refl (e ∙ ap (λ (y : List Name). adds [] y) (sym (append-nil (lowers (before ++ goal_terms goal))))))))

-- ---- mode lines

low-modes : (ms : List ℕ) → all_of (λ (m : ℕ). leb m 1) ms ≡ true → Low ms
unfolding all_of
low-modes [] e = low-none
low-modes (m ∷ ms) e = let p = and-true (leb m 1) (all_of (λ (m : ℕ). leb m 1) ms) e in let a = leb-true m 1 p.0 in low-cons m ms (omega arith) (low-modes ms p.1)

low-relation : (ms : List ℕ) → relation_sized ms ≡ true → Low (relation_bytes ms)
unfolding relation_bytes relation_sized
low-relation ms e =
    let p = and-true (leb (length ms) 4) (all_of (λ (m : ℕ). leb m 1) ms) e in
    let a = leb-true (length ms) 4 p.0 in
    low-record 1 (length ms ∷ ms) (omega arith) (omega arith) (low-cons (length ms) ms (omega arith) (low-modes ms p.1))

low-relations : (rels : List (List ℕ)) → all_of relation_sized rels ≡ true → Low (joined relation_bytes rels)
unfolding joined all_of
low-relations [] e = low-none
low-relations (m ∷ rels) e = let p = and-true (relation_sized m) (all_of relation_sized rels) e in low-append (relation_bytes m) (joined relation_bytes rels) (low-relation m p.0) (low-relations rels p.1)

-- THE LAW
pub low-image : (ms : List ModeLine) (consts : List Name) (cs : List SaidClause) (g : List (List Said)) → length ms ≤ 32 → all_of relation_sized (modes_of ms) ≡ true → all_of clause_right cs ≡ true → all_of (clause_declared (mode_names ms)) cs ≡ true → ask_right g ≡ true → goal_declared (mode_names ms) g ≡ true →
    length (joined clause_terms cs) ≤ 4352 → consts ≡ adds [] (lowers (joined clause_terms cs ++ goal_terms g)) → lows (image_with ms consts cs g) ≡ image_with ms consts cs g
unfolding image_with
low-image ms consts cs g few m r d a b l e =
    low-append (joined relation_bytes (modes_of ms)) (joined clause_bytes (clauses_with (mode_names ms) consts false [] cs) ++ ask_with (mode_names ms) consts g) (low-relations (modes_of ms) m)
    (low-append (joined clause_bytes (clauses_with (mode_names ms) consts false [] cs)) (ask_with (mode_names ms) consts g)
    (low-clauses ms few g consts cs [] false [] e (omega arith) r d) (low-ask ms few g consts (joined clause_terms cs) e (omega arith) a b))
