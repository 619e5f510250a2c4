-- The parts of records, and the ways through them.
use mathlib.Core.Path.{◌∙◌, ◌≡◌, ap, refl, sym}
use mathlib.Core.Bool.{◌&&◌, Bool, false, true}
use mathlib.Core.List.{[], ◌++◌, ◌∷◌, List, map}
use Prim.Native.Nat.{◌+◌, ◌-◌, ◌≤◌, ℕ}
use lib.Dec.{eqb, leb}
use lib.ListN.{drop, length, length-map}
use mir.Val.{bool_byte}
use native.Mathlib.Omega.{arith}
use Rattle.judge_said.proofs.Sized.{clause-size}
use Rattle.judge_said.proofs.Told.{ask-parts}
use Rattle.judge_said.specs.Said.{ask_right}
use Rattle.lay_lines.proofs.Sizes.{clause-long, goal-long, right-parts}
use Rattle.lay_lines.specs.Fields.{clause_fields, clause_fits, clause_in}
use Rattle.lay_lines.specs.Imaged.{asking, ask_with}
use Rattle.lay_lines.specs.Lines.{clause_right, with_vars}
use Rattle.lay_literal.proofs.Laid.{lows-append, lows-cons}
use Rattle.lay_literal.specs.Fits.{goal_fits}
use Rattle.lay_literal.specs.Lows.{literal_fits, lows}
use Rattle.lay_text.proofs.Laws.{writes-both}
use Rattle.lay_text.specs.Laying.{Writes}
use Rattle.lay_text.specs.declared.To.{To}
use Rattle.name_index.specs.Index.{Indexed}
use Rattle.read_clause.specs.Parts.{ClauseIn, part_of}
use Rattle.read_clause.specs.declared.ClauseAt.{ClauseAt}
use Rattle.read_goal.specs.Spans.{goal_right, Spans}
use Rattle.read_goal.specs.declared.Span.{Span}
use Rattle.read_names.proofs.Lined.{arity_known, arity-or}
use Rattle.std.specs.Prelude.{is_some, unwrap_or}
use Rattle.read_names.specs.Tables.{Adds, Finds, mode_names, sorted}
use Rattle.read_names.specs.declared.Entry.{Entry}
use Rattle.take_clause.proofs.Lines.{and-swap, line_taken, vars_counted}
use Rattle.take_clause.specs.TakesClause.{ask_front, clause_front, front_bytes, parts_bytes, said_at, starting, taken_as, TakesAsk, TakesClause, TakesLine, TakesPart, TakesParts}
use Rattle.take_clause.specs.declared.Taken.{Taken}
use Rattle.take_goal.specs.TakesGoal.{TakesGoal}
use Rattle.take_term.proofs.Laws.{takes-as, takes-from, takes-then, takes-writes}
use Rattle.take_term.specs.Takes.{moved, numbers_by, Ready, relaid, Rows, rows, stands, TakesTerms}
use Rattle.take_term.specs.declared.Reading.{Reading}
use Rattle.text_names.specs.Bytes.{front}
use Rattle.text_names.specs.Names.{look, Name}
use Rattle.text_program.specs.Encoded.{ask_bytes, clause_bytes, goal_bytes, record_bytes, word_bytes}
use Rattle.text_program.specs.Numbered.{clause_terms, goal_numbered, goal_terms, joined, mark_by, Numbering, term_numbered, variable_names}
use Rattle.text_program.specs.Parsing.{all_of}
use Rattle.text_program.specs.Source.{ModeLine, read_body, read_brackets, read_clause, Reader, read_term, Said, SaidClause}

-- ---- fronts

pub lay-front : {o p q : List ℕ} {w x y : To} (size kind : ℕ) → Writes o w (lows (word_bytes size)) true p x → Writes p x (lows (word_bytes kind)) true q y → Writes o w (lows (front_bytes size kind)) true q y
lay-front size kind f g = rw (lows-append (word_bytes size) (word_bytes kind)) (writes-both f g)

pub lay-ask-front : {o p q : List ℕ} {w x y : To} (size vars : ℕ) → Writes o w (lows (front_bytes size 3)) true p x → Writes p x (lows (vars ∷ [])) true q y → Writes o w (lows (ask_front size vars)) true q y
lay-ask-front size vars f g = rw (lows-append (front_bytes size 3) (vars ∷ [])) (writes-both f g)

pub mark-byte : (b : Bool) → bool_byte b ≡ mark_by b
mark-byte true = refl
mark-byte false = refl

pub lay-clause-front : {o o1 o2 o3 o4 o5 : List ℕ} {w w1 w2 w3 w4 w5 : To} (size number arity mark : ℕ) (opens : Bool) (vars : ℕ) → mark ≡ mark_by opens → Writes o w (lows (front_bytes size 2)) true o1 w1 → Writes o1 w1 (lows (number ∷ [])) true o2 w2 →
    Writes o2 w2 (lows (arity ∷ [])) true o3 w3 → Writes o3 w3 (lows (mark ∷ [])) true o4 w4 → Writes o4 w4 (lows (vars ∷ [])) true o5 w5 → Writes o w (lows (clause_front size number arity opens vars)) true o5 w5
lay-clause-front size number arity mark opens vars e a b c d f =
    rw (← e, lows-append (front_bytes size 2) (number ∷ arity ∷ mark ∷ vars ∷ []), lows-cons number (arity ∷ mark ∷ vars ∷ []), lows-cons arity (mark ∷ vars ∷ []), lows-cons mark (vars ∷ []))
    (writes-both a (writes-both b (writes-both c (writes-both d f))))

-- ---- a goal

pub part-nothing : {s : List ℕ} {a : Rows} {w x : Reading} {p : List ℕ} {v y : To} (ms : List ModeLine) → Ready s a w → Writes a.out v (lows (0 ∷ [])) true p y → v.at ≡ w.at → x ≡ stands w w.end 0 y.at →
    TakesPart s ms a w [] (relaid a p) x
unfolding goal_bytes joined goal_fits all_of
part-nothing {s} {w = w} ms r f e g = let i = ap (λ (z : Reading). drop z.end s) g in takes-as (sym i) refl refl (λ cs vs. refl) refl refl (takes-writes w.end 0 (0 ∷ []) r f e g refl r.inside)

-- one that was read at a place
pub part-some : {s : List ℕ} {a b : Rows} {w y x : Reading} (ms : List ModeLine) (read : Reader (List (List Said))) (at : ℕ) → y ≡ moved w at 0 → TakesGoal s ms a y (read (drop y.end s)) b x → TakesPart s ms a w (read (drop at s)).value b x
part-some {s} ms read at e t =
    let i = ap (λ (z : Reading). z.end) e in
    rw (← i) (takes-as (sym t.end) refl refl (λ cs vs. refl) refl refl (takes-from at 0 e t))

-- ---- terms, guard and body

pub parts-taken : {s : List ℕ} {a b d g : Rows} {w x z v : Reading} (ms : List ModeLine) (c : ClauseAt) → w.end ≡ c.terms → TakesTerms s a w (read_brackets read_term (drop w.end s)) b x →
    TakesPart s ms b x (part_of s c.guard) d z → TakesPart s ms d z (part_of s c.body) g v → TakesParts s ms a w (said_at s c) g v
parts-taken ms c e t p q =
    rw (← e) (takes-as refl (sym q.count) refl (λ cs vs. refl) refl refl (takes-then (t (mode_names ms)) (takes-then p q)))

-- ---- states to take from

pub ready-start : {s o t l v : List ℕ} {w : Reading} (end at n : ℕ) (f d : Bool) → w ≡ starting end at n f d → end ≤ length s → Indexed s t l n → Ready s (rows o t l v) w
ready-start end at n f d e h i = rw e (record { inside = h; index = i; vars = omega arith })

-- ---- a clause

parts-short : (n : Numbering) (q : SaidClause) → clause_right q ≡ true → length (parts_bytes n q) ≤ 190
unfolding clause_fields
parts-short n q e = let a = clause-long n 0 q e in omega arith

clause-whole : (n : Numbering) (q : SaidClause) (opens : Bool) (at end number arity vars : ℕ) → end ≡ at + 8 + length (parts_bytes n q) → number ≡ look n.relations q.name → arity ≡ length q.terms → vars ≡ length n.variables →
    clause_front (end - at) number arity opens vars ++ parts_bytes n q ≡ clause_bytes (clause_in n (mark_by opens) q)
unfolding clause_bytes record_bytes
clause-whole n q opens at end number arity vars e f g h =
    let size : end - at ≡ 4 + length (look n.relations q.name ∷ length (map (term_numbered n) q.terms) ∷ mark_by opens ∷ length n.variables ∷ parts_bytes n q) = omega arith in
    rw (size, f, g, h, length-map q.terms (term_numbered n)) refl

clause-right : (q : SaidClause) (many : Bool) (right : Bool) → many ≡ leb (length (variable_names (clause_terms q))) 16 → right ≡ (leb (length q.terms) 4 && (goal_right q.guard && goal_right q.body)) → (many && right) ≡ clause_right q
unfolding clause_right
clause-right q many right e f = rw (e, f) (and-swap (leb (length (variable_names (clause_terms q))) 16) (leb (length q.terms) 4) (goal_right q.guard && goal_right q.body))

module _ (s : List ℕ) (ms : List ModeLine) (from : ℕ) (c : ClauseAt) (h : Entry) (is : ClauseIn s from (read_clause (drop from s)) c) (found : Finds ms (front (drop from s)) h) where
  abbrev q : SaidClause
  q = (read_clause (drop from s)).value

  parts_said : {a b : Rows} {w x : Reading} → TakesParts s ms a w (said_at s c) b x → TakesParts s ms a w q b x
  parts_said t = rw (← is.terms, ← is.guard, ← is.body) t

  head-fits : (eqb c.arity (unwrap_or h.arity 0) && (goal_fits true ms q.guard && goal_fits true ms q.body)) ≡ clause_fits true ms q
  unfolding clause_fits literal_fits
  head-fits = rw (is.arity, found.arity, arity-or ms (front (drop from s)), is.name) refl

  head-known : (is_some h.arity && (goal_fits false ms q.guard && goal_fits false ms q.body)) ≡ clause_fits false ms q
  unfolding clause_fits literal_fits
  head-known = rw (found.arity, arity_known ms (front (drop from s)), is.name) refl

  pub clause-taken : {o t l v : List ℕ} {w x : Reading} {b : Rows} {p : List ℕ} {y : To} (at n : ℕ) (opens : Bool) (r : Taken) → length v ≡ 17 → at ≤ 65536 →
      w ≡ starting c.terms (at + 8) n (eqb c.arity (unwrap_or h.arity 0)) (is_some h.arity) → TakesParts s ms (rows o t l v) w (said_at s c) b x →
      Writes b.out (record { at = at; named = true }) (lows (clause_front (x.at - at) h.number c.arity opens x.vars)) true p y →
      r ≡ taken_as c.next h.number c.semicolon c.right x → TakesClause s ms o t at n opens (read_clause (drop from s)) p b.consts b.links r
  clause-taken {o} {t} {l} {v} {w} {x} {b} {p} {y} at n opens r hv ha e tk f g =
      let tq = parts_said tk in
      let added : Adds s v 0 b.vars x.vars (sorted true (clause_terms q)) = rw e at tq.vars in
      let number : h.number ≡ look (mode_names ms) q.name = found.number ∙ ap (look (mode_names ms)) is.name in
      let line : TakesLine s o t at n (read_clause (drop from s)).rest (clause_terms q) (λ cs. clause_bytes (clause_in (with_vars (mode_names ms) cs q) (mark_by opens) q)) (clause_right q) (clause_fits true ms q) (clause_fits false ms q) p b.consts b.links r =
      line_taken at n c.terms (clause_front (x.at - at) h.number c.arity opens x.vars) (eqb c.arity (unwrap_or h.arity 0)) (is_some h.arity) (clause_right q) (clause_fits true ms q) (clause_fits false ms q)
      (λ cs. clause_bytes (clause_in (with_vars (mode_names ms) cs q) (mark_by opens) q)) r hv ha (omega arith) e tq f
      (λ k. (right-parts q k).vars) (λ k cs vs. parts-short (numbers_by (mode_names ms) cs vs) q k)
      (λ k many cs place. clause-whole (with_vars (mode_names ms) cs q) q opens at x.at h.number c.arity x.vars place number is.arity many)
      (ap (λ (z : Taken). drop z.end s) g ∙ is.next) (rw g is.next_in) (ap (λ (z : Taken). z.at) g) (ap (λ (z : Taken). z.consts) g)
      (ap (λ (z : Taken). z.right) g ∙ clause-right q (leb x.vars 16) c.right (vars_counted s v b.vars x.vars (clause_terms q) hv added) is.right)
      (ap (λ (z : Taken). z.fits) g) (ap (λ (z : Taken). z.declared) g) head-fits head-known in
      record {
        line = line;
        number = ap (λ (z : Taken). z.number) g ∙ number;
        semicolon = ap (λ (z : Taken). z.semicolon) g ∙ is.semicolon;
        long = λ k. line.place k [] ∙ ap (λ (j : ℕ). at + j) (clause-size (with_vars (mode_names ms) [] q) (mark_by opens) q);
      }

-- ---- the goal

ask-told : (g : List (List Said)) (many right : Bool) → many ≡ leb (length (variable_names (goal_terms g))) 16 → right ≡ goal_right g → (many && right) ≡ ask_right g
unfolding ask_right
ask-told g many right e f = rw (e, f) refl

ask-whole : (rels cs : List Name) (g : List (List Said)) (at end vars : ℕ) → end ≡ at + 5 + length (goal_bytes (goal_numbered (asking rels cs g) g)) → vars ≡ length (variable_names (goal_terms g)) →
    ask_front (end - at) vars ++ goal_bytes (goal_numbered (asking rels cs g) g) ≡ ask_with rels cs g
unfolding ask_with ask_bytes record_bytes
ask-whole rels cs g at end vars e h =
    let size : end - at ≡ 4 + length (length (variable_names (goal_terms g)) ∷ goal_bytes (goal_numbered (asking rels cs g) g)) = omega arith in
    rw (size, h) refl

pub ask-taken : {o t l v : List ℕ} {w x : Reading} {b : Rows} {p : List ℕ} {y : To} {rest : List ℕ} {m : ℕ} (s : List ℕ) (ms : List ModeLine) (from at n : ℕ) (body : Span) (r : Taken) → length v ≡ 17 → at ≤ 65536 →
    Spans s rest m (goal_right (read_body (drop from s)).value) body → w ≡ starting from (at + 5) n true true → TakesGoal s ms (rows o t l v) w (read_body (drop w.end s)) b x →
    Writes b.out (record { at = at; named = true }) (lows (ask_front (x.at - at) x.vars)) true p y →
    r ≡ taken_as x.end 0 false body.right x → TakesAsk s ms o t at n (read_body (drop from s)) p b.consts b.links r
ask-taken {o} {t} {l} {v} {w} {x} {b} s ms from at n body r hv ha span e tk f g =
    let i : w.end ≡ from = ap (λ (z : Reading). z.end) e in
    let tq : TakesGoal s ms (rows o t l v) w (read_body (drop from s)) b x = rw (← i) tk in
    let q = (read_body (drop from s)).value in
    let added : Adds s v 0 b.vars x.vars (sorted true (goal_terms q)) = rw e at tq.vars in
    line_taken at n from (ask_front (x.at - at) x.vars) true true (ask_right q) (goal_fits true ms q) (goal_fits false ms q) (λ cs. ask_with (mode_names ms) cs q) r hv ha (omega arith) e tq f
    (λ k. (ask-parts q k).0) (λ k cs vs. let z = goal-long (numbers_by (mode_names ms) cs vs) q (ask-parts q k).1 in omega arith)
    (λ k many cs place. ask-whole (mode_names ms) cs q at x.at x.vars place many)
    (ap (λ (z : Taken). drop z.end s) g ∙ tq.end) (rw g tq.inside) (ap (λ (z : Taken). z.at) g) (ap (λ (z : Taken). z.consts) g)
    (ap (λ (z : Taken). z.right) g ∙ ask-told q (leb x.vars 16) body.right (vars_counted s v b.vars x.vars (goal_terms q) hv added) span.right)
    (ap (λ (z : Taken). z.fits) g) (ap (λ (z : Taken). z.declared) g) refl refl
