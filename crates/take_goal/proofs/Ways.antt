-- The ways through the takers of literals, stages and goals.
use mathlib.Core.Path.{◌∙◌, ◌≡◌, ap, refl, sym}
use mathlib.Core.Bool.{◌&&◌, ◌||◌, Bool, false, true}
use mathlib.Core.List.{[], ◌++◌, ◌∷◌, append-nil, List, map}
use Prim.Native.Nat.{◌+◌, ◌≤◌, ℕ}
use lib.Dec.{eqb}
use lib.ListN.{drop, get_or, length, length-map}
use borrow.Author.Tests.{eq-eqb, ne_eqb}
use native.Mathlib.Omega.{arith}
use Rattle.lay.proofs.Laws.{laid-length}
use Rattle.lay.specs.Lay.{laid}
use Rattle.lay_literal.proofs.Laid.{joined-map}
use Rattle.lay_literal.specs.Fits.{goal_fits, stage_fits}
use Rattle.lay_literal.specs.Lows.{literal_fits, lows}
use Rattle.lay_text.specs.Laying.{capped, most, Writes}
use Rattle.lay_text.specs.declared.To.{To}
use Rattle.read_names.proofs.Lined.{arity_known, arity-or}
use Rattle.std.specs.Prelude.{is_some, Option, unwrap_or}
use Rattle.read_names.specs.Tables.{Finds, mode_names}
use Rattle.read_names.specs.declared.Entry.{Entry}
use Rattle.take_goal.specs.TakesGoal.{TakesEquality, TakesGoal, TakesLiteral, TakesStage}
use Rattle.take_goal.specs.Turns.{Puts, TakesLiterals, TakesStages}
use Rattle.take_term.proofs.Laws.{lows-length, takes-after, takes-as, takes-counted, takes-flags, takes-from, takes-then, takes-to, takes-writes}
use Rattle.take_term.specs.Takes.{flagged, moved, numbers_by, Ready, relaid, Rows, rows, stands, Takes, TakesTerm, TakesTerms}
use Rattle.take_term.specs.declared.Reading.{Reading}
use Rattle.text_names.proofs.Rest.{first-at}
use Rattle.text_names.specs.Bytes.{front, next, past}
use Rattle.text_names.specs.Names.{Name}
use Rattle.text_program.specs.Encoded.{goal_bytes, literal_bytes, stage_bytes, term_bytes}
use Rattle.text_program.specs.Numbered.{goal_numbered, joined, literal_numbered, Numbering, term_numbered}
use Rattle.text_program.specs.Parsing.{all_of}
use Rattle.text_program.specs.Source.{calls, equals, Got, literal_by, ModeLine, read_body, read_brackets, Reader, read_goal, read_literal, read_term, row, Said}

-- ---- a number laid

-- a place to write at
abbrev to : ℕ → To
to at = record { at = at; named = true }

writes_byte : {o p : List ℕ} {at : ℕ} (n : ℕ) → length o ≤ most → p ≡ laid o at (lows (n ∷ [])) → Writes o (to at) (lows (n ∷ [])) true p (to (capped (at + 1)))
writes_byte {o} {p} {at} n h e =
    record { row = e; place = ap (λ (k : ℕ). capped (at + k)) (sym (lows-length (n ∷ []))); named = refl; small = h; size = ap length e ∙ laid-length (lows (n ∷ [])) o at }

pub puts-told : {o p : List ℕ} (w : Reading) (n : ℕ) (next : To) → Writes o (to w.at) (lows (n ∷ [])) true p next → Puts o w n p (stands w w.end w.count next.at)
puts-told w n next v =
    record { row = v.row; state = ap (λ (k : ℕ). stands w w.end w.count k) (v.place ∙ ap (λ (k : ℕ). capped (w.at + k)) (lows-length (n ∷ []))); small = v.small; size = v.size }

module _ {o p : List ℕ} {w x : Reading} {n : ℕ} (f : Puts o w n p x) where
  puts-end : x.end ≡ w.end
  puts-end = ap (λ (r : Reading). r.end) f.state

  module _ {s t l v : List ℕ} {rest : List ℕ} {items : ℕ} {terms : List Name} {bs : List Name → List Name → List ℕ} {g k : Bool} {b : Rows} {y : Reading} where
    -- a number laid, and a taker behind it
    puts-before : Takes s (rows p t l v) x rest items terms bs g k b y → Takes s (rows o t l v) w rest items terms (λ cs vs. n ∷ bs cs vs) g k b y
    puts-before u = takes-after w.end w.count (n ∷ []) (writes_byte n f.small f.row) refl f.state u

    -- which starts from another place of the text
    puts_moved : {z : Reading} (e m : ℕ) → z ≡ moved x e m → Takes s (rows p t l v) z rest items terms bs g k b y → Takes s (rows o t l v) w rest items terms (λ cs vs. n ∷ bs cs vs) g k b y
    puts_moved e m h u = takes-after e m (n ∷ []) (writes_byte n f.small f.row) refl (h ∙ ap (λ (r : Reading). moved r e m) f.state) u

-- a number laid over the one that stood in for it
takes-number : {s : List ℕ} {a : Rows} {w : Reading} {rest : List ℕ} {items : ℕ} {terms : List Name} {bs : List Name → List Name → List ℕ} {g k : Bool} {b : Rows} {x : Reading} {p : List ℕ} (n : ℕ) →
    Takes s a w rest items terms (λ cs vs. 0 ∷ bs cs vs) g k b x → p ≡ laid b.out w.at (lows (n ∷ [])) → Takes s a w rest items terms (λ cs vs. n ∷ bs cs vs) g k (relaid b p) x
takes-number n t e =
    let m = t.small in
    let z = t.size in
    takes-counted 0 n t (writes_byte n (omega arith) e) refl

-- ---- literals

bytes-equality : (n : Numbering) (a b : Name) → 255 ∷ 2 ∷ (term_bytes (term_numbered n a) ++ term_bytes (term_numbered n b)) ≡ literal_bytes (literal_numbered n (equals a b))
unfolding literal_bytes joined
bytes-equality n a b = rw (append-nil (term_bytes (term_numbered n b)))

bytes-call : (n : Numbering) (p : Name) (ts : List Name) (r k : ℕ) → r ≡ (literal_numbered n (calls p ts)).rel → k ≡ length ts → r ∷ k ∷ joined term_bytes (map (term_numbered n) ts) ≡ literal_bytes (literal_numbered n (calls p ts))
unfolding literal_bytes
bytes-call n p ts r k e f = rw (e, f, length-map ts (term_numbered n))

-- a term at a place that is told otherwise
term-at : {s : List ℕ} {a : Rows} {w : Reading} {b : Rows} {x : Reading} (y : List ℕ) → drop w.end s ≡ y → TakesTerm s a w b x → (rels : List Name) →
    Takes s a w (past y) x.count (front y ∷ []) (λ cs vs. term_bytes (term_numbered (numbers_by rels cs vs) (front y))) true true b x
term-at y e t rels = rw (← e) (t rels)

module _ {s t l v : List ℕ} {o p q : List ℕ} {w x y : Reading} where
  pub take-equality : {z d u r : Reading} {b c : Rows} (f : ℕ) → Puts o w 255 p x → Puts p x 2 q y → TakesTerm s (rows q t l v) y b z → drop f s ≡ next (drop z.end s) → d ≡ moved z f 2 → TakesTerm s b d c u → r ≡ moved u u.end 2 →
      TakesEquality s (rows o t l v) w (literal_by true (drop w.end s)) c r
  unfolding read_term literal_fits
  take-equality {z} {d} {u} f g h i e j k m ms =
      let here : drop y.end s ≡ drop w.end s = ap (λ (n : ℕ). drop n s) (puts-end h ∙ puts-end g) in
      let first = term-at (drop w.end s) here i (mode_names ms) in
      let there : drop d.end s ≡ next (past (drop w.end s)) = ap (λ (n : Reading). drop n.end s) j ∙ e ∙ ap next first.end in
      let second = term-at (next (past (drop w.end s))) there k (mode_names ms) in
      let both = puts-before g (puts-before h (takes-then first (takes-from f 2 j second))) in
      takes-as refl refl refl (λ cs vs. bytes-equality (numbers_by (mode_names ms) cs vs) (front (drop w.end s)) (front (next (past (drop w.end s))))) refl refl
      (takes-to u.end 2 m second.end second.inside both)

  pub take-call : {z d : Reading} {b : Rows} {r : List ℕ} (ms : List ModeLine) (entry : Entry) (behind most : ℕ) (some : Bool) → most ≡ unwrap_or entry.arity 0 → some ≡ is_some entry.arity → Finds ms (front (drop w.end s)) entry → drop behind s ≡ past (drop w.end s) →
      Puts o w entry.number p x → Puts p x 0 q y → d ≡ moved y behind 0 → TakesTerms s (rows q t l v) d (read_brackets read_term (drop d.end s)) b z → r ≡ laid b.out x.at (lows (z.count ∷ [])) →
      TakesLiteral s ms (rows o t l v) w (literal_by false (drop w.end s)) (relaid b r) (flagged z (z.fits && eqb z.count most) (z.declared && some))
  unfolding literal_fits
  take-call {z} {d} {b} {r} ms entry behind most some mi si found e g h j k m =
      let there : drop d.end s ≡ past (drop w.end s) = ap (λ (c : Reading). drop c.end s) j ∙ e in
      let ts = (read_brackets read_term (past (drop w.end s))).value in
      let inner : Takes s (rows q t l v) d (read_brackets read_term (past (drop w.end s))).rest (length ts) ts (λ cs vs. joined term_bytes (map (term_numbered (numbers_by (mode_names ms) cs vs)) ts)) true true b z = rw (← there) (k (mode_names ms)) in
      let all = takes-flags (eqb z.count most) some (z.fits && eqb z.count most) (z.declared && some) refl refl refl (puts-before g (takes-number z.count (puts_moved h behind 0 j inner) m)) in
      takes-as refl refl refl (λ cs vs. bytes-call (numbers_by (mode_names ms) cs vs) (front (drop w.end s)) ts entry.number z.count found.number inner.count)
      (rw (inner.count, mi, found.arity, arity-or ms (front (drop w.end s))) refl) (si ∙ ap (λ (a : Option ℕ). is_some a) found.arity ∙ arity_known ms (front (drop w.end s))) all

module _ (s : List ℕ) (at p b : ℕ) (behind : drop p s ≡ past (drop at s)) (is : b ≡ get_or s p 0) where
  mark-told : get_or (past (drop at s)) 0 0 ≡ b
  mark-told = ap (λ (y : List ℕ). get_or y 0 0) (sym behind) ∙ first-at s p ∙ sym is

  pub is-equality : b ≡ 61 → literal_by true (drop at s) ≡ read_literal (drop at s)
  unfolding read_literal
  is-equality h = ap (λ (c : Bool). literal_by c (drop at s)) (sym (ap (λ (n : ℕ). eqb n 61) mark-told ∙ eq-eqb b 61 h))

  pub is_call : (b ≡ 61 → ⊥) → literal_by false (drop at s) ≡ read_literal (drop at s)
  unfolding read_literal
  is_call h = ap (λ (c : Bool). literal_by c (drop at s)) (sym (ap (λ (n : ℕ). eqb n 61) mark-told ∙ ne_eqb b 61 h))

pub literal-as : {s : List ℕ} (ms : List ModeLine) {a : Rows} {w : Reading} {g h : Got Said} {b : Rows} {x : Reading} → g ≡ h → TakesLiteral s ms a w g b x → TakesLiteral s ms a w h b x
literal-as ms e t = rw (← e) t

-- ---- stages and goals

bytes-stage : (n : Numbering) (st : List Said) (k : ℕ) → k ≡ length st → k ∷ joined (λ (l : Said). literal_bytes (literal_numbered n l)) st ≡ stage_bytes (map (literal_numbered n) st)
unfolding stage_bytes
bytes-stage n st k e = rw (e, length-map st (literal_numbered n), joined-map literal_bytes (literal_numbered n) st)

bytes-goal : (n : Numbering) (g : List (List Said)) (k : ℕ) → k ≡ length g → k ∷ joined (λ (st : List Said). stage_bytes (map (literal_numbered n) st)) g ≡ goal_bytes (goal_numbered n g)
unfolding goal_bytes
bytes-goal n g k e = rw (e, length-map g (map (literal_numbered n)), joined-map stage_bytes (map (literal_numbered n)) g)

module _ {s t l v : List ℕ} {o p q : List ℕ} {w x y : Reading} {b : Rows} (ms : List ModeLine) where
  pub take-stage : (read : Reader (List Said)) → Puts o w 0 p x → TakesLiterals s ms (rows p t l v) x (read (drop x.end s)) b y → q ≡ laid b.out w.at (lows (y.count ∷ [])) →
      TakesStage s ms (rows o t l v) w (read (drop w.end s)) (relaid b q) y
  unfolding stage_fits
  take-stage read f u e =
      let g = read (drop w.end s) in
      let inner : TakesLiterals s ms (rows p t l v) x g b y = rw (← puts-end f) u in
      takes-as refl refl refl (λ cs vs. bytes-stage (numbers_by (mode_names ms) cs vs) g.value y.count inner.count) refl refl (takes-number y.count (puts-before f inner) e)

  pub take-goal : (read : Reader (List (List Said))) → Puts o w 0 p x → TakesStages s ms (rows p t l v) x (read (drop x.end s)) b y → q ≡ laid b.out w.at (lows (y.count ∷ [])) →
      TakesGoal s ms (rows o t l v) w (read (drop w.end s)) (relaid b q) y
  unfolding goal_fits
  take-goal read f u e =
      let g = read (drop w.end s) in
      let inner : TakesStages s ms (rows p t l v) x g b y = rw (← puts-end f) u in
      takes-as refl refl refl (λ cs vs. bytes-goal (numbers_by (mode_names ms) cs vs) g.value y.count inner.count) refl refl (takes-number y.count (puts-before f inner) e)

-- a goal is a row of rows
pub goal-row : {s : List ℕ} (ms : List ModeLine) {a : Rows} {w : Reading} {b : Rows} {x : Reading} → TakesGoal s ms a w (row (row read_literal 44) 38 (drop w.end s)) b x → TakesGoal s ms a w (read_goal (drop w.end s)) b x
unfolding read_goal
goal-row ms u = u

module _ {s t l v : List ℕ} {o : List ℕ} {w : Reading} (ms : List ModeLine) (mark : ℕ) (is : mark ≡ get_or s w.end 0) where
  pub body-none : {p : List ℕ} {x y : Reading} → (eqb mark 46 || eqb mark 59) ≡ true → Ready s (rows o t l v) w → x ≡ moved w w.end 0 → Puts o x 0 p y → TakesGoal s ms (rows o t l v) w (read_body (drop w.end s)) (rows p t l v) y
  unfolding read_body goal_bytes joined goal_fits all_of
  body-none {x = x} h r e f =
      rw (first-at s w.end, ← is, h)
      (takes-writes w.end 0 (0 ∷ []) r (writes_byte 0 f.small f.row) (ap (λ (z : Reading). z.at) e) (f.state ∙ ap (λ (z : Reading). stands z z.end z.count (capped (x.at + 1))) e) refl r.inside)

  pub body-some : {b : Rows} {y : Reading} → (eqb mark 46 || eqb mark 59) ≡ false → TakesGoal s ms (rows o t l v) w (read_goal (drop w.end s)) b y → TakesGoal s ms (rows o t l v) w (read_body (drop w.end s)) b y
  unfolding read_body
  body-some h u = rw (first-at s w.end, ← is, h) u
