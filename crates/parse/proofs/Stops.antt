-- The ways through a parse that takes its text in one pass.
use Rattle.std.specs.Prelude.{Err, Ok}
use Rattle.parlog.specs.Answer.{Answer}
use mathlib.Core.Path.{◌∙◌, ◌≡◌, ap, refl, sym}
use mathlib.Core.Bool.{◌&&◌, ◌||◌, and_assoc, Bool, false, not, true}
use mathlib.Core.List.{[], ◌++◌, append_assoc, List}
use Prim.Native.Nat.{◌+◌, ◌≤◌, suc, zero, ℕ}
use lib.ListN.{drop, drop_of_length-le, length, length-append, take}
use native.Mathlib.Omega.{arith}
use Rattle.declared_calls.specs.Declares.{all_named, declared_behind, declared_for, declared_in, Declares}
use Rattle.judge_image.specs.Judged.{relations_judged, taken}
use Rattle.judge_lines.proofs.Judging.{ask-lost, ask-taken, ask-wrong}
use Rattle.judge_lines.specs.Whole.{clauses_behind_modes}
use Rattle.judge_said.specs.Said.{ask_right, ask_said, clauses_said}
use Rattle.judge_text.specs.Tests.{Counted}
use Rattle.lay.proofs.Laws.{laid-length, laid-read, laid_then}
use Rattle.lay.specs.Lay.{laid}
use Rattle.lay_lines.specs.Fields.{clause_fits}
use Rattle.lay_lines.specs.Imaged.{ask_with, image_with}
use Rattle.lay_lines.specs.Lines.{clauses_from, modes_of}
use Rattle.lay_literal.proofs.Laid.{lows-append}
use Rattle.lay_literal.specs.Fits.{goal_fits}
use Rattle.lay_literal.specs.Lows.{lows}
use Rattle.mode_table.specs.Moded.{Moded}
use Rattle.mode_table.specs.declared.Lines.{Lines}
use Rattle.parlog.proofs.Bools.{or-none}
use Rattle.parlog.specs.Load.{after, nothing_read, refusal}
use Rattle.parlog.specs.declared.Progress.{Progress}
use Rattle.parlog.specs.declared.Refusal.{Refusal}
use Rattle.parse.proofs.Called.{constants_in, constants-room, constants-told, judged-refused, judged-taken, not-declared, taken_at}
use Rattle.parse.specs.Says.{fitted}
use Rattle.parse.specs.Ways.{ask_tested, Behind, stop_as}
use Rattle.read_names.specs.Tables.{mode_names, modes_from, names_at}
use Rattle.take_clause.specs.TakesClause.{TakesAsk}
use Rattle.take_clause.specs.declared.Taken.{Taken}
use Rattle.take_modes.specs.TakesModes.{ModesRefused, ModesTaken, said_by}
use Rattle.take_modes.specs.declared.Modes.{Modes}
use Rattle.take_term.proofs.Laws.{adds-room, extends-refl, extends-then, lows-length}
use Rattle.take_term.specs.Takes.{Extends}
use Rattle.take_text.specs.TakesText.{clauses_in, TakesClauses}
use Rattle.take_text.specs.declared.Clauses.{Clauses}
use Rattle.text_names.specs.Bytes.{skip}
use Rattle.text_names.specs.Entries.{entries}
use Rattle.text_names.specs.Names.{known, look, Name}
use Rattle.text_program.specs.Encoded.{relation_bytes}
use Rattle.text_program.specs.Numbered.{joined}
use Rattle.text_program.specs.Parsing.{all_of, declared, sourced, unread}
use Rattle.text_program.specs.Source.{behind_arrow, is_clause, is_mode_line, lines, lines_for, ModeLine, read_body, read_clause, read_mode_line, Said, source_of}

-- ---- a refusal, or 17

pub stop-yes : (d : Bool) (number at : ℕ) → d ≡ true → refusal number at ≡ stop_as d number at
stop-yes d number at h = rw h

pub stop-no : (d : Bool) (number at : ℕ) → d ≡ false → refusal 17 0 ≡ stop_as d number at
stop-no d number at h = rw h

-- no clause is left over
refused-by : (n at : ℕ) (x : Answer (ℕ × ℕ)) → (n ≡ 0 → ⊥) → said_by n at x ≡ Err (refusal n at)
refused-by zero at x h = absurd (h refl)
refused-by (suc n) at x h = refl

-- the goal behind the clauses from a place on
abbrev goal_at : List ℕ → ℕ → List (List Said)
goal_at s c = (read_body (behind_arrow (lines is_clause read_clause (drop c s)).rest)).value

-- the tests of all records
abbrev judged_in : List ℕ → ℕ → Answer (ℕ × ℕ)
judged_in s m = relations_judged (mode_names (modes_from s m)) (clauses_behind_modes s m) (modes_of (modes_from s m)) 0 nothing_read

module _ (s : List ℕ) (m c : ℕ) (a : drop m s ≡ skip s) (b : drop c s ≡ (lines is_mode_line read_mode_line (drop m s)).rest) (image names : List ℕ) where
  stop-tells : (d : Bool) (number at : ℕ) → d ≡ declared_in s m (lines is_clause read_clause (drop c s)) → judged_in s m ≡ Err (refusal number at) → unread image names (stop_as d number at) ≡ sourced image names (declared (source_of s)) (source_of s)
  stop-tells true number at e f = judged-refused s m c (goal_at s c) a b refl image names true _ _ e refl refl (refusal number at) refl f
  stop-tells false number at e f = not-declared s m c (goal_at s c) a b refl image names false _ _ e refl refl refl

  -- a mode line is refused
  pub stop-modes : {o p : List ℕ} {f : Refusal} (d : Bool) → ModesRefused s m o p f → d ≡ declared_behind s m → unread image names (stop_as d f.number f.offset) ≡ sourced image names (declared (source_of s)) (source_of s)
  stop-modes {f = f} d t e = stop-tells d f.number f.offset (e ∙ ap (λ (y : List ℕ). declared_in s m (lines is_clause read_clause y)) (sym b)) (t.said (clauses_behind_modes s m))

-- no mode line is refused
pub behind-modes : {s o p t u l : List ℕ} {m : ℕ} {r : Modes} → ModesTaken s m o p t u l r → drop m s ≡ skip s → m ≤ length s → length o ≡ 12800 → Behind s p r.lines r.rest r.at r.known
behind-modes {s} {o} {p} {m = m} {r = r} t a i z =
    record {
      start = o;
      size = z;
      row = rw t.from t.bytes;
      place = rw t.from t.place;
      said = λ next. rw t.from (t.said next);
      opening = t.opening;
      near = t.near;
      from = rw t.from a;
      from_in = rw t.from i;
      rest_in = t.inside;
      rest = rw t.from t.rest;
    }

-- and a name that is in no table has no mode line
pub all-declared : {s t a l : List ℕ} {w : Lines} → Moded s t a l w → Declares s t l (all_named s w.from w.count)
unfolding lines_for look
all-declared {s} {t} {w = w} m =
    let none : modes_from s (length s) ≡ [] = ap (λ (y : List ℕ). (lines is_mode_line read_mode_line y).value) (let h : length s ≤ length s = omega arith in drop_of_length-le s h) in
    record {
      index = m.index;
      names = λ x z. ap (λ (xs : List Name). known xs x) m.names ∙ sym (ap (λ (ms : List ModeLine). known (names_at s (take w.count t)) x || known (mode_names ms) x) none ∙ or-none (known (names_at s (take w.count t)) x));
      inside = omega arith;
    }

-- ---- all is right

err-same : {A : Type 0} {a b : Refusal} → ◌≡◌ {A = Answer A} (Err a) (Err b) → a ≡ b
err-same e = cc

never-ok : {A X : Type 0} {a : Refusal} {x : A} → ◌≡◌ {A = Answer A} (Err a) (Ok x) → X
never-ok e = absurd (let z : ◌≡◌ {A = ℕ} 0 1 = cc in omega arith)

ask-all : (d f i : Bool) (at : ℕ) → ask_tested d f i at ≡ Ok tt → (d ≡ true) × (f ≡ true) × (i ≡ true)
ask-all true true true at e = (refl, refl, refl)
ask-all true true false at e = never-ok e
ask-all true false i at e = never-ok e
ask-all false f i at e = never-ok e

not-of : (x : Bool) → x ≡ true → not x ≡ false
not-of x e = rw e

extends-told : (s ps : List ℕ) (cs : List Name) → names_at s ps ≡ cs → Extends (names_at s ps) cs
extends-told s ps cs e = rw e (extends-refl cs)

three-laid : {p q r : List ℕ} (o xs ys zs : List ℕ) (i j : ℕ) → p ≡ laid o 0 (lows xs) → i ≡ length xs → q ≡ laid p i (lows ys) → j ≡ i + length ys → r ≡ laid q j (lows zs) → r ≡ laid o 0 (lows (xs ++ (ys ++ zs)))
three-laid o xs ys zs i j e f g h k =
    let x = lows-length xs in
    let y = lows-length ys in
    let z = length-append (lows xs) (lows ys) in
    let u : i ≡ 0 + length (lows xs) = omega arith in
    let v : j ≡ 0 + length (lows xs ++ lows ys) = omega arith in
    k ∙ rw (v, g, u, e, laid_then (lows xs) (lows ys) o 0, laid_then (lows xs ++ lows ys) (lows zs) o 0, lows-append xs (ys ++ zs), lows-append ys zs) (ap (laid o 0) (append_assoc (lows xs) (lows ys) (lows zs)))

three-long : (xs ys zs : List ℕ) (i j k : ℕ) → i ≡ length xs → j ≡ i + length ys → k ≡ j + length zs → k ≡ length (xs ++ (ys ++ zs))
three-long xs ys zs i j k e f g =
    let a = length-append xs (ys ++ zs) in
    let b = length-append ys zs in
    omega arith

-- ---- mode lines that were taken, and clauses

module _ {s o : List ℕ} {w : Lines} {begin at : ℕ} {g : Progress} (b : Behind s o w begin at g) where
  pub counted : Counted g
  counted =
      let q = b.opening in
      let x = q.relations in
      let y = q.clauses in
      let z = q.kind in
      let k = q.block in
      record { relations = x; clauses = omega arith; kind = omega arith; block = omega arith }

  module _ {t p u l : List ℕ} {r : Clauses} (c : TakesClauses s (modes_from s w.from) o t begin at 0 g p u l r) where
    clauses-judged : judged_in s w.from ≡ said_by r.number r.at (after taken r.at (ask_said (modes_from s w.from) r.known (goal_at s begin)))
    clauses-judged =
        b.said (clauses_behind_modes s w.from)
        ∙ ap (λ (y : List ℕ). clauses_said (modes_from s w.from) (λ k h. after taken k (ask_said (modes_from s w.from) h (read_body (behind_arrow (lines is_clause read_clause y).rest)).value)) false [] (lines is_clause read_clause y).value at g) (sym b.rest)
        ∙ c.said (λ k h. after taken k (ask_said (modes_from s w.from) h (goal_at s begin)))

    left-asked : (r.declared && declared_for s w.from r.end r.left) ≡ declared_in s w.from (lines is_clause read_clause (drop begin s))
    left-asked =
        let y = lines_for r.left is_clause read_clause (drop r.end s) in
        sym (and_assoc r.declared (all_of (clause_fits false (modes_from s w.from)) y.value) (goal_fits false (modes_from s w.from) (read_body (behind_arrow y.rest)).value))
        ∙ rw (c.declared, c.rest) refl

    -- a clause is refused
    pub stop-clauses : (image names : List ℕ) (d e : Bool) → (r.number ≡ 0 → ⊥) → e ≡ declared_for s w.from r.end r.left → d ≡ (r.declared && e) →
        unread image names (stop_as d r.number r.at) ≡ sourced image names (declared (source_of s)) (source_of s)
    stop-clauses image names d e h told is =
        stop-tells s w.from begin b.from b.rest image names d r.number r.at (is ∙ ap (λ (y : Bool). r.declared && y) told ∙ left-asked) (clauses-judged ∙ refused-by r.number r.at _ h)

    module _ (none : r.number ≡ 0) (q : ℕ) (arrow : drop q s ≡ behind_arrow (drop r.end s)) where
      goal-is : goal_at s begin ≡ (read_body (drop q s)).value
      goal-is = ap (λ (y : List ℕ). (read_body y).value) (sym (arrow ∙ ap behind_arrow (c.done none)))

      all-judged : judged_in s w.from ≡ after taken r.at (ask_said (modes_from s w.from) r.known (read_body (drop q s)).value)
      all-judged = clauses-judged ∙ rw (none, goal-is) refl

      module _ {p' u' l' : List ℕ} {x : Taken} (k : TakesAsk s (modes_from s w.from) p u r.at r.consts (read_body (drop q s)) p' u' l' x) (d : Bool) (known : d ≡ (r.declared && x.declared)) (image names : List ℕ) where
        known_is : d ≡ (all_of (clause_fits false (modes_from s w.from)) (clauses_from s begin) && goal_fits false (modes_from s w.from) (read_body (drop q s)).value)
        known_is = known ∙ rw (c.all none, k.declared) refl

        -- the goal is refused, or a call has no mode line
        pub ask-refused : (z : Refusal) → ask_tested d x.right x.fits r.at ≡ Err z → unread image names z ≡ sourced image names (declared (source_of s)) (source_of s)
        ask-refused z e = go d x.right x.fits known_is k.right k.fits e
          where
            go : (d f i : Bool) → d ≡ (all_of (clause_fits false (modes_from s w.from)) (clauses_from s begin) && goal_fits false (modes_from s w.from) (read_body (drop q s)).value) →
                f ≡ ask_right (read_body (drop q s)).value → i ≡ goal_fits true (modes_from s w.from) (read_body (drop q s)).value → ask_tested d f i r.at ≡ Err z →
                unread image names z ≡ sourced image names (declared (source_of s)) (source_of s)
            go false f i e1 e2 e3 e4 = rw (← err-same e4) (not-declared s w.from begin (read_body (drop q s)).value b.from b.rest (sym goal-is) image names false _ _ e1 refl refl refl)
            go true false i e1 e2 e3 e4 =
                rw (← err-same e4) (judged-refused s w.from begin (read_body (drop q s)).value b.from b.rest (sym goal-is) image names true _ _ e1 refl refl (refusal 4 r.at) refl
                (all-judged ∙ sym (ask-wrong (modes_from s w.from) r.known (read_body (drop q s)).value r.at c.counted false e2 refl)))
            go true true false e1 e2 e3 e4 =
                rw (← err-same e4) (judged-refused s w.from begin (read_body (drop q s)).value b.from b.rest (sym goal-is) image names true _ _ e1 refl refl (refusal 5 r.at) refl
                (all-judged ∙ sym (ask-lost (modes_from s w.from) r.known (read_body (drop q s)).value r.at c.counted true e2 false e3 refl refl)))
            go true true true e1 e2 e3 e4 = never-ok (sym e4)

        -- all is right, so the row has the image and the table has the constants
        pub record Whole : Type 0 where
          pub tells : fitted image names (take x.at p') (entries (mode_names (modes_from s w.from)) ++ entries (names_at s (take x.consts u'))) ≡ sourced image names (declared (source_of s)) (source_of s)
          pub in_row : x.at ≤ length p'
          pub in_table : x.consts ≤ length u'

        pub all-taken : ask_tested d x.right x.fits r.at ≡ Ok tt → length t ≡ 4385 → Whole
        unfolding image_with
        all-taken e long =
            let f = ask-all d x.right x.fits r.at e in
            let m = w.from in
            let ms = modes_from s m in
            let G = (read_body (drop q s)).value in
            let j = all-judged ∙ sym (ask-taken ms r.known G r.at c.counted x.right k.right x.fits k.fits (not-of x.right f.1) (not-of x.fits f.2)) in
            let ta = taken_at s m begin G b.from b.rest (sym goal-is) _ _ j in
            let told = constants-told s t u u' begin r.consts x.consts G long ta.few (c.consts none) k.consts in
            let room = constants-room s t u u' begin r.consts x.consts G long ta.few (c.consts none) k.consts in
            let cs = constants_in s begin G in
            let ext = extends-told s (take x.consts u') cs told in
            let ext2 = extends-then k.consts cs room ext in
            let right = sym k.right ∙ f.1 in
            let A = joined relation_bytes (modes_of ms) in
            let B = clauses_in s ms begin cs in
            let C = ask_with (mode_names ms) cs G in
            let row : p' ≡ laid b.start 0 (lows (A ++ (B ++ C))) =
            three-laid b.start A B C at r.at b.row b.place (c.bytes none (adds-room k.consts (c.consts none).inside room) cs ext2) (c.place none cs) (k.bytes right room cs ext) in
            let end : x.at ≡ length (A ++ (B ++ C)) = three-long A B C at r.at x.at b.place (c.place none cs) (k.place right cs) in
            let short = ta.short in
            let z = b.size in
            let y = lows-length (A ++ (B ++ C)) in
            let v = ap length row in
            let n = laid-length (lows (A ++ (B ++ C))) b.start 0 in
            let fit : length (lows (A ++ (B ++ C))) ≤ length b.start = omega arith in
            let bytes : take x.at p' ≡ lows (A ++ (B ++ C)) = rw (end, row, ← y) (laid-read (lows (A ++ (B ++ C))) b.start fit) in
            record {
              tells = rw (bytes, told) (judged-taken s m begin G b.from b.rest (sym goal-is) image names d _ _ known_is refl refl (not-of d f.0) _ _ j);
              in_row = omega arith;
              in_table = omega arith;
            }
