-- The ways through a parse.
use Rattle.parlog.specs.Answer.{Answer}
use Rattle.std.specs.Prelude.{Err, Ok}
use mathlib.Core.Path.{◌∙◌, ◌≡◌, ap, refl, sym}
use mathlib.Core.Bool.{◌&&◌, ◌||◌, Bool, false, not, true}
use mathlib.Core.List.{[], ◌++◌, ◌∷◌, append_assoc, List}
use Prim.Native.Nat.{◌<◌, ◌≤◌, ℕ}
use lib.Dec.{leb, ltb}
use lib.ListN.{drop, length, length-append, take}
use lib.Seq.{length-take-le, take_all}
use borrow.Author.Tests.{le-leb, le-ltb, lt-leb, ltb-false, ltb-true, not-false, not-true}
use native.Mathlib.Omega.{arith}
use native.Mathlib.Nat.{zero-add}
use Rattle.judge_image.specs.Judged.{relations_judged, taken}
use Rattle.judge_lines.specs.Whole.{clauses_behind_modes}
use Rattle.judge_said.proofs.Clauses.{goal-few}
use Rattle.judge_said.proofs.Told.{numbered-with, records-said, ask-parts}
use Rattle.judge_said.specs.Said.{ask_right, ask_said, clauses_said}
use Rattle.lay.proofs.Laws.{laid-start}
use Rattle.lay_lines.specs.Fields.{clause_fits}
use Rattle.lay_lines.specs.Imaged.{ask_with, image_with}
use Rattle.lay_lines.specs.Lines.{clause_right, clauses_from, modes_of, modes_right}
use Rattle.lay_literal.specs.Fits.{goal_fits, stage_fits}
use Rattle.lay_literal.specs.Lows.{literal_fits, lows}
use Rattle.lay_text.proofs.Laws.{capped-below, capped-in, capped-under, writes-both}
use Rattle.lay_text.specs.Laying.{capped, most, Writes}
use Rattle.lay_text.specs.declared.To.{To}
use Rattle.parlog.proofs.Bools.{and-true, or-false}
use Rattle.parlog.specs.Load.{after, long, nothing_read, refusal}
use Rattle.parlog.specs.Tables.{written}
use Rattle.parlog.specs.declared.Refusal.{Refusal}
use Rattle.parse.specs.Says.{fitted, fitted_by, ParseSays, Tells}
use Rattle.read_names.proofs.Tabled.{adds_then, names-length, sorted-append}
use Rattle.read_names.specs.Tables.{Adds, mode_names, modes_from, names_at, sorted}
use Rattle.spell.specs.Stuck.{spelling_of}
use Rattle.text_names.proofs.Added.{adds-length}
use Rattle.text_names.specs.Bytes.{skip}
use Rattle.text_names.specs.Entries.{entries}
use Rattle.text_names.specs.Names.{adds, Name}
use Rattle.text_program.proofs.Joined.{lowers-length}
use Rattle.text_program.specs.Encoded.{program_bytes}
use Rattle.text_program.specs.Numbered.{clause_terms, constant_names, goal_terms, joined, lowers, program_in, relation_names}
use Rattle.text_program.specs.Parsing.{all_of, clause_declared, declared, fitting, goal_declared, image_in, literal_declared, names_in, not_long, ParseCall, parse_call, records_in, sourced, unread}
use Rattle.text_program.specs.Source.{behind_arrow, calls, equals, is_clause, is_mode_line, lines, ModeLine, read_body, read_clause, read_mode_line, Said, SaidClause, Source, source_of}
use Rattle.text_taken.proofs.Low.{low-image}
use Rattle.text_taken.proofs.Taken.{ask-taken, clauses-taken, image-long, modes-taken, terms-few}

-- the constants of clauses from place c on and of a goal
abbrev pub constants_in : List ℕ → ℕ → List (List Said) → List Name
constants_in s c g = adds [] (lowers (joined clause_terms (clauses_from s c) ++ goal_terms g))

-- a call told by its parts
pub tells : {call call' : ParseCall} → call ≡ call' → Tells call' call.answer call.image call.names
tells e = record { answers = ap (λ (k : ParseCall). k.answer) e; imaged = ap (λ (k : ParseCall). k.image) e; named = ap (λ (k : ParseCall). k.names) e }

-- ---- places

module _ (image names bs es : List ℕ) where
  pub no_room : (x y : ℕ) (short : Bool) → x ≡ capped (length bs) → y ≡ capped (length es) → short ≡ (ltb (length image) x || ltb (length names) y) → short ≡ true → unread image names (refusal 11 0) ≡ fitted image names bs es
  unfolding fitted
  no_room x y short e f h s = go (ltb (length image) x) refl (ltb (length names) y) refl (sym h ∙ s)
    where
      never : (z : Bool) → unread image names (refusal 11 0) ≡ fitted_by (z && false) image names bs es
      never true = refl
      never false = refl

      go : (a : Bool) → ltb (length image) x ≡ a → (b : Bool) → ltb (length names) y ≡ b → (a || b) ≡ true → unread image names (refusal 11 0) ≡ fitted_by (leb (length bs) (length image) && leb (length es) (length names)) image names bs es
      go true p b q r = rw (lt-leb (length bs) (length image) (let u = ltb-true (length image) x p in let v = capped-below (length bs) in omega arith)) refl
      go false p true q r = rw (lt-leb (length es) (length names) (let u = ltb-true (length names) y q in let v = capped-below (length es) in omega arith)) (never (leb (length bs) (length image)))
      go false p false q r = absurd (let z : ◌≡◌ {A = ℕ} 0 1 = cc in omega arith)

-- a row that was written from its start
laid-whole : {o p : List ℕ} {w x : To} {ok : Bool} (bs : List ℕ) → w.at ≡ 0 → length bs ≤ length o → length o < most → Writes o w bs ok p x → (p ≡ written bs o) × (x.at ≡ length bs)
unfolding written
laid-whole {o} {p} {w} {x} {ok} bs e h l v =
    (v.row ∙ rw e (laid-start bs o h), v.place ∙ rw e (ap capped (zero-add (length bs)) ∙ capped-in (length bs) (omega arith)))

pub size-told : (x n : ℕ) → x ≡ n → x < most → x ≡ capped n
size-told x n e h = e ∙ sym (capped-in n (omega arith))

pub measured-at : {o p : List ℕ} {w x : To} {ok : Bool} (bs : List ℕ) → w.at ≡ 0 → Writes o w bs ok p x → x.at ≡ capped (length bs)
measured-at bs e v = v.place ∙ rw e (ap capped (zero-add (length bs)))

module _ {image names i n1 n2 : List ℕ} {w e f g : To} {ok : Bool} (bs ks ls : List ℕ) where
  pub room : (x y : ℕ) (short : Bool) → w.at ≡ 0 → x ≡ capped (length bs) → y ≡ capped (length (ks ++ ls)) → short ≡ (ltb (length image) x || ltb (length names) y) → short ≡ false → length image < most → length names < most →
      Writes image w bs ok i e → Writes names w ks true n1 f → Writes n1 f ls true n2 g → record { answer = Ok (e.at, g.at); image = i; names = n2 } ≡ fitted image names bs (ks ++ ls)
  unfolding fitted
  room x y short z p q h s l k a b c =
      let u = or-false (ltb (length image) x) (ltb (length names) y) (sym h ∙ s) in
      let u0 = ltb-false (length image) x u.0 in
      let u1 = ltb-false (length names) y u.1 in
      let v0 : length bs ≤ length image = capped-under (length bs) (length image) (omega arith) l in
      let v1 : length (ks ++ ls) ≤ length names = capped-under (length (ks ++ ls)) (length names) (omega arith) k in
      let r = laid-whole bs z v0 l a in
      let t = laid-whole (ks ++ ls) z v1 k (writes-both b c) in
      rw (le-leb (length bs) (length image) v0, le-leb (length (ks ++ ls)) (length names) v1, r.0, r.1, t.0, t.1) refl

-- ---- the constants

low-sort : (ts : List Name) → sorted false ts ≡ lowers ts
unfolding sorted
low-sort ts = refl

module _ (s t u v : List ℕ) (c n k : ℕ) (g : List (List Said)) (l : length t ≡ 4385) (few : length (joined clause_terms (clauses_from s c) ++ goal_terms g) ≤ 4384)
    (a : Adds s t 0 u n (sorted false (joined clause_terms (clauses_from s c)))) (b : Adds s u n v k (sorted false (goal_terms g))) where
  pub constants-told : names_at s (take k v) ≡ constants_in s c g
  unfolding names_at
  constants-told =
      let j = joined clause_terms (clauses_from s c) in
      let d = adds_then (sorted false j) (sorted false (goal_terms g)) a b in
      let h = adds-length (lowers (j ++ goal_terms g)) [] in
      let m = lowers-length (j ++ goal_terms g) in
      d.names ∙ ap (λ (y : List Name). take (length t) (adds [] y)) (sym (sorted-append false j (goal_terms g)) ∙ low-sort (j ++ goal_terms g)) ∙ rw l (take_all 4385 (adds [] (lowers (j ++ goal_terms g))) (omega arith))

  -- the table is not full
  pub constants-room : k < length v
  unfolding names_at
  constants-room =
      let j = joined clause_terms (clauses_from s c) in
      let h = adds-length (lowers (j ++ goal_terms g)) [] in
      let m = lowers-length (j ++ goal_terms g) in
      let e = ap (λ (y : List Name). length y) constants-told in
      let f = names-length s (take k v) in
      let i = length-take-le k v b.inside in
      let z = a.size in
      let y = b.size in
      omega arith

-- ---- the source by its places

-- what is said in three parts of a text
abbrev said_in : List ℕ → List ℕ → List (List Said) → Source
said_in x y z = record { modes = (lines is_mode_line read_mode_line x).value; clauses = (lines is_clause read_clause y).value; goal = z }

said-whole : (s : List ℕ) → source_of s ≡ said_in (skip s) (lines is_mode_line read_mode_line (skip s)).rest (read_body (behind_arrow (lines is_clause read_clause (lines is_mode_line read_mode_line (skip s)).rest).rest)).value
unfolding source_of
said-whole s = refl

fits-literal : (ms : List ModeLine) (l : Said) → literal_fits false ms l ≡ literal_declared (mode_names ms) l
unfolding literal_fits
fits-literal ms (calls p ts) = refl
fits-literal ms (equals a b) = refl

all_same : {A : Type 0} (p q : A → Bool) → ((x : A) → p x ≡ q x) → (xs : List A) → all_of p xs ≡ all_of q xs
unfolding all_of
all_same p q h [] = refl
all_same p q h (x ∷ xs) = rw (h x, all_same p q h xs)

fits-goal : (ms : List ModeLine) (g : List (List Said)) → goal_fits false ms g ≡ goal_declared (mode_names ms) g
unfolding goal_fits stage_fits
fits-goal ms g = all_same (all_of (literal_fits false ms)) (all_of (literal_declared (mode_names ms))) (all_same (literal_fits false ms) (literal_declared (mode_names ms)) (fits-literal ms)) g

fits-clause : (ms : List ModeLine) (c : SaidClause) → clause_fits false ms c ≡ clause_declared (mode_names ms) c
unfolding clause_fits literal_fits
fits-clause ms c = rw (fits-goal ms c.guard, fits-goal ms c.body) refl

entries-append : (xs ys : List Name) → entries (xs ++ ys) ≡ entries xs ++ entries ys
unfolding entries
entries-append [] ys = refl
entries-append (x ∷ xs) ys = rw (entries-append xs ys) (ap (λ (l : List ℕ). x ++ l) refl ∙ sym (append_assoc x (10 ∷ entries xs) (entries ys)))

fitted-fitting : (image names : List ℕ) (p : Source) (bs es : List ℕ) → image_in p ≡ bs → names_in p ≡ es → long bs ≡ false → fitted image names bs es ≡ not_long image names (long (image_in p)) p
unfolding fitted
fitted-fitting image names p bs es e f l =
    go (leb (length bs) (length image) && leb (length es) (length names))
    ∙ sym (ap (λ (k : Bool). not_long image names k p) (ap long e ∙ l) ∙ ap (λ (k : Bool). fitting image names k p) (ap (λ (x : List ℕ). leb (length x) (length image) && leb (length (names_in p)) (length names)) e ∙ ap (λ (x : List ℕ). leb (length bs) (length image) && leb (length x) (length names)) f))
  where
    go : (b : Bool) → fitted_by b image names bs es ≡ fitting image names b p
    go true = rw (e, f) refl
    go false = refl

module _ (s : List ℕ) (m c : ℕ) (g : List (List Said)) (a : drop m s ≡ skip s) (b : drop c s ≡ (lines is_mode_line read_mode_line (drop m s)).rest) (d : g ≡ (read_body (behind_arrow (lines is_clause read_clause (drop c s)).rest)).value) where
  -- what the text says
  abbrev source_at : Source
  source_at = record { modes = modes_from s m; clauses = clauses_from s c; goal = g }

  source_told : source_of s ≡ source_at
  source_told =
      said-whole s
      ∙ ap (λ (x : List ℕ). said_in x (lines is_mode_line read_mode_line x).rest (read_body (behind_arrow (lines is_clause read_clause (lines is_mode_line read_mode_line x).rest).rest)).value) (sym a)
      ∙ ap (λ (y : List ℕ). said_in (drop m s) y (read_body (behind_arrow (lines is_clause read_clause y).rest)).value) (sym b)
      ∙ ap (λ (z : List (List Said)). said_in (drop m s) (drop c s) z) (sym d)

  declared-told : (all_of (clause_fits false (modes_from s m)) (clauses_from s c) && goal_fits false (modes_from s m) g) ≡ declared source_at
  unfolding declared
  declared-told = rw (all_same (clause_fits false (modes_from s m)) (clause_declared (mode_names (modes_from s m))) (fits-clause (modes_from s m)) (clauses_from s c), fits-goal (modes_from s m) g) refl

  records-told : declared source_at ≡ true → relations_judged (mode_names (modes_from s m)) (clauses_behind_modes s m) (modes_of (modes_from s m)) 0 nothing_read ≡ records_in (relation_names source_at) (image_in source_at)
  records-told e =
      ap (λ (y : List ℕ). relations_judged (mode_names (modes_from s m)) (clauses_said (modes_from s m) (λ at g. after taken at (ask_said (modes_from s m) g (read_body (behind_arrow (lines is_clause read_clause y).rest)).value)) false [] (lines is_clause read_clause y).value) (modes_of (modes_from s m)) 0 nothing_read) (sym b)
      ∙ ap (λ (z : List (List Said)). relations_judged (mode_names (modes_from s m)) (clauses_said (modes_from s m) (λ at h. after taken at (ask_said (modes_from s m) h z)) false [] (clauses_from s c)) (modes_of (modes_from s m)) 0 nothing_read) (sym d)
      ∙ sym (records-said source_at e)

  module _ (image names : List ℕ) (known x y : Bool) (is : known ≡ (x && y)) (xs : x ≡ all_of (clause_fits false (modes_from s m)) (clauses_from s c)) (ys : y ≡ goal_fits false (modes_from s m) g) where
    known-told : known ≡ declared source_at
    known-told = is ∙ rw (xs, ys) declared-told

    pub not-declared : not known ≡ true → unread image names (refusal 17 0) ≡ sourced image names (declared (source_of s)) (source_of s)
    not-declared h = rw (source_told, sym known-told ∙ not-true known h)

    pub judged-refused : (r : Refusal) → not known ≡ false → relations_judged (mode_names (modes_from s m)) (clauses_behind_modes s m) (modes_of (modes_from s m)) 0 nothing_read ≡ Err r → unread image names r ≡ sourced image names (declared (source_of s)) (source_of s)
    judged-refused r h e =
        let k = sym known-told ∙ not-false known h in
        rw (source_told, k, sym (records-told k) ∙ e)

  -- ---- a text that is taken

  pub record TakenAt : Type 0 where
    pub modes : modes_right (modes_from s m) ≡ true
    pub clauses : all_of clause_right (clauses_from s c) ≡ true
    pub goal : ask_right g ≡ true
    pub few : length (joined clause_terms (clauses_from s c) ++ goal_terms g) ≤ 4384
    pub low : declared source_at ≡ true → lows (image_with (modes_from s m) (constants_in s c g) (clauses_from s c) g) ≡ image_with (modes_from s m) (constants_in s c g) (clauses_from s c) g
    pub short : length (image_with (modes_from s m) (constants_in s c g) (clauses_from s c) g) ≤ 12798

  declared-parts : declared source_at ≡ true → (all_of (clause_declared (mode_names (modes_from s m))) (clauses_from s c) ≡ true) × (goal_declared (mode_names (modes_from s m)) g ≡ true)
  unfolding declared
  declared-parts e = and-true (all_of (clause_declared (mode_names (modes_from s m))) (clauses_from s c)) (goal_declared (mode_names (modes_from s m)) g) e

  pub taken_at : (r k : ℕ) → relations_judged (mode_names (modes_from s m)) (clauses_behind_modes s m) (modes_of (modes_from s m)) 0 nothing_read ≡ Ok (r, k) → TakenAt
  taken_at r k e =
      let t = modes-taken (mode_names (modes_from s m)) (clauses_behind_modes s m) r k (modes_from s m) 0 nothing_read refl (omega arith) e in
      let t1 = t.1 in
      let o = t.0.rest in
      let z = o.none in
      let back = (lines is_mode_line read_mode_line (drop m s)).rest in
      let u = clauses-taken (modes_from s m) (λ at g. after taken at (ask_said (modes_from s m) g (read_body (behind_arrow (lines is_clause read_clause back).rest)).value)) r k (lines is_clause read_clause back).value false [] o.at o.g (omega arith) o.on in
      let u1 = u.1 in
      let v = ask-taken (modes_from s m) u.0.g (read_body (behind_arrow (lines is_clause read_clause back).rest)).value u.0.at r k u.0.on in
      let cr : all_of clause_right (clauses_from s c) ≡ true = ap (λ (y : List ℕ). all_of clause_right (lines is_clause read_clause y).value) b ∙ u.0.right in
      let cl : length (clauses_from s c) ≡ length (lines is_clause read_clause back).value = ap (λ (y : List ℕ). length (lines is_clause read_clause y).value) b in
      let ar : ask_right g ≡ true = ap ask_right (d ∙ ap (λ (y : List ℕ). (read_body (behind_arrow (lines is_clause read_clause y).rest)).value) b) ∙ v in
      let f = terms-few (clauses_from s c) cr in
      let j = goal-few g (ask-parts g ar).1 in
      let h = length-append (joined clause_terms (clauses_from s c)) (goal_terms g) in
      record {
        modes = t.0.right;
        clauses = cr;
        goal = ar;
        few = omega arith;
        low = λ k. let w = declared-parts k in low-image (modes_from s m) (constants_in s c g) (clauses_from s c) g (omega arith) t.0.sized cr w.0 ar w.1 (omega arith) refl;
        short = image-long (modes_from s m) (constants_in s c g) (clauses_from s c) g t.0.right (omega arith) cr (omega arith) ar;
      }

  image-told : image_in source_at ≡ image_with (modes_from s m) (constants_in s c g) (clauses_from s c) g
  unfolding image_in program_in program_bytes image_with ask_with constant_names
  image-told = rw (numbered-with source_at (clauses_from s c)) refl

  names-told : names_in source_at ≡ entries (mode_names (modes_from s m)) ++ entries (constants_in s c g)
  unfolding names_in constant_names
  names-told = entries-append (mode_names (modes_from s m)) (constants_in s c g)

  not-long : (bs : List ℕ) → length bs ≤ 12798 → long bs ≡ false
  unfolding long
  not-long bs h = le-ltb 32768 (length bs) (omega arith)

  pub judged-taken : (image names : List ℕ) (known x y : Bool) → known ≡ (x && y) → x ≡ all_of (clause_fits false (modes_from s m)) (clauses_from s c) → y ≡ goal_fits false (modes_from s m) g → not known ≡ false → (r k : ℕ) →
      relations_judged (mode_names (modes_from s m)) (clauses_behind_modes s m) (modes_of (modes_from s m)) 0 nothing_read ≡ Ok (r, k) →
      fitted image names (lows (image_with (modes_from s m) (constants_in s c g) (clauses_from s c) g)) (entries (mode_names (modes_from s m)) ++ entries (constants_in s c g)) ≡ sourced image names (declared (source_of s)) (source_of s)
  judged-taken image names known x y is xs ys h r k e =
      let o = sym (known-told image names known x y is xs ys) ∙ not-false known h in
      let t = taken_at r k e in
      let bs = image_with (modes_from s m) (constants_in s c g) (clauses_from s c) g in
      let es = entries (mode_names (modes_from s m)) ++ entries (constants_in s c g) in
      rw (source_told, o, sym (records-told o) ∙ e, t.low o)
      (fitted-fitting image names source_at bs es image-told names-told (not-long bs t.short))

pub parse-spelled : (image names s : List ℕ) {x : Answer (ℕ × ℕ)} {i n : List ℕ} → spelling_of s ≡ Ok tt → Tells (sourced image names (declared (source_of s)) (source_of s)) x i n → ParseSays image names s x i n
unfolding parse_call
parse-spelled image names s e v = rw e v

pub parse-stuck : (image names s : List ℕ) (i : ℕ) → spelling_of s ≡ Err i → unread image names (refusal 16 i) ≡ parse_call image names s
unfolding parse_call
parse-stuck image names s i e = rw e

-- a parse has one answer and leaves one pair of rows
pub parse-once : (image names s : List ℕ) {a b : Answer (ℕ × ℕ)} {i j n o : List ℕ} → ParseSays image names s a i n → ParseSays image names s b j o → (a ≡ b) × (i ≡ j) × (n ≡ o)
parse-once image names s f g = (f.answers ∙ sym g.answers, f.imaged ∙ sym g.imaged, f.named ∙ sym g.named)
