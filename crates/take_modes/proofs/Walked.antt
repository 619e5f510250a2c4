-- One turn of the loop over mode lines.
use Rattle.std.specs.Prelude.{Result, Err, Ok, is_some, None, Option, Some}
use Rattle.name_index.proofs.Chains.{none-look, some-less}
use Rattle.parlog.specs.Answer.{Answer}
use mathlib.Core.Path.{◌∙◌, ◌≡◌, ap, refl, sym}
use mathlib.Core.Bool.{Bool, false, not, true}
use mathlib.Core.List.{[], ◌++◌, ◌∷◌, append_assoc, append-nil, List, map, map-append}
use Prim.Native.Nat.{◌*◌, ◌+◌, ◌-◌, ◌<◌, ◌≤◌, ℕ}
use lib.Dec.{leb}
use lib.ListN.{drop, get_or, length, length-append, length-set, set, take}
use lib.Seq.{get_or-append_seam, take_all, take-suc-set}
use borrow.Author.Tests.{eq-eqb, le-leb, le-ltb, leb-false, leb-true, lt-leb, ne_eqb}
use native.Mathlib.Omega.{arith}
use native.Mathlib.Numerals.{add-one}
use Rattle.judge_image.specs.Judged.{relation_judged, relations_judged}
use Rattle.judge_lines.proofs.Judging.{in_goes, never}
use Rattle.parlog.proofs.Bools.{never as not_both}
use Rattle.judge_lines.proofs.Moded.{line-sized, mode-length, mode-tested, modes-end, modes-on, modes-stop}
use Rattle.judge_lines.specs.Whole.{Opening}
use Rattle.judge_text.specs.Tests.{tested}
use Rattle.lay.proofs.Laws.{laid-length, laid_then}
use Rattle.lay.specs.Lay.{laid}
use Rattle.lay_lines.specs.Lines.{modes_of}
use Rattle.lay_literal.proofs.Laid.{lows-append}
use Rattle.lay_literal.specs.Lows.{lows}
use Rattle.lay_text.proofs.Laws.{writes-both}
use Rattle.lay_text.specs.Laying.{Writes}
use Rattle.lay_text.specs.declared.To.{To}
use Rattle.name_index.specs.Index.{AddsOne, chain_of, Indexed}
use Rattle.name_index.specs.declared.Added.{Added}
use Rattle.parlog.specs.Load.{nothing_read, refusal}
use Rattle.parlog.specs.declared.Progress.{Progress}
use Rattle.read_goal.specs.Spans.{Spans}
use Rattle.read_goal.specs.declared.Span.{Span}
use Rattle.read_names.proofs.Short.{line-behind, lines_more}
use Rattle.read_names.proofs.Tabled.{names_fit}
use Rattle.read_names.specs.Tables.{mode_names, modes_from, names_at}
use Rattle.take_modes.specs.TakesModes.{EntersLine, modes_front, one_more, ModesRefused, ModesTaken, ReadsLine, told_by}
use Rattle.take_modes.specs.declared.Line.{Line}
use Rattle.take_modes.specs.declared.Modes.{Modes}
use Rattle.take_term.proofs.Laws.{laid-under, lows-length}
use Rattle.text_names.proofs.Looked.{look-here}
use Rattle.text_names.proofs.Rest.{first-at}
use Rattle.text_names.specs.Bytes.{front, next, past}
use Rattle.text_names.specs.Names.{add, adds, FoundAt, look, Name}
use Rattle.text_program.proofs.Joined.{joined-append}
use Rattle.text_program.specs.Encoded.{record_bytes, relation_bytes, word_bytes}
use Rattle.text_program.specs.Numbered.{joined}
use Rattle.text_program.specs.Source.{cons_got, Got, got, is_mode_line, lines, ModeLine, read_brackets, read_mode, read_mode_line, row}

-- ---- bytes

pub begin-bytes : {o o1 o2 o3 : List ℕ} {w w1 w2 w3 : To} (count : ℕ) → Writes o w (lows (word_bytes (5 + count))) true o1 w1 → Writes o1 w1 (lows (word_bytes 1)) true o2 w2 → Writes o2 w2 (lows (count ∷ [])) true o3 w3 →
    o3 ≡ laid o w.at (lows (modes_front count))
begin-bytes {w = w} count a b d =
    rw (lows-append (word_bytes (5 + count)) (word_bytes 1 ++ (count ∷ [])), lows-append (word_bytes 1) (count ∷ [])) (writes-both a (writes-both b d)).row

-- the record of a mode line, its modes laid first
line-bytes : (o q z : List ℕ) (at count : ℕ) (ms : List ℕ) → count ≡ length ms → q ≡ laid o (at + 5) (lows ms) → z ≡ laid q at (lows (modes_front count)) → z ≡ laid o at (lows (relation_bytes ms))
unfolding relation_bytes record_bytes
line-bytes o q z at count ms c e f =
    let k : modes_front count ++ ms ≡ word_bytes (5 + length ms) ++ (word_bytes 1 ++ (length ms ∷ ms)) = rw c refl in
    let n : 4 + length (length ms ∷ ms) ≡ 5 + length ms = omega arith in
    let d : q ≡ laid o (at + length (lows (modes_front count))) (lows ms) = e ∙ ap (λ (i : ℕ). laid o (at + i) (lows ms)) (sym (lows-length (modes_front count))) in
    f ∙ rw (d, n, ← k, lows-append (modes_front count) ms) (laid-under (lows (modes_front count)) (lows ms) o at)

-- ---- brackets

module _ (s : List ℕ) (at b : ℕ) (is : b ≡ get_or s at 0) where
  pub brackets-none : (o : List ℕ) (to : ℕ) → (b ≡ 40 → ⊥) → o ≡ laid o to (lows (read_brackets read_mode (drop at s)).value)
  unfolding read_brackets lows laid
  brackets-none o to h = rw (first-at s at, ← is, ne_eqb b 40 h)

  pub brackets-some : (o p : List ℕ) (to from : ℕ) → b ≡ 40 → drop from s ≡ next (drop at s) → p ≡ laid o to (lows (row read_mode 44 (drop from s)).value) → p ≡ laid o to (lows (read_brackets read_mode (drop at s)).value)
  unfolding read_brackets
  brackets-some o p to from h e v = rw (first-at s at, ← is, eq-eqb b 40 h, ← e) v

-- ---- a new name

module _ (s t l : List ℕ) (n : ℕ) (x : Name) {u k : List ℕ} {r : Added} (room : n < length t) (fresh : n ≤ look (names_at s (take n t)) x) (one : AddsOne s t l n x u k r) where
  new-names : names_at s (take r.count u) ≡ names_at s (take n t) ++ (x ∷ [])
  unfolding adds add
  new-names =
      let f = names_fit s t n (omega arith) in
      let a = length-append (names_at s (take n t)) (x ∷ []) in
      one.adds.names ∙ rw (le-ltb (look (names_at s (take n t)) x) (length (names_at s (take n t))) (omega arith)) (take_all (length t) (names_at s (take n t) ++ (x ∷ [])) (omega arith))

  new-count : r.count ≡ n + 1
  new-count =
      let f = names_fit s t n (omega arith) in
      let a = length-append (names_at s (take n t)) (x ∷ []) in
      let g = names_fit s u r.count one.adds.inside in
      let h = ap length new-names in
      omega arith

  pub enter-line : {a b : List ℕ} (count : ℕ) → b ≡ set a n count → EntersLine s x count t a n u b k
  enter-line count e =
      record {
        names = rw (← new-count) new-names;
        index = rw (← new-count) one.index;
        table = one.adds.size;
        arities = e;
      }

-- ---- one line

pub reads-line : {o q : List ℕ} (s : List ℕ) (p at name chain from end : ℕ) (t : Span) → drop name s ≡ past (drop p s) → name ≤ length s → chain ≡ chain_of (front (drop name s)) → drop from s ≡ past (drop name s) →
    Spans s (read_brackets read_mode (drop from s)).rest (length (read_brackets read_mode (drop from s)).value) true t → drop end s ≡ next (drop t.end s) → end ≤ length s →
    q ≡ laid o (at + 5) (lows (read_brackets read_mode (drop from s)).value) → ReadsLine s p o at q (record { name = name; chain = chain; end = end; count = t.count })
unfolding read_mode_line
reads-line {o} s p at name chain from end t after inside is opens v ends behind b =
    let e : read_brackets read_mode (drop from s) ≡ read_brackets read_mode (past (past (drop p s))) = ap (read_brackets read_mode) (opens ∙ ap past after) in
    record {
      name = ap front after;
      inside = inside;
      chain = is;
      end = ends ∙ ap next (v.end ∙ ap (λ (g : Got (List ℕ)). g.rest) e);
      behind = behind;
      count = v.count ∙ ap (λ (g : Got (List ℕ)). length g.value) e;
      bytes = b ∙ ap (λ (g : Got (List ℕ)). laid o (at + 5) (lows g.value)) e;
    }

-- ---- tests

abbrev in_refuses : Result Progress ℕ → ℕ
in_refuses (Err k) = k
in_refuses (Ok k) = 7

-- what a line that goes on has passed
record Passes (many fits known : Bool) (h g : Progress) : Type 0 where
  pub few : many ≡ false
  pub right : fits ≡ true
  pub fresh : known ≡ true
  pub goes : g ≡ h

tested-goes : (many right known : Bool) (h g : Progress) → tested many right known false h ≡ Ok g → Passes many right known h g
unfolding tested
tested-goes true right known h g e = never 6 g e
tested-goes false false known h g e = never 4 g e
tested-goes false true false h g e = never 5 g e
tested-goes false true true h g e = record { few = refl; right = refl; fresh = refl; goes = sym (ap (in_goes g) e) }

-- ---- the loop

-- the first mode lines of a text, each of another name, are in tables; the others stand behind them
pub record Partly (s t a l : List ℕ) (m n p : ℕ) : Type 0 where
  pub lines : List ModeLine
  pub whole : modes_from s m ≡ lines ++ modes_from s p
  pub names : mode_names lines ≡ names_at s (take n t)
  pub arities : map (λ (m : ModeLine). length m.modes) lines ≡ take n a
  pub index : Indexed s t l n
  pub size : length a ≡ length t
  pub inside : p ≤ length s

-- what is known before a turn
pub record ModesLeft (s : List ℕ) (m : ℕ) (o q t a l : List ℕ) (p at : ℕ) (g : Progress) (left : ℕ) : Type 0 where
  pub moded : Partly s t a l m g.relations p
  pub said : (next : ℕ → Progress → Answer (ℕ × ℕ)) → relations_judged (mode_names (modes_from s m)) next (modes_of (modes_from s p)) at g ≡ relations_judged (mode_names (modes_from s m)) next (modes_of (modes_from s m)) 0 nothing_read
  pub rest : (lines is_mode_line read_mode_line (drop p s)).rest ≡ (lines is_mode_line read_mode_line (drop m s)).rest
  pub opening : Opening g
  pub fuel : length s ≤ p + left
  pub near : at ≤ 9 * g.relations
  pub room : 32 ≤ length t
  pub place : at ≡ length (joined relation_bytes (modes_of moded.lines))
  pub bytes : q ≡ laid o 0 (lows (joined relation_bytes (modes_of moded.lines)))

pub walk_start : (s : List ℕ) (m : ℕ) (o t a l : List ℕ) (left : ℕ) → m ≤ length s → 32 ≤ length t → length a ≡ length t → Indexed s t l 0 → left ≡ length s - m → ModesLeft s m o o t a l m 0 nothing_read left
unfolding names_at joined lows laid
walk_start s m o t a l left h r z i e =
    record {
      moded = record { lines = []; whole = refl; names = refl; arities = refl; index = i; size = z; inside = h };
      said = λ next. refl;
      rest = refl;
      opening = record { relations = omega arith; clauses = refl; kind = omega arith; block = refl };
      fuel = omega arith;
      near = omega arith;
      room = r;
      place = refl;
      bytes = refl;
    }

module _ {s : List ℕ} {m : ℕ} {o q t a l : List ℕ} {p at : ℕ} {g : Progress} {left : ℕ} (here : ModesLeft s m o q t a l p at g left) where
  pub bytes-long : length q ≡ length o
  bytes-long = rw here.bytes (laid-length (lows (joined relation_bytes (modes_of here.moded.lines))) o 0)

  pub near-enough : at ≤ 16384
  near-enough = let h = here.near in let k = here.opening.relations in omega arith

  pub line-long : {q1 : List ℕ} {r : Line} → ReadsLine s p q at q1 r → length q1 ≡ length o
  line-long line = rw line.bytes (laid-length (lows (read_mode_line (drop p s)).value.modes) q (at + 5)) ∙ bytes-long

  -- no line more
  pub walk_end : {r : Modes} → lines is_mode_line read_mode_line (drop p s) ≡ got [] (drop p s) → r ≡ told_by m p g at → ModesTaken s m o q t a l r
  walk_end e f =
      let whole : modes_from s m ≡ here.moded.lines = here.moded.whole ∙ ap (λ (y : Got (List ModeLine)). here.moded.lines ++ y.value) e ∙ append-nil here.moded.lines in
      rw f
      (record {
        from = refl;
        moded =
            record {
              names = ap mode_names whole ∙ here.moded.names;
              arities = ap (map (λ (y : ModeLine). length y.modes)) whole ∙ here.moded.arities;
              index = here.moded.index;
              size = here.moded.size;
            };
        said = λ next. sym (here.said next) ∙ sym (modes-end (mode_names (modes_from s m)) next at g (drop p s) (lines is_mode_line read_mode_line (drop p s)) e);
        opening = here.opening;
        inside = here.moded.inside;
        rest = sym (ap (λ (y : Got (List ModeLine)). y.rest) e) ∙ here.rest;
        place = here.place ∙ ap (λ (y : List ModeLine). length (joined relation_bytes (modes_of y))) (sym whole);
        bytes = here.bytes ∙ ap (λ (y : List ModeLine). laid o 0 (lows (joined relation_bytes (modes_of y)))) (sym whole);
        near = near-enough;
        size = bytes-long;
      })

  module _ {q1 : List ℕ} {r : Line} (b : Bool) (is : b ≡ is_mode_line (drop p s)) (yes : b ≡ true) (line : ReadsLine s p q at q1 r) where
    line-cons : lines is_mode_line read_mode_line (drop p s) ≡ cons_got (read_mode_line (drop p s)).value (lines is_mode_line read_mode_line (drop r.end s))
    line-cons = lines_more s p b is r.end yes line.end

    names-here : mode_names (modes_from s m) ≡ names_at s (take g.relations t) ++ (front (drop r.name s) ∷ mode_names (modes_from s r.end))
    names-here =
        ap mode_names (here.moded.whole ∙ ap (λ (y : Got (List ModeLine)). here.moded.lines ++ y.value) line-cons)
        ∙ map-append (λ (y : ModeLine). y.name) here.moded.lines ((read_mode_line (drop p s)).value ∷ modes_from s r.end)
        ∙ rw (here.moded.names, line.name) refl

    -- the tests of the line
    line-judged : tested (leb 32 g.relations) (leb r.count 4) (leb g.relations (look (names_at s (take g.relations t)) (front (drop r.name s)))) false (one_more g)
        ≡ relation_judged (mode_names (modes_from s m)) g (read_mode_line (drop p s)).value.modes
    line-judged =
        let f = names_fit s t g.relations here.moded.index.inside in
        mode-tested (mode_names (modes_from s m)) g (read_mode_line (drop p s)).value.modes (front (drop r.name s)) (look (names_at s (take g.relations t)) (front (drop r.name s))) (leb r.count 4) here.opening
        (ap (λ (n : ℕ). leb n 4) line.count) (line-sized (drop p s))
        (rw names-here (rw f at (get_or-append_seam (names_at s (take g.relations t)) (front (drop r.name s)) (mode_names (modes_from s r.end)) [])))
        (rw names-here (sym (look-here (names_at s (take g.relations t)) (mode_names (modes_from s r.end)) (front (drop r.name s)))))

    -- a line that is refused
    pub walk-stop : (v : Result Progress ℕ) (n : ℕ) → v ≡ tested (leb 32 g.relations) (leb r.count 4) (leb g.relations (look (names_at s (take g.relations t)) (front (drop r.name s)))) false (one_more g) → v ≡ Err n →
        ModesRefused s m o q1 (refusal n at)
    walk-stop v n e f =
        record {
          said = λ next.
              sym (here.said next)
              ∙ sym (modes-stop (mode_names (modes_from s m)) next at g (read_mode_line (drop p s)).value (lines is_mode_line read_mode_line (drop p s)) (lines is_mode_line read_mode_line (drop r.end s)) n line-cons (sym line-judged ∙ sym e ∙ f));
          near = near-enough;
          size = line-long line;
        }

    module _ (v : Result Progress ℕ) (h : Progress) (e : v ≡ tested (leb 32 g.relations) (leb r.count 4) (leb g.relations (look (names_at s (take g.relations t)) (front (drop r.name s)))) false (one_more g)) (f : v ≡ Ok h) where
      line-passes : Passes (leb 32 g.relations) (leb r.count 4) (leb g.relations (look (names_at s (take g.relations t)) (front (drop r.name s)))) (one_more g) h
      line-passes = tested-goes (leb 32 g.relations) (leb r.count 4) (leb g.relations (look (names_at s (take g.relations t)) (front (drop r.name s)))) (one_more g) h (sym e ∙ f)

      pub line-few : g.relations < 32
      line-few = leb-false 32 g.relations line-passes.few

      pub line-right : r.count ≤ 4
      line-right = leb-true r.count 4 line-passes.right

      pub line-fresh : g.relations ≤ look (names_at s (take g.relations t)) (front (drop r.name s))
      line-fresh = leb-true g.relations (look (names_at s (take g.relations t)) (front (drop r.name s))) line-passes.fresh

      -- a line more
      pub walk-on : {q2 u b2 k : List ℕ} → 0 < left → EntersLine s (front (drop r.name s)) r.count t a g.relations u b2 k → q2 ≡ laid q1 at (lows (modes_front r.count)) → ModesLeft s m o q2 u b2 k r.end (at + 5 + r.count) h (left - 1)
      unfolding joined
      walk-on {q2} {u} {b2} {k} some in_table front_laid =
          let x = (read_mode_line (drop p s)).value in
          let L = here.moded.lines in
          let few = line-few in
          let right = line-right in
          let c = line.count in
          let long : at + 5 + r.count ≡ at + length (relation_bytes x.modes) = let w = mode-length x.modes in omega arith in
          let J = joined relation_bytes (modes_of L) in
          let row : joined relation_bytes (modes_of (L ++ (x ∷ []))) ≡ J ++ relation_bytes x.modes =
          ap (joined relation_bytes) (map-append (λ (y : ModeLine). y.modes) L (x ∷ [])) ∙ joined-append relation_bytes (modes_of L) (x.modes ∷ []) ∙ ap (λ (y : List ℕ). J ++ y) (append-nil (relation_bytes x.modes)) in
          let laid-now : q2 ≡ laid q at (lows (relation_bytes x.modes)) = line-bytes q q1 q2 at r.count x.modes c line.bytes front_laid in
          let at-end : at ≡ 0 + length (lows J) = let w = lows-length J in let y = here.place in omega arith in
          let w = in_table.table in
          let z = here.moded.size in
          let n-in : g.relations < length a = let y = here.room in omega arith in
          let back = line-behind s p b is r.end yes line.end line.behind in
          let fuel = here.fuel in
          let near = here.near in
          let room = here.room in
          rw line-passes.goes
          (record {
            moded =
                record {
                  lines = L ++ (x ∷ []);
                  whole = here.moded.whole ∙ ap (λ (y : Got (List ModeLine)). L ++ y.value) line-cons ∙ sym (append_assoc L (x ∷ []) (modes_from s r.end));
                  names = map-append (λ (y : ModeLine). y.name) L (x ∷ []) ∙ rw (here.moded.names, ← line.name) (sym in_table.names);
                  arities =
                      map-append (λ (y : ModeLine). length y.modes) L (x ∷ [])
                      ∙ rw (here.moded.arities, in_table.arities, add-one, take-suc-set a g.relations r.count n-in, c) refl;
                  index = in_table.index;
                  size = rw in_table.arities (length-set a g.relations r.count) ∙ z ∙ sym w;
                  inside = line.behind;
                };
            said = λ next. modes-on (mode_names (modes_from s m)) next at g x (lines is_mode_line read_mode_line (drop p s)) (lines is_mode_line read_mode_line (drop r.end s)) (one_more g) (at + 5 + r.count) line-cons (sym line-judged ∙ sym e ∙ f ∙ ap Ok line-passes.goes) long ∙ here.said next;
            rest = sym (ap (λ (y : Got (List ModeLine)). y.rest) line-cons) ∙ here.rest;
            opening = record { relations = omega arith; clauses = here.opening.clauses; kind = omega arith; block = here.opening.block };
            fuel = omega arith;
            near = omega arith;
            room = omega arith;
            place = long ∙ rw (row, length-append J (relation_bytes x.modes)) (ap (λ (y : ℕ). y + length (relation_bytes x.modes)) here.place);
            bytes = laid-now ∙ rw (row, lows-append J (relation_bytes x.modes)) (rw (here.bytes, at-end) (laid_then (lows J) (lows (relation_bytes x.modes)) o 0));
          })

-- ---- a name that is new

-- it was not found
pub fresh-is : (s t : List ℕ) (n : ℕ) (x : Name) (r : Option ℕ) (b : Bool) → n ≤ length t → FoundAt (names_at s (take n t)) x r → is_some r ≡ not b → leb n (look (names_at s (take n t)) x) ≡ b
fresh-is s t n x (Some k) true h f e = not_both (sym e)
fresh-is s t n x (Some k) false h f e = let l = some-less s t n x h k f in let a = f.0 in lt-leb n (look (names_at s (take n t)) x) (omega arith)
fresh-is s t n x None true h f e = let l = none-look s t n x h f in le-leb n (look (names_at s (take n t)) x) (omega arith)
fresh-is s t n x None false h f e = not_both e
