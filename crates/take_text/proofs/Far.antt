-- How far the clauses of a text have been taken, tested and laid.
use Rattle.std.specs.Prelude.{Result, Err, Ok}
use Rattle.parlog.specs.Answer.{Answer}
use mathlib.Core.Path.{◌∙◌, ◌≡◌, ap, refl, sym}
use mathlib.Core.Bool.{◌&&◌, and_assoc, and-true as true-right, Bool, false, true}
use mathlib.Core.List.{[], ◌++◌, ◌∷◌, List}
use Prim.Native.Nat.{◌*◌, ◌+◌, ◌-◌, ◌<◌, ◌≤◌, ℕ}
use lib.ListN.{drop, get_or, length, length-append, take}
use native.Mathlib.Omega.{arith}
use Rattle.judge_lines.proofs.Judging.{goes-right, said-end, said-first, said-on, said-stop, size_small}
use Rattle.judge_said.specs.Said.{clause_said, clauses_said}
use Rattle.judge_text.proofs.Tried.{clause-name}
use Rattle.judge_text.specs.Tests.{Counted, kept}
use Rattle.lay.proofs.Laws.{laid_none, laid_then}
use Rattle.lay.specs.Lay.{laid}
use Rattle.lay_lines.proofs.Lined.{a_clause}
use Rattle.lay_lines.specs.Fields.{clause_fits, clause_in}
use Rattle.lay_lines.specs.Lines.{clauses_from, clauses_with, with_vars}
use Rattle.lay_literal.proofs.Laid.{lows-append}
use Rattle.lay_literal.specs.Lows.{lows}
use Rattle.name_index.specs.Index.{Indexed}
use Rattle.parlog.specs.declared.Progress.{Progress}
use Rattle.read_names.proofs.Lined.{line-more, lines-fuel}
use Rattle.read_names.specs.Tables.{mode_names, names_at, sorted}
use Rattle.take_modes.specs.TakesModes.{said_by}
use Rattle.take_term.proofs.Laws.{adds-room, extends-then, lows-length}
use Rattle.take_term.specs.Takes.{Extends}
use Rattle.take_text.proofs.Left.{AddsLeft, left-done, left-item, left-start, row_names}
use Rattle.take_text.proofs.Tested.{said-refused, taken-said}
use Rattle.take_text.specs.TakesText.{clauses_in, TakesClauses}
use Rattle.take_text.specs.Turned.{started, taken_said, turned_by, Turns}
use Rattle.take_text.specs.declared.Behind.{Behind}
use Rattle.take_text.specs.declared.Clauses.{Clauses}
use Rattle.text_names.specs.Bytes.{front}
use Rattle.text_names.specs.Names.{Name, same_name}
use Rattle.text_program.specs.Encoded.{clause_bytes}
use Rattle.text_program.specs.Numbered.{clause_terms, joined, mark_by}
use Rattle.text_program.specs.Parsing.{all_of}
use Rattle.text_program.specs.Source.{cons_got, Got, got, is_clause, lines, lines_for, ModeLine, read_clause, SaidClause}

-- up to so many clauses from a place on, as they are read
abbrev clauses_left : List ℕ → ℕ → ℕ → Got (List SaidClause)
clauses_left s left from = lines_for left is_clause read_clause (drop from s)

-- the record of a clause
abbrev record_in : List ModeLine → List Name → Bool → SaidClause → List ℕ
record_in ms cs opens x = clause_bytes (clause_in (with_vars (mode_names ms) cs x) (mark_by opens) x)

-- the records of clauses behind one of a name that ended in `;` or not
abbrev row_in : List ModeLine → List Name → Bool → Name → Got (List SaidClause) → List ℕ
row_in ms cs b name Y = joined clause_bytes (clauses_with (mode_names ms) cs b name Y.value)

-- all calls have their mode lines
abbrev all_fit : List ModeLine → Got (List SaidClause) → Bool
all_fit ms Y = all_of (clause_fits false ms) Y.value

-- the clauses from a place on have been taken into row p and table u up to w, behind one that begins at `before` and ended in `;` or not
pub record Far (s : List ℕ) (ms : List ModeLine) (o t : List ℕ) (from at n : ℕ) (g : Progress) (p u l : List ℕ) (w : Clauses) (before : ℕ) (semicolon : Bool) : Type 0 where
  pub number : w.number ≡ 0
  pub behind : before ≤ length s
  pub said : (next : ℕ → Progress → Answer (ℕ × ℕ)) → clauses_said ms next semicolon (front (drop before s)) (clauses_left s w.left w.end).value w.at w.known ≡ clauses_said ms next false [] (clauses_from s from) at g
  pub rest : (clauses_left s w.left w.end).rest ≡ (lines is_clause read_clause (drop from s)).rest
  pub declared : (w.declared && all_fit ms (clauses_left s w.left w.end)) ≡ all_of (clause_fits false ms) (clauses_from s from)
  pub counted : Counted w.known
  pub near : w.at ≤ 16384 + 200 * w.known.clauses
  pub index : Indexed s u l w.consts
  pub consts : AddsLeft s t n u w.consts (sorted false (joined clause_terms (clauses_from s from))) (row_names false clause_terms (clauses_left s w.left w.end)) w.end
  pub place : (cs : List Name) → w.at + length (row_in ms cs semicolon (front (drop before s)) (clauses_left s w.left w.end)) ≡ at + length (clauses_in s ms from cs)
  pub bytes : w.consts < length u → (cs : List Name) → Extends (names_at s (take w.consts u)) cs → laid p w.at (lows (row_in ms cs semicolon (front (drop before s)) (clauses_left s w.left w.end))) ≡ laid o at (lows (clauses_in s ms from cs))
  pub size : length p ≡ length o

-- ---- rows of records

-- before the first clause no name matters
none_before : (rels cs : List Name) (x y : Name) (xs : List SaidClause) → clauses_with rels cs false x xs ≡ clauses_with rels cs false y xs
unfolding clauses_with
none_before rels cs x y [] = refl
none_before rels cs x y (c ∷ xs) = refl

row_first : (ms : List ModeLine) (cs : List Name) (x y : Name) (Y W : Got (List SaidClause)) → Y ≡ W → row_in ms cs false x Y ≡ row_in ms cs false y W
row_first ms cs x y Y W e = ap (row_in ms cs false x) e ∙ ap (joined clause_bytes) (none_before (mode_names ms) cs x y W.value)

row_cons : (ms : List ModeLine) (cs : List Name) (b : Bool) (name : Name) (x : SaidClause) (Y Z : Got (List SaidClause)) (opens d : Bool) (other : Name) → Y ≡ cons_got x Z → opens ≡ (b && same_name name x.name) → d ≡ x.semicolon → other ≡ x.name →
    row_in ms cs b name Y ≡ record_in ms cs opens x ++ row_in ms cs d other Z
unfolding clauses_with joined
row_cons ms cs b name x Y Z opens d other e f h k = ap (row_in ms cs b name) e ∙ rw (← f, h, k) refl

row-none : (ms : List ModeLine) (cs : List Name) (b : Bool) (name : Name) (r : List ℕ) (Y : Got (List SaidClause)) → Y ≡ got [] r → row_in ms cs b name Y ≡ []
unfolding clauses_with joined
row-none ms cs b name r Y e = ap (row_in ms cs b name) e

laid_on : (o p : List ℕ) (k m : ℕ) (xs ys zs : List ℕ) → p ≡ laid o k (lows xs) → m ≡ k + length xs → zs ≡ xs ++ ys → laid p m (lows ys) ≡ laid o k (lows zs)
laid_on o p k m xs ys zs e f h =
    let z : m ≡ k + length (lows xs) = omega (arith, f, lows-length xs) in
    rw (e, z, h, lows-append xs ys) (laid_then (lows xs) (lows ys) o k)

-- ---- mode lines

fit-cons : (ms : List ModeLine) (d c : Bool) (x : SaidClause) (Y Z : Got (List SaidClause)) → Y ≡ cons_got x Z → c ≡ clause_fits false ms x → ((d && c) && all_fit ms Z) ≡ (d && all_fit ms Y)
unfolding all_of
fit-cons ms d c x Y Z e f = and_assoc d c (all_fit ms Z) ∙ ap (λ (b : Bool). d && b) (rw f refl ∙ sym (ap (all_fit ms) e))

fit_none : (ms : List ModeLine) (d : Bool) (r : List ℕ) (Y : Got (List SaidClause)) → Y ≡ got [] r → d ≡ (d && all_fit ms Y)
unfolding all_of
fit_none ms d r Y e = sym (ap (λ (y : Got (List SaidClause)). d && all_fit ms y) e ∙ true-right d)

-- ---- the loop

pub far-start : (s : List ℕ) (ms : List ModeLine) (o t l : List ℕ) (from at n : ℕ) (g : Progress) (w : Clauses) → w ≡ started (length s - from) from n at g → from ≤ length s → Indexed s t l n → Counted g → at ≤ 16384 → Far s ms o t from at n w.known o t l w from false
far-start s ms o t l from at n g w e h i k j =
    let f = lines-fuel is_clause read_clause s from in
    rw e
    (record {
      number = refl;
      behind = h;
      said = λ next. said-first ms next (front (drop from s)) [] _ _ at g f;
      rest = ap (λ (y : Got (List SaidClause)). y.rest) f;
      declared = ap (all_fit ms) f;
      counted = k;
      near = omega arith;
      index = i;
      consts = left-start s t n _ _ from (ap (λ (y : Got (List SaidClause)). row_names false clause_terms y) f) i.inside h;
      place = λ cs. ap (λ (r : List ℕ). at + length r) (row_first ms cs (front (drop from s)) [] _ _ f);
      bytes = λ r cs x. ap (λ (r : List ℕ). laid o at (lows r)) (row_first ms cs (front (drop from s)) [] _ _ f);
      size = refl;
    })

module _ {s : List ℕ} {ms : List ModeLine} {o t : List ℕ} {from at n : ℕ} {g : Progress} {p u l : List ℕ} {w : Clauses} {before : ℕ} {semicolon : Bool} (far : Far s ms o t from at n g p u l w before semicolon) where
  pub far-near : w.at ≤ 65536
  far-near = let h = far.near in let c = far.counted.clauses in omega arith

  -- no clause more
  pub far-done : clauses_left s w.left w.end ≡ got [] (drop w.end s) → TakesClauses s ms o t from at n g p u l w
  unfolding lows
  far-done e =
      record {
        inside = far.consts.inside;
        declared = far.declared;
        rest = far.rest;
        said = λ next. sym (far.said next) ∙ sym (said-end ms next semicolon (front (drop before s)) w.at w.known _ _ e) ∙ sym (ap (λ (m : ℕ). said_by m w.at (next w.at w.known)) far.number);
        counted = far.counted;
        near = far-near;
        index = far.index;
        all = λ z. fit_none ms w.declared _ _ e ∙ far.declared;
        done = λ z. sym (ap (λ (y : Got (List SaidClause)). y.rest) e) ∙ far.rest;
        consts = λ z. left-done false clause_terms _ _ e far.consts;
        place = λ z cs. let a = far.place cs in let b = ap length (row-none ms cs semicolon (front (drop before s)) _ _ e) in omega arith;
        bytes = λ z r cs x. sym (laid_none p w.at) ∙ ap (λ (r : List ℕ). laid p w.at (lows r)) (sym (row-none ms cs semicolon (front (drop before s)) _ _ e)) ∙ far.bytes r cs x;
        table = far.consts.size;
        size = far.size;
      }

  module _ {opens : Bool} {q v k : List ℕ} {r : Behind} (b : ℕ) (turn : Turns s ms p u w opens q v k r) (some : 0 < w.left) (is : b ≡ get_or s w.end 0) (not : b ≡ 60 → ⊥)
      (sign : opens ≡ (semicolon && same_name (front (drop before s)) (front (drop w.end s)))) where
    abbrev here : SaidClause
    here = (read_clause (drop w.end s)).value

    abbrev verdict : Result Progress ℕ
    verdict = taken_said w.known opens turn.taken.number turn.taken.right turn.taken.fits

    one_more : clauses_left s w.left w.end ≡ cons_got here (clauses_left s (w.left - 1) turn.taken.end)
    one_more = line-more is_clause read_clause s w.left w.end turn.taken.end true some (a_clause s w.end b is not) refl turn.takes.line.end

    opens-here : opens ≡ (semicolon && same_name (front (drop before s)) here.name)
    opens-here = sign ∙ ap (λ (x : Name). semicolon && same_name (front (drop before s)) x) (clause-name s w.end)

    verdict-here : verdict ≡ clause_said ms w.known opens here
    verdict-here = taken-said ms w.known opens here _ _ _ turn.takes.number turn.takes.line.right turn.takes.line.fits

    -- it goes on
    goes : (next : Progress) → verdict ≡ Ok next → Far s ms o t from at n g q v k (turned_by (Ok next) w turn.taken) w.end turn.taken.semicolon
    goes next e =
        let f = goes-right ms w.known opens here next (sym verdict-here ∙ e) in
        let y = turn.takes.long f.0 in
        let z = size_small here f.0 in
        let h = far.near in
        let j = f.1 in
        record {
          number = refl;
          behind = far.consts.inside;
          said = λ then. said-on ms then semicolon (front (drop before s)) w.at w.known here _ _ opens next turn.taken.semicolon (front (drop w.end s)) turn.taken.at one_more opens-here (sym verdict-here ∙ e) turn.takes.semicolon (clause-name s w.end) y ∙ far.said then;
          rest = sym (ap (λ (y : Got (List SaidClause)). y.rest) one_more) ∙ far.rest;
          declared = fit-cons ms w.declared turn.taken.declared here _ _ one_more turn.takes.line.declared ∙ far.declared;
          counted = rw e at turn.kept;
          near = omega arith;
          index = turn.takes.line.index;
          consts = left-item false clause_terms here turn.taken.end _ _ one_more turn.takes.line.inside far.consts turn.takes.line.consts;
          place = λ cs.
              let a = far.place cs in
              let b = turn.takes.line.place f.0 cs in
              let c = ap length (row_cons ms cs semicolon (front (drop before s)) here _ _ opens turn.taken.semicolon (front (drop w.end s)) one_more opens-here turn.takes.semicolon (clause-name s w.end)) in
              let d = length-append (record_in ms cs opens here) (row_in ms cs turn.taken.semicolon (front (drop w.end s)) (clauses_left s (w.left - 1) turn.taken.end)) in
              omega arith;
          bytes = λ r cs x.
              laid_on p q w.at turn.taken.at (record_in ms cs opens here) _ _ (turn.takes.line.bytes f.0 r cs x) (turn.takes.line.place f.0 cs)
              (row_cons ms cs semicolon (front (drop before s)) here _ _ opens turn.taken.semicolon (front (drop w.end s)) one_more opens-here turn.takes.semicolon (clause-name s w.end))
              ∙ far.bytes (adds-room turn.takes.line.consts far.consts.fits r) cs (extends-then turn.takes.line.consts cs r x);
          size = turn.takes.line.size ∙ far.size;
        }

    pub far-on : r.next.number ≤ 0 → Far s ms o t from at n g q v k r.next w.end r.semicolon
    far-on h = go verdict refl
      where
        go : (d : Result Progress ℕ) → verdict ≡ d → Far s ms o t from at n g q v k r.next w.end r.semicolon
        go (Ok next) e = rw (turn.next, turn.semicolon, e) (goes next e)
        go (Err m) e = absurd (let a : kept (Err m) = rw e at turn.kept in let z = ap (λ (c : Clauses). c.number) (turn.next ∙ ap (λ (d : Result Progress ℕ). turned_by d w turn.taken) e) in let i = a.0 in omega arith)

    -- it is refused
    refused : (m : ℕ) → verdict ≡ Err m → 1 ≤ m → TakesClauses s ms o t from at n g q v k (turned_by (Err m) w turn.taken)
    refused m e h =
        record {
          inside = turn.takes.line.inside;
          declared = fit-cons ms w.declared turn.taken.declared here _ _ one_more turn.takes.line.declared ∙ far.declared;
          rest = sym (ap (λ (y : Got (List SaidClause)). y.rest) one_more) ∙ far.rest;
          said = λ next. sym (far.said next) ∙ sym (said-stop ms next semicolon (front (drop before s)) w.at w.known here _ _ opens m one_more opens-here (sym verdict-here ∙ e)) ∙ said-refused m w.at (next w.at w.known) h;
          counted = far.counted;
          near = far-near;
          index = turn.takes.line.index;
          all = λ z. absurd (omega arith);
          done = λ z. absurd (omega arith);
          consts = λ z. absurd (omega arith);
          place = λ z. absurd (omega arith);
          bytes = λ z. absurd (omega arith);
          table = turn.takes.line.consts.size ∙ far.consts.size;
          size = turn.takes.line.size ∙ far.size;
        }

    pub far-stop : 0 < r.next.number → TakesClauses s ms o t from at n g q v k r.next
    far-stop h = go verdict refl
      where
        go : (d : Result Progress ℕ) → verdict ≡ d → TakesClauses s ms o t from at n g q v k r.next
        go (Ok next) e = absurd (let z = ap (λ (c : Clauses). c.number) (turn.next ∙ ap (λ (d : Result Progress ℕ). turned_by d w turn.taken) e) in omega arith)
        go (Err m) e = let a : kept (Err m) = rw e at turn.kept in rw (turn.next, e) (refused m e a.0)

-- what was known at the start, told otherwise
pub known_as : {s : List ℕ} {ms : List ModeLine} {o t : List ℕ} {from at n : ℕ} {g h : Progress} {p u l : List ℕ} {w : Clauses} → g ≡ h → TakesClauses s ms o t from at n g p u l w → TakesClauses s ms o t from at n h p u l w
known_as e f = rw (← e) f
