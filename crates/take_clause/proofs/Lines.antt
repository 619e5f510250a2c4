-- A record whose front is laid behind the rest, with variables of its own.
use mathlib.Core.Path.{◌∙◌, ◌≡◌, ap, refl, sym}
use mathlib.Core.Bool.{◌&&◌, Bool, false, true}
use mathlib.Core.List.{[], ◌++◌, List}
use Prim.Native.Nat.{◌+◌, ◌≤◌, ℕ}
use lib.Dec.{leb, ltb}
use lib.ListN.{drop, length, length-append, take}
use lib.Seq.{length-take-le, take_all}
use borrow.Author.Tests.{le-leb, leb-false, leb-true, lt-leb, ltb-false, ltb-true}
use native.Mathlib.Omega.{arith}
use Rattle.lay.specs.Lay.{laid}
use Rattle.lay_literal.proofs.Laid.{lows-append}
use Rattle.lay_literal.specs.Lows.{lows}
use Rattle.lay_text.proofs.Laws.{capped-in, capped-out}
use Rattle.lay_text.specs.Laying.{capped, most, Writes}
use Rattle.lay_text.specs.declared.To.{To}
use Rattle.read_names.proofs.Tabled.{names_fit}
use Rattle.read_names.specs.Tables.{Adds, names_at, sorted}
use Rattle.take_clause.specs.TakesClause.{starting, TakesLine}
use Rattle.take_clause.specs.declared.Taken.{Taken}
use Rattle.take_term.proofs.Laws.{extends-refl, laid-under, lows-length}
use Rattle.take_term.specs.Takes.{Rows, rows, Takes}
use Rattle.take_term.specs.declared.Reading.{Reading}
use Rattle.text_names.specs.Names.{Name}
use Rattle.text_program.specs.Numbered.{variable_names}

-- ---- variables

module _ (s t u : List ℕ) (n : ℕ) (ts : List Name) (l : length t ≡ 17) (a : Adds s t 0 u n (sorted true ts)) where
  names_of : names_at s (take n u) ≡ take 17 (variable_names ts)
  unfolding names_at sorted
  names_of = a.names ∙ ap (λ (k : ℕ). take k (variable_names ts)) l

  size_of : length (take 17 (variable_names ts)) ≡ n
  size_of = sym (ap (λ (k : List Name). length k) names_of) ∙ names_fit s u n a.inside

  -- no more than 16, counted in a table of 17
  pub vars_counted : leb n 16 ≡ leb (length (variable_names ts)) 16
  vars_counted = go (leb (length (variable_names ts)) 16) refl
    where
      go : (b : Bool) → leb (length (variable_names ts)) 16 ≡ b → leb n 16 ≡ b
      go true e = let h = leb-true (length (variable_names ts)) 16 e in let z = size_of in let y = ap (λ (k : List Name). length k) (take_all 17 (variable_names ts) (omega arith)) in le-leb n 16 (omega arith)
      go false e = let h = leb-false (length (variable_names ts)) 16 e in let z = size_of in let y = length-take-le 17 (variable_names ts) (omega arith) in lt-leb n 16 (omega arith)

  -- then all of them are there
  vars-all : length (variable_names ts) ≤ 16 → names_at s (take n u) ≡ variable_names ts
  vars-all h = names_of ∙ take_all 17 (variable_names ts) (omega arith)

  vars-many : length (variable_names ts) ≤ 16 → n ≡ length (variable_names ts)
  vars-many h = sym size_of ∙ ap (λ (k : List Name). length k) (take_all 17 (variable_names ts) (omega arith))

-- ---- places

at_least : (m n : ℕ) → m ≤ n → m ≤ most → m ≤ capped n
at_least m n h g = go (ltb n most) refl
  where
    go : (b : Bool) → ltb n most ≡ b → m ≤ capped n
    go true e = let k = ltb-true n most e in rw (capped-in n (omega arith)) h
    go false e = let k = ltb-false n most e in rw (capped-out n k) g

module _ {s : List ℕ} {a : Rows} {w x : Reading} {rest : List ℕ} {items : ℕ} {terms : List Name} {bs : List Name → List Name → List ℕ} {g k : Bool} {b : Rows} where
  -- what was taken ends behind the record's beginning
  pub ends-behind : (end at j n : ℕ) (f d : Bool) → at ≤ 65536 → j ≤ 8 → w ≡ starting end (at + j) n f d → Takes s a w rest items terms bs g k b x → at ≤ x.at
  ends-behind end at j n f d h i e t =
      let z : x.at ≡ capped (at + j + length (bs [] [])) = t.place [] [] ∙ ap (λ (r : Reading). capped (r.at + length (bs [] []))) e in
      rw z (at_least at (at + j + length (bs [] [])) (omega arith) (omega arith))

-- ---- a line

pub and-swap : (a b c : Bool) → (a && (b && c)) ≡ (b && (a && c))
and-swap true b c = refl
and-swap false true c = refl
and-swap false false c = refl

module _ {s o t l v : List ℕ} {w x : Reading} {rest rest' : List ℕ} {items : ℕ} {terms : List Name} {bs : List Name → List Name → List ℕ} {g k : Bool} {b : Rows} {p : List ℕ} {y : To} where
  -- a record that was taken behind its front, and the front
  pub line_taken : (at n end : ℕ) (fs : List ℕ) (f d ok arities known : Bool) (whole : List Name → List ℕ) (r : Taken) → length v ≡ 17 → at ≤ 65536 → length fs ≤ 8 → w ≡ starting end (at + length fs) n f d →
      Takes s (rows o t l v) w rest items terms bs g k b x → Writes b.out (record { at = at; named = true }) (lows fs) true p y →
      (ok ≡ true → length (variable_names terms) ≤ 16) → (ok ≡ true → (cs vs : List Name) → length (bs cs vs) ≤ 190) →
      (ok ≡ true → x.vars ≡ length (variable_names terms) → (cs : List Name) → x.at ≡ at + length fs + length (bs cs (variable_names terms)) → fs ++ bs cs (variable_names terms) ≡ whole cs) →
      drop r.end s ≡ rest' → r.end ≤ length s → r.at ≡ x.at → r.consts ≡ x.consts → r.right ≡ ok → r.fits ≡ x.fits → r.declared ≡ x.declared → (f && g) ≡ arities → (d && k) ≡ known →
      TakesLine s o t at n rest' terms whole ok arities known p b.consts b.links r
  line_taken at n end fs f d ok arities known whole r hv ha hf e tk c few short same re ri ra rc rr rf rd ef ed =
      let t' : Takes s (rows o t l v) (starting end (at + length fs) n f d) rest items terms bs g k b x = rw (← e) tk in
      let vs = variable_names terms in
      let place : ok ≡ true → (cs : List Name) → x.at ≡ at + length fs + length (bs cs vs) =
      λ h cs. let z = short h cs vs in t'.place cs vs ∙ capped-in (at + length fs + length (bs cs vs)) (omega arith) in
      let whole_is : ok ≡ true → (cs : List Name) → fs ++ bs cs vs ≡ whole cs = λ h cs. same h (vars-many s v b.vars x.vars terms hv t'.vars (few h)) cs (place h cs) in
      record {
        end = re;
        inside = ri;
        consts = rw rc t'.consts;
        index = rw rc t'.index;
        right = rr;
        fits = rf ∙ t'.fits ∙ ef;
        declared = rd ∙ t'.declared ∙ ed;
        place = λ h cs.
            let z = place h cs in
            let q = ap (λ (m : List ℕ). length m) (whole_is h cs) in
            let j = length-append fs (bs cs vs) in
            ra ∙ (let i : x.at ≡ at + length (whole cs) = omega arith in i);
        bytes = λ h room cs ext.
            let many = vars-many s v b.vars x.vars terms hv t'.vars (few h) in
            let all = vars-all s v b.vars x.vars terms hv t'.vars (few h) in
            let few' = few h in
            let long = t'.vars.size in
            let inner : b.out ≡ laid o (at + length fs) (lows (bs cs vs)) =
            t'.bytes (rw rc at room) (omega arith) cs vs (rw rc at ext) (rw all (extends-refl vs)) in
            c.row ∙ rw (inner, ← lows-length fs) (laid-under (lows fs) (lows (bs cs vs)) o at) ∙ ap (λ (m : List ℕ). laid o at m) (sym (lows-append fs (bs cs vs)) ∙ ap lows (whole_is h cs));
        small = t'.small;
        size = c.size ∙ t'.size;
      }
