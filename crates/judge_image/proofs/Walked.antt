-- THE LAW: the loader's tests of a program's records are those told by the program.
use Rattle.std.specs.Prelude.{Result, Err, Ok}
use Rattle.parlog.specs.Answer.{Answer}
use mathlib.Core.Path.{◌∙◌, ◌≡◌, ap, refl, sym}
use mathlib.Core.Bool.{◌&&◌, Bool, false, not, true}
use mathlib.Core.List.{[], ◌++◌, ◌∷◌, append_assoc, append-nil, List}
use Prim.Native.Nat.{◌+◌, ◌<◌, ◌≤◌, suc, zero, ℕ}
use lib.Dec.{eqb, ltb}
use lib.ListN.{drop, length, length-append, length-drop}
use borrow.Author.Tests.{le-ltb}
use native.Mathlib.Omega.{arith}
use Rattle.judge_image.proofs.Counts.{more-clauses, more-relations}
use Rattle.judge_image.proofs.Whole.{ask-here, ask-known, ask-sized, clause-here, clause-known, clause-mark, clause-rel, clause-sized, relation-sized, verdict-told}
use Rattle.judge_image.specs.Judged.{ask_judged, ask_sized, clause_judged, clause_known, clause_sized, clauses_judged, goal_known, judged, progress_of, relation_judged, relation_sized, relations_judged, taken}
use Rattle.parlog.specs.Body.{body_right}
use Rattle.parlog.specs.Image.{byte_at}
use Rattle.parlog.specs.Load.{after, block_with, broken, kind_fault, load_end, nothing_read, refuse_if, too_many}
use Rattle.parlog.specs.Names.{names_right}
use Rattle.parlog.specs.Program.{Clause, Goal, Program}
use Rattle.parlog.specs.Records.{walk}
use Rattle.parlog.specs.declared.Progress.{Progress}
use Rattle.text_names.specs.Names.{Name}
use Rattle.text_program.proofs.Fields.{record-end, record-inside, record-kind, record-length, record-whole}
use Rattle.text_program.proofs.Here.{skip_by}
use Rattle.text_program.specs.Encoded.{ask_bytes, clause_bytes, goal_bytes, program_bytes, record_bytes, relation_bytes, term_bytes}
use Rattle.text_program.specs.Numbered.{joined}
use Rattle.text_program.specs.Parsing.{once_by, records_in, repeated, text_verdict}

-- ---- what follows a record

module _ (f h : Progress → Answer (ℕ × ℕ)) (at : ℕ) where
  refuse-ext : (b : Bool) (n : ℕ) (v : Result Progress ℕ) → after f at v ≡ after h at v → after f at (refuse_if b n v) ≡ after h at (refuse_if b n v)
  refuse-ext true n v e = refl
  refuse-ext false n v e = e

  once-ext : (b : Bool) (v : Result Progress ℕ) → after f at v ≡ after h at v → after f at (once_by b v) ≡ after h at (once_by b v)
  once-ext b (Err n) e = refl
  once-ext true (Ok g) e = refl
  once-ext false (Ok g) e = e

  judged-ext : (g : Progress) (kind : ℕ) (sized known : Bool) (r mark : ℕ) → f (progress_of g kind r mark) ≡ h (progress_of g kind r mark) → after f at (judged g kind sized known r mark) ≡ after h at (judged g kind sized known r mark)
  unfolding judged
  judged-ext g kind sized known r mark e =
      refuse-ext (kind_fault g kind) 3 _ (refuse-ext (too_many g kind) 6 _ (refuse-ext (not sized) 4 _ (refuse-ext (not known) 5 _ (refuse-ext (eqb kind 2 && ltb 8 (block_with g r mark)) 6 _ e))))

-- the tests of a record that is no clause do not read a relation or a mark
judged-relation : (g : Progress) (sized known : Bool) (r mark k l : ℕ) → judged g 1 sized known r mark ≡ judged g 1 sized known k l
unfolding judged progress_of
judged-relation g sized known r mark k l = refl

judged-ask : (g : Progress) (sized known : Bool) (r mark k l : ℕ) → judged g 3 sized known r mark ≡ judged g 3 sized known k l
unfolding judged progress_of
judged-ask g sized known r mark k l = refl

-- what stands in a clause's record
abbrev inside : Clause → List ℕ
inside c = c.rel ∷ length c.head ∷ c.mark ∷ c.vars ∷ (joined term_bytes c.head ++ (goal_bytes c.guard ++ goal_bytes c.body))

-- no second mode line
once-same : (v : Result Progress ℕ) → once_by false v ≡ v
once-same (Err n) = refl
once-same (Ok g) = refl

module _ (names : List Name) (s : List ℕ) where
  -- one record and those behind it
  abbrev one : (Progress → Answer (ℕ × ℕ)) → ℕ → Progress → Answer (ℕ × ℕ)
  one rest at g = after rest at (text_verdict names s g at)

  abbrev go : ℕ → ℕ → Progress → Answer (ℕ × ℕ)
  go n at g = walk s broken one (load_end s) n at g

  walk-one : (kind : ℕ) (body : List ℕ) (n at : ℕ) (r : List ℕ) (g : Progress) → drop at s ≡ record_bytes kind body ++ r → go (suc n) at g ≡ one (go n (at + length (record_bytes kind body))) at g
  unfolding walk
  walk-one kind body n at r g e = rw (record-inside s kind body at r e, record-whole s kind body at r e, record-end s kind body at r e)

  fuel-some : (kind : ℕ) (body : List ℕ) (n at : ℕ) (r : List ℕ) → drop at s ≡ record_bytes kind body ++ r → length (drop at s) ≤ n → 0 < n
  fuel-some kind body n at r e h = let a = ap (λ (l : List ℕ). length l) e in let b = length-append (record_bytes kind body) r in let c = record-length kind body in omega arith

  fuel-left : (kind : ℕ) (body : List ℕ) (n at : ℕ) (r : List ℕ) → drop at s ≡ record_bytes kind body ++ r → length (drop at s) ≤ suc n → length (drop (at + length (record_bytes kind body)) s) ≤ n
  fuel-left kind body n at r e h =
      let a = ap (λ (l : List ℕ). length l) e in
      let b = length-append (record_bytes kind body) r in
      let c = record-length kind body in
      let d = ap (λ (l : List ℕ). length l) (skip_by s at (record_bytes kind body) r e) in
      omega arith

  -- ---- relations

  relation-told : (g : Progress) (at : ℕ) (ms r : List ℕ) → drop at s ≡ relation_bytes ms ++ r → text_verdict names s g at ≡ relation_judged names g ms
  unfolding text_verdict relation_judged relation_bytes body_right names_right
  relation-told g at ms r e =
      let k = record-kind s 1 (length ms ∷ ms) at r e in
      let v = verdict-told s g at 1 (relation_sized ms) true k (relation-sized s ms at r e) refl in
      rw (k, v) (ap (once_by (repeated names g.relations)) (judged-relation g (relation_sized ms) true (byte_at s (at + 4)) (byte_at s (at + 6)) 0 0))

  walk-relation : (m : List ℕ) (n at : ℕ) (r : List ℕ) (g : Progress) → drop at s ≡ relation_bytes m ++ r → go (suc n) at g ≡ after (go n (at + length (relation_bytes m))) at (relation_judged names g m)
  unfolding relation_bytes
  walk-relation m n at r g e = walk-one 1 (length m ∷ m) n at r g e ∙ ap (after (go n (at + length (record_bytes 1 (length m ∷ m)))) at) (relation-told g at m r e)

  relation-fuel : (m : List ℕ) (n at : ℕ) (r : List ℕ) → drop at s ≡ relation_bytes m ++ r → length (drop at s) ≤ n → 0 < n
  unfolding relation_bytes
  relation-fuel m n at r e h = fuel-some 1 (length m ∷ m) n at r e h

  relation-left : (m : List ℕ) (n at : ℕ) (r : List ℕ) → drop at s ≡ relation_bytes m ++ r → length (drop at s) ≤ suc n → length (drop (at + length (relation_bytes m)) s) ≤ n
  unfolding relation_bytes
  relation-left m n at r e h = fuel-left 1 (length m ∷ m) n at r e h

  relation-ext : (f h : Progress → Answer (ℕ × ℕ)) (at : ℕ) (g : Progress) (m : List ℕ) → f (progress_of g 1 0 0) ≡ h (progress_of g 1 0 0) → after f at (relation_judged names g m) ≡ after h at (relation_judged names g m)
  unfolding relation_judged
  relation-ext f h at g m e = once-ext f h at (repeated names g.relations) (judged g 1 (relation_sized m) true 0 0) (judged-ext f h at g 1 (relation_sized m) true 0 0 e)

  relations-walked : (then : ℕ → Progress → Answer (ℕ × ℕ)) (all : ℕ) (tail : List ℕ) → ((n at : ℕ) (g : Progress) → drop at s ≡ tail → length (drop at s) ≤ n → g.relations ≡ all → go n at g ≡ then at g) →
      (ms : List (List ℕ)) (n at : ℕ) (g : Progress) → drop at s ≡ joined relation_bytes ms ++ tail → length (drop at s) ≤ n → g.relations + length ms ≡ all → go n at g ≡ relations_judged names then ms at g
  unfolding relations_judged joined
  relations-walked then all tail k [] n at g e h c = k n at g e h (omega arith)
  relations-walked then all tail k (m ∷ ms) zero at g e h c =
      absurd (let z = relation-fuel m zero at (joined relation_bytes ms ++ tail) (e ∙ append_assoc (relation_bytes m) (joined relation_bytes ms) tail) h in omega arith)
  relations-walked then all tail k (m ∷ ms) (suc n) at g e h c =
      let d = e ∙ append_assoc (relation_bytes m) (joined relation_bytes ms) tail in
      let w = (more-relations g).0 in
      walk-relation m n at (joined relation_bytes ms ++ tail) g d
      ∙ relation-ext (go n (at + length (relation_bytes m))) (relations_judged names then ms (at + length (relation_bytes m))) at g m
      (relations-walked then all tail k ms n (at + length (relation_bytes m)) (progress_of g 1 0 0) (skip_by s at (relation_bytes m) (joined relation_bytes ms ++ tail) d)
      (relation-left m n at (joined relation_bytes ms ++ tail) d h) (omega arith))

  -- ---- clauses

  module _ (rels : List (List ℕ)) (back : List ℕ) (image : s ≡ joined relation_bytes rels ++ back) where
    clause-told : (g : Progress) (at : ℕ) (c : Clause) (r : List ℕ) → g.relations ≡ length rels → drop at s ≡ clause_bytes c ++ r → text_verdict names s g at ≡ clause_judged rels g c
    unfolding text_verdict clause_judged body_right names_right
    clause-told g at c r count e =
        let k = record-kind s 2 _ at r (clause-here s c at r e) in
        let v = verdict-told s g at 2 (clause_sized c) (clause_known rels g c) k (clause-sized s c at r e) (clause-known s c at r e rels back image g count) in
        rw (k, v, clause-rel s c at r e, clause-mark s c at r e) (once-same (judged g 2 (clause_sized c) (clause_known rels g c) c.rel c.mark))

    walk-clause : (c : Clause) (n at : ℕ) (r : List ℕ) (g : Progress) → g.relations ≡ length rels → drop at s ≡ clause_bytes c ++ r → go (suc n) at g ≡ after (go n (at + length (clause_bytes c))) at (clause_judged rels g c)
    unfolding clause_bytes
    walk-clause c n at r g count e = walk-one 2 (inside c) n at r g e ∙ ap (after (go n (at + length (record_bytes 2 (inside c)))) at) (clause-told g at c r count e)

    clause-fuel : (c : Clause) (n at : ℕ) (r : List ℕ) → drop at s ≡ clause_bytes c ++ r → length (drop at s) ≤ n → 0 < n
    unfolding clause_bytes
    clause-fuel c n at r e h = fuel-some 2 (inside c) n at r e h

    clause-left : (c : Clause) (n at : ℕ) (r : List ℕ) → drop at s ≡ clause_bytes c ++ r → length (drop at s) ≤ suc n → length (drop (at + length (clause_bytes c)) s) ≤ n
    unfolding clause_bytes
    clause-left c n at r e h = fuel-left 2 (inside c) n at r e h

    clause-ext : (f h : Progress → Answer (ℕ × ℕ)) (at : ℕ) (g : Progress) (c : Clause) → f (progress_of g 2 c.rel c.mark) ≡ h (progress_of g 2 c.rel c.mark) → after f at (clause_judged rels g c) ≡ after h at (clause_judged rels g c)
    unfolding clause_judged
    clause-ext f h at g c e = judged-ext f h at g 2 (clause_sized c) (clause_known rels g c) c.rel c.mark e

    clauses-walked : (then : ℕ → Progress → Answer (ℕ × ℕ)) (tail : List ℕ) → ((n at : ℕ) (g : Progress) → drop at s ≡ tail → length (drop at s) ≤ n → g.relations ≡ length rels → go n at g ≡ then at g) →
        (cs : List Clause) (n at : ℕ) (g : Progress) → drop at s ≡ joined clause_bytes cs ++ tail → length (drop at s) ≤ n → g.relations ≡ length rels → go n at g ≡ clauses_judged rels then cs at g
    unfolding clauses_judged joined
    clauses-walked then tail k [] n at g e h c = k n at g e h c
    clauses-walked then tail k (x ∷ cs) zero at g e h c =
        absurd (let z = clause-fuel x zero at (joined clause_bytes cs ++ tail) (e ∙ append_assoc (clause_bytes x) (joined clause_bytes cs) tail) h in omega arith)
    clauses-walked then tail k (x ∷ cs) (suc n) at g e h c =
        let d = e ∙ append_assoc (clause_bytes x) (joined clause_bytes cs) tail in
        walk-clause x n at (joined clause_bytes cs ++ tail) g c d
        ∙ clause-ext (go n (at + length (clause_bytes x))) (clauses_judged rels then cs (at + length (clause_bytes x))) at g x
        (clauses-walked then tail k cs n (at + length (clause_bytes x)) (progress_of g 2 x.rel x.mark) (skip_by s at (clause_bytes x) (joined clause_bytes cs ++ tail) d)
        (clause-left x n at (joined clause_bytes cs ++ tail) d h) ((more-clauses g x.rel x.mark).2 ∙ c))

    ask-told : (g : Progress) (at n : ℕ) (q : Goal) (r : List ℕ) → g.relations ≡ length rels → drop at s ≡ ask_bytes n q ++ r → text_verdict names s g at ≡ ask_judged rels g n q
    unfolding text_verdict ask_judged body_right names_right
    ask-told g at n q r count e =
        let k = record-kind s 3 _ at r (ask-here s n q at r e) in
        let v = verdict-told s g at 3 (ask_sized n q) (goal_known rels n q) k (ask-sized s n q at r e) (ask-known s n q at r e rels back image g.relations count) in
        rw (k, v) (once-same (judged g 3 (ask_sized n q) (goal_known rels n q) (byte_at s (at + 4)) (byte_at s (at + 6))) ∙ judged-ask g (ask_sized n q) (goal_known rels n q) (byte_at s (at + 4)) (byte_at s (at + 6)) 0 0)

    -- ---- the goal

    walk-ask : (v : ℕ) (q : Goal) (n at : ℕ) (g : Progress) → drop at s ≡ ask_bytes v q ++ [] → go (suc n) at g ≡ one (go n (at + length (ask_bytes v q))) at g
    unfolding ask_bytes
    walk-ask v q n at g e = walk-one 3 (v ∷ goal_bytes q) n at [] g e

    ask-past : (v : ℕ) (q : Goal) (at : ℕ) → drop at s ≡ ask_bytes v q ++ [] → length s ≤ at + length (ask_bytes v q)
    ask-past v q at e =
        let a = ap (λ (l : List ℕ). length l) e in
        let b = length-append (ask_bytes v q) [] in
        let d = length-drop at s in
        omega arith

    at-end : (n at : ℕ) (g : Progress) → length s ≤ at → go n at g ≡ load_end s g
    unfolding walk
    at-end zero at g h = refl
    at-end (suc n) at g h = rw (le-ltb at (length s) h)

    ask-end : (g : Progress) → load_end s (progress_of g 3 0 0) ≡ taken (progress_of g 3 0 0)
    unfolding progress_of
    ask-end g = refl

    ask-ext : (f h : Progress → Answer (ℕ × ℕ)) (at : ℕ) (g : Progress) (n : ℕ) (q : Goal) → f (progress_of g 3 0 0) ≡ h (progress_of g 3 0 0) → after f at (ask_judged rels g n q) ≡ after h at (ask_judged rels g n q)
    unfolding ask_judged
    ask-ext f h at g n q e = judged-ext f h at g 3 (ask_sized n q) (goal_known rels n q) 0 0 e

    ask-fuel : (v : ℕ) (q : Goal) (n at : ℕ) → drop at s ≡ ask_bytes v q ++ [] → length (drop at s) ≤ n → 0 < n
    unfolding ask_bytes
    ask-fuel v q n at e h = fuel-some 3 (v ∷ goal_bytes q) n at [] e h

    ask-walked : (v : ℕ) (q : Goal) (n at : ℕ) (g : Progress) → drop at s ≡ ask_bytes v q → length (drop at s) ≤ n → g.relations ≡ length rels → go n at g ≡ after taken at (ask_judged rels g v q)
    ask-walked v q zero at g e h c = absurd (let z = ask-fuel v q zero at (e ∙ sym (append-nil (ask_bytes v q))) h in omega arith)
    ask-walked v q (suc n) at g e h c = ask-last v q n at g (e ∙ sym (append-nil (ask_bytes v q))) c
      where
        ask-last : (v : ℕ) (q : Goal) (n at : ℕ) (g : Progress) → drop at s ≡ ask_bytes v q ++ [] → g.relations ≡ length rels → go (suc n) at g ≡ after taken at (ask_judged rels g v q)
        ask-last v q n at g e c =
            walk-ask v q n at g e ∙ ap (after (go n (at + length (ask_bytes v q))) at) (ask-told g at v q [] c e)
            ∙ ask-ext (go n (at + length (ask_bytes v q))) taken at g v q (at-end n (at + length (ask_bytes v q)) (progress_of g 3 0 0) (ask-past v q at e) ∙ ask-end g)

-- THE LAW
pub records-judged : (names : List Name) (pr : Program) →
    records_in names (program_bytes pr) ≡ relations_judged names (clauses_judged pr.relations (λ at g. after taken at (ask_judged pr.relations g pr.goal_vars pr.goal)) pr.clauses) pr.relations 0 nothing_read
unfolding records_in program_bytes
records-judged names pr =
    let back = joined clause_bytes pr.clauses ++ ask_bytes pr.goal_vars pr.goal in
    let s = joined relation_bytes pr.relations ++ back in
    relations-walked names s (clauses_judged pr.relations (λ at g. after taken at (ask_judged pr.relations g pr.goal_vars pr.goal)) pr.clauses) (length pr.relations) back
    (λ n at g e h c. clauses-walked names s pr.relations back refl (λ at g. after taken at (ask_judged pr.relations g pr.goal_vars pr.goal)) (ask_bytes pr.goal_vars pr.goal)
    (λ n at g e h c. ask-walked names s pr.relations back refl pr.goal_vars pr.goal n at g e h c) pr.clauses n at g e h c)
    pr.relations (length s) 0 nothing_read refl (omega arith) (omega arith)
