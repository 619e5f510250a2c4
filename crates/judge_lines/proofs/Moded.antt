-- One mode line more among those that were tested.
use Rattle.std.specs.Prelude.{Err, Ok}
use Rattle.parlog.specs.Answer.{Answer}
use mathlib.Core.Path.{◌∙◌, ◌≡◌, ap, refl, sym}
use mathlib.Core.Bool.{◌&&◌, and-true as true-right, Bool, cond, false, not, true}
use mathlib.Core.List.{[], ◌∷◌, List}
use Prim.Native.Nat.{◌+◌, ◌≤◌, suc, zero, ℕ}
use lib.Dec.{eqb, leb, ltb}
use lib.ListN.{get_or, length}
use borrow.Author.Tests.{le-leb, le-ltb, leb-true, lt-leb, ltb-false, ltb-true, ne_eqb}
use native.Mathlib.Omega.{arith}
use Rattle.judge_image.specs.Judged.{judged, progress_of, relation_judged, relation_sized, relations_judged}
use Rattle.judge_lines.specs.Whole.{Opening}
use Rattle.judge_text.specs.Tests.{tested}
use Rattle.lay_lines.specs.Lines.{modes_of}
use Rattle.parlog.specs.Load.{kind_fault, refusal, refuse_if, too_many}
use Rattle.parlog.specs.declared.Progress.{Progress}
use Rattle.text_names.specs.Bytes.{first, next, past}
use Rattle.text_names.specs.Names.{look, Name}
use Rattle.text_program.proofs.Fields.{record-length}
use Rattle.text_program.specs.Encoded.{relation_bytes}
use Rattle.text_program.specs.Parsing.{all_of, once_by, repeated}
use Rattle.text_program.specs.Source.{brackets_by, cons_got, Got, got, ModeLine, read_brackets, read_mode, read_mode_line, row_by, row_for}

-- ---- modes are 0 or 1

mode_small : (b : Bool) → leb (cond b 1 0) 1 ≡ true
mode_small true = refl
mode_small false = refl

row_small : (n : ℕ) (s : List ℕ) → all_of (λ (m : ℕ). leb m 1) (row_for n read_mode 44 s).value ≡ true
unfolding row_for all_of
row_small zero s = refl
row_small (suc n) s = go (eqb (first (next s)) 44) (row_small n (next (next s)))
  where
    go : (b : Bool) → all_of (λ (m : ℕ). leb m 1) (row_for n read_mode 44 (next (next s))).value ≡ true → all_of (λ (m : ℕ). leb m 1) (row_by (row_for n read_mode 44) b (read_mode s)).value ≡ true
    go true e = rw (mode_small (eqb (first s) 94)) e
    go false e = rw (mode_small (eqb (first s) 94)) refl

modes-small : (b : Bool) (s : List ℕ) → all_of (λ (m : ℕ). leb m 1) (brackets_by b read_mode s).value ≡ true
unfolding all_of
modes-small true s = row_small (length (next s)) (next s)
modes-small false s = refl

pub line-sized : (s : List ℕ) → relation_sized (read_mode_line s).value.modes ≡ leb (length (read_mode_line s).value.modes) 4
unfolding relation_sized read_mode_line read_brackets
line-sized s = rw (modes-small (eqb (first (past (past s))) 40) (past (past s))) (true-right (leb (length (brackets_by (eqb (first (past (past s))) 40) read_mode (past (past s))).value) 4))

-- ---- one mode line

no-fault : (g : Progress) → g.kind ≤ 1 → kind_fault g 1 ≡ false
unfolding kind_fault
no-fault g h = rw (le-ltb 1 g.kind h, ne_eqb g.kind 3 (λ e. omega arith)) refl

again-told : (a b : ℕ) → leb b a ≡ not (ltb a b)
again-told a b = go (ltb a b) refl
  where
    go : (c : Bool) → ltb a b ≡ c → leb b a ≡ not c
    go true e = lt-leb b a (let h = ltb-true a b e in omega arith)
    go false e = le-leb b a (ltb-false a b e)

pub mode-tested : (names : List Name) (g : Progress) (ms : List ℕ) (x : Name) (k : ℕ) (right : Bool) → Opening g → right ≡ leb (length ms) 4 → relation_sized ms ≡ leb (length ms) 4 → get_or names g.relations [] ≡ x → k ≡ look names x →
    tested (leb 32 g.relations) right (leb g.relations k) false (record { relations = g.relations + 1; clauses = g.clauses; kind = 1; relation = g.relation; block = g.block }) ≡ relation_judged names g ms
unfolding tested relation_judged judged progress_of too_many repeated
mode-tested names g ms x k right o r z n e =
    rw (no-fault g o.kind, z, ← r, n, ← e, again-told k g.relations) (go (leb 32 g.relations) right (ltb k g.relations))
  where
    go : (a b c : Bool) → refuse_if a 6 (refuse_if (not b) 4 (refuse_if (not (not c)) 5 (Ok (record { relations = g.relations + 1; clauses = g.clauses; kind = 1; relation = g.relation; block = g.block }))))
        ≡ once_by c (refuse_if a 6 (refuse_if (not b) 4 (Ok (record { relations = g.relations + 1; clauses = g.clauses; kind = 1; relation = g.relation; block = g.block }))))
    go true b c = refl
    go false false c = refl
    go false true true = refl
    go false true false = refl

pub mode-length : (ms : List ℕ) → length (relation_bytes ms) ≡ 5 + length ms
unfolding relation_bytes
mode-length ms = let a = record-length 1 (length ms ∷ ms) in omega arith

pub mode-few : (ms : List ℕ) → relation_sized ms ≡ true → length ms ≤ 4
unfolding relation_sized
mode-few ms e = go (leb (length ms) 4) refl e
  where
    go : (b : Bool) → leb (length ms) 4 ≡ b → (b && all_of (λ (m : ℕ). leb m 1) ms) ≡ true → length ms ≤ 4
    go true f h = leb-true (length ms) 4 f
    go false f h = absurd (let z : ◌≡◌ {A = ℕ} 0 1 = cc in omega arith)

-- ---- the mode lines that are left

module _ (names : List Name) (then : ℕ → Progress → Answer (ℕ × ℕ)) (k : ℕ) (g : Progress) where
  pub modes-on : (x : ModeLine) (Y Z : Got (List ModeLine)) (next : Progress) (at : ℕ) → Y ≡ cons_got x Z → relation_judged names g x.modes ≡ Ok next → at ≡ k + length (relation_bytes x.modes) → relations_judged names then (modes_of Z.value) at next ≡ relations_judged names then (modes_of Y.value) k g
  unfolding relations_judged
  modes-on x Y Z next at e h l = sym (ap (λ (y : Got (List ModeLine)). relations_judged names then (modes_of y.value) k g) e ∙ rw (h, l) refl)

  pub modes-stop : (x : ModeLine) (Y Z : Got (List ModeLine)) (n : ℕ) → Y ≡ cons_got x Z → relation_judged names g x.modes ≡ Err n → Err (refusal n k) ≡ relations_judged names then (modes_of Y.value) k g
  unfolding relations_judged
  modes-stop x Y Z n e h = sym (ap (λ (y : Got (List ModeLine)). relations_judged names then (modes_of y.value) k g) e ∙ rw h refl)

  pub modes-end : (r : List ℕ) (Y : Got (List ModeLine)) → Y ≡ got [] r → then k g ≡ relations_judged names then (modes_of Y.value) k g
  unfolding relations_judged
  modes-end r Y e = sym (ap (λ (y : Got (List ModeLine)). relations_judged names then (modes_of y.value) k g) e)
