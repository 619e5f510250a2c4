-- The runner's text from its lines.
use Rattle.std.specs.Prelude.{Err, Ok, Option}
use mathlib.Core.Path.{ap, refl, sym, ◌∙◌, ◌≡◌}
use mathlib.Core.List.{[], append-nil as append_nil, append_assoc, List, ◌++◌}
use Prim.Native.Nat.{suc, ℕ, ◌*◌, ◌+◌, ◌-◌, ◌<◌, ◌≤◌}
use lib.ListN.{drop, length, take}
use lib.Seq.{drop-length}
use borrow.Author.Tests.{lt-ltb}
use native.Mathlib.Omega.{arith}
use Rattle.load.specs.Fields.{refusal_of}
use Rattle.parlog.proofs.Answered.{ok-both}
use Rattle.parlog.specs.Answer.{Answer}
use Rattle.parlog.specs.Limits.{Limits}
use Rattle.parlog.specs.Load.{load_of, long}
use Rattle.parlog.specs.Program.{Program, program_of}
use Rattle.parlog.specs.Tables.{var_count, vars_in}
use Rattle.parlog.specs.Text.{refused_text, run_text, runner_text, var_line, var_lines}
use Rattle.parlog.specs.Unify.{value}
use Rattle.parlog.specs.declared.End.{End}
use Rattle.parlog.specs.declared.Refusal.{Refusal}
use Rattle.parlog.specs.declared.Term.{Term}
use Rattle.parlog.specs.declared.Term.TheVariants.{Var}
use Rattle.runner.proofs.Playing.{Played, the_run}
use Rattle.runner_text.proofs.Laws.{both, still, told-as}
use Rattle.runner_text.specs.Fronting.{Fronted, line_text, ran_text}
use Rattle.runner_text.specs.Writing.{Fronts, standing}
use Rattle.runner_text.specs.declared.Text.{Text}

-- ---- the lines of the variables

-- those from v on are put in front of what stood
pub record Listing (w : Text) (vs : List (Option Term)) (goal : ℕ) (x : Text) (v : ℕ) : Type 0 where
  pub lent : x.out.ghost_name ≡ w.out.ghost_name
  pub size : length x.out.now ≡ length w.out.now
  pub text : standing x ≡ var_lines vs v (goal - v) ++ standing w
  pub front : take x.at x.out.now ≡ take x.at w.out.now
  pub lower : x.at ≤ w.at
  pub near : w.at ≤ x.at + (goal - v) * 49
  pub some : v ≤ goal

lines_none : (vs : List (Option Term)) (i m : ℕ) → m ≡ 0 → [] ≡ var_lines vs i m
unfolding var_lines
lines_none vs i m e = rw e

lines_more : (vs : List (Option Term)) (i m : ℕ) → line_text i (value vs (Var i)) ++ var_lines vs (suc i) m ≡ var_lines vs i (suc m)
unfolding var_lines var_line line_text
lines_more vs i m = refl

module _ (w : Text) (vs : List (Option Term)) (goal : ℕ) where
  pub list-start : Listing w vs goal w goal
  list-start = record { lent = refl; size = refl; text = ap (λ (u : List ℕ). u ++ standing w) (lines_none vs goal (goal - goal) (omega arith)); front = refl; lower = omega arith; near = omega arith; some = omega arith }

  module _ (x : Text) (v : ℕ) (here : Listing w vs goal x v) where
    pub list_on : (y : Text) {t : Term} → 0 < v → t ≡ value vs (Var (v - 1)) → Fronts x 49 (line_text (v - 1) t ++ standing x) y → Listing w vs goal y (v - 1)
    list_on y {t} h e f =
        let g = f.fronted in
        let i = here.some in
        let j = here.near in
        let l = here.lower in
        let a = g.near in
        let b = g.lower in
        let k : v ≡ suc (v - 1) = omega arith in
        let m : suc (goal - v) ≡ goal - (v - 1) = omega arith in
        let line = line_text (v - 1) (value vs (Var (v - 1))) in
        record {
          lent = f.lent ∙ here.lent;
          size = g.size ∙ here.size;
          text = g.text
              ∙ ap (λ (u : Term). line_text (v - 1) u ++ standing x) e
              ∙ ap (λ (u : List ℕ). line ++ u) (here.text ∙ ap (λ (q : ℕ). var_lines vs q (goal - v) ++ standing w) k)
              ∙ sym (append_assoc line (var_lines vs (suc (v - 1)) (goal - v)) (standing w))
              ∙ ap (λ (u : List ℕ). u ++ standing w) (lines_more vs (v - 1) (goal - v) ∙ ap (var_lines vs (v - 1)) m);
          front = still w.out.now x.out.now y.out.now x.at y.at b here.front g.front;
          lower = omega arith;
          near = omega arith;
          some = omega arith;
        }

    pub list_done : v ≤ 0 → goal ≤ 255 → Fronts w 12495 (var_lines vs 0 goal ++ standing w) x
    list_done h g =
        let e : v ≡ 0 = omega arith in
        let m : goal - v ≡ goal = omega arith in
        let j = here.near in
        record {
          lent = here.lent;
          fronted = record { size = here.size; text = here.text ∙ ap (λ (u : List ℕ). u ++ standing w) (ap (var_lines vs v) m ∙ ap (λ (q : ℕ). var_lines vs q goal) e); front = here.front; lower = here.lower; near = omega arith };
        }

-- ---- the whole text

pub never-unrun : {lim : Limits} {pr : Program} {a : Answer (End × ℕ)} {h v : List ℕ} {f : Refusal} → Played lim pr a h v → a ≡ Err f → ⊥
never-unrun x e = let z = sym e ∙ x.answer in let w : ◌≡◌ {A = ℕ} 0 1 = cc in omega arith

-- the tables after the run have a row for each of the goal's variables
pub lines_fit : {lim : Limits} {pr : Program} {a : Answer (End × ℕ)} {h v : List ℕ} {g k : ℕ} → Played lim pr a h v → g ≡ pr.goal_vars → k ≡ var_count h → (k * 4 ≤ length v) × (g ≤ k)
lines_fit x eg ek = rw (eg, ek) (x.cells, x.goal)

ended-end : {e e' : End} {n n' : ℕ} → ◌≡◌ {A = Answer (End × ℕ)} (Ok (e, n)) (Ok (e', n')) → e ≡ e'
ended-end z = (ok-both z).0

ended-moves : {e e' : End} {n n' : ℕ} → ◌≡◌ {A = Answer (End × ℕ)} (Ok (e, n)) (Ok (e', n')) → n ≡ n'
ended-moves z = (ok-both z).1

run-text : (lim : Limits) (s : List ℕ) {r c : ℕ} → load_of s ≡ Ok (r, c) → (e : End) (n : ℕ) (vs : List (Option Term)) (g : ℕ) → e ≡ (the_run lim (program_of s r c)).end → n ≡ (the_run lim (program_of s r c)).moves
    → vs ≡ (the_run lim (program_of s r c)).tables.state.vars → g ≡ (program_of s r c).goal_vars → ran_text e n (var_lines vs 0 g) ≡ runner_text lim s
unfolding runner_text run_text ran_text
run-text lim s el e n vs g ee en ev eg = rw (el, ee, en, ev, eg)

-- where no text stands
pub none-stands : (w : Text) → w.at ≡ length w.out.now → standing w ≡ []
none-stands w e = ap (λ (i : ℕ). drop i w.out.now) e ∙ drop-length w.out.now

module _ (lim : Limits) (s : List ℕ) where
  pub told-refused : {l : Answer (ℕ × ℕ)} {f r : Refusal} {w x : Text} → l ≡ load_of s → l ≡ Err f → r ≡ refusal_of l → Fronts w 53 (refused_text r) x → Fronts w 12534 (runner_text lim s) x
  unfolding runner_text
  told-refused el e er f = told-as f (rw (sym el ∙ e, er, e)) (omega arith)

  pub told-run : {r c : ℕ} {a : Answer (End × ℕ)} {h v : List ℕ} {e : End} {n g k : ℕ} {w x y : Text} → load_of s ≡ Ok (r, c) → Played lim (program_of s r c) a h v → a ≡ Ok (e, n) → g ≡ (program_of s r c).goal_vars → k ≡ var_count h
      → w.at ≡ length w.out.now → Fronts w 12495 (var_lines (vars_in v k) 0 g ++ standing w) x → Fronts x 39 (ran_text e n (standing x)) y → Fronts w 12534 (runner_text lim s) y
  told-run {v = v} {e = e} {n = n} {g = g} {k = k} {w = w} el x ea eg ek z f y =
      let q = sym ea ∙ x.answer in
      let vs = var_lines (vars_in v k) 0 g in
      told-as (both (ran_text e n) f y)
      (ap (λ (u : List ℕ). ran_text e n (vs ++ u)) (none-stands w z) ∙ ap (ran_text e n) (append_nil vs) ∙ run-text lim s el e n (vars_in v k) g (ended-end q) (ended-moves q) (rw ek x.vars) eg)
      (omega arith)

-- the row that was lent to a writer of text
pub lent-back : {o o' t : List ℕ} {w x : Text} {r : ℕ} → w.out.now ≡ o → w.at ≡ length o → length o ≡ 16384 → Fronts w 12534 t x → x.out.now ≡ o' → x.at ≡ r → Fronted o 16384 12534 t o' r
lent-back a b n f c d =
    let g = f.fronted in
    rw (← a, ← c, ← d) (rw (b ∙ n) at g)

-- ---- images that are too long

-- one text for all of them: so what was read of one that is longer than the runner's buffer gives the text of the whole
pub long_same : (lim : Limits) (s s' : List ℕ) → 32768 < length s → 32768 < length s' → runner_text lim s ≡ runner_text lim s'
unfolding runner_text load_of long
long_same lim s s' h g = rw (lt-ltb 32768 (length s) h, lt-ltb 32768 (length s') g)
