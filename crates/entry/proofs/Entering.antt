-- The ways through the first tests of a call.
use Rattle.std.specs.Prelude.{Err, Ok}
use Rattle.parlog.specs.Answer.{Answer}
use mathlib.Core.Path.{◌∙◌, ◌≡◌, sym}
use mathlib.Core.Bool.{◌&&◌, Bool, false, true}
use mathlib.Core.List.{List}
use Prim.Native.Nat.{◌≤◌, ℕ}
use lib.Dec.{ltb}
use lib.ListN.{length}
use borrow.Author.Tests.{ltb-true}
use native.Mathlib.Omega.{arith}
use Rattle.entry.specs.Entered.{EnterSays, Inside}
use Rattle.load.specs.Bounds.{Bounded}
use Rattle.parlog.proofs.Assume.{assume-counts, full-sizes}
use Rattle.std.proofs.lemmas.Bool.{and_parts}
use Rattle.parlog.specs.Calls.{enter}
use Rattle.parlog.specs.Limits.{Limits}
use Rattle.parlog.specs.Load.{load_of, refusal}
use Rattle.parlog.specs.Program.{program_of}
use Rattle.parlog.specs.Scan.{every}
use Rattle.parlog.specs.TableRules.{cell_known, full_size, lent_ok, state_ok, tables_ok}
use Rattle.parlog.specs.Tables.{Lent, marker_last, proc_count, tables_in, var_count}
use Rattle.parlog.specs.declared.Refusal.{Refusal}
use Rattle.program_index.specs.Indexed.{Indexed, IndexedOf}
use Rattle.rows.proofs.Tables.{procs-length}
use Rattle.vars.proofs.Tables.{vars-length}

-- THE LAW: what an accepted image and good tables give
pub lent-inside : (lim : Limits) (s : List ℕ) (r c : ℕ) (l : Lent) → load_of s ≡ Ok (r, c) → r ≤ 32 → c ≤ 64 → lent_ok lim (program_of s r c) l ≡ true → Inside lim s r c l
unfolding lent_ok tables_ok tables_in
lent-inside lim s r c l el hr hc e =
    let a = and_parts (full_size lim l) (every (cell_known l.vars) (var_count l.head) && tables_ok lim (program_of s r c) (tables_in l)) e in
    let b = and_parts (every (cell_known l.vars) (var_count l.head)) (tables_ok lim (program_of s r c) (tables_in l)) a.1 in
    let t = and_parts (state_ok lim (program_of s r c) (tables_in l).state) (ltb (marker_last l.head) (length (tables_in l).state.procs)) b.1 in
    let k = assume-counts lim (program_of s r c) (tables_in l).state t.0 in
    let m = ltb-true (marker_last l.head) (length (tables_in l).state.procs) t.1 in
    let (h, p, v) = full-sizes lim l a.0 in
    let np = procs-length l.procs (proc_count l.head) in
    let nv = vars-length l.vars (var_count l.head) in
    record {
      loaded = el;
      good = e;
      relations = hr;
      clauses = hc;
      head = h;
      procs_size = omega (arith, p);
      vars_size = omega (arith, v);
      some = omega (arith, np, k.0);
      procs_most = omega (arith, np, k.1);
      vars_most = omega (arith, nv, k.3);
      last = omega (arith, np, m);
      rows = omega (arith, p, np, k.1);
      cells = omega (arith, v, nv, k.3);
      goal = omega (arith, nv, k.2);
      cells_known = b.0;
    }

module _ (lim : Limits) (s : List ℕ) (l : Lent) {a : Answer (ℕ × ℕ)} (is : a ≡ load_of s) where
  pub enter-refused : {f : Refusal} → a ≡ Err f → EnterSays lim s l a
  unfolding enter
  enter-refused e = rw e (record { entry = rw (sym is ∙ e); inside = tt })

  module _ {r c : ℕ} (e : a ≡ Ok (r, c)) {ok : Bool} (test : ok ≡ lent_ok lim (program_of s r c) l) where
    pub enter-turned : ok ≡ false → {f : Refusal} → f ≡ refusal 8 0 → EnterSays lim s l (Err f)
    unfolding enter
    enter-turned h ef = record { entry = rw (sym is ∙ e, sym test ∙ h, ef); inside = tt }

    pub enter-entered : ok ≡ true → Bounded (length s) a → EnterSays lim s l (Ok (r, c))
    unfolding enter
    enter-entered h b =
        let k = rw e at b in
        record { entry = rw (sym is ∙ e, sym test ∙ h); inside = lent-inside lim s r c l (sym is ∙ e) k.0 k.1 (sym test ∙ h) }

-- what a call knows that was let in
pub inside_of : (lim : Limits) (s : List ℕ) (l : Lent) {a : Answer (ℕ × ℕ)} {r c : ℕ} → EnterSays lim s l a → a ≡ Ok (r, c) → Inside lim s r c l
inside_of lim s l h e = rw e at h.inside

pub indexed_of : (s ix : List ℕ) {a : Answer (ℕ × ℕ)} {r c : ℕ} → IndexedOf a s ix → a ≡ Ok (r, c) → Indexed s r c ix
indexed_of s ix h e = rw e at h
