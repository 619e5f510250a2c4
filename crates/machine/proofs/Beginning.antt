-- The ways through a start, and the bytes that it leaves.
use Rattle.std.specs.Prelude.{Err, None, Ok, Option}
use mathlib.Core.Path.{ap, refl, sym, ◌∙◌, ◌≡◌}
use mathlib.Core.Bool.{Bool, false, true}
use mathlib.Core.List.{[], List, ◌++◌, ◌∷◌}
use Prim.Native.Nat.{suc, zero, ℕ, ◌*◌, ◌+◌, ◌<◌, ◌≤◌}
use lib.ListN.{get_or, length, length-replicate, replicate}
use native.Mathlib.Omega.{arith}
use Rattle.load.specs.Bounds.{Bounded}
use Rattle.load.specs.Fields.{refusal_of}
use Rattle.machine.specs.Starting.{BeginSays, SizedOf, StartableSays, StartSays}
use Rattle.parlog.proofs.Assume.{full-sizes}
use Rattle.parlog.proofs.Scans.{every-is}
use Rattle.parlog.specs.Answer.{Answer}
use Rattle.parlog.specs.Calls.{start_call}
use Rattle.parlog.specs.Codes.{kind_of, starting, Tag, the_goal}
use Rattle.parlog.specs.Limits.{Limits, Usable}
use Rattle.parlog.specs.Load.{load_of, refusal}
use Rattle.parlog.specs.Program.{goal_by, Program, program_of, tag_of_goal}
use Rattle.parlog.specs.TableRules.{cell_known, full_size}
use Rattle.parlog.specs.Tables.{binding_bytes, binding_of, cell_size, fresh, fresh_tables, goal_spot, head_bytes, Lent, new_process, process_bytes, procs_of, put_tables, row_size, rows_bytes, started_lent, vars_in, written, zeros}
use Rattle.parlog.specs.declared.Process.{Process}
use Rattle.parlog.specs.declared.Refusal.{Refusal}
use Rattle.parlog.specs.declared.Term.{Term}
use Rattle.rows.proofs.Exact.{table-bytes}
use Rattle.rows.proofs.Laws.{wiped-all, zeros-at, zeros-length}
use Rattle.rows.proofs.Tables.{procs-none}
use Rattle.rows.specs.Rows.{Bytes, Table, wiped}
use Rattle.vars.proofs.Exact.{cells-bytes}
use Rattle.vars.proofs.Laws.{binding-none, known-none}
use Rattle.vars.proofs.Tables.{cells_same, vars-is, vars-length}

lent-sized : (lim : Limits) (r c : ℕ) (l : Lent) → r ≤ 32 → c ≤ 64 → full_size lim l ≡ true → SizedOf (Ok (r, c)) lim l
lent-sized lim r c l hr hc e = let (h, p, v) = full-sizes lim l e in (hr, hc, h, p, v)

module _ (lim : Limits) (s : List ℕ) (l : Lent) {a : Answer (ℕ × ℕ)} (is : a ≡ load_of s) where
  pub startable-refused : {f : Refusal} → a ≡ Err f → StartableSays lim s l a
  unfolding start_call
  startable-refused e = rw e (record { call = rw (sym is ∙ e); sized = tt; loaded = tt })

  module _ {r c : ℕ} (e : a ≡ Ok (r, c)) {ok : Bool} (test : ok ≡ full_size lim l) where
    pub startable-turned : ok ≡ false → {f : Refusal} → f ≡ refusal 8 0 → StartableSays lim s l (Err f)
    unfolding start_call
    startable-turned h ef = record { call = rw (sym is ∙ e, sym test ∙ h, ef); sized = tt; loaded = tt }

    pub startable-sized : ok ≡ true → Bounded (length s) a → StartableSays lim s l (Ok (r, c))
    unfolding start_call
    startable-sized h b =
        let k = rw e at b in
        record { call = rw (sym is ∙ e, sym test ∙ h); sized = lent-sized lim r c l k.0 k.1 (sym test ∙ h); loaded = sym is ∙ e }

pub sized_of : (lim : Limits) (s : List ℕ) (l : Lent) {a : Answer (ℕ × ℕ)} {r c : ℕ} → StartableSays lim s l a → a ≡ Ok (r, c) → SizedOf (Ok (r, c)) lim l
sized_of lim s l h e = rw e at h.sized

-- ---- the goal's process

pub process-new : (pr : Program) {t : Tag} → t ≡ tag_of_goal (goal_by (kind_of 0) pr 0) → new_process t starting 0 (goal_spot the_goal 0 0) ≡ new_process (tag_of_goal pr.goal) starting 0 (goal_spot the_goal 0 0)
unfolding goal_by kind_of
process-new pr e = rw e

-- ---- bytes

wiped-whole : (l : List ℕ) (n : ℕ) → length l ≡ n → wiped l 0 n ≡ zeros n
wiped-whole l n e = rw e at (wiped-all l)

pub begun-procs : (lim : Limits) → Usable lim → (pr : Program) (l z m : List ℕ) {x : Process} → length l ≡ lim.procs * row_size → z ≡ wiped l 0 (lim.procs * row_size) → x ≡ new_process (tag_of_goal pr.goal) starting 0 (goal_spot the_goal 0 0)
    → Table z m (procs_of z 0 ++ (x ∷ [])) → Bytes m → m ≡ (started_lent lim pr).procs
unfolding started_lent put_tables fresh_tables fresh
begun-procs lim ok pr l z m {x} n ez ex t are =
    let e : z ≡ zeros (lim.procs * row_size) = ez ∙ wiped-whole l (lim.procs * row_size) n in
    let w : Table (zeros (lim.procs * row_size)) m (x ∷ []) = rw (procs-none z, e) at t in
    let b = table-bytes w are (omega (arith, zeros-length (lim.procs * row_size), ok.goal)) in
    b ∙ ap (λ (y : Process). written (rows_bytes process_bytes (y ∷ [])) (zeros (lim.procs * row_size))) ex

zeros-zero : (n k : ℕ) → get_or (zeros n) k 0 ≡ 0
unfolding zeros
zeros-zero zero k = refl
zeros-zero (suc n) zero = refl
zeros-zero (suc n) (suc k) = zeros-zero n k

zeros-are : (n : ℕ) → Bytes (zeros n)
zeros-are n b = omega (arith, zeros-zero n b)

zero_row : (n g v : ℕ) → v < g → g * cell_size ≤ n → (k : ℕ) → k < cell_size → get_or (zeros n) (v * cell_size + k) 0 ≡ 0
zero_row n g v h e k u = zeros-at n (v * cell_size + k) (omega arith)

free-at : (m v : ℕ) → binding_of (replicate m None) v ≡ None
free-at zero v = refl
free-at (suc m) zero = refl
free-at (suc m) (suc v) = free-at m v

zeros-free : (n g : ℕ) → g * cell_size ≤ n → vars_in (zeros n) g ≡ replicate g None
zeros-free n g e =
    let q = length-replicate {A = Option Term} g None in
    let r : vars_in (zeros n) (length {A = Option Term} (replicate g None)) ≡ replicate g None =
    vars-is (zeros n) (replicate g None) (λ v h. binding-none (zeros n) v (zero_row n g v (omega arith) e) ∙ sym (free-at g v)) in
    rw q at r

-- zeros hold unbound variables
free_bytes : (n g : ℕ) → g * cell_size ≤ n → zeros n ≡ written (rows_bytes binding_bytes (replicate g None)) (zeros n)
free_bytes n g e =
    let full = every-is (cell_known (zeros n)) g (λ v h. known-none (zeros n) v (zero_row n g v h e)) in
    let q = vars-length (zeros n) g in
    let b : zeros n ≡ written (rows_bytes binding_bytes (vars_in (zeros n) g)) (zeros n) =
    cells-bytes (cells_same (zeros n) g) full (zeros-are n) (omega (arith, zeros-length n)) in
    rw (zeros-free n g e) at b

module _ (lim : Limits) (ok : Usable lim) (pr : Program) {g : ℕ} (eg : g ≡ pr.goal_vars) (small-goal : g ≤ 255) where
  pub begun : (h p v w : List ℕ) → h ≡ head_bytes 1 g 0 0 → p ≡ (started_lent lim pr).procs → length v ≡ lim.vars * cell_size → w ≡ wiped v 0 (lim.vars * cell_size) → BeginSays lim pr h p w
  begun h p v w eh ep n ew = record { head = head-begun h eh; procs = ep; vars = ew ∙ wiped-whole v (lim.vars * cell_size) n ∙ vars-begun }
    where
      head-begun : (x : List ℕ) → x ≡ head_bytes 1 g 0 0 → x ≡ (started_lent lim pr).head
      head-begun x e = unfold started_lent put_tables fresh_tables fresh in rw (length-replicate {A = Option Term} pr.goal_vars None, ← eg) e

      vars-begun : zeros (lim.vars * cell_size) ≡ (started_lent lim pr).vars
      vars-begun = unfold started_lent put_tables fresh_tables fresh in rw (← eg) (free_bytes (lim.vars * cell_size) g (omega (arith, ok.goal-vars)))

-- ---- the call

module _ (lim : Limits) (s : List ℕ) (l : Lent) {a : Answer (ℕ × ℕ)} (told : StartableSays lim s l a) where
  pub start-refused : {f r : Refusal} → a ≡ Err f → r ≡ refusal_of a → StartSays lim s l (Err r) l.head l.procs l.vars
  start-refused e er = let k = rw e at told.call in record { answer = rw (k, er, e); head = rw k; procs = rw k; vars = rw k }

  pub start-begun : {r c : ℕ} → a ≡ Ok (r, c) → {h p v : List ℕ} → BeginSays lim (program_of s r c) h p v → StartSays lim s l (Ok tt) h p v
  start-begun e b = let k = rw e at told.call in record { answer = rw k; head = rw k b.head; procs = rw k b.procs; vars = rw k b.vars }
