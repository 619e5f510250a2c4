-- The ways through a look at all goal variables, and the rows that it writes.
use Rattle.std.specs.Prelude.{Option, None, Err, Some, Ok}
use Rattle.parlog.specs.Answer.{Answer}
use mathlib.Core.Path.{◌∙◌, ◌≡◌, refl, sym}
use mathlib.Core.Bool.{◌&&◌, false, true}
use mathlib.Core.List.{[], ◌++◌, ◌∷◌, append_assoc, append-nil, List}
use Prim.Native.Nat.{◌%◌, ◌*◌, ◌+◌, ◌/◌, ◌<◌, ◌≤◌, suc, ℕ}
use lib.Dec.{leb, lit<}
use lib.ListN.{drop, get_or, length, take}
use lib.Seq.{drop_at, drop-drop, take_at}
use borrow.Author.Tests.{le-leb, leb-true, lt-leb, lt-ltb, ltb-true}
use native.Mathlib.Omega.{arith}
use native.Mathlib.Nat.{add-zero}
use native.Mathlib.Numerals.{add-one}
use Rattle.entry.proofs.Held.{tables-state}
use Rattle.entry.specs.Entered.{EnterSays, Inside}
use Rattle.load.specs.Fields.{refusal_of}
use Rattle.parlog.proofs.Assume.{assume-bindings}
use Rattle.parlog.proofs.Bindings.{bindings-facts, bindings-test, value_in_lem}
use Rattle.std.proofs.lemmas.Bool.{and_parts}
use Rattle.parlog.proofs.Rows.{build-snoc, rows-byte, rows-length, written_in}
use Rattle.parlog.proofs.Scans.{build-at, build-length}
use Rattle.parlog.specs.Limits.{Limits}
use Rattle.parlog.specs.Load.{refusal}
use Rattle.parlog.specs.Orders.{KeepRules}
use Rattle.parlog.specs.Program.{program_of}
use Rattle.parlog.specs.Sane.{term_in}
use Rattle.parlog.specs.Scan.{build, every}
use Rattle.parlog.specs.TableRules.{cell_known, full_size, lent_ok, tables_ok}
use Rattle.parlog.specs.Tables.{binding_bytes, cell_size, Lent, number_at, number_code, rows_bytes, sort_at, sort_code, tables_in, var_count, vars_in, written}
use Rattle.parlog.specs.Unify.{value}
use Rattle.parlog.specs.declared.Refusal.{Refusal}
use Rattle.parlog.specs.declared.Term.{Term}
use Rattle.parlog.specs.declared.Term.TheVariants.{Const, Var}
use Rattle.values.specs.Values.{gathered, GatherSays, value_in, values_bytes, values_call, ValuesSays}
use Rattle.vars.proofs.Laws.{cell-length}
use Rattle.vars.specs.Cells.{put_cell}

-- ---- rows

rows_snoc : (bs : List (Option Term)) (b : Option Term) → rows_bytes binding_bytes (bs ++ (b ∷ [])) ≡ rows_bytes binding_bytes bs ++ binding_bytes b
unfolding rows_bytes
rows_snoc [] b = append-nil (binding_bytes b)
rows_snoc (x ∷ bs) b = rw (rows_snoc bs b) (sym (append_assoc (binding_bytes x) (rows_bytes binding_bytes bs) (binding_bytes b)))

module _ (vs : List (Option Term)) where
  pub values_length : (n : ℕ) → length (values_bytes vs n) ≡ n * cell_size
  unfolding values_bytes
  values_length n = rows-length binding_bytes cell_size cell-length (build (value_in vs) n) ∙ rw build-length

  pub values-none : (row : List ℕ) → row ≡ written (values_bytes vs 0) row
  unfolding values_bytes rows_bytes build written
  values-none row = refl

  more : (n : ℕ) → values_bytes vs (suc n) ≡ values_bytes vs n ++ binding_bytes (value_in vs n)
  unfolding values_bytes
  more n = rw build-snoc (rows_snoc (build (value_in vs) n) (value_in vs n))

  -- one row more
  pub values-more : (n : ℕ) (row : List ℕ) → suc n * cell_size ≤ length row → put_cell (written (values_bytes vs n) row) n (binding_bytes (value_in vs n)) ≡ written (values_bytes vs (suc n)) row
  unfolding put_cell written
  values-more n row ample =
      let x : List ℕ = values_bytes vs n in
      let b : List ℕ = binding_bytes (value_in vs n) in
      let e : length x ≡ n * cell_size = values_length n in
      let k : length b ≡ cell_size = cell-length (value_in vs n) in
      let f : length (values_bytes vs (suc n)) ≡ n * cell_size + cell_size = values_length (suc n) ∙ omega arith in
      let t : take (n * cell_size) (x ++ drop (length x) row) ≡ x = take_at x (drop (length x) row) (n * cell_size) e in
      let d : drop (n * cell_size + cell_size) (x ++ drop (length x) row) ≡ drop (n * cell_size + cell_size) row =
      sym (drop-drop cell_size (n * cell_size) (x ++ drop (length x) row)) ∙ rw (drop_at x (drop (length x) row) (n * cell_size) e, e) (drop-drop cell_size (n * cell_size) row) in
      rw (t, d, f, more n)

-- ---- the loop

-- the number of a value has three bytes
pub value-small : (vs : List (Option Term)) → KeepRules vs → (v g : ℕ) → v < g → g ≤ 255 → {t : Term} → t ≡ value vs (Var v) → number_code (Some t) < 16777216
value-small vs ok v g h few {t} e = go t (rw (← e) at (value_in_lem vs (bindings-facts vs ok) g (Var v) (lt-ltb v g h)))
  where
    go : (x : Term) → term_in g x ≡ true → number_code (Some x) < 16777216
    go (Const c) q = omega (arith, leb-true c 32767 q)
    go (Var w) q = omega (arith, ltb-true w g q)

module _ (vs : List (Option Term)) (row : List ℕ) (v g : ℕ) {l : List ℕ} (so_far : l ≡ written (values_bytes vs v) row) where
  -- the value of v is written behind those before
  pub values-put : v < g → g * cell_size ≤ length row → {t : Term} → t ≡ value vs (Var v) → {m : List ℕ} → m ≡ put_cell l v (binding_bytes (Some t)) → m ≡ written (values_bytes vs (v + 1)) row
  values-put h ample e em = rw (em, e, so_far, add-one v) (values-more vs v row (omega arith))

-- ---- the call

module _ (n : ℕ) (vs : List (Option Term)) (row : List ℕ) {g : ℕ} (eg : g ≡ n) where
  pub gather-short : length row < g * cell_size → {f : Refusal} → f ≡ refusal 11 0 → GatherSays n vs row (Err f) row
  unfolding gathered
  gather-short h ef = let q : leb (n * cell_size) (length row) ≡ false = rw (← eg) (lt-leb (g * cell_size) (length row) h) in record { answer = rw (q, ef); row_is = rw q }

  pub gather-all : g * cell_size ≤ length row → {a : List ℕ} → a ≡ written (values_bytes vs g) row → GatherSays n vs row (Ok g) a
  unfolding gathered
  gather-all h ea = let q : leb (n * cell_size) (length row) ≡ true = rw (← eg) (le-leb (g * cell_size) (length row) h) in record { answer = rw (q, eg); row_is = rw (q, ← eg) ea }

module _ (lim : Limits) (s : List ℕ) (l : Lent) (row : List ℕ) {a : Answer (ℕ × ℕ)} (told : EnterSays lim s l a) where
  pub values-refused : {f r : Refusal} → a ≡ Err f → r ≡ refusal_of a → ValuesSays lim s l row (Err r) row
  unfolding values_call
  values-refused e er = record { answer = rw (told.entry, er, e); row_is = rw (told.entry, e) }

  pub values-gathered : {r c : ℕ} → a ≡ Ok (r, c) → {x : Answer ℕ} {z : List ℕ} → GatherSays (program_of s r c).goal_vars (vars_in l.vars (var_count l.head)) row x z → ValuesSays lim s l row x z
  unfolding values_call tables_in
  values-gathered e g = record { answer = rw (told.entry, e) g.answer; row_is = rw (told.entry, e) g.row_is }

-- a call that was let in has bindings that keep the rules
pub inside-ruled : (lim : Limits) (s : List ℕ) (r c : ℕ) (l : Lent) → Inside lim s r c l → KeepRules (vars_in l.vars (var_count l.head))
unfolding lent_ok tables_in
inside-ruled lim s r c l i =
    let a = and_parts (full_size lim l) (every (cell_known l.vars) (var_count l.head) && tables_ok lim (program_of s r c) (tables_in l)) i.good in
    let b = and_parts (every (cell_known l.vars) (var_count l.head)) (tables_ok lim (program_of s r c) (tables_in l)) a.1 in
    bindings-test (vars_in l.vars (var_count l.head)) (assume-bindings lim (program_of s r c) (tables_in l).state (tables-state lim (program_of s r c) (tables_in l) b.1))

-- ---- what the rows say

module _ (vs : List (Option Term)) (n : ℕ) (row : List ℕ) (v : ℕ) (h : v < n) where
  byte-at : (k : ℕ) → k < cell_size → get_or (written (values_bytes vs n) row) (v * cell_size + k) 0 ≡ get_or (binding_bytes (value_in vs v)) k 0
  byte-at k u =
      let z = values_length vs n in
      let e : get_or (build (value_in vs) n) v None ≡ value_in vs v = build-at (value_in vs) n v None h in
      let g : v < length (build (value_in vs) n) = rw build-length h in
      written_in (values_bytes vs n) row (v * cell_size + k) (omega arith) ∙ in_rows k u ∙ rw e
    where
      in_rows : (k : ℕ) → k < cell_size → get_or (values_bytes vs n) (v * cell_size + k) 0 ≡ get_or (binding_bytes (get_or (build (value_in vs) n) v None)) k 0
      in_rows k u = unfold values_bytes in rows-byte binding_bytes cell_size cell-length (build (value_in vs) n) None v k (rw build-length h) u

  -- the sort and the number in row v are those of the value of v
  pub values-sort : sort_at (written (values_bytes vs n) row) v ≡ sort_code (value_in vs v)
  unfolding binding_bytes
  values-sort = simp add-zero at (byte-at 0 (lit< tt))

  pub values-number : number_at (written (values_bytes vs n) row) v ≡ number_code (value_in vs v)
  unfolding binding_bytes
  values-number = rw (byte-at 1 (lit< tt), byte-at 2 (lit< tt), byte-at 3 (lit< tt)) (thirds (number_code (value_in vs v)))
    where
      thirds : (m : ℕ) → m % 256 + m / 256 % 256 * 256 + m / 65536 * 65536 ≡ m
      thirds m = omega arith
