-- A run saved and read back: the same head and the same rows in use, over zeros; so the same tables, and the same rules are kept.
use Rattle.std.specs.Prelude.{Ok}
use mathlib.Core.Path.{◌∙◌, ◌≡◌, ap, refl, sym}
use mathlib.Core.Bool.{◌&&◌, true}
use mathlib.Core.List.{List}
use Prim.Native.Nat.{◌*◌, ◌+◌, ◌<◌, ◌≤◌, ℕ}
use lib.Dec.{eqb, ltb}
use lib.ListN.{drop, get_or, length, get_or-eq_default, take}
use lib.Seq.{get_or-take, length-take-le, take-append_seam}
use borrow.Author.Tests.{eq-eqb, ltb-false, ltb-true}
use native.Mathlib.Omega.{arith}
use Rattle.entry.proofs.Held.{count-procs, count-vars, same-lent}
use Rattle.parlog.proofs.Assume.{full-sizes, sizes-full}
use Rattle.parlog.proofs.Bools.{and-true, split, true-and}
use Rattle.parlog.proofs.Rows.{rows-length, written_in, written-length, written-past}
use Rattle.parlog.proofs.Scans.{every-at, every-is}
use Rattle.parlog.specs.Limits.{Limits}
use Rattle.parlog.specs.Load.{load_of}
use Rattle.parlog.specs.Program.{Program, program_of}
use Rattle.parlog.specs.Scan.{every}
use Rattle.parlog.specs.TableRules.{cell_known, full_size, lent_ok, tables_ok}
use Rattle.parlog.specs.Tables.{binding_bytes, cell_size, head_size, Lent, lent, proc_count, process_bytes, procs_of, put_tables, rows_bytes, row_size, tables_in, var_count, vars_in, written, zeros}
use Rattle.resume.proofs.Resuming.{lent-few}
use Rattle.resume.specs.Calls.{resumable, resume_call}
use Rattle.rows.proofs.Laws.{process-cong, row-length, zeros-at, zeros-length}
use Rattle.rows.proofs.Tables.{procs-cong}
use Rattle.saved.proofs.Back.{cells-back, head-back, image-back, rows_back, saved-formed, stack-cong}
use Rattle.saved.proofs.Bytes.{from-cong}
use Rattle.saved.proofs.Formed.{formed-read}
use Rattle.saved.specs.Form.{bytes_from, process_record, saved_bytes, variable_record}
use Rattle.saved.specs.Reading.{read_saved}
use Rattle.saved.specs.Restored.{counts_agree, image_length, resumed_lent}
use Rattle.vars.proofs.Laws.{binding-cong, cell-length, known-cong}
use Rattle.vars.proofs.Tables.{vars-cong}

-- the rows of lent bytes that are in use, over zeros
abbrev pub copied : Limits → Lent → Lent
copied lim l =
    lent l.head (written (take (proc_count l.head * row_size) l.procs) (zeros (lim.procs * row_size))) (written (take (var_count l.head * cell_size) l.vars) (zeros (lim.vars * cell_size)))

-- bytes in use and behind
module _ (l : List ℕ) (n m : ℕ) (there : n ≤ length l) where
  long : length (take n l) ≡ n
  long = length-take-le n l there

  over-length : n ≤ m → length (written (take n l) (zeros m)) ≡ m
  over-length h = written-length (take n l) (zeros m) (omega (arith, long, zeros-length m)) ∙ zeros-length m

  over-in : (j : ℕ) → j < n → get_or (written (take n l) (zeros m)) j 0 ≡ get_or l j 0
  over-in j h = written_in (take n l) (zeros m) j (omega (arith, long)) ∙ get_or-take n l j 0 h

  pub over-past : (j : ℕ) → n ≤ j → get_or (written (take n l) (zeros m)) j 0 ≡ 0
  over-past j h = written-past (take n l) (zeros m) j (omega (arith, long)) ∙ zero-at m j
    where
      zero-at : (k i : ℕ) → get_or (zeros k) i 0 ≡ 0
      zero-at k i = split (ltb i k) (λ e. zeros-at k i (ltb-true i k e)) (λ e. get_or-eq_default (zeros k) 0 (rw (zeros-length k) (ltb-false i k e)))

module _ (lim : Limits) (pr : Program) (l : Lent) (ok : lent_ok lim pr l ≡ true) where
  abbrev n : ℕ
  n = proc_count l.head

  abbrev m : ℕ
  m = var_count l.head

  record Facts : Type 0 where
    full : full_size lim l ≡ true
    known : every (cell_known l.vars) m ≡ true
    tables : tables_ok lim pr (tables_in l) ≡ true
    head : length l.head ≡ 10
    procs : length l.procs ≡ lim.procs * 24
    vars : length l.vars ≡ lim.vars * 4
    few : n ≤ lim.procs
    few-vars : m ≤ lim.vars

  facts : Facts
  unfolding lent_ok
  facts =
      let a = and-true (full_size lim l) (every (cell_known l.vars) m && tables_ok lim pr (tables_in l)) ok in
      let b = and-true (every (cell_known l.vars) m) (tables_ok lim pr (tables_in l)) a.1 in
      let (h, p, v) = full-sizes lim l a.0 in
      let k = lent-few lim pr l ok in
      record { full = a.0; known = b.0; tables = b.1; head = h; procs = p; vars = v; few = k.0; few-vars = k.1 }

  pub rows-there : n * row_size ≤ length l.procs
  rows-there = let p = facts.procs in let f = facts.few in omega arith

  pub cells-there : m * cell_size ≤ length l.vars
  cells-there = let p = facts.vars in let f = facts.few-vars in omega arith

  abbrev rows : List ℕ
  rows = (copied lim l).procs

  abbrev cells : List ℕ
  cells = (copied lim l).vars

  copied-procs : procs_of rows n ≡ procs_of l.procs n
  copied-procs = procs-cong rows l.procs n (λ i h. process-cong rows l.procs i i (λ k u. over-in l.procs (n * row_size) (lim.procs * row_size) rows-there (i * row_size + k) (omega arith)))

  same-cell : (v : ℕ) → v < m → (k : ℕ) → k < cell_size → get_or cells (v * cell_size + k) 0 ≡ get_or l.vars (v * cell_size + k) 0
  same-cell v h k u = over-in l.vars (m * cell_size) (lim.vars * cell_size) cells-there (v * cell_size + k) (omega arith)

  copied-vars : vars_in cells m ≡ vars_in l.vars m
  copied-vars = vars-cong cells l.vars m (λ v h. binding-cong cells l.vars v v (same-cell v h))

  -- THE LAW: the tables are the same
  pub copied-tables : tables_in (copied lim l) ≡ tables_in l
  unfolding tables_in
  copied-tables = rw (copied-procs, copied-vars)

  copied-known : every (cell_known cells) m ≡ true
  copied-known = every-is (cell_known cells) m (λ v h. known-cong cells l.vars v v (same-cell v h) ∙ every-at (cell_known l.vars) m v facts.known h)

  copied-full : full_size lim (copied lim l) ≡ true
  copied-full =
      let f = facts.few in
      let g = facts.few-vars in
      sizes-full lim (copied lim l) facts.head (over-length l.procs (n * row_size) (lim.procs * row_size) rows-there (omega arith)) (over-length l.vars (m * cell_size) (lim.vars * cell_size) cells-there (omega arith))

  pub copied-good : lent_ok lim pr (copied lim l) ≡ true
  unfolding lent_ok
  copied-good = rw (copied-full, copied-known, copied-tables, facts.tables)

  -- what is read from its save
  pub resumed-copy : (image : ℕ) → resumed_lent lim (saved_bytes l image) n m ≡ copied lim l
  unfolding resumed_lent
  resumed-copy image =
      same-lent _ (copied lim l) (head-back l image facts.head) (rows_back l image (lim.procs * row_size) rows-there) (cells-back l image (lim.vars * cell_size) cells-there)

  counts-back : (image : ℕ) → counts_agree (saved_bytes l image) n m ≡ true
  unfolding counts_agree
  counts-back image = let e = head-back l image facts.head in rw e (true-and (eqb n n) (eqb m m) (eq-eqb n n refl) (eq-eqb m m refl))

  pub save-resumable : (image : ℕ) (k : Lent) → full_size lim k ≡ true → resumable lim pr k (saved_bytes l image) n m ≡ true
  unfolding resumable
  save-resumable image k full = rw (full, counts-back image, resumed-copy image, copied-good)

  -- THE LAW: the whole resume of a save
  pub resume-save : (s : List ℕ) {r c : ℕ} → load_of s ≡ Ok (r, c) → program_of s r c ≡ pr → length s ≤ 65535 → (k : Lent) → full_size lim k ≡ true
      → resume_call lim s k (saved_bytes l (length s)) ≡ record { answer = Ok tt; lent = copied lim l }
  unfolding resume_call
  resume-save s {r} {c} loaded same short k full =
      let x : List ℕ = saved_bytes l (length s) in
      let a : read_saved x ≡ Ok (n, m) = formed-read x n m (saved-formed l (length s)) in
      let b : eqb (image_length x) (length s) ≡ true = eq-eqb (image_length x) (length s) (image-back l (length s) short) in
      let d : resumable lim (program_of s r c) k x n m ≡ true = rw same (save-resumable (length s) k full) in
      rw (loaded, a, b, d, resumed-copy (length s))

  -- bytes that their own tables are written to
  pub copied-put : put_tables l (tables_in l) ≡ l → copied lim l ≡ put_tables (lent (zeros head_size) (zeros (lim.procs * row_size)) (zeros (lim.vars * cell_size))) (tables_in l)
  unfolding put_tables
  copied-put e =
      let ps = (tables_in l).state.procs in
      let vs = (tables_in l).state.vars in
      let a : List ℕ = rows_bytes process_bytes ps in
      let b : List ℕ = rows_bytes binding_bytes vs in
      let la : length a ≡ n * row_size = rows-length process_bytes row_size row-length ps ∙ rw (count-procs l) in
      let lb : length b ≡ m * cell_size = rows-length binding_bytes cell_size cell-length vs ∙ rw (count-vars l) in
      let ea : written a l.procs ≡ l.procs = ap (λ (q : Lent). q.procs) e in
      let eb : written b l.vars ≡ l.vars = ap (λ (q : Lent). q.vars) e in
      let fa : take (n * row_size) l.procs ≡ a = front_of a l.procs (n * row_size) la ea in
      let fb : take (m * cell_size) l.vars ≡ b = front_of b l.vars (m * cell_size) lb eb in
      same-lent _ _ (sym (ap (λ (q : Lent). q.head) e)) (rw fa) (rw fb)
    where
      front_of : (a l : List ℕ) (k : ℕ) → length a ≡ k → written a l ≡ l → take k l ≡ a
      front_of a l k len e = unfold written in (rw (← len) (sym (ap (take (length a)) e) ∙ take-append_seam a (drop (length a) l)))

-- ---- equal copies, equal saves

module _ (lim : Limits) (pr : Program) (l k : Lent) (okl : lent_ok lim pr l ≡ true) (okk : lent_ok lim pr k ≡ true) (same : copied lim l ≡ copied lim k) where
  heads : l.head ≡ k.head
  heads = ap (λ (q : Lent). q.head) same

  same_rows : (i : ℕ) → i < proc_count k.head → process_record l.procs i ≡ process_record k.procs i
  unfolding process_record
  same_rows i h =
      let e : proc_count l.head ≡ proc_count k.head = ap proc_count heads in
      let a : bytes_from l.procs (i * 24) 24 ≡ bytes_from k.procs (i * 24) 24 = from-cong l.procs k.procs (i * 24) (i * 24) 24 (λ j u.
      sym (over-in l.procs (proc_count l.head * row_size) (lim.procs * row_size) (rows-there lim pr l okl) (i * 24 + j) (omega arith))
      ∙ ap (λ (q : Lent). get_or q.procs (i * 24 + j) 0) same
      ∙ over-in k.procs (proc_count k.head * row_size) (lim.procs * row_size) (rows-there lim pr k okk) (i * 24 + j) (omega arith)) in
      rw a

  same-cells : (v : ℕ) → v < var_count k.head → variable_record l.vars v ≡ variable_record k.vars v
  unfolding variable_record
  same-cells v h =
      let e : var_count l.head ≡ var_count k.head = ap var_count heads in
      let a : bytes_from l.vars (v * 4) 4 ≡ bytes_from k.vars (v * 4) 4 = from-cong l.vars k.vars (v * 4) (v * 4) 4 (λ j u.
      sym (over-in l.vars (var_count l.head * cell_size) (lim.vars * cell_size) (cells-there lim pr l okl) (v * 4 + j) (omega arith))
      ∙ ap (λ (q : Lent). get_or q.vars (v * 4 + j) 0) same
      ∙ over-in k.vars (var_count k.head * cell_size) (lim.vars * cell_size) (cells-there lim pr k okk) (v * 4 + j) (omega arith)) in
      rw a

  pub same-saves : (image : ℕ) → saved_bytes l image ≡ saved_bytes k image
  unfolding saved_bytes
  same-saves image =
      rw (heads, stack-cong (process_record l.procs) (process_record k.procs) (proc_count k.head) same_rows, stack-cong (variable_record l.vars) (variable_record k.vars) (var_count k.head) same-cells)
