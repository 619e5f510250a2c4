-- The ways through a resume.
use Rattle.std.specs.Prelude.{Err, Ok}
use Rattle.parlog.specs.Answer.{Answer}
use mathlib.Core.Path.{◌∙◌, ◌≡◌, ap, sym}
use mathlib.Core.Bool.{◌&&◌, Bool, false, true}
use mathlib.Core.List.{List}
use Prim.Native.Nat.{◌*◌, ◌≤◌, ℕ}
use lib.Dec.{eqb, leb}
use lib.ListN.{length}
use borrow.Author.Tests.{eq-eqb, eqb-true, le-leb, leb-true, ne_eqb}
use native.Mathlib.Omega.{arith}
use Rattle.entry.proofs.Held.{count-procs, count-vars, same-lent, tables-state}
use Rattle.load.specs.Fields.{refusal_of}
use Rattle.parlog.proofs.Assume.{assume-counts, full-sizes}
use Rattle.parlog.proofs.Bools.{and-true, never, not_so, true-and}
use Rattle.parlog.specs.Limits.{Limits, small}
use Rattle.parlog.specs.Load.{load_of, refusal}
use Rattle.parlog.specs.Program.{Program, program_of}
use Rattle.parlog.specs.Scan.{every}
use Rattle.parlog.specs.TableRules.{cell_known, full_size, lent_ok, tables_ok}
use Rattle.parlog.specs.Tables.{cell_size, Lent, lent, proc_count, row_size, tables_in, var_count}
use Rattle.parlog.specs.declared.Refusal.{Refusal}
use Rattle.resume.specs.Calls.{resumable, resume_call}
use Rattle.resume.specs.Says.{DecidedSays, Restores, ResumeSays, TestedSays}
use Rattle.saved.proofs.Formed.{read-formed}
use Rattle.saved.specs.Form.{saved_size}
use Rattle.saved.specs.Formed.{Formed}
use Rattle.saved.specs.Reading.{read_saved}
use Rattle.saved.specs.Restored.{cells_in, counts_agree, head_in, image_length, RestoreSays, resumed_lent, rows_in}

-- tables that keep the rules have no more rows than there may be
pub lent-few : (lim : Limits) (pr : Program) (l : Lent) → lent_ok lim pr l ≡ true → (proc_count l.head ≤ lim.procs) × (var_count l.head ≤ lim.vars)
unfolding lent_ok
lent-few lim pr l e =
    let a = and-true (full_size lim l) (every (cell_known l.vars) (var_count l.head) && tables_ok lim pr (tables_in l)) e in
    let b = and-true (every (cell_known l.vars) (var_count l.head)) (tables_ok lim pr (tables_in l)) a.1 in
    let k = assume-counts lim pr (tables_in l).state (tables-state lim pr (tables_in l) b.1) in
    (omega (arith, count-procs l, k.1), omega (arith, count-vars l, k.3))

-- so has a saved run that keeps them
pub resumed-few : (lim : Limits) (pr : Program) (x : List ℕ) (a b : ℕ) → lent_ok lim pr (resumed_lent lim x a b) ≡ true → (proc_count (head_in x) ≤ lim.procs) × (var_count (head_in x) ≤ lim.vars)
unfolding resumed_lent
resumed-few lim pr x a b ok = lent-few lim pr (resumed_lent lim x a b) ok

-- ---- all of 8

module _ (lim : Limits) (pr : Program) (l : Lent) (x : List ℕ) (a b : ℕ) where
  counts-are : counts_agree x a b ≡ true → (proc_count (head_in x) ≡ a) × (var_count (head_in x) ≡ b)
  unfolding counts_agree
  counts-are e =
      let p = and-true (eqb (proc_count (head_in x)) a) (eqb (var_count (head_in x)) b) e in
      (eqb-true (proc_count (head_in x)) a p.0, eqb-true (var_count (head_in x)) b p.1)

  too_many : counts_agree x a b ≡ true → lent_ok lim pr (resumed_lent lim x a b) ≡ true → (leb a lim.procs && leb b lim.vars) ≡ true
  unfolding resumed_lent
  too_many e ok =
      let n = counts-are e in
      let f = lent-few lim pr (resumed_lent lim x a b) ok in
      true-and (leb a lim.procs) (leb b lim.vars) (le-leb a lim.procs (omega (arith, n.0, f.0))) (le-leb b lim.vars (omega (arith, n.1, f.1)))

  module _ {full agree few rest so_far : Bool} (ef : full ≡ full_size lim l) (ea : agree ≡ counts_agree x a b) (ew : few ≡ (leb a lim.procs && leb b lim.vars)) (er : rest ≡ (agree && few)) (es : so_far ≡ (full && rest)) where
    pub fits_not : so_far ≡ false → false ≡ resumable lim pr l x a b
    unfolding resumable
    fits_not z = sym (not_so (full_size lim l && (counts_agree x a b && lent_ok lim pr (resumed_lent lim x a b))) (λ t.
        let p = and-true (full_size lim l) (counts_agree x a b && lent_ok lim pr (resumed_lent lim x a b)) t in
        let q = and-true (counts_agree x a b) (lent_ok lim pr (resumed_lent lim x a b)) p.1 in
        let w : few ≡ true = ew ∙ too_many q.0 q.1 in
        let y : (agree && few) ≡ true = true-and agree few (ea ∙ q.0) w in
        let u : (full && rest) ≡ true = true-and full rest (ef ∙ p.0) (er ∙ y) in
        never (sym z ∙ es ∙ u)))

    so-all : so_far ≡ true → (full_size lim l ≡ true) × (counts_agree x a b ≡ true) × (leb a lim.procs ≡ true) × (leb b lim.vars ≡ true)
    so-all z =
        let p = and-true full rest (sym es ∙ z) in
        let q = and-true agree few (sym er ∙ p.1) in
        let r = and-true (leb a lim.procs) (leb b lim.vars) (sym ew ∙ q.1) in
        (sym ef ∙ p.0, sym ea ∙ q.0, r.0, r.1)

    pub fits-few : so_far ≡ true → (a ≤ lim.procs) × (b ≤ lim.vars)
    fits-few z = let s = so-all z in (leb-true a lim.procs s.2, leb-true b lim.vars s.3)

    pub fits-rules : so_far ≡ true → {ok : Bool} → ok ≡ lent_ok lim pr (resumed_lent lim x a b) → ok ≡ resumable lim pr l x a b
    unfolding resumable
    fits-rules z e = let s = so-all z in e ∙ sym (rw (s.0, s.1))

  -- what is resumed has what the writing counts on
  pub resumable-restores : Formed x a b → resumable lim pr l x a b ≡ true → Restores lim l x a b
  unfolding resumable
  resumable-restores F t =
      let p = and-true (full_size lim l) (counts_agree x a b && lent_ok lim pr (resumed_lent lim x a b)) t in
      let q = and-true (counts_agree x a b) (lent_ok lim pr (resumed_lent lim x a b)) p.1 in
      let w = too_many q.0 q.1 in
      let y = and-true (leb a lim.procs) (leb b lim.vars) w in
      let (h, n, v) = full-sizes lim l p.0 in
      let s = F.size in
      record { inside = omega arith; procs_most = leb-true a lim.procs y.0; vars_most = leb-true b lim.vars y.1; head = h; procs = n; vars = v }

-- the rows read back are those tables
pub restored-lent : (lim : Limits) (x : List ℕ) (a b p v : ℕ) {h ps vs : List ℕ} → RestoreSays x a b p v h ps vs → p ≡ lim.procs * row_size → v ≡ lim.vars * cell_size → lent h ps vs ≡ resumed_lent lim x a b
unfolding resumed_lent
restored-lent lim x a b p v {h} {ps} {vs} t ep ev = same-lent (lent h ps vs) (lent (head_in x) (rows_in x a (lim.procs * row_size)) (cells_in x a b (lim.vars * cell_size))) t.head_is (t.procs_are ∙ rw ep) (t.vars_are ∙ rw ev)

pub keeps-law : (pr : Program) (x : List ℕ) (a b : ℕ) {ok : Bool} {p v : ℕ} {h ps vs : List ℕ} → ok ≡ lent_ok small pr (lent h ps vs) → RestoreSays x a b p v h ps vs → p ≡ 12288 → v ≡ 4096
    → ok ≡ lent_ok small pr (resumed_lent small x a b)
unfolding small
keeps-law pr x a b {p = p} {v} e t ep ev = e ∙ ap (lent_ok small pr) (restored-lent small x a b p v t ep ev)

-- ---- the tests

pub read-inside : (x : List ℕ) {g : Answer (ℕ × ℕ)} {a b : ℕ} → g ≡ read_saved x → g ≡ Ok (a, b) → saved_size a b ≤ length x
read-inside x is e = let F = read-formed x (sym is ∙ e) in let s = F.size in omega arith

module _ (lim : Limits) (pr : Program) (image : ℕ) (l : Lent) (x : List ℕ) {g : Answer (ℕ × ℕ)} (is : g ≡ read_saved x) where
  pub tested-broken : {f : Refusal} → g ≡ Err f → TestedSays lim pr image l x (Err f)
  tested-broken e = record { call = rw (sym is ∙ e); restores = tt }

  module _ {a b : ℕ} (e : g ≡ Ok (a, b)) {n : ℕ} (en : n ≡ image_length x) where
    formed : Formed x a b
    formed = read-formed x (sym is ∙ e)

    pub tested-foreign : (n ≡ image → ⊥) → {f : Refusal} → f ≡ refusal 15 0 → TestedSays lim pr image l x (Err f)
    tested-foreign h ef =
        let z : eqb (image_length x) image ≡ false = ne_eqb (image_length x) image (λ q. h (en ∙ q)) in
        record { call = rw (sym is ∙ e, z, ef); restores = tt }

    module _ (same : n ≡ image) {ok : Bool} (test : ok ≡ resumable lim pr l x a b) where
      ours : eqb (image_length x) image ≡ true
      ours = eq-eqb (image_length x) image (sym en ∙ same)

      pub tested-state : ok ≡ false → {f : Refusal} → f ≡ refusal 8 0 → TestedSays lim pr image l x (Err f)
      tested-state h ef = record { call = rw (sym is ∙ e, ours, sym test ∙ h, ef); restores = tt }

      pub tested-whole : ok ≡ true → TestedSays lim pr image l x (Ok (a, b))
      tested-whole h = record { call = rw (sym is ∙ e, ours, sym test ∙ h); restores = resumable-restores lim pr l x a b formed (sym test ∙ h) }

module _ (lim : Limits) (s : List ℕ) (l : Lent) (x : List ℕ) {o : Answer (ℕ × ℕ)} (is : o ≡ load_of s) where
  pub decided-refused : {f r : Refusal} → o ≡ Err f → r ≡ refusal_of o → DecidedSays lim s l x (Err r)
  unfolding resume_call
  decided-refused e er = record { call = rw (sym is ∙ e, er, e); restores = tt }

  pub decided-tested : {r c : ℕ} {d : Answer (ℕ × ℕ)} → o ≡ Ok (r, c) → TestedSays lim (program_of s r c) (length s) l x d → DecidedSays lim s l x d
  unfolding resume_call
  decided-tested e t = record { call = rw (sym is ∙ e) t.call; restores = t.restores }

-- ---- the call

module _ (lim : Limits) (s : List ℕ) (l : Lent) (x : List ℕ) {d : Answer (ℕ × ℕ)} (told : DecidedSays lim s l x d) where
  pub resume-refused : {f : Refusal} → d ≡ Err f → ResumeSays lim s l x (Err f) l.head l.procs l.vars
  resume-refused e = let k = rw e at told.call in record { answer = rw k; head = rw k; procs = rw k; vars = rw k }

  module _ {a b : ℕ} (e : d ≡ Ok (a, b)) where
    pub resume-restores : Restores lim l x a b
    resume-restores = rw e at told.restores

    pub resume-restored : {h p v : List ℕ} → RestoreSays x a b (length l.procs) (length l.vars) h p v → ResumeSays lim s l x (Ok tt) h p v
    resume-restored {h} {p} {v} t =
        let k = rw e at told.call in
        let r = resume-restores in
        let q = restored-lent lim x a b (length l.procs) (length l.vars) t r.procs r.vars in
        record { answer = rw k; head = rw (k, ← q); procs = rw (k, ← q); vars = rw (k, ← q) }
