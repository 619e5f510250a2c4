-- A run saved and gone on with: demands 1 and 2 of both calls, and what a night leaves.
use Rattle.std.specs.Prelude.{Err, Ok}
use Rattle.parlog.specs.Answer.{Answer}
use mathlib.Core.Path.{◌∙◌, ◌≡◌, ap, refl, sym}
use mathlib.Core.Bool.{◌&&◌, true}
use mathlib.Core.List.{List}
use Prim.Native.Nat.{◌*◌, ◌≤◌, ℕ}
use lib.Dec.{eqb, ltb}
use lib.ListN.{drop, get_or, length, take}
use lib.Seq.{take-append_seam}
use borrow.Author.Tests.{eq-eqb, eqb-false, eqb-true, lt-ltb, ltb-false, ltb-true, ne_eqb}
use native.Mathlib.Omega.{arith}
use Rattle.entry.proofs.Held.{same-lent}
use Rattle.std.proofs.lemmas.Bool.{and_parts, and_from}
use Rattle.parlog.proofs.Bools.{split}
use Rattle.parlog.specs.Limits.{Limits}
use Rattle.parlog.specs.Load.{load_of, refusal}
use Rattle.parlog.specs.Numbers.{refused_as, word}
use Rattle.parlog.specs.Program.{Program, program_of}
use Rattle.parlog.specs.TableRules.{full_size, lent_ok}
use Rattle.parlog.specs.Tables.{cell_size, Lent, proc_count, row_size, tables_in, var_count, written}
use Rattle.parlog.specs.declared.Refusal.{Refusal}
use Rattle.promises.proofs.Demand1.{a-refusal, Answered, no-refusal, refusing}
use Rattle.promises.proofs.Entry.{away, away-numbered, bad-is, Door, door, enter-away, enter-let, inside, let_by, let-image, let-tables}
use Rattle.promises.proofs.Words.{large-of, refusal-of}
use Rattle.promises.specs.Moves.{ResumesRun, SavesRun}
use Rattle.promises.specs.Outcomes.{large_in, refusal_in, ResumeMeets, SaveMeets}
use Rattle.promises.specs.Reach.{Night, ReadBack}
use Rattle.promises.specs.Refusals.{is_foreign, LetIn, no_tables, Refusing, resume-image, resume_record, ResumeRefused, Resumes, row_too_short, save_away, SaveRefused}
use Rattle.refusals.proofs.Exactly.{accepted-right, refused-exactly, refused-number}
use Rattle.refusals.proofs.RuledExactly.{lent-exactly, sizes-exactly}
use Rattle.refusals.proofs.Tests.{Decides, refuted, refutes}
use Rattle.resume.proofs.Copied.{cells-there, copied, copied-good, copied-tables, over-past, resume-save, rows-there}
use Rattle.resume.proofs.Resuming.{resumed-few}
use Rattle.resume.specs.Calls.{resumable, resume_call, save_by, save_call}
use Rattle.rows.specs.Rows.{Bytes}
use Rattle.saved.proofs.Back.{saved-again}
use Rattle.saved.proofs.Formed.{bad-read, formed-read, read-bad, read-formed}
use Rattle.saved.specs.Form.{saved_bytes}
use Rattle.saved.specs.Formed.{BadSaved, no_record, saved_body, saved_cut, saved_former, saved_kind, saved_rule}
use Rattle.saved.specs.Reading.{read_saved}
use Rattle.saved.specs.Restored.{counts_agree, head_in, image_length, resumed_lent}
use Rattle.words.proofs.Nights.{image-near, told-near}
use Rattle.words.specs.Nights.{resume_numbers, save_numbers, told_refusal}

-- ---- words

stored-told : (w n : ℕ) → w ≡ word (save_numbers (Ok n)) → (refusal_in w ≡ 0) × (large_in w ≡ n)
stored-told w n e =
    (ap refusal_in e ∙ refusal-of (save_numbers (Ok n)) (omega arith) (omega arith) (omega arith), ap large_in e ∙ large-of (save_numbers (Ok n)) (omega arith) (omega arith) (omega arith))

restored-told : (w : ℕ) → w ≡ word (resume_numbers (Ok tt)) → refusal_in w ≡ 0
restored-told w e = ap refusal_in e ∙ refusal-of (resume_numbers (Ok tt)) (omega arith) (omega arith) (omega arith)

-- ---- a save

save-numbered : {lim : Limits} {s : List ℕ} {l : Lent} {row : List ℕ} {n o : ℕ} → SaveRefused lim s l row n o → (1 ≤ n) × (n ≤ 15)
save-numbered (save_away a) = let b = away-numbered a in (b.0, omega (arith, b.1))
save-numbered (row_too_short i h) = (omega arith, omega arith)

module _ (lim : Limits) (s : List ℕ) (l : Lent) (row : List ℕ) where
  abbrev bytes : List ℕ
  bytes = saved_bytes l (length s)

  save-let : {r c : ℕ} → LetIn lim s l r c → save_call lim s l row ≡ save_by (ltb (length row) (length bytes)) bytes row
  unfolding save_call
  save-let i = rw (enter-let lim s l i)

  save-refused : {n o : ℕ} → SaveRefused lim s l row n o → save_call lim s l row ≡ record { answer = Err (refusal n o); row = row }
  unfolding save_call
  save-refused (save_away a) = rw (enter-away lim s l a)
  save-refused (row_too_short i h) = rw (enter-let lim s l i, lt-ltb (length row) (length bytes) h)

  module _ (w : ℕ) (row' : List ℕ) (meets : SaveMeets lim s l row w row') where
    save-word : (n o : ℕ) → SaveRefused lim s l row n o → w ≡ word (refused_as (refusal n o))
    save-word n o y = let e = save-refused {n = n} {o = o} y in meets.contract.answer ∙ rw e

    save-kept : (n o : ℕ) → SaveRefused lim s l row n o → row' ≡ row
    save-kept n o y = let e = save-refused {n = n} {o = o} y in meets.contract.row_is ∙ rw e

    data Saving : Type 0 where
      is-unsaved : {n o : ℕ} → SaveRefused lim s l row n o → Saving
      is-stored : refusal_in w ≡ 0 → SavesRun s l row w row' → Saving

    saving-so : Saving
    saving-so = go (door lim s l)
      where
        go : Door lim s l → Saving
        go (away a) = is-unsaved (save_away a)
        go (inside i) = split (ltb (length row) (length bytes))
            (λ h. is-unsaved (row_too_short i (ltb-true (length row) (length bytes) h)))
            (λ h. let e = save-let i in
            let k = stored-told w (length bytes) (meets.contract.answer ∙ rw (e, h)) in
            is-stored k.0 (record { size = k.1; fits = ltb-false (length row) (length bytes) h; bytes = meets.contract.row_is ∙ rw (e, h) }))

    -- Saved 4: refused exactly where there is a reason, ROOM exactly where the row is shorter than the saved run; and a refusal leaves the row as it was
    pub demand-1-save : Refusing 15 (SaveRefused lim s l row) row w row'
    demand-1-save = refusing w (λ n o y. save-numbered y) (omega arith) save-word (go saving-so) save-kept
      where
        go : Saving → Answered (SaveRefused lim s l row) w
        go (is-unsaved y) = a-refusal y
        go (is-stored e k) = no-refusal e

    -- Saved 4: what is not refused is saved
    pub demand-2-save : refusal_in w ≡ 0 → SavesRun s l row w row'
    demand-2-save z = go saving-so
      where
        go : Saving → SavesRun s l row w row'
        go (is-unsaved {n} {o} y) = let g = demand-1-save.by.given y in let m = save-numbered y in absurd (omega (arith, g.0, m.0))
        go (is-stored e k) = k

-- what a save tells of the row is the saved run
pub saved-front : (s : List ℕ) (l : Lent) (row : List ℕ) (w : ℕ) (row' : List ℕ) → SavesRun s l row w row' → take (large_in w) row' ≡ saved_bytes l (length s)
unfolding written
saved-front s l row w row' k = rw (k.size, k.bytes) (take-append_seam (saved_bytes l (length s)) (drop (length (saved_bytes l (length s))) row))

-- ---- a resume

bad-saved-numbered : {x : List ℕ} {n o : ℕ} → BadSaved x n o → (1 ≤ n) × (n ≤ 18)
bad-saved-numbered (no_record e) = (omega arith, omega arith)
bad-saved-numbered (saved_cut b h w) = (omega arith, omega arith)
bad-saved-numbered (saved_kind b h w k) = (omega arith, omega arith)
bad-saved-numbered (saved_former h w f) = (omega arith, omega arith)
bad-saved-numbered (saved_body b h w k a f) = (omega arith, omega arith)
bad-saved-numbered (saved_rule h w k e n) = (omega arith, omega arith)

resume-numbered : {lim : Limits} {s : List ℕ} {l : Lent} {x : List ℕ} {n o : ℕ} → ResumeRefused lim s l x n o → (1 ≤ n) × (n ≤ 18)
resume-numbered (resume-image b) = let a = refused-number b in (a.0, omega (arith, a.1))
resume-numbered (resume_record i b) = bad-saved-numbered b
resume-numbered (is_foreign i f n) = (omega arith, omega arith)
resume-numbered (no_tables i f e n) = (omega arith, omega arith)

module _ (lim : Limits) (pr : Program) (l : Lent) (x : List ℕ) (a b : ℕ) where
  resumable-facts : resumable lim pr l x a b ≡ true → Resumes lim pr l x a b
  unfolding resumable counts_agree
  resumable-facts t =
      let p = and_parts (full_size lim l) ((eqb (proc_count (head_in x)) a && eqb (var_count (head_in x)) b) && lent_ok lim pr (resumed_lent lim x a b)) t in
      let q = and_parts (eqb (proc_count (head_in x)) a && eqb (var_count (head_in x)) b) (lent_ok lim pr (resumed_lent lim x a b)) p.1 in
      let z = and_parts (eqb (proc_count (head_in x)) a) (eqb (var_count (head_in x)) b) q.0 in
      record {
        sizes = (sizes-exactly lim l).0 p.0;
        processes = eqb-true (proc_count (head_in x)) a z.0;
        variables = eqb-true (var_count (head_in x)) b z.1;
        ruled = (lent-exactly lim pr (resumed_lent lim x a b)).0 q.1;
      }

  facts-resumable : Resumes lim pr l x a b → resumable lim pr l x a b ≡ true
  unfolding resumable counts_agree
  facts-resumable f =
      let s = (sizes-exactly lim l).1 f.sizes in
      let p = eq-eqb (proc_count (head_in x)) a f.processes in
      let q = eq-eqb (var_count (head_in x)) b f.variables in
      let o = (lent-exactly lim pr (resumed_lent lim x a b)).1 f.ruled in
      and_from (full_size lim l) ((eqb (proc_count (head_in x)) a && eqb (var_count (head_in x)) b) && lent_ok lim pr (resumed_lent lim x a b)) s
      (and_from (eqb (proc_count (head_in x)) a && eqb (var_count (head_in x)) b) (lent_ok lim pr (resumed_lent lim x a b)) (and_from (eqb (proc_count (head_in x)) a) (eqb (var_count (head_in x)) b) p q) o)

  resumable-exactly : Decides (resumable lim pr l x a b) (Resumes lim pr l x a b)
  resumable-exactly = (resumable-facts, facts-resumable)

module _ (lim : Limits) (s : List ℕ) (l : Lent) (x : List ℕ) where
  -- what a refused resume tells and leaves
  record Refuses (n o : ℕ) : Type 0 where
    tells : word (resume_numbers (resume_call lim s l x).answer) ≡ word (refused_as (refusal n o))
    keeps : (resume_call lim s l x).lent ≡ l

  resume-refused : {n o : ℕ} → ResumeRefused lim s l x n o → Refuses n o
  unfolding resume_call
  resume-refused (resume-image {n} {o} b) =
      let e = bad-is b in
      let k : told_refusal (refusal n o) ≡ refusal n o = sym (told-near (refusal n o) (image-near s e)) in
      record { tells = rw e (ap (λ (f : Refusal). word (refused_as f)) k); keeps = rw e }
  resume-refused (resume_record a b) = let e = (accepted-right s).1 a in let k = bad-read x b in record { tells = rw (e, k); keeps = rw (e, k) }
  resume-refused (is_foreign {a = a} {b} i f n) =
      let e = (accepted-right s).1 i in
      let k = formed-read x a b f in
      let z = ne_eqb (image_length x) (length s) n in
      record { tells = rw (e, k, z); keeps = rw (e, k, z) }
  resume-refused (no_tables {r} {c} {a} {b} i f q h) =
      let e = (accepted-right s).1 i in
      let k = formed-read x a b f in
      let z = eq-eqb (image_length x) (length s) q in
      let y = refutes (resumable lim (program_of s r c) l x a b) (resumable-exactly lim (program_of s r c) l x a b) h in
      record { tells = rw (e, k, z, y); keeps = rw (e, k, z, y) }

  resume-made : {r c a b : ℕ} → load_of s ≡ Ok (r, c) → read_saved x ≡ Ok (a, b) → eqb (image_length x) (length s) ≡ true → resumable lim (program_of s r c) l x a b ≡ true
      → resume_call lim s l x ≡ record { answer = Ok tt; lent = resumed_lent lim x a b }
  unfolding resume_call
  resume-made e k z y = rw (e, k, z, y)

  module _ (w : ℕ) (l' : Lent) (meets : ResumeMeets lim s l x w l') where
    resume-word : (n o : ℕ) → ResumeRefused lim s l x n o → w ≡ word (refused_as (refusal n o))
    resume-word n o y = meets.contract.answer ∙ (resume-refused {n = n} {o = o} y).tells

    resume-kept : (n o : ℕ) → ResumeRefused lim s l x n o → l' ≡ l
    resume-kept n o y = let e = (resume-refused {n = n} {o = o} y).keeps in same-lent l' l (meets.contract.head ∙ rw e) (meets.contract.procs ∙ rw e) (meets.contract.vars ∙ rw e)

    data Resuming : Type 0 where
      is-unresumed : {n o : ℕ} → ResumeRefused lim s l x n o → Resuming
      is-resumed : refusal_in w ≡ 0 → ResumesRun lim s l x l' → Resuming

    resuming-so : Resuming
    resuming-so = load (load_of s) refl
      where
        made : (r c a b : ℕ) → load_of s ≡ Ok (r, c) → read_saved x ≡ Ok (a, b) → eqb (image_length x) (length s) ≡ true → resumable lim (program_of s r c) l x a b ≡ true → Resuming
        made r c a b e k z y =
            let q = resume-made e k z y in
            is-resumed (restored-told w (meets.contract.answer ∙ rw q)) (record {
              relations = r;
              clauses = c;
              image = (accepted-right s).0 e;
              processes = a;
              variables = b;
              formed = read-formed x k;
              own = eqb-true (image_length x) (length s) z;
              may = resumable-facts lim (program_of s r c) l x a b y;
              bytes = same-lent l' (resumed_lent lim x a b) (meets.contract.head ∙ rw q) (meets.contract.procs ∙ rw q) (meets.contract.vars ∙ rw q);
            })

        read : (r c : ℕ) → load_of s ≡ Ok (r, c) → (g : Answer (ℕ × ℕ)) → read_saved x ≡ g → Resuming
        read r c e (Err f) k = is-unresumed (resume_record ((accepted-right s).0 e) (read-bad x k))
        read r c e (Ok (a, b)) k = split (eqb (image_length x) (length s))
            (λ z. split (resumable lim (program_of s r c) l x a b)
            (λ y. made r c a b e k z y)
            (λ y. is-unresumed (no_tables ((accepted-right s).0 e) (read-formed x k) (eqb-true (image_length x) (length s) z) (refuted (resumable-exactly lim (program_of s r c) l x a b) y))))
            (λ z. is-unresumed (is_foreign ((accepted-right s).0 e) (read-formed x k) (eqb-false (image_length x) (length s) z)))

        load : (o : Answer (ℕ × ℕ)) → load_of s ≡ o → Resuming
        load (Err f) e = is-unresumed (resume-image ((refused-exactly s).0 e))
        load (Ok (r, c)) e = read r c e (read_saved x) refl

    -- Saved 5 to 9: refused exactly where there is a reason, and then every lent byte is as it was
    pub demand-1-resume : Refusing 18 (ResumeRefused lim s l x) l w l'
    demand-1-resume = refusing w (λ n o y. resume-numbered y) (omega arith) resume-word (go resuming-so) resume-kept
      where
        go : Resuming → Answered (ResumeRefused lim s l x) w
        go (is-unresumed y) = a-refusal y
        go (is-resumed e k) = no-refusal e

    -- Saved 10: what is not refused is read back
    pub demand-2-resume : refusal_in w ≡ 0 → ResumesRun lim s l x l'
    demand-2-resume z = go resuming-so
      where
        go : Resuming → ResumesRun lim s l x l'
        go (is-unresumed y) = let g = demand-1-resume.by.given y in let m = resume-numbered y in absurd (omega (arith, g.0, m.0))
        go (is-resumed e k) = k

    -- THE LAW: an accepted saved run is the save of the tables that it leaves
    pub canonical : Bytes x → refusal_in w ≡ 0 → x ≡ saved_bytes l' (length s)
    canonical are z =
        let k = demand-2-resume z in
        let pr : Program = program_of s k.relations k.clauses in
        let a = k.processes in
        let b = k.variables in
        let few = resumed-few lim pr x a b ((lent-exactly lim pr (resumed_lent lim x a b)).1 k.may.ruled) in
        let p = k.may.processes in
        let v = k.may.variables in
        saved-again x are a b k.formed lim p v (omega (arith, few.0)) (omega (arith, few.1)) ∙ rw (k.own, ← k.bytes)

-- ---- a night

module _ (lim : Limits) (s : List ℕ) (l l' : Lent) (night : Night lim s l l') {r c : ℕ} (i : LetIn lim s l r c) where
  abbrev pr : Program
  pr = program_of s r c

  evening-saves : SavesRun s l night.row night.evening night.stored
  evening-saves = demand-2-save lim s l night.row night.evening night.stored night.saves night.accepted

  read_is : take (large_in night.evening) night.stored ≡ saved_bytes l (length s)
  read_is = saved-front s l night.row night.evening night.stored evening-saves

  morning-is : resume_call lim s night.other (take (large_in night.evening) night.stored) ≡ record { answer = Ok tt; lent = copied lim l }
  morning-is =
      let short = i.image.short in
      rw read_is (resume-save lim pr l (let-tables i) s (let-image i) refl (omega arith) night.other ((sizes-exactly lim night.other).1 night.full))

  pub night-copied : l' ≡ copied lim l
  night-copied =
      let e = morning-is in
      let k = night.resumes.contract in
      same-lent l' (copied lim l) (k.head ∙ rw e) (k.procs ∙ rw e) (k.vars ∙ rw e)

  -- THE LAW: a run saved is read back
  pub read_back : ReadBack lim s r c l night.morning l'
  read_back =
      let e = night-copied in
      record {
        accepted = restored-told night.morning (night.resumes.contract.answer ∙ rw morning-is);
        tables = ap tables_in e ∙ copied-tables lim pr l (let-tables i);
        head = ap (λ (q : Lent). q.head) e;
        procs = λ j h. ap (λ (q : Lent). get_or q.procs j 0) e ∙ over-past l.procs (proc_count l.head * row_size) (lim.procs * row_size) (rows-there lim pr l (let-tables i)) j h;
        vars = λ j h. ap (λ (q : Lent). get_or q.vars j 0) e ∙ over-past l.vars (var_count l.head * cell_size) (lim.vars * cell_size) (cells-there lim pr l (let-tables i)) j h;
        enters = rw e (let_by (let-image i) (copied-good lim pr l (let-tables i)));
      }
