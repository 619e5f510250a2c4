-- The two calls that no C program reaches: the turn that is lent its marker is the turn of the exports, and the watch over records is that
-- over their bytes.
use Rattle.parlog.specs.Answer.{Answer}
use Rattle.std.specs.Prelude.{Option, Ok, Some, None, Err}
use mathlib.Core.Path.{◌∙◌, ◌≡◌, ap, refl, sym}
use mathlib.Core.Bool.{Bool}
use mathlib.Core.List.{◌++◌, List}
use Prim.Native.Nat.{◌/◌, ◌<◌, ◌≤◌, ℕ}
use lib.ListN.{drop, length, take}
use native.Mathlib.Omega.{arith}
use Rattle.capi.proofs.Laws.{watch-whole}
use Rattle.parlog.proofs.Assume.{full-sizes}
use Rattle.parlog.proofs.Rows.{rows-byte, rows-length}
use Rattle.parlog.proofs.Scans.{lowest-at, lowest-is, lowest-none, lowest-nothing}
use Rattle.parlog.specs.Calls.{step_answer, StepCall, turn_call}
use Rattle.parlog.specs.Codes.{is_mode, suspended}
use Rattle.parlog.specs.Limits.{Limits}
use Rattle.parlog.specs.Numbers.{step_numbers, watch_numbers, word}
use Rattle.parlog.specs.Program.{program_of}
use Rattle.parlog.specs.Run.{made, Stepping, turn_tables, unmade, watch_of}
use Rattle.parlog.specs.Scan.{lowest}
use Rattle.parlog.specs.Tables.{at, head_bytes, head_size, idle, Lent, process_at, process_bytes, procs_of, put_tables, rows_bytes, row_size, Tables, tables_in}
use Rattle.parlog.specs.declared.Marker.{Marker}
use Rattle.parlog.specs.declared.Move.{Move}
use Rattle.parlog.specs.declared.Process.{Process}
use Rattle.parlog.specs.declared.Refusal.{Refusal}
use Rattle.promises.proofs.Entry.{away, Door, door, inside, let-full, turn-let, turn-turned}
use Rattle.promises.specs.Outcomes.{MarkerMeets, RecordsMeet, TurnMeets, WatchMeets}
use Rattle.rows.proofs.Laws.{row-length}
use Rattle.rows.proofs.Tables.{procs-at, procs-length}
use Rattle.turn_forms.proofs.Marked.{beside-counts, beside-length, beside-marker, marker-back}
use Rattle.turn_forms.specs.Turned.{lent_with, marker_bytes, marker_in}
use Rattle.turn_forms.specs.declared.Turned.{Turned}

-- ---- a turn leaves the bytes as they were, or writes tables to a head of its size

data Turning (l : Lent) : StepCall → Type 0 where
  is-unmoved : {f : Refusal} → Turning l (record { answer = Err f; lent = l })
  is-moved : {m : Move} (t : Tables) → length l.head ≡ head_size → Turning l (record { answer = Ok m; lent = put_tables l t })

turning : (lim : Limits) (s : List ℕ) (l : Lent) → Turning l (turn_call lim s l)
turning lim s l = go (door lim s l)
  where
    on : length l.head ≡ head_size → (x : Stepping) → Turning l (step_answer x l)
    on h (unmade k) = is-unmoved
    on h (made m t) = is-moved t h

    go : Door lim s l → Turning l (turn_call lim s l)
    go (away a) = rw (turn-turned lim s l a) is-unmoved
    go (inside {r} {c} i) = rw (turn-let lim s l i) (on (full-sizes lim l (let-full lim s l i)).0 (turn_tables lim (program_of s r c) (tables_in l)))

-- a head taken apart and put together
head_apart : (n k : ℕ) (m : Marker) → take 4 (head_bytes n k m.last m.steps) ++ marker_bytes (marker_in (drop 4 (head_bytes n k m.last m.steps))) ≡ head_bytes n k m.last m.steps
unfolding head_bytes marker_bytes
head_apart n k m = rw (marker-back m)

module _ (lim : Limits) (s cs ps vs : List ℕ) (m : Marker) where
  abbrev l : Lent
  l = lent_with cs m ps vs

  rejoined : {x : StepCall} → Turning l x → take (length cs) x.lent.head ++ marker_bytes (marker_in (drop (length cs) x.lent.head)) ≡ x.lent.head
  rejoined is-unmoved = rw (beside-counts cs m, beside-marker cs m)
  rejoined (is-moved t h) =
      let four : length cs ≡ 4 = omega (arith, beside-length cs m, h) in
      rw four (unfold put_tables in (head_apart (length t.state.procs) (length t.state.vars) (record { last = t.last; steps = t.steps })))

  module _ {a : Answer Move} {cs' ps' vs' : List ℕ} {m' : Marker} (meets : MarkerMeets lim s cs ps vs m a cs' ps' vs' m') where
    abbrev x : StepCall
    x = turn_call lim s l

    answer-is : a ≡ x.answer
    answer-is = ap (λ (t : Turned). t.answer) meets.contract.turned

    marker-is : m' ≡ marker_in (drop (length cs) x.lent.head)
    marker-is = let e = meets.contract.turned in λ i. record { last = (e i).last; steps = (e i).steps }

    -- Turns 4: counts and marker put together, it is an outcome of rissobarm_turn, with the word of its answer
    pub lent-turn : TurnMeets lim s (lent_with cs m ps vs) (word (step_numbers a)) (lent_with cs' m' ps' vs')
    lent-turn = record {
      contract = record {
        answer = ap (λ (y : Answer Move). word (step_numbers y)) answer-is;
        head = rw (meets.contract.counts, marker-is) (rejoined (turning lim s l));
        procs = meets.contract.procs;
        vars = meets.contract.vars;
      };
    }

  kept_by : {x : StepCall} {f : Refusal} → Turning l x → Err f ≡ x.answer → x.lent ≡ l
  kept_by is-unmoved e = refl
  kept_by (is-moved t h) e = let z : ◌≡◌ {A = ℕ} 0 1 = cc in absurd (omega arith)

  -- and a refusal leaves counts, rows and marker as they were
  pub lent-kept : {f : Refusal} {cs' ps' vs' : List ℕ} {m' : Marker} → MarkerMeets lim s cs ps vs m (Err f) cs' ps' vs' m' → (cs' ≡ cs) × (ps' ≡ ps) × (vs' ≡ vs) × (m' ≡ m)
  lent-kept meets =
      let q = kept_by (turning lim s l) (answer-is meets) in (
        meets.contract.counts ∙ rw q (beside-counts cs m),
        meets.contract.procs ∙ rw q,
        meets.contract.vars ∙ rw q,
        marker-is meets ∙ rw q (beside-marker cs m),
      )

-- ---- the watch

lowest-same : (f g : ℕ → Bool) (n : ℕ) → ((i : ℕ) → i < n → f i ≡ g i) → lowest f n ≡ lowest g n
lowest-same f g n h = go (lowest f n) refl
  where
    go : (x : Option ℕ) → lowest f n ≡ x → lowest f n ≡ lowest g n
    go None e = e ∙ sym (lowest-nothing g n (λ i u. sym (h i u) ∙ lowest-none f n i e u))
    go (Some c) e =
        let r = lowest-at f n c e in
        e ∙ sym (lowest-is g n c (record { there = r.there; passes = sym (h c r.there) ∙ r.passes; least = λ j u p. r.least j u (h j u ∙ p) }))

module _ (rows : List Process) where
  abbrev bytes : List ℕ
  bytes = rows_bytes process_bytes rows

  as_many : length bytes / row_size ≡ length rows
  as_many = omega (arith, rows-length process_bytes 24 row-length rows)

  mode-at : (i : ℕ) → i < length rows → (at (procs_of bytes (length rows)) i).mode ≡ (at rows i).mode
  unfolding process_at process_bytes
  mode-at i h = ap (λ (x : Process). x.mode) (procs-at bytes (length rows) i h) ∙ rows-byte process_bytes 24 row-length rows idle i 1 h (omega arith)

  watch-same : watch_of (procs_of bytes (length rows)) ≡ watch_of rows
  unfolding watch_of
  watch-same = rw (procs-length bytes (length rows)) (lowest-same _ _ (length rows) (λ i h. ap (is_mode suspended) (mode-at i h)))

  -- Turns 5: of up to 2^32 records, rissobarm_watch over their bytes has the word of the answer
  pub records-watch : (f : Option ℕ) → RecordsMeet rows f → (w : ℕ) → WatchMeets (rows_bytes process_bytes rows) w → length rows ≤ 4294967296 → w ≡ word (watch_numbers f)
  records-watch f a w b h =
      let e : watch_of (procs_of bytes (length bytes / row_size)) ≡ f = rw as_many watch-same ∙ sym a.contract in
      watch-whole bytes (rw as_many h) b.contract ∙ ap (λ (x : Option ℕ). word (watch_numbers x)) e
