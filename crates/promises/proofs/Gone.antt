-- A run that came from a start has zeros in every unused row, so that a night leaves every byte as it was; and equal runs are saved as equal bytes.
use mathlib.Core.Path.{◌∙◌, ◌≡◌, ap, sym}
use mathlib.Core.Bool.{true}
use mathlib.Core.List.{List}
use Prim.Native.Nat.{◌*◌, ◌≤◌, ℕ}
use lib.ListN.{get_or, length, take}
use Rattle.entry.proofs.Held.{cells_fit, put-over, rows_fit}
use Rattle.parlog.specs.Limits.{Limits, Usable}
use Rattle.parlog.specs.Program.{Program, program_of}
use Rattle.parlog.specs.TableRules.{full_size}
use Rattle.parlog.specs.Tables.{cell_size, fresh_tables, Lent, proc_count, put_tables, row_size, started_lent, Tables, tables_in, var_count}
use Rattle.promises.proofs.Arrive.{no-bytes-full, no_bytes, zeros-twice}
use Rattle.promises.proofs.Demand2.{begun-at, image-sane}
use Rattle.promises.proofs.Entry.{let-ok, let-tables}
use Rattle.promises.proofs.Keeping.{Goes, goes-more, goes-ok, kept-start, later-by}
use Rattle.promises.proofs.Nights.{demand-2-save, night-copied, saved-front}
use Rattle.promises.proofs.RunTurns.{put_same}
use Rattle.promises.specs.Moves.{AllBytes}
use Rattle.promises.specs.Outcomes.{large_in, refusal_in, SaveMeets}
use Rattle.promises.specs.Reach.{Came, from_start, Night}
use Rattle.promises.specs.Refusals.{LetIn}
use Rattle.refusals.proofs.Exactly.{accepted-right}
use Rattle.refusals.specs.Right.{RightImage}
use Rattle.resume.proofs.Copied.{cells-there, copied, copied-put, over-past, rows-there, same-saves}
use Rattle.saved.specs.Form.{saved_bytes}

-- ---- tables over zeros

module _ (lim : Limits) (s : List ℕ) (r c : ℕ) where
  abbrev pr : Program
  pr = program_of s r c

  abbrev Zeroed : Lent → Type 0
  Zeroed m = m ≡ put_tables (no_bytes lim) (tables_in m)

  zeroed-twice : (m : Lent) → LetIn lim s m r c → Zeroed m → put_tables m (tables_in m) ≡ m
  zeroed-twice m i q = ap (λ (k : Lent). put_tables k (tables_in m)) q ∙ zeros-twice lim s i ∙ sym q

  zeroed-goes : (m : Lent) → LetIn lim s m r c → Zeroed m → (t : Tables) → Goes lim pr (tables_in m) t → tables_in (put_tables m t) ≡ t → Zeroed (put_tables m t)
  zeroed-goes m i q t g e =
      let more = goes-more lim pr (image-sane lim s m i) (let-ok lim s m i) g in
      let full : full_size lim (no_bytes lim) ≡ true = no-bytes-full lim in
      let ok = goes-ok lim s m i t g in
      rw e (ap (λ (k : Lent). put_tables k t) q ∙ put-over (no_bytes lim) (tables_in m) t more.0 more.1 (rows_fit lim pr (no_bytes lim) t full ok) (cells_fit lim pr (no_bytes lim) t full ok))

  zeroed-night : (m m' : Lent) → LetIn lim s m r c → Zeroed m → m' ≡ copied lim m → tables_in m' ≡ tables_in m → Zeroed m'
  zeroed-night m m' i q e h = rw h (e ∙ copied-put lim pr m (let-tables i) (zeroed-twice m i q))

  module _ (usable : Usable lim) (right : RightImage s r c) {l : Lent} where
    came-zeroed : Came lim s l → LetIn lim s l r c × Zeroed l
    came-zeroed (from_start {l = k} {l'} {w = w} meets z later) =
        let e = (accepted-right s).1 right in
        let b = begun-at lim usable s k w l' meets z e in
        later-by lim s Zeroed zeroed-goes zeroed-night (kept-start lim usable s k w l' meets z right) (start-zeroed l' b.0 b.1) later
      where
        start-zeroed : (k : Lent) → tables_in k ≡ fresh_tables pr → k ≡ started_lent lim pr → Zeroed k
        start-zeroed k a b = unfold started_lent in (rw a b)

    -- THE LAW: every unused row holds zeros
    pub zeros-behind : Came lim s l → ((j : ℕ) → proc_count l.head * row_size ≤ j → get_or l.procs j 0 ≡ 0) × ((j : ℕ) → var_count l.head * cell_size ≤ j → get_or l.vars j 0 ≡ 0)
    zeros-behind came =
        let (i, q) = came-zeroed came in
        let e : l ≡ copied lim l = q ∙ sym (copied-put lim pr l (let-tables i) (zeroed-twice l i q)) in (
          λ j h. ap (λ (k : Lent). get_or k.procs j 0) e ∙ over-past l.procs (proc_count l.head * row_size) (lim.procs * row_size) (rows-there lim pr l (let-tables i)) j h,
          λ j h. ap (λ (k : Lent). get_or k.vars j 0) e ∙ over-past l.vars (var_count l.head * cell_size) (lim.vars * cell_size) (cells-there lim pr l (let-tables i)) j h,
        )

    -- THE LAW: what came, saved and read back, is what it was, byte for byte
    pub night-same : Came lim s l → (l' : Lent) → Night lim s l l' → l' ≡ l
    night-same came l' night =
        let (i, q) = came-zeroed came in
        night-copied lim s l l' night i ∙ copied-put lim pr l (let-tables i) (zeroed-twice l i q) ∙ sym q

-- ---- equal runs

module _ (lim : Limits) (s : List ℕ) (l k : Lent) {r c : ℕ} (i : LetIn lim s l r c) (j : LetIn lim s k r c) (bl : AllBytes l) (bk : AllBytes k) (e : tables_in l ≡ tables_in k) where
  equal-bytes : saved_bytes l (length s) ≡ saved_bytes k (length s)
  equal-bytes =
      let pr : Program = program_of s r c in
      let a = copied-put lim pr l (let-tables i) (put_same lim s l i bl) in
      let b = copied-put lim pr k (let-tables j) (put_same lim s k j bk) in
      same-saves lim pr l k (let-tables i) (let-tables j) (a ∙ rw e (sym b)) (length s)

  -- THE LAW: runs with equal tables are saved as equal bytes
  pub equal-runs : (row row' stored stored' : List ℕ) (w w' : ℕ) → SaveMeets lim s l row w stored → refusal_in w ≡ 0 → SaveMeets lim s k row' w' stored' → refusal_in w' ≡ 0
      → (large_in w ≡ large_in w') × (take (large_in w) stored ≡ take (large_in w') stored')
  equal-runs row row' stored stored' w w' a za b zb =
      let f = demand-2-save lim s l row w stored a za in
      let g = demand-2-save lim s k row' w' stored' b zb in
      (f.size ∙ ap length equal-bytes ∙ sym g.size, saved-front s l row w stored f ∙ equal-bytes ∙ sym (saved-front s k row' w' stored' g))
