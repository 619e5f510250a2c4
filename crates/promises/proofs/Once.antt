-- Only one result: two outcomes of a call from the same image and the same bytes, each meeting its contract, are equal.
use Rattle.parlog.specs.declared.Move.{Move}
use Rattle.parlog.specs.Answer.{Answer}
use Rattle.std.specs.Prelude.{Option}
use mathlib.Core.Path.{◌∙◌, ◌≡◌, ap, sym}
use mathlib.Core.List.{List}
use Prim.Native.Nat.{ℕ}
use Rattle.entry.proofs.Held.{same-lent}
use Rattle.parlog.specs.Limits.{Limits}
use Rattle.parlog.specs.Tables.{Lent}
use Rattle.parlog.specs.declared.Marker.{Marker}
use Rattle.parlog.specs.declared.Process.{Process}
use Rattle.promises.specs.Outcomes.{LoadMeets, MarkerMeets, RecordsMeet, ReplayMeets, ResumeMeets, RunMeets, SaveMeets, StartMeets, StepMeets, SupplyMeets, TurnMeets, ValueMeets, ValuesMeets, WatchMeets}
use Rattle.turn_forms.specs.Turned.{turned_from}
use Rattle.turn_forms.specs.declared.Turned.{Turned}

module _ (s : List ℕ) where
  pub once-load : {w w' : ℕ} → LoadMeets s w → LoadMeets s w' → w ≡ w'
  once-load a b = a.contract ∙ sym b.contract

module _ (lim : Limits) (s : List ℕ) (l : Lent) {w w' : ℕ} {l' l'' : Lent} where
  pub once-start : StartMeets lim s l w l' → StartMeets lim s l w' l'' → (w ≡ w') × (l' ≡ l'')
  once-start a b = (a.contract.answer ∙ sym b.contract.answer, same-lent l' l'' (a.contract.head ∙ sym b.contract.head) (a.contract.procs ∙ sym b.contract.procs) (a.contract.vars ∙ sym b.contract.vars))

  pub once-step : {p : ℕ} → StepMeets lim s l p w l' → StepMeets lim s l p w' l'' → (w ≡ w') × (l' ≡ l'')
  once-step a b = (a.contract.answer ∙ sym b.contract.answer, same-lent l' l'' (a.contract.head ∙ sym b.contract.head) (a.contract.procs ∙ sym b.contract.procs) (a.contract.vars ∙ sym b.contract.vars))

  pub once-turn : TurnMeets lim s l w l' → TurnMeets lim s l w' l'' → (w ≡ w') × (l' ≡ l'')
  once-turn a b = (a.contract.answer ∙ sym b.contract.answer, same-lent l' l'' (a.contract.head ∙ sym b.contract.head) (a.contract.procs ∙ sym b.contract.procs) (a.contract.vars ∙ sym b.contract.vars))

  pub once-run : {limit : ℕ} → RunMeets lim s l limit w l' → RunMeets lim s l limit w' l'' → (w ≡ w') × (l' ≡ l'')
  once-run a b = (a.contract.answer ∙ sym b.contract.answer, same-lent l' l'' (a.contract.head ∙ sym b.contract.head) (a.contract.procs ∙ sym b.contract.procs) (a.contract.vars ∙ sym b.contract.vars))

  pub once-supply : {v k : ℕ} → SupplyMeets lim s l v k w l' → SupplyMeets lim s l v k w' l'' → (w ≡ w') × (l' ≡ l'')
  once-supply a b = (a.contract.answer ∙ sym b.contract.answer, same-lent l' l'' (a.contract.head ∙ sym b.contract.head) (a.contract.procs ∙ sym b.contract.procs) (a.contract.vars ∙ sym b.contract.vars))

module _ (lim : Limits) (s : List ℕ) (l : Lent) (v : ℕ) where
  pub once-value : {w w' : ℕ} → ValueMeets lim s l v w → ValueMeets lim s l v w' → w ≡ w'
  once-value a b = a.contract ∙ sym b.contract

module _ (lim : Limits) (s : List ℕ) (l : Lent) (row : List ℕ) where
  pub once-values : {w w' : ℕ} {a b : List ℕ} → ValuesMeets lim s l row w a → ValuesMeets lim s l row w' b → (w ≡ w') × (a ≡ b)
  once-values x y = (x.contract.answer ∙ sym y.contract.answer, x.contract.row_is ∙ sym y.contract.row_is)

module _ (rows : List ℕ) where
  pub once-watch : {w w' : ℕ} → WatchMeets rows w → WatchMeets rows w' → w ≡ w'
  once-watch a b = a.contract ∙ sym b.contract

module _ (lim : Limits) (s : List ℕ) (l : Lent) where
  pub once-save : {row : List ℕ} {w w' : ℕ} {row' row'' : List ℕ} → SaveMeets lim s l row w row' → SaveMeets lim s l row w' row'' → (w ≡ w') × (row' ≡ row'')
  once-save a b = (a.contract.answer ∙ sym b.contract.answer, a.contract.row_is ∙ sym b.contract.row_is)

  pub once-resume : {x : List ℕ} {w w' : ℕ} {l' l'' : Lent} → ResumeMeets lim s l x w l' → ResumeMeets lim s l x w' l'' → (w ≡ w') × (l' ≡ l'')
  once-resume {l' = l'} {l''} a b = (a.contract.answer ∙ sym b.contract.answer, same-lent l' l'' (a.contract.head ∙ sym b.contract.head) (a.contract.procs ∙ sym b.contract.procs) (a.contract.vars ∙ sym b.contract.vars))

  pub once-replay : {x : List ℕ} {w w' : ℕ} {l' l'' : Lent} → ReplayMeets lim s l x w l' → ReplayMeets lim s l x w' l'' → (w ≡ w') × (l' ≡ l'')
  once-replay {l' = l'} {l''} a b = (a.contract.answer ∙ sym b.contract.answer, same-lent l' l'' (a.contract.head ∙ sym b.contract.head) (a.contract.procs ∙ sym b.contract.procs) (a.contract.vars ∙ sym b.contract.vars))

-- ---- the two calls that no C program reaches: the turn with its marker lent, and the watch over records

module _ (lim : Limits) (s cs ps vs : List ℕ) (m : Marker) {a b : Answer Move} {cs' ps' vs' cs'' ps'' vs'' : List ℕ} {m' m'' : Marker} where
  pub once-marker : MarkerMeets lim s cs ps vs m a cs' ps' vs' m' → MarkerMeets lim s cs ps vs m b cs'' ps'' vs'' m''
      → (a ≡ b) × (cs' ≡ cs'') × (ps' ≡ ps'') × (vs' ≡ vs'') × (m' ≡ m'')
  once-marker x y =
      let e : turned_from m' a ≡ turned_from m'' b = x.contract.turned ∙ sym y.contract.turned in (
        ap (λ (t : Turned). t.answer) e,
        x.contract.counts ∙ sym y.contract.counts,
        x.contract.procs ∙ sym y.contract.procs,
        x.contract.vars ∙ sym y.contract.vars,
        λ i. record { last = (e i).last; steps = (e i).steps },
      )

module _ (rows : List Process) where
  pub once-records : {f g : Option ℕ} → RecordsMeet rows f → RecordsMeet rows g → f ≡ g
  once-records a b = a.contract ∙ sym b.contract
