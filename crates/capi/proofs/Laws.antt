-- From the answers of the calls below to the words that C is given.
use Rattle.parlog.specs.declared.Term.{Term}
use Rattle.parlog.specs.declared.Move.{Move}
use Rattle.parlog.specs.declared.End.{End}
use Rattle.std.specs.Prelude.{⊤, Option, Ok, Err}
use Rattle.parlog.specs.Answer.{Answer}
use mathlib.Core.Path.{◌≡◌}
use mathlib.Core.Bool.{Bool, false, true}
use mathlib.Core.List.{[], ◌∷◌, List}
use Prim.Native.Nat.{◌/◌, ◌≤◌, ℕ}
use lib.Dec.{leb}
use lib.ListN.{length}
use native.Mathlib.Omega.{arith}
use Rattle.bound.specs.Calls.{RowCall, RowSays, step_bound_call, step_tells, supply_bound_call, supply_tells, tell_by, tell_in, turn_bound_call}
use Rattle.bound_row.specs.Row.{bound_bytes}
use Rattle.capi.specs.Tells.{ParseTells, PrintTells, ReplayTells, ResumeTells, RowTells, RunTells, SaveTells, StartTells, StepTells, SupplyTells, Tells, TurnTells, ValuesTells, ValueTells, WatchTells}
use Rattle.load.specs.Fields.{refusal_of}
use Rattle.machine.specs.Starting.{StartSays}
use Rattle.machine.specs.Supplying.{SupplySays}
use Rattle.parlog.specs.Calls.{step_call, supply_call, turn_call, value_call}
use Rattle.parlog.specs.Limits.{Limits, Usable}
use Rattle.parlog.specs.Load.{load_of, refusal}
use Rattle.parlog.specs.Numbers.{load_numbers, Numbers, refused_as, run_numbers, start_numbers, step_numbers, supply_numbers, value_numbers, watch_numbers, word}
use Rattle.parlog.specs.Run.{watch_of}
use Rattle.parlog.specs.Tables.{Lent, procs_of, row_size}
use Rattle.parlog.specs.declared.Refusal.{Refusal}
use Rattle.parse.specs.Says.{ParseSays}
use Rattle.print.specs.Says.{PrintSays}
use Rattle.replay.specs.Replay.{replay_numbers, ReplaySays}
use Rattle.resume.specs.Says.{ResumeSays, SaveSays}
use Rattle.rows.proofs.Tables.{procs-length}
use Rattle.run.specs.Running.{RunSays, TurnSays}
use Rattle.step.specs.Stepping.{StepSays}
use Rattle.text_words.proofs.Laws.{parse-fits}
use Rattle.text_words.specs.Numbers.{ParseFits, parse_numbers, print_numbers}
use Rattle.values.specs.Values.{values_numbers, ValuesSays}
use Rattle.words.proofs.Fitting.{run_fits, start_fits, step_fits, supply-fits, turn-fits, value-fits, values-fits, watch-reached}
use Rattle.words.proofs.Nights.{save-fits}
use Rattle.words.specs.Fits.{reached, RunFits, StartFits, StepFits, SupplyFits, ValueFits, ValuesFits}
use Rattle.words.specs.Nights.{resume_numbers, SaveFits, save_numbers}

module _ (s : List ℕ) {l : Answer (ℕ × ℕ)} (is : l ≡ load_of s) where
  pub load-refused : {f r : Refusal} {w : ℕ} → l ≡ Err f → r ≡ refusal_of l → w ≡ word (refused_as r) → w ≡ word (load_numbers (load_of s))
  load-refused e h k = rw (k, h, ← is, e)

  pub load-accepted : {r c w : ℕ} → l ≡ Ok (r, c) → w ≡ word (record { refused = 0; a = r; b = c; c = 0 }) → w ≡ word (load_numbers (load_of s))
  load-accepted e k = rw (k, ← is, e)

-- ---- an answer of a call below fits, and its word and rows are those of the call

module _ {A : Type 0} {a x : A} (is : a ≡ x) where
  pub fits-of : (F : A → Type 0) → F x → F a
  fits-of F k = rw is k

  pub word_of : (f : A → Numbers) {w : ℕ} → w ≡ word (f a) → w ≡ word (f x)
  word_of f k = rw (k, is)

  pub tells-of : (f : A → Numbers) {l : Lent} {h p v : List ℕ} {w : ℕ} → h ≡ l.head → p ≡ l.procs → v ≡ l.vars → w ≡ word (f a) → Tells (f x) l w h p v
  tells-of f eh ep ev k = record { answer = word_of f k; head = eh; procs = ep; vars = ev }

module _ (lim : Limits) (s : List ℕ) (l : Lent) {h p v : List ℕ} where
  module _ {a : Answer ⊤} (told : StartSays lim s l a h p v) where
    pub start-fit : StartFits a
    start-fit = fits-of told.answer StartFits (start_fits lim s l)

    pub start-tells : {w : ℕ} → w ≡ word (start_numbers a) → StartTells lim s l w h p v
    start-tells k = tells-of told.answer start_numbers told.head told.procs told.vars k

  module _ (i : ℕ) {a : Answer Move} (told : StepSays lim s l i a h p v) where
    pub step-fit : Usable lim → StepFits a
    step-fit ok = fits-of told.answer StepFits (step_fits lim ok s l i)

    pub step-tells : {w : ℕ} → w ≡ word (step_numbers a) → StepTells lim s l i w h p v
    step-tells k = tells-of told.answer step_numbers told.head told.procs told.vars k

  module _ {a : Answer Move} (told : TurnSays lim s l a h p v) where
    pub turn-fit : Usable lim → StepFits a
    turn-fit ok = fits-of told.answer StepFits (turn-fits lim ok s l)

    pub turn-tells : {w : ℕ} → w ≡ word (step_numbers a) → TurnTells lim s l w h p v
    turn-tells k = tells-of told.answer step_numbers told.head told.procs told.vars k

  module _ (limit : ℕ) {a : Answer (End × ℕ)} (told : RunSays lim s l limit a h p v) where
    pub run-fit : limit ≤ 65535 → RunFits a
    run-fit most = fits-of told.answer RunFits (run_fits lim s l limit (omega (arith, most)))

    pub run-tells : {w : ℕ} → w ≡ word (run_numbers a) → RunTells lim s l limit w h p v
    run-tells k = tells-of told.answer run_numbers told.head told.procs told.vars k

  module _ (x c : ℕ) {a : Answer ℕ} (told : SupplySays lim s l x c a h p v) where
    pub supply-fit : SupplyFits a
    supply-fit = fits-of told.answer SupplyFits (supply-fits lim s l x c)

    pub supply-tells : {w : ℕ} → w ≡ word (supply_numbers a) → SupplyTells lim s l x c w h p v
    supply-tells k = tells-of told.answer supply_numbers told.head told.procs told.vars k

module _ (lim : Limits) (s : List ℕ) (l : Lent) (x : ℕ) {a : Answer Term} (told : a ≡ value_call lim s l x) where
  pub value-fit : ValueFits a
  value-fit = fits-of told ValueFits (value-fits lim s l x)

  pub value_tells : {w : ℕ} → w ≡ word (value_numbers a) → ValueTells lim s l x w
  value_tells k = word_of told value_numbers k

module _ (lim : Limits) (s : List ℕ) (l : Lent) (row : List ℕ) {a : Answer ℕ} {after : List ℕ} (told : ValuesSays lim s l row a after) where
  pub values-fit : Usable lim → ValuesFits a
  values-fit ok = fits-of told.answer ValuesFits (values-fits lim ok s l row)

  pub values-tells : {w : ℕ} → w ≡ word (values_numbers a) → ValuesTells lim s l row w after
  values-tells k = record { answer = word_of told.answer values_numbers k; row_is = told.row_is }

pub watch-tells : (p : List ℕ) {a : Option ℕ} {w : ℕ} → a ≡ watch_of (procs_of p (length p / row_size)) → w ≡ word (watch_numbers (reached a)) → WatchTells p w
watch-tells p e k = word_of e (λ f. watch_numbers (reached f)) k

-- a row of processes that a word can tell throughout: the watch itself
pub watch-whole : (p : List ℕ) {w : ℕ} → length p / row_size ≤ 4294967296 → WatchTells p w → w ≡ word (watch_numbers (watch_of (procs_of p (length p / row_size))))
watch-whole p h k = rw (k, watch-reached (procs_of p (length p / row_size)) (rw (procs-length p (length p / row_size)) h))

-- ---- the variables bound, told in a row more

pub row-tells : {A : Type 0} {c : RowCall A} {a : A} {h p v w : List ℕ} → RowSays c a h p v w → (f : A → Numbers) {r : ℕ} → r ≡ word (f a) → RowTells (f c.answer) c.lent c.row r h p v w
row-tells says f k = record { answer = word_of says.answer f k; head = says.head; procs = says.procs; vars = says.vars; row = says.row }

step-says-fits : (a : Answer Move) (after l : Lent) (row vs : List ℕ) → StepFits a → StepFits (step_tells a after l row vs).answer
step-says-fits (Err r) after l row vs h = h
step-says-fits (Ok m) after l row vs h = unfold tell_in in by (leb (length (bound_bytes vs)) (length row))
  where
    by : (b : Bool) → StepFits (tell_by b (Err (refusal 11 0)) (Ok m) after l row (bound_bytes vs)).answer
    by false = omega arith
    by true = h

supply-says-fits : (a : Answer ℕ) (after l : Lent) (row : List ℕ) → SupplyFits a → SupplyFits (supply_tells a after l row).answer
supply-says-fits (Err r) after l row h = h
supply-says-fits (Ok u) after l row h = unfold tell_in in by (leb (length (bound_bytes (u ∷ []))) (length row))
  where
    by : (b : Bool) → SupplyFits (tell_by b (Err (refusal 11 0)) (Ok u) after l row (bound_bytes (u ∷ []))).answer
    by false = omega arith
    by true = tt

module _ (lim : Limits) (s : List ℕ) (l : Lent) (row : List ℕ) {h p v w : List ℕ} where
  pub step-bound-fit : (i : ℕ) {a : Answer Move} → RowSays (step_bound_call lim s l row i) a h p v w → Usable lim → StepFits a
  unfolding step_bound_call
  step-bound-fit i says ok = fits-of says.answer StepFits (step-says-fits (step_call lim s l i).answer (step_call lim s l i).lent l row _ (step_fits lim ok s l i))

  pub turn-bound-fit : {a : Answer Move} → RowSays (turn_bound_call lim s l row) a h p v w → Usable lim → StepFits a
  unfolding turn_bound_call
  turn-bound-fit says ok = fits-of says.answer StepFits (step-says-fits (turn_call lim s l).answer (turn_call lim s l).lent l row _ (turn-fits lim ok s l))

  pub supply-bound-fit : (x c : ℕ) {a : Answer ℕ} → RowSays (supply_bound_call lim s l row x c) a h p v w → SupplyFits a
  unfolding supply_bound_call
  supply-bound-fit x c says = fits-of says.answer SupplyFits (supply-says-fits (supply_call lim s l x c).answer (supply_call lim s l x c).lent l row (supply-fits lim s l x c))

-- ---- a run saved, and gone on with

module _ (lim : Limits) (s : List ℕ) (l : Lent) (row : List ℕ) {a : Answer ℕ} {row' : List ℕ} (told : SaveSays lim s l row a row') where
  pub save-fit : SaveFits a
  save-fit = save-fits lim s l row a told.answer told.few

  pub save-tells : {w : ℕ} → w ≡ word (save_numbers a) → SaveTells lim s l row w row'
  save-tells k = record { answer = word_of told.answer save_numbers k; row_is = told.row_is }

pub resume-tells : (lim : Limits) (s : List ℕ) (l : Lent) (x : List ℕ) {a : Answer ⊤} {h p v : List ℕ} → ResumeSays lim s l x a h p v → {w : ℕ} → w ≡ word (resume_numbers a) → ResumeTells lim s l x w h p v
resume-tells lim s l x t k = tells-of t.answer resume_numbers t.head t.procs t.vars k

pub replay-tells : (lim : Limits) (s : List ℕ) (l : Lent) (trace : List ℕ) {a : Answer ℕ} {h p v : List ℕ} → ReplaySays lim s l trace a h p v → {w : ℕ} → w ≡ word (replay_numbers a) → ReplayTells lim s l trace w h p v
replay-tells lim s l trace t k = tells-of t.answer replay_numbers t.head t.procs t.vars k

-- ---- clause text

pub print-tells : (image names text : List ℕ) {a : Answer ℕ} {text' : List ℕ} → PrintSays image names text a text' → {w : ℕ} → w ≡ word (print_numbers a) → PrintTells image names text w text'
print-tells image names text t k = record { answer = word_of t.answers print_numbers k; text_is = t.leaves }

module _ (image names text : List ℕ) {a : Answer (ℕ × ℕ)} {image' names' : List ℕ} (told : ParseSays image names text a image' names') where
  pub parse-fit : ParseFits a
  parse-fit = fits-of told.answers ParseFits (parse-fits image names text)

  pub parse-tells : {w : ℕ} → w ≡ word (parse_numbers a) → ParseTells image names text w image' names'
  parse-tells k = record { answer = word_of told.answers parse_numbers k; image_is = told.imaged; names_is = told.named }
