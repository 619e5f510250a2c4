-- Each export allows one result only.
use mathlib.Core.Path.{◌∙◌, ◌≡◌, sym}
use mathlib.Core.List.{List}
use Prim.Native.Nat.{ℕ}
use Rattle.capi.specs.Tells.{ParseTells, PrintTells, RowTells, RunTells, StartTells, StepTells, SupplyTells, Tells, TurnTells, ValuesTells, ValueTells, WatchTells}
use Rattle.parlog.specs.Limits.{Limits}
use Rattle.parlog.specs.Load.{load_of}
use Rattle.parlog.specs.Numbers.{load_numbers, Numbers, word}
use Rattle.parlog.specs.Tables.{Lent}

-- the same word, and the same bytes in every row
abbrev pub Same : (r q : ℕ) (h p v h' p' v' : List ℕ) → Type 0
Same r q h p v h' p' v' = (r ≡ q) × (h ≡ h') × (p ≡ p') × (v ≡ v')

tells-once : (n : Numbers) (l : Lent) (r q : ℕ) (h p v h' p' v' : List ℕ) → Tells n l r h p v → Tells n l q h' p' v' → Same r q h p v h' p' v'
tells-once n l r q h p v h' p' v' a b = (a.answer ∙ sym b.answer, a.head ∙ sym b.head, a.procs ∙ sym b.procs, a.vars ∙ sym b.vars)

pub load-once : (s : List ℕ) (r q : ℕ) → r ≡ word (load_numbers (load_of s)) → q ≡ word (load_numbers (load_of s)) → r ≡ q
load-once s r q a b = a ∙ sym b

pub start-once : (lim : Limits) (s : List ℕ) (l : Lent) (r q : ℕ) (h p v h' p' v' : List ℕ) → StartTells lim s l r h p v → StartTells lim s l q h' p' v' → Same r q h p v h' p' v'
start-once lim s l r q h p v h' p' v' a b = tells-once _ _ r q h p v h' p' v' a b

pub step-once : (lim : Limits) (s : List ℕ) (l : Lent) (i : ℕ) (r q : ℕ) (h p v h' p' v' : List ℕ) → StepTells lim s l i r h p v → StepTells lim s l i q h' p' v' → Same r q h p v h' p' v'
step-once lim s l i r q h p v h' p' v' a b = tells-once _ _ r q h p v h' p' v' a b

pub turn-once : (lim : Limits) (s : List ℕ) (l : Lent) (r q : ℕ) (h p v h' p' v' : List ℕ) → TurnTells lim s l r h p v → TurnTells lim s l q h' p' v' → Same r q h p v h' p' v'
turn-once lim s l r q h p v h' p' v' a b = tells-once _ _ r q h p v h' p' v' a b

pub run-once : (lim : Limits) (s : List ℕ) (l : Lent) (limit : ℕ) (r q : ℕ) (h p v h' p' v' : List ℕ) → RunTells lim s l limit r h p v → RunTells lim s l limit q h' p' v' → Same r q h p v h' p' v'
run-once lim s l limit r q h p v h' p' v' a b = tells-once _ _ r q h p v h' p' v' a b

pub supply-once : (lim : Limits) (s : List ℕ) (l : Lent) (x c : ℕ) (r q : ℕ) (h p v h' p' v' : List ℕ) → SupplyTells lim s l x c r h p v → SupplyTells lim s l x c q h' p' v' → Same r q h p v h' p' v'
supply-once lim s l x c r q h p v h' p' v' a b = tells-once _ _ r q h p v h' p' v' a b

pub value-once : (lim : Limits) (s : List ℕ) (l : Lent) (x : ℕ) (r q : ℕ) → ValueTells lim s l x r → ValueTells lim s l x q → r ≡ q
value-once lim s l x r q a b = a ∙ sym b

pub values-once : (lim : Limits) (s : List ℕ) (l : Lent) (row : List ℕ) (r q : ℕ) (a b : List ℕ) → ValuesTells lim s l row r a → ValuesTells lim s l row q b → (r ≡ q) × (a ≡ b)
values-once lim s l row r q a b x y = (x.answer ∙ sym y.answer, x.row_is ∙ sym y.row_is)

pub watch-once : (p : List ℕ) (r q : ℕ) → WatchTells p r → WatchTells p q → r ≡ q
watch-once p r q a b = a ∙ sym b

-- ---- the variables bound, told in a row more

pub rows-once : (n : Numbers) (l : Lent) (row : List ℕ) {r q : ℕ} {h p v w h' p' v' w' : List ℕ} → RowTells n l row r h p v w → RowTells n l row q h' p' v' w'
    → (r ≡ q) × (h ≡ h') × (p ≡ p') × (v ≡ v') × (w ≡ w')
rows-once n l row a b = (a.answer ∙ sym b.answer, a.head ∙ sym b.head, a.procs ∙ sym b.procs, a.vars ∙ sym b.vars, a.row ∙ sym b.row)

-- ---- clause text

pub print-once : (image names text : List ℕ) {r q : ℕ} {a b : List ℕ} → PrintTells image names text r a → PrintTells image names text q b → (r ≡ q) × (a ≡ b)
print-once image names text x y = (x.answer ∙ sym y.answer, x.text_is ∙ sym y.text_is)

pub parse-once : (image names text : List ℕ) {r q : ℕ} {a b c d : List ℕ} → ParseTells image names text r a b → ParseTells image names text q c d → (r ≡ q) × (a ≡ c) × (b ≡ d)
parse-once image names text x y = (x.answer ∙ sym y.answer, x.image_is ∙ sym y.image_is, x.names_is ∙ sym y.names_is)
