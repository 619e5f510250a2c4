-- The run over the table is the run over forms.
use Rattle.std.specs.Prelude.{Result, ⊤, Err}
use mathlib.Core.Path.{◌∙◌, ◌≡◌, ap, refl, sym}
use mathlib.Core.Bool.{Bool, beq, false, true}
use mathlib.Core.List.{[], ◌∷◌, List}
use Prim.Native.Nat.{◌*◌, ◌+◌, ◌<◌, ◌≤◌, suc, zero, ℕ}
use lib.Dec.{eqb, ltb}
use lib.ListN.{drop, drop_of_length-le, get_or, length, get_or-map}
use lib.Seq.{drop-cons}
use borrow.Author.Tests.{eq-eqb, eqb-false, eqb-true, ltb-true, ne_eqb}
use native.Mathlib.Omega.{arith}
use native.Mathlib.Numerals.{add-one}
use Rattle.spell.proofs.Alike.{afters-alike, afters-keep, alike, alikes, beq-is}
use Rattle.std.proofs.lemmas.Bool.{and_parts}
use Rattle.spell.proofs.Language.{both}
use Rattle.spell.proofs.Same.{every-at, sames-is}
use Rattle.spell.proofs.Tested.{along, byte_right, bytes-right, cell_right, cells_right, empty, row_right, rows_right, sort, stands, state_right, states-right, step_right}
use Rattle.spell.proofs.Ways.{sort_count, sort_of, ways}
use Rattle.spell.specs.Forms.{Form}
use Rattle.spell.specs.Grammar.{text}
use Rattle.spell.specs.Rows.{cell_count, kind_count, kinds, last_state, rows, states}
use Rattle.spell.specs.Stuck.{afters, any_ends, ended, goes, spelling, spelling_of}
use Rattle.spell.specs.Table.{follows, moves, row_after, row_run, run, steps}

-- ---- bytes

pub record Byte (b : ℕ) : Type 0 where
  pub like : alike b (sort (get_or sort_of b 0)) text ≡ true
  pub sorted : get_or sort_of b 0 < sort_count
  pub one-kind : get_or kinds b 0 ≡ get_or kinds (sort (get_or sort_of b 0)) 0
  pub kind : get_or kinds b 0 < kind_count

pub byte : (b : ℕ) → b < 256 → Byte b
unfolding byte_right
byte b h =
    let w = and_parts (alike b (sort (get_or sort_of b 0)) text) _ (every-at byte_right 256 b bytes-right h) in
    let v = and_parts (ltb (get_or sort_of b 0) sort_count) _ w.1 in
    let u = and_parts (eqb (get_or kinds b 0) (get_or kinds (sort (get_or sort_of b 0)) 0)) _ v.1 in
    record { like = w.0; sorted = ltb-true _ _ v.0; one-kind = eqb-true _ _ u.0; kind = ltb-true _ _ u.1 }

follows-small : (q b : ℕ) → q < states → b < 256 → follows q b < states
unfolding follows cell_right
follows-small q b hq hb =
    let k = (byte b hb).kind in
    ltb-true _ _ (every-at cell_right cell_count (q * kind_count + get_or kinds b 0) cells_right (omega arith))

-- ---- states

along-keeps : (b r : ℕ) (w : List ℕ) (xs : List Form) → alikes b r xs ≡ true → alikes b r (along w xs) ≡ true
unfolding along
along-keeps b r [] xs e = e
along-keeps b r (d ∷ w) xs e = along-keeps b r w (afters d xs) (afters-keep b r d xs e)

stands-like : (b r q : ℕ) → alike b r text ≡ true → alikes b r (stands q) ≡ true
unfolding stands alikes
stands-like b r q e = along-keeps b r (get_or ways q []) (text ∷ []) (both e refl)

same-follows : (q b d : ℕ) → get_or kinds b 0 ≡ get_or kinds d 0 → follows q d ≡ follows q b
unfolding follows
same-follows q b d e = rw e

step_right_lem : (q i : ℕ) → q < states → i < sort_count → afters (sort i) (stands q) ≡ stands (follows q (sort i))
unfolding step_right row_right
step_right_lem q i hq hi = sames-is _ _ (every-at (step_right q) sort_count i (every-at row_right states q rows_right hq) hi)

pub stands-step : (q b : ℕ) → q < states → b < 256 → afters b (stands q) ≡ stands (follows q b)
stands-step q b hq hb =
    let w = byte b hb in
    let r = sort (get_or sort_of b 0) in
    afters-alike b r (stands q) (stands-like b r q w.like) ∙ step_right_lem q (get_or sort_of b 0) hq w.sorted ∙ ap stands (same-follows q b r w.one-kind)

state-ends : (q : ℕ) → q < states → any_ends (stands q) ≡ eqb q last_state
unfolding state_right
state-ends q h = beq-is _ _ (and_parts (beq (any_ends (stands q)) (eqb q last_state)) _ (every-at state_right states q states-right h)).0

state-empty : (q : ℕ) → q < states → empty (stands q) ≡ eqb q 0
unfolding state_right
state-empty q h = beq-is _ _ (and_parts (beq (any_ends (stands q)) (eqb q last_state)) _ (every-at state_right states q states-right h)).1

-- ---- runs

abbrev pub Bytes : List ℕ → Type 0
Bytes s = (j : ℕ) → get_or s j 0 < 256

goes_on : (f : List Form → ℕ → Result ⊤ ℕ) (xs : List Form) (i : ℕ) → empty xs ≡ false → goes f xs i ≡ f xs (i + 1)
goes_on f [] i e = absurd (let z : ◌≡◌ {A = ℕ} 0 1 = cc in omega arith)
goes_on f (x ∷ xs) i e = refl

goes-not : (f : List Form → ℕ → Result ⊤ ℕ) (xs : List Form) (i : ℕ) → empty xs ≡ true → goes f xs i ≡ Err i
goes-not f [] i e = refl
goes-not f (x ∷ xs) i e = absurd (let z : ◌≡◌ {A = ℕ} 0 1 = cc in omega arith)

sim-step : (f : List Form → ℕ → Result ⊤ ℕ) (g : ℕ → ℕ → Result ⊤ ℕ) (q i : ℕ) → q < states → (f (stands q) (i + 1) ≡ g q (i + 1)) → goes f (stands q) i ≡ moves g q i
sim-step f g zero i h e = goes-not f (stands zero) i (state-empty zero h)
sim-step f g (suc q) i h e = goes_on f (stands (suc q)) i (state-empty (suc q) h ∙ ne_eqb (suc q) 0 (λ z. omega arith)) ∙ e

pub sim : (s : List ℕ) (q i : ℕ) → q < states → Bytes s → spelling s (stands q) i ≡ run s q i
unfolding spelling run
sim [] q i hq hs = rw (state-ends q hq)
sim (b ∷ s) q i hq hs =
    rw (stands-step q b hq (hs 0))
    (sim-step (spelling s) (run s) (follows q b) i (follows-small q b hq (hs 0)) (sim s (follows q b) (i + 1) (follows-small q b hq (hs 0)) (λ j. hs (suc j))))

first : stands 1 ≡ text ∷ []
unfolding stands along ways
first = refl

run-stuck : (s : List ℕ) → Bytes s → run s 1 0 ≡ spelling_of s
unfolding spelling_of
run-stuck s h = sym (rw first at (sim s 1 0 (omega arith) h))

-- ---- the run by places

step-at : (i : ℕ) → get_or steps i 0 ≡ get_or rows i 0 * kind_count
unfolding steps
step-at i = get_or-map (λ (q : ℕ). q * kind_count) rows i 0

row-follows : (q b : ℕ) → row_after (q * kind_count) b ≡ follows q b * kind_count
unfolding row_after follows
row-follows q b = step-at (q * kind_count + get_or kinds b 0)

moves-go : (f : ℕ → ℕ → Result ⊤ ℕ) (q i : ℕ) → (q ≡ 0 → ⊥) → moves f q i ≡ f q (i + 1)
moves-go f zero i h = absurd (h refl)
moves-go f (suc q) i h = refl

row-moves : (f g : ℕ → ℕ → Result ⊤ ℕ) (q i : ℕ) → f (q * kind_count) (i + 1) ≡ g q (i + 1) → moves f (q * kind_count) i ≡ moves g q i
row-moves f g zero i e = refl
row-moves f g (suc q) i e = moves-go f (suc q * kind_count) i (λ z. omega arith) ∙ e

last_row : (q : ℕ) (t : Bool) → eqb q last_state ≡ t → eqb (q * kind_count) (last_state * kind_count) ≡ t
last_row q true e = let w = eqb-true q last_state e in eq-eqb (q * kind_count) (last_state * kind_count) (omega arith)
last_row q false e = let w = eqb-false q last_state e in ne_eqb (q * kind_count) (last_state * kind_count) (λ z. w (omega arith))

row-runs : (s : List ℕ) (q i : ℕ) → row_run s (q * kind_count) i ≡ run s q i
unfolding row_run run
row-runs [] q i = rw (last_row q (eqb q last_state) refl)
row-runs (b ∷ s) q i = rw (row-follows q b) (row-moves (row_run s) (run s) (follows q b) i (row-runs s (follows q b) (i + 1)))

pub row-run-stuck : (s : List ℕ) → Bytes s → row_run s kind_count 0 ≡ spelling_of s
row-run-stuck s h = row-runs s 1 0 ∙ run-stuck s h

-- ---- one turn of the run, as the loop takes it

run-cons : (s : List ℕ) (p i : ℕ) → i < length s → row_run (drop i s) p i ≡ moves (row_run (drop (i + 1) s)) (row_after p (get_or s i 0)) i
unfolding row_run
run-cons s p i h = rw (add-one, drop-cons s i 0)

pub run-go : (s : List ℕ) (p r i : ℕ) → i < length s → r ≡ row_after p (get_or s i 0) → (r ≡ 0 → ⊥) → row_run (drop i s) p i ≡ row_run (drop (i + 1) s) r (i + 1)
run-go s p r i h e f = rw (run-cons s p i h, ← e) (moves-go (row_run (drop (i + 1) s)) r i f)

pub run-stop : (s : List ℕ) (p r i : ℕ) → i < length s → r ≡ row_after p (get_or s i 0) → r ≡ 0 → row_run (drop i s) p i ≡ Err i
run-stop s p r i h e f = rw (run-cons s p i h, ← e, f)

pub run_end : (s : List ℕ) (p i : ℕ) → length s ≤ i → row_run (drop i s) p i ≡ ended (eqb p (last_state * kind_count)) i
unfolding row_run
run_end s p i h = rw (drop_of_length-le s h)

-- ---- the code's reads

pub cell_in : (ks : List ℕ) (p b k : ℕ) → ks ≡ kinds → p + kind_count ≤ cell_count → b < 256 → k ≡ get_or ks b 0 → p + k < cell_count
cell_in ks p b k e hp hb f = let w = (byte b hb).kind in let g : k ≡ get_or kinds b 0 = rw e at f in omega arith

step_small : (i : ℕ) → i < cell_count → get_or steps i 0 + kind_count ≤ cell_count
unfolding cell_right
step_small i h = let w = ltb-true (get_or rows i 0) states (every-at cell_right cell_count i cells_right h) in let e = step-at i in omega arith

cell-follows : (ks rs : List ℕ) (p b k r : ℕ) → ks ≡ kinds → rs ≡ steps → k ≡ get_or ks b 0 → r ≡ get_or rs (p + k) 0 → r ≡ row_after p b
unfolding row_after
cell-follows ks rs p b k r e f g h = rw (← e, ← f, ← g) h

pub cell-is : (ks rs : List ℕ) (p b k r : ℕ) → ks ≡ kinds → rs ≡ steps → p + kind_count ≤ cell_count → b < 256 → k ≡ get_or ks b 0 → r ≡ get_or rs (p + k) 0 → (r ≡ row_after p b) × (r + kind_count ≤ cell_count)
cell-is ks rs p b k r e f hp hb g h =
    let w = step_small (p + k) (cell_in ks p b k e hp hb g) in
    let v : r ≡ get_or steps (p + k) 0 = rw f at h in
    (cell-follows ks rs p b k r e f g h, omega arith)
