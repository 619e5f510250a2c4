-- The table is right, by tests over all states and all sorts of bytes. This file takes most of the check's time.
use mathlib.Core.Bool.{Bool, beq, ◌&&◌, false, true}
use mathlib.Core.List.{[], ◌∷◌, List}
use mathlib.Core.Path.{◌≡◌, refl}
use Prim.Native.Nat.{ℕ}
use lib.Dec.{eqb, ltb}
use lib.ListN.{get_or}
use Rattle.spell.specs.Forms.{Form}
use Rattle.spell.specs.Grammar.{text}
use Rattle.spell.specs.Stuck.{after, afters, all_behind, any_ends, behind, ends}
use Rattle.spell.specs.Table.{follows}
use Rattle.spell.specs.Rows.{cell_count, kind_count, kinds, last_state, rows, states}
use Rattle.spell.proofs.Alike.{alike}
use Rattle.spell.proofs.Same.{every, same, sames}
use Rattle.spell.proofs.Ways.{sort_count, sort_of, sorts, ways}

unfoldable pub along : List ℕ → List Form → List Form
along [] xs = xs
along (b ∷ w) xs = along w (afters b xs)

-- what may stand where state q is
unfoldable pub stands : ℕ → List Form
stands q = along (get_or ways q []) (text ∷ [])

abbrev pub empty : List Form → Bool
empty [] = true
empty (x ∷ xs) = false

-- a byte for all of sort i, and for all like b
unfoldable pub sort : ℕ → ℕ
sort i = get_or sorts i 0

unfoldable pub step_right : ℕ → ℕ → Bool
step_right q i = sames (afters (sort i) (stands q)) (stands (follows q (sort i)))

unfoldable pub row_right : ℕ → Bool
row_right q = every (step_right q) sort_count

pub rows_right : every row_right states ≡ true
unfolding row_right step_right stands along follows ways kinds rows sames same afters after all_behind behind ends text sorts sort every
rows_right = refl

-- where a state may end, and that only state 0 has nothing
unfoldable pub state_right : ℕ → Bool
state_right q = beq (any_ends (stands q)) (eqb q last_state) && beq (empty (stands q)) (eqb q 0)

pub states-right : every state_right states ≡ true
unfolding state_right stands along ways afters after all_behind behind ends any_ends text every
states-right = refl

-- each byte is like that of its sort
unfoldable pub byte_right : ℕ → Bool
byte_right b = alike b (sort (get_or sort_of b 0)) text && (ltb (get_or sort_of b 0) sort_count && (eqb (get_or kinds b 0) (get_or kinds (sort (get_or sort_of b 0)) 0) && ltb (get_or kinds b 0) kind_count))

pub bytes-right : every byte_right 256 ≡ true
unfolding byte_right alike text sort_of sorts sort kinds every
bytes-right = refl

unfoldable pub cell_right : ℕ → Bool
cell_right i = ltb (get_or rows i 0) states

pub cells_right : every cell_right cell_count ≡ true
unfolding cell_right rows every
cells_right = refl
