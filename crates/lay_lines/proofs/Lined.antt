-- Modes and clauses by the bytes that they begin with.
use mathlib.Core.Path.{◌≡◌, sym}
use mathlib.Core.Bool.{false, true}
use mathlib.Core.List.{[], ◌∷◌, List}
use Prim.Native.Nat.{ℕ}
use lib.ListN.{drop, get_or}
use borrow.Author.Tests.{eq-eqb, ne_eqb}
use Rattle.lay_literal.specs.Lows.{lows}
use Rattle.lay_text.specs.Laying.{Writes}
use Rattle.lay_text.specs.declared.To.{To}
use Rattle.text_names.proofs.Rest.{first-at}
use Rattle.text_program.specs.Source.{is_clause, read_mode}

-- ---- modes

pub mode-out : (s : List ℕ) (at b : ℕ) → b ≡ get_or s at 0 → b ≡ 94 → 1 ≡ (read_mode (drop at s)).value
mode-out s at b e h = rw (first-at s at, ← e, eq-eqb b 94 h)

pub mode-in : (s : List ℕ) (at b : ℕ) → b ≡ get_or s at 0 → (b ≡ 94 → ⊥) → 0 ≡ (read_mode (drop at s)).value
mode-in s at b e h = rw (first-at s at, ← e, ne_eqb b 94 h)

pub mode-item : {o p : List ℕ} {w x : To} (s : List ℕ) (q k : ℕ) → k ≡ (read_mode (drop q s)).value → Writes o w (lows (k ∷ [])) true p x → Writes o w (lows ((read_mode (drop q s)).value ∷ [])) true p x
mode-item s q k e v = rw (← e) v

-- ---- clauses

is-clause : (s : List ℕ) (q b : ℕ) → b ≡ get_or s q 0 → (b ≡ 60 → ⊥) → is_clause (drop q s) ≡ true
unfolding is_clause
is-clause s q b e h = rw (first-at s q, ← e, ne_eqb b 60 h)

pub no-clause : (s : List ℕ) (q b : ℕ) → b ≡ get_or s q 0 → b ≡ 60 → false ≡ is_clause (drop q s)
unfolding is_clause
no-clause s q b e h = rw (first-at s q, ← e, eq-eqb b 60 h)

pub a_clause : (s : List ℕ) (q b : ℕ) → b ≡ get_or s q 0 → (b ≡ 60 → ⊥) → true ≡ is_clause (drop q s)
a_clause s q b e h = sym (is-clause s q b e h)
