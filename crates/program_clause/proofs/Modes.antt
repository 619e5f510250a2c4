-- The modes of a relation: one law for each way through their reads, and how many of them are outputs.
use mathlib.Core.Path.{◌∙◌, ◌≡◌, ap, refl, sym}
use mathlib.Core.Bool.{Bool, cond, false, not, true}
use mathlib.Core.List.{[], List}
use Prim.Native.Nat.{◌+◌, ◌<◌, ◌≤◌, suc, zero, ℕ}
use lib.Dec.{eqb}
use lib.ListN.{get_or, length}
use native.Mathlib.Omega.{arith}
use native.Mathlib.Numerals.{add-one}
use Rattle.parlog.proofs.Along.{along-modes, list_at, list_length, list-none, list-past}
use Rattle.parlog.specs.Image.{byte_at, mode_end, record_at, record_end}
use Rattle.parlog.specs.Program.{modes_at, modes_of, out_count, program_of}
use Rattle.parlog.specs.Scan.{list_of, those}
use Rattle.program_clause.specs.Parts.{is_out}
use Rattle.program_clause.proofs.Turns.{size-more, size-start}

-- the ways through modes_of
module _ (s : List ℕ) (rels q : ℕ) where
  pub modes-none : rels ≤ q → list_of (byte_at s) mode_end 0 0 ≡ get_or (list_of (modes_of s) (record_end s) rels 0) q []
  modes-none h = list-none (byte_at s) mode_end 0 0 refl ∙ sym (list-past (modes_of s) (record_end s) rels 0 q [] h)

  pub modes-some : q < rels → {rec n : ℕ} → rec ≡ record_at s q → n ≡ byte_at s (rec + 4) → list_of (byte_at s) mode_end n (rec + 5) ≡ get_or (list_of (modes_of s) (record_end s) rels 0) q []
  unfolding modes_of
  modes-some h er en = sym (list_at (modes_of s) (record_end s) rels 0 q [] h ∙ rw (← er, ← en))

-- the modes of relation q, which modes_of found
module _ (s : List ℕ) (r c q n from : ℕ) (e : list_of (byte_at s) mode_end n from ≡ get_or (list_of (modes_of s) (record_end s) r 0) q []) where
  pub these : list_of (byte_at s) mode_end n from ≡ modes_at (program_of s r c) q
  unfolding program_of
  these = e

  pub mode-count : n ≡ length (modes_at (program_of s r c) q)
  mode-count = sym (list_length (byte_at s) mode_end n from) ∙ ap length these

  pub mode-none : {i : ℕ} → n ≤ i → 0 ≡ get_or (modes_at (program_of s r c) q) i 0
  mode-none {i} h = sym (list-past (byte_at s) mode_end n from i 0 h) ∙ ap (λ (l : List ℕ). get_or l i 0) these

  pub mode-some : {i x : ℕ} → i < n → x ≡ byte_at s (from + i) → x ≡ get_or (modes_at (program_of s r c) q) i 0
  mode-some {i} h ex = ex ∙ ap (byte_at s) (sym (along-modes i from)) ∙ sym (list_at (byte_at s) mode_end n from i 0 h) ∙ ap (λ (l : List ℕ). get_or l i 0) these

-- ---- the outputs among them

-- one mode more behind
swap : (a b : Bool) (y : ℕ) → cond a (cond (not b) (y + 1) y) (suc (cond (not b) (y + 1) y)) ≡ cond (not b) (cond a y (suc y) + 1) (cond a y (suc y))
swap true b y = refl
swap false true y = refl
swap false false y = omega arith

outs-more : (s : List ℕ) (n from : ℕ) → out_count (list_of (byte_at s) mode_end (suc n) from) ≡ cond (is_out s from n) (out_count (list_of (byte_at s) mode_end n from) + 1) (out_count (list_of (byte_at s) mode_end n from))
unfolding out_count list_of
outs-more s zero from = let z : from + 0 ≡ from = omega arith in rw z (by (eqb (byte_at s from) 0))
  where
    by : (b : Bool) → ◌≡◌ {A = ℕ} (cond b 0 1) (cond (not b) 1 0)
    by true = refl
    by false = refl
outs-more s (suc n) from =
    let z : from + 1 + n ≡ from + suc n = omega arith in
    rw (outs-more s n (from + 1), z) (swap (eqb (byte_at s from) 0) (eqb (byte_at s (from + suc n)) 0) (out_count (list_of (byte_at s) mode_end n (from + 1))))

pub outs-count : (s : List ℕ) (n from : ℕ) → out_count (list_of (byte_at s) mode_end n from) ≡ length (those (is_out s from) n)
unfolding out_count list_of
outs-count s zero from = size-start (is_out s from)
outs-count s (suc n) from =
    outs-more s n from ∙ ap (λ (z : ℕ). cond (is_out s from n) (z + 1) z) (outs-count s n from) ∙ sym (ap (λ (k : ℕ). length (those (is_out s from) k)) (sym (add-one n)) ∙ size-more (is_out s from) n)
