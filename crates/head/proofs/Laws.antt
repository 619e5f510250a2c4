-- The laws of the head: its four numbers, and its bytes from them.
use mathlib.Core.Path.{◌∙◌, ◌≡◌, refl, sym}
use mathlib.Core.List.{[], ◌∷◌, List}
use Prim.Native.Nat.{◌%◌, ◌*◌, ◌+◌, ◌/◌, ◌<◌, ◌≤◌, ℕ}
use lib.ListN.{get_or, length}
use native.Mathlib.Omega.{arith}
use Rattle.parlog.proofs.Rows.{build-is, halves, high_half, low_half}
use Rattle.parlog.specs.Scan.{build}
use Rattle.parlog.specs.Tables.{head_bytes, head_size, marker_last, marker_steps, proc_count, var_count}
use Rattle.rows.proofs.Laws.{high_in, low_in}
use Rattle.rows.specs.Rows.{Bytes}
use Rattle.std.specs.Int.{to_le_bytes, w16, w32}

-- the four bytes of a number of turns give it
pub steps_back : (m : ℕ) → m % 256 + m / 256 % 256 * 256 + (m / 65536 % 256 + m / 16777216 * 256) * 65536 ≡ m
steps_back m = omega arith

module _ (n m last steps : ℕ) where
  pub head-procs : proc_count (head_bytes n m last steps) ≡ n
  unfolding head_bytes
  head-procs = halves n

  pub head-vars : var_count (head_bytes n m last steps) ≡ m
  unfolding head_bytes
  head-vars = halves m

  pub head-last : marker_last (head_bytes n m last steps) ≡ last
  unfolding head_bytes
  head-last = halves last

  pub head-steps : marker_steps (head_bytes n m last steps) ≡ steps
  unfolding head_bytes
  head-steps = steps_back steps

  pub head-length : length (head_bytes n m last steps) ≡ head_size
  unfolding head_bytes
  head-length = refl

module _ (a b c d : ℕ) (ha : a < 256) (hb : b < 256) (hc : c < 256) (hd : d < 256) where
  word-0 : (a + b * 256 + (c + d * 256) * 65536) % 256 ≡ a
  word-0 = omega arith

  word-1 : (a + b * 256 + (c + d * 256) * 65536) / 256 % 256 ≡ b
  word-1 = omega arith

  word-2 : (a + b * 256 + (c + d * 256) * 65536) / 65536 % 256 ≡ c
  word-2 = omega arith

  word-3 : (a + b * 256 + (c + d * 256) * 65536) / 16777216 ≡ d
  word-3 = omega arith

ten : (h : List ℕ) → length h ≡ head_size → h ≡ build (λ (k : ℕ). get_or h k 0) head_size
ten h e = sym (rw e at (build-is (λ (k : ℕ). get_or h k 0) 0 h (λ i u. refl)))

-- ten bytes are the head of their four numbers
pub head_is : (h : List ℕ) → length h ≡ head_size → Bytes h → h ≡ head_bytes (proc_count h) (var_count h) (marker_last h) (marker_steps h)
unfolding head_bytes build
head_is h len are =
    let b : ℕ → ℕ = λ k. get_or h k 0 in
    ten h len
    ∙ rw (
      low_half (b 0) (b 1) (are 0),
      high_half (b 0) (b 1) (are 0),
      low_half (b 2) (b 3) (are 2),
      high_half (b 2) (b 3) (are 2),
      low_half (b 4) (b 5) (are 4),
      high_half (b 4) (b 5) (are 4),
      word-0 (b 6) (b 7) (b 8) (b 9) (are 6) (are 7) (are 8) (are 9),
      word-1 (b 6) (b 7) (b 8) (b 9) (are 6) (are 7) (are 8) (are 9),
      word-2 (b 6) (b 7) (b 8) (b 9) (are 6) (are 7) (are 8) (are 9),
      word-3 (b 6) (b 7) (b 8) (b 9) (are 6) (are 7) (are 8) (are 9),
    )

-- the bytes of the four numbers are their head
pub head_of : {p v k s : List ℕ} (n m last steps : ℕ) → n ≤ 65535 → m ≤ 65535 → last ≤ 65535 → steps < 4294967296
    → p ≡ to_le_bytes w16 n → v ≡ to_le_bytes w16 m → k ≡ to_le_bytes w16 last → s ≡ to_le_bytes w32 steps
    → get_or p 0 0 ∷ get_or p 1 0 ∷ get_or v 0 0 ∷ get_or v 1 0 ∷ get_or k 0 0 ∷ get_or k 1 0 ∷ get_or s 0 0 ∷ get_or s 1 0 ∷ get_or s 2 0 ∷ get_or s 3 0 ∷ [] ≡ head_bytes n m last steps
unfolding head_bytes
head_of {s = s} n m last steps hn hm hl hs ep ev ek es =
    let a : get_or s 0 0 ≡ steps % 256 = rw es in
    let b : get_or s 1 0 ≡ steps / 256 % 256 = rw es in
    let c : get_or s 2 0 ≡ steps / 65536 % 256 = rw es in
    let d : get_or s 3 0 ≡ steps / 16777216 = rw es (omega arith) in
    rw (low_in _ ep, high_in _ hn ep, low_in _ ev, high_in _ hm ev, low_in _ ek, high_in _ hl ek, a, b, c, d)
