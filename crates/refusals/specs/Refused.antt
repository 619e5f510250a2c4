-- Which refusal from 1 to 7 an image gets, and where: the first record that is not right, and the first of its tests that fails.
use Rattle.std.specs.Prelude.{◌≡◌, ◌≢◌, List, ◌<◌, ◌≤◌, ℕ, length}
use Rattle.parlog.specs.Records.{record_at}
use Rattle.refusals.specs.Right.{BodyFits, Few, InBlockAs, KindRight, NamesFit, record_kind, RightImage, RightRecord, Whole}

-- Refusals 1, 16: the image is not too long, all records before record k are right, and bytes are left for it
pub record Comes (s : List ℕ) (k : ℕ) : Type 0 where
  pub short : length s ≤ 32768
  pub before : (j : ℕ) → j < k → RightRecord s j
  pub more : record_at s k < length s

-- Refusals 1 to 7, 15 to 18: the number, and where the record begins
pub data RefusedAt (s : List ℕ) : ℕ → ℕ → Type 0 where
  too_long : 32768 < length s → RefusedAt s 1 0
  is_cut : {k : ℕ} → Comes s k → (Whole s k → ⊥) → RefusedAt s 2 (record_at s k)
  wrong_kind : {k : ℕ} → Comes s k → Whole s k → (KindRight s k → ⊥) → RefusedAt s 3 (record_at s k)
  one_too_many : {k : ℕ} → Comes s k → Whole s k → KindRight s k → (Few s k → ⊥) → RefusedAt s 6 (record_at s k)
  wrong_body : {k : ℕ} → Comes s k → Whole s k → KindRight s k → Few s k → (BodyFits s k → ⊥) → RefusedAt s 4 (record_at s k)
  wrong_name : {k : ℕ} → Comes s k → Whole s k → KindRight s k → Few s k → BodyFits s k → (NamesFit s k → ⊥) → RefusedAt s 5 (record_at s k)
  ninth_of_block : {k : ℕ} → Comes s k → Whole s k → KindRight s k → Few s k → BodyFits s k → NamesFit s k → InBlockAs s k 9 → RefusedAt s 6 (record_at s k)
  no_goal : {k : ℕ} → length s ≤ 32768 → ((j : ℕ) → j < k → RightRecord s j) → record_at s k ≡ length s → ((j : ℕ) → j < k → record_kind s j ≢ 3) → RefusedAt s 7 (length s)

-- Refusals 19: an image is one or the other
pub data RightOrRefused (s : List ℕ) : Type 0 where
  right_image : {r c : ℕ} → RightImage s r c → RightOrRefused s
  refused_image : {n o : ℕ} → RefusedAt s n o → RightOrRefused s
