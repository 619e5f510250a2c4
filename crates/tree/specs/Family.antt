-- The table once all below a process are asleep, the rule that parents have lower numbers, and the marks of the pass.
use Rattle.std.specs.Prelude.{◌≡◌, ◌≢◌, ◌&&◌, not, List, ◌<◌, ℕ, eqb, ltb, get_or, length, Option, None, Some}
use Rattle.parlog.specs.Delta.{asleep}
use Rattle.parlog.specs.Scan.{build}
use Rattle.parlog.specs.Tables.{at, rank}
use Rattle.parlog.specs.Tree.{below}
use Rattle.parlog.specs.declared.Process.{Process}

-- process i, asleep where it is below p
unfoldable pub slept : List Process → ℕ → ℕ → Process
slept ps p i = asleep (below ps p i) (at ps i)

-- Tags 5: every process below p becomes dormant
unfoldable pub slept_below : List Process → ℕ → List Process
slept_below ps p = build (slept ps p) (length ps)

-- Tables 3e: every process but the first has a parent of a lower rank
abbrev pub Falls : List Process → Type 0
Falls ps = (i : ℕ) → i < length ps → i ≢ 0 → rank ps (at ps i).parent < rank ps i

-- no process behind p and before q is a child of p
abbrev pub Childless : List Process → ℕ → ℕ → Type 0
Childless ps p q = (i : ℕ) → p < i → i < q → (at ps i).parent ≢ p

-- the first child of p in the first n rows, where there is one
abbrev pub FirstChild : List Process → ℕ → ℕ → Option ℕ → Type 0
FirstChild ps n p None = Childless ps p n
FirstChild ps n p (Some q) = (p < q) × (q < n) × Childless ps p q

-- ---- marks

-- the most rows that a table may have here
abbrev pub most_rows : ℕ
most_rows = 4096

-- once the rows before q were passed: those of them that are below p are marked, and no other
unfoldable pub Marks : List Process → ℕ → ℕ → List ℕ → Type 0
Marks ps p q ms = (k : ℕ) → not (eqb (get_or ms k 0) 0) ≡ (ltb k q && below ps p k)
