-- The ways through the writing of lines.
use mathlib.Core.Path.{◌∙◌, ◌≡◌, refl}
use mathlib.Core.Bool.{◌&&◌, and-true as true-right, Bool, true}
use mathlib.Core.List.{[], ◌++◌, ◌∷◌, List}
use Prim.Native.Nat.{◌+◌, ◌-◌, ◌<◌, ◌≤◌, suc, ℕ}
use lib.ListN.{get_or}
use native.Mathlib.Omega.{arith}
use native.Mathlib.Numerals.{add-one}
use Rattle.lay_text.proofs.Lent.{Leaves, leaves_as, leaves_end, leaves-start, leaves_step, wrote-both}
use Rattle.lay_text.specs.Wrote.{Wrote}
use Rattle.lay_text.specs.declared.Writer.{Writer}
use Rattle.parlog.proofs.Along.{list_length}
use Rattle.parlog.specs.Image.{mode_end}
use Rattle.parlog.specs.Program.{clause_of, Goal, goal_of, modes_of, program_of}
use Rattle.parlog.specs.Records.{byte_at, record_at, record_end}
use Rattle.parlog.specs.Scan.{list_of}
use Rattle.text_names.specs.Entries.{entry_name, is_entry}
use Rattle.text_program.specs.Parsing.{all_of}
use Rattle.text_program.specs.Printing.{bracket_text, clause_named, clauses_text, goal_line_text, goal_named, goal_text, mode_lines_text, mode_line_text, mode_text, program_named, program_text, relations_named, row_text, stop_mark}
use Rattle.write_goal.proofs.Rowed.{brackets-none, brackets-some}
use Rattle.write_text.specs.Modes.{any_mode}

-- ---- modes

pub any-mode : (m : ℕ) → any_mode m ≡ true
unfolding any_mode
any-mode m = refl

pub all-modes : (ms : List ℕ) → all_of any_mode ms ≡ true
unfolding all_of any_mode
all-modes [] = refl
all-modes (m ∷ ms) = all-modes ms

pub marks-none : (s : List ℕ) (at n : ℕ) {w x : Writer} → n ≡ get_or s (at + 4) 0 → n ≡ 0 → Wrote w [] true x → Wrote w (bracket_text mode_text (modes_of s at)) true x
unfolding modes_of
marks-none s at n e f v = rw (← e, ← all-modes (list_of (byte_at s) mode_end n (at + 5))) (brackets-none mode_text any_mode (byte_at s) mode_end n (at + 5) f v)

pub marks-some : (s : List ℕ) (at n : ℕ) {w x x1 x2 : Writer} → n ≡ get_or s (at + 4) 0 → 0 < n →
    Wrote w (40 ∷ []) true x → Wrote x (row_text mode_text (44 ∷ []) (list_of (byte_at s) mode_end n (at + 5))) (all_of any_mode (list_of (byte_at s) mode_end n (at + 5))) x1 → Wrote x1 (41 ∷ []) true x2 →
    Wrote w (bracket_text mode_text (modes_of s at)) true x2
unfolding modes_of
marks-some s at n e h a b c = rw (← e, ← all-modes (list_of (byte_at s) mode_end n (at + 5))) (brackets-some mode_text any_mode (byte_at s) mode_end n (at + 5) h a b c)

pub mode-line-told : (r : ℕ) (nm s : List ℕ) (k at : ℕ) {w x x1 x2 x3 : Writer} →
    Wrote w (109 ∷ 111 ∷ 100 ∷ 101 ∷ 32 ∷ []) true x → Wrote x (entry_name nm k) (is_entry nm k) x1 → Wrote x1 (bracket_text mode_text (modes_of s at)) true x2 → Wrote x2 stop_mark true x3 →
    Wrote w (mode_line_text r nm k (modes_of s at)) (is_entry nm k) x3
unfolding mode_line_text
mode-line-told r nm s k at a b c d = rw (← true-right (is_entry nm k)) (wrote-both a (wrote-both b (wrote-both c d)))

-- ---- mode lines

module _ (r : ℕ) (nm s : List ℕ) where
  abbrev pub relations_at : ℕ → ℕ → List (List ℕ)
  relations_at n at = list_of (modes_of s) (record_end s) n at

  -- lines are left from relation k on, whose record stands at a place
  abbrev pub LinesLeft : ℕ → ℕ → Writer → List ℕ → Bool → Writer → Type 0
  LinesLeft k at w bs g x = Leaves w bs g x (mode_lines_text r nm k (relations_at (r - k) at)) (relations_named r nm k (relations_at (r - k) at))

  line-more : (k at : ℕ) → k < r → mode_lines_text r nm k (relations_at (r - k) at) ≡ mode_line_text r nm k (modes_of s at) ++ mode_lines_text r nm (k + 1) (relations_at (r - (k + 1)) (record_end s at))
  unfolding mode_lines_text list_of
  line-more k at h = let e : r - k ≡ suc (r - (k + 1)) = omega arith in rw (e, add-one)

  line-named : (k at : ℕ) → k < r → relations_named r nm k (relations_at (r - k) at) ≡ (is_entry nm k && relations_named r nm (k + 1) (relations_at (r - (k + 1)) (record_end s at)))
  unfolding relations_named list_of
  line-named k at h = let e : r - k ≡ suc (r - (k + 1)) = omega arith in rw (e, add-one)

  pub lines_start : (w : Writer) → LinesLeft 0 0 w (mode_lines_text r nm 0 (relations_at r 0)) (relations_named r nm 0 (relations_at r 0)) w
  lines_start w = let e : r - 0 ≡ r = omega arith in rw e (leaves-start w _ _)

  pub lines-turn : (k at next : ℕ) {w : Writer} {bs : List ℕ} {g : Bool} {x : Writer} {x1 : Writer} → k < r → next ≡ record_end s at →
      LinesLeft k at w bs g x → Wrote x (mode_line_text r nm k (modes_of s at)) (is_entry nm k) x1 → LinesLeft (k + 1) next w bs g x1
  lines-turn k at next h e l v =
      leaves_step (mode_line_text r nm k (modes_of s at)) (mode_lines_text r nm (k + 1) (relations_at (r - (k + 1)) next)) (is_entry nm k) (relations_named r nm (k + 1) (relations_at (r - (k + 1)) next))
      (leaves_as (line-more k at h ∙ rw (← e)) (line-named k at h ∙ rw (← e)) l) v

  pub lines-stop : (k at : ℕ) {w : Writer} {bs : List ℕ} {g : Bool} {x : Writer} → r ≤ k → LinesLeft k at w bs g x → Wrote w bs g x
  unfolding mode_lines_text relations_named list_of
  lines-stop k at h l = let e : r - k ≡ 0 = omega arith in leaves_end (rw e at l)

-- ---- all lines

pub goal-line-told : (r : ℕ) (nm : List ℕ) (g : Goal) {w x x1 x2 : Writer} →
    Wrote w (60 ∷ 45 ∷ 32 ∷ []) true x → Wrote x (goal_text r nm g) (goal_named r nm g) x1 → Wrote x1 stop_mark true x2 → Wrote w (goal_line_text r nm g) (goal_named r nm g) x2
unfolding goal_line_text
goal-line-told r nm g a b c = rw (← true-right (goal_named r nm g)) (wrote-both a (wrote-both b c))

pub program-told : (nm s : List ℕ) (r c from ask : ℕ) {w x x1 x2 : Writer} → from ≡ record_at s r → ask ≡ record_at s (r + c) →
    Wrote w (mode_lines_text r nm 0 (list_of (modes_of s) (record_end s) r 0)) (relations_named r nm 0 (list_of (modes_of s) (record_end s) r 0)) x →
    Wrote x (clauses_text r nm (list_of (clause_of s) (record_end s) c from)) (all_of (clause_named r nm) (list_of (clause_of s) (record_end s) c from)) x1 →
    Wrote x1 (goal_line_text r nm (goal_of s (ask + 5))) (goal_named r nm (goal_of s (ask + 5))) x2 →
    Wrote w (program_text nm (program_of s r c)) (program_named nm (program_of s r c)) x2
unfolding program_text program_named program_of
program-told nm s r c from ask e f a b d = rw (list_length (modes_of s) (record_end s) r 0, ← e, ← f) (wrote-both a (wrote-both b d))
