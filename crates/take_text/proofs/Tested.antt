-- The tests of a clause that was taken.
use Rattle.std.specs.Prelude.{Err}
use Rattle.parlog.specs.Answer.{Answer}
use mathlib.Core.Path.{◌≡◌, refl}
use mathlib.Core.Bool.{◌&&◌, Bool, false, true}
use Prim.Native.Nat.{◌+◌, ◌≤◌, suc, zero, ℕ}
use lib.Dec.{leb, ltb}
use borrow.Author.Tests.{le-ltb, ne_eqb}
use native.Mathlib.Omega.{arith}
use mathlib.Core.List.{List}
use Rattle.judge_image.specs.Judged.{judged, progress_of}
use Rattle.judge_said.specs.Said.{clause_said}
use Rattle.judge_text.specs.Tests.{Counted, tested}
use Rattle.lay_lines.specs.Fields.{clause_fits}
use Rattle.lay_lines.specs.Lines.{clause_right}
use Rattle.parlog.specs.Load.{block_with, kind_fault, refusal, too_many}
use Rattle.parlog.specs.declared.Progress.{Progress}
use Rattle.read_names.specs.Tables.{mode_names}
use Rattle.take_modes.specs.TakesModes.{said_by}
use Rattle.take_text.specs.Turned.{taken_said}
use Rattle.text_names.specs.Names.{look}
use Rattle.text_program.specs.Numbered.{mark_by}
use Rattle.text_program.specs.Source.{ModeLine, SaidClause}

no-fault : (g : Progress) → g.kind ≤ 2 → kind_fault g 2 ≡ false
unfolding kind_fault
no-fault g h = rw (le-ltb 2 g.kind h, ne_eqb g.kind 3 (λ e. omega arith)) refl

pub taken-tested : (g : Progress) (opens : Bool) (r b : ℕ) (right known fits : Bool) → Counted g → known ≡ (fits && leb g.relation r) → b ≡ block_with g r (mark_by opens) →
    tested (leb 64 g.clauses) right known (ltb 8 b) (record { relations = g.relations; clauses = g.clauses + 1; kind = 2; relation = r; block = b }) ≡ taken_said g opens r right fits
unfolding tested taken_said judged progress_of too_many
taken-tested g opens r b right known fits h l m = rw (no-fault g h.kind, ← m, l) refl

pub taken-said : (ms : List ModeLine) (g : Progress) (opens : Bool) (x : SaidClause) (r : ℕ) (right fits : Bool) → r ≡ look (mode_names ms) x.name → right ≡ clause_right x → fits ≡ clause_fits true ms x → taken_said g opens r right fits ≡ clause_said ms g opens x
unfolding taken_said clause_said
taken-said ms g opens x r right fits e f h = rw (e, f, h) refl

pub said-refused : (n at : ℕ) (next : Answer (ℕ × ℕ)) → 1 ≤ n → Err (refusal n at) ≡ said_by n at next
said-refused zero at next h = absurd (omega arith)
said-refused (suc n) at next h = refl
