use mathlib.Core.Path.{◌∙◌, ap}
use mathlib.Core.List.{List}
use Prim.Native.Nat.{ℕ}
use Rattle.mode_table.specs.Held.{lines_in}
use Rattle.take_goal.proofs.Ways.{is_call, is-equality, literal-as}
use Rattle.text_names.specs.Bytes.{skip}
use Rattle.take_goal.proofs.literal.Goals as goal

pub returns-then-byte_at-eq-EQUALS-clause-taken : goal.returns-then-byte_at-eq-EQUALS-clause-taken
returns-then-byte_at-eq-EQUALS-clause-taken c = (literal-as (lines_in c.args.relations.now) (is-equality c.args.relations.now.text.now c.args.w.end c.skip_blanks-behind.result _ (c.skip_blanks-behind.ensures.0 ∙ ap (λ (l : List ℕ). skip l) c.name_at-word.ensures.end) c.byte_at.ensures.0 c.if-byte_at-eq-EQUALS.true) (c.equality.ensures.taken (lines_in c.args.relations.now)))

pub returns-clause-taken : goal.returns-clause-taken
returns-clause-taken c = (literal-as (lines_in c.args.relations.now) (is_call c.args.relations.now.text.now c.args.w.end c.skip_blanks-behind.result _ (c.skip_blanks-behind.ensures.0 ∙ ap (λ (l : List ℕ). skip l) c.name_at-word.ensures.end) c.byte_at.ensures.0 c.if-byte_at-eq-EQUALS.false) c.call.ensures.taken)
