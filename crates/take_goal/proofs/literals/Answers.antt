use Rattle.std.proofs.Common.{rules}
use native.Mathlib.Nat.{sub-add-eq}
use mathlib.Core.Path.{◌≡◌}
use mathlib.Core.Bool.{false, true}
use Prim.Native.Nat.{◌-◌}
use lib.ListN.{length}
use Rattle.lay_literal.specs.Lows.{literal_fits}
use Rattle.text_program.specs.Numbered.{said_terms}
use Rattle.text_program.specs.Source.{read_literal}
use Rattle.mode_table.specs.Held.{lines_in}
use Rattle.take_goal.proofs.Going.{going_done, going-last, going_on, going_start}
use Rattle.take_goal.specs.Turns.{literal_in}
use Rattle.take_term.specs.Lent.{rows_in}
use native.Mathlib.Omega.{arith}
use Rattle.take_goal.proofs.literals.Goals as goal

pub loop-n-init : goal.loop-n-init
loop-n-init c = (going_start read_literal 44 said_terms (literal_in (lines_in c.args.relations.now)) (literal_fits true (lines_in c.args.relations.now)) (literal_fits false (lines_in c.args.relations.now)) c.args.relations.now.text.now (rows_in c.args.draft.now c.args.vars.now) c.args.w (length c.args.relations.now.text.now - c.args.w.end - 0) (omega arith) c.requires (omega arith) (omega arith), search rules)

pub returns-then-byte_at-ne-COMMA-clause-taken : goal.returns-then-byte_at-ne-COMMA-clause-taken
returns-then-byte_at-ne-COMMA-clause-taken c = (going-last read_literal 44 said_terms (literal_in (lines_in c.args.relations.now)) (literal_fits true (lines_in c.args.relations.now)) (literal_fits false (lines_in c.args.relations.now)) c.args.relations.now.text.now (rows_in c.args.draft.now c.args.vars.now) c.args.w c.loop-n.invariant.0 _ (omega arith) c.literal-x.ensures.taken c.byte_at.ensures.0 c.if-byte_at-ne-COMMA.true c.move_to.ensures)

pub loop-n-preserved : goal.loop-n-preserved
loop-n-preserved c = rw sub-add-eq (going_on read_literal 44 said_terms (literal_in (lines_in c.args.relations.now)) (literal_fits true (lines_in c.args.relations.now)) (literal_fits false (lines_in c.args.relations.now)) c.args.relations.now.text.now (rows_in c.args.draft.now c.args.vars.now) c.args.w c.loop-n.invariant.0 _ (omega arith) c.literal-x.ensures.taken c.byte_at.ensures.0 c.after_mark.result _ c.if-byte_at-ne-COMMA.false c.after_mark.ensures.0 c.after_mark.ensures.1 c.move_to-x.ensures, search rules)

pub returns-clause-taken : goal.returns-clause-taken
returns-clause-taken c = let n : c.loop-n.n ≡ length c.args.relations.now.text.now - c.args.w.end = omega arith in (going_done read_literal 44 said_terms (literal_in (lines_in c.args.relations.now)) (literal_fits true (lines_in c.args.relations.now)) (literal_fits false (lines_in c.args.relations.now)) c.args.relations.now.text.now (rows_in c.args.draft.now c.args.vars.now) c.args.w c.loop-n.invariant.0 (omega arith) (rw (← n) at c.move_to-2.ensures))
