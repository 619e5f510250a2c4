use Rattle.std.proofs.Common.{rules}
use native.Mathlib.Nat.{sub-add-eq}
use mathlib.Core.Path.{◌≡◌}
use mathlib.Core.Bool.{false, true}
use Prim.Native.Nat.{◌-◌}
use lib.ListN.{length}
use Rattle.lay_literal.specs.Fits.{stage_fits}
use Rattle.text_program.specs.Numbered.{joined, said_terms}
use Rattle.text_program.specs.Source.{read_literal, row}
use Rattle.mode_table.specs.Held.{lines_in}
use Rattle.take_goal.proofs.Going.{going_done, going-last, going_on, going_start}
use Rattle.take_goal.specs.Turns.{stage_in}
use Rattle.take_term.specs.Lent.{rows_in}
use native.Mathlib.Omega.{arith}
use Rattle.take_goal.proofs.stages.Goals as goal

pub loop-n-init : goal.loop-n-init
loop-n-init c = (going_start (row read_literal 44) 38 (joined said_terms) (stage_in (lines_in c.args.relations.now)) (stage_fits true (lines_in c.args.relations.now)) (stage_fits false (lines_in c.args.relations.now)) c.args.relations.now.text.now (rows_in c.args.draft.now c.args.vars.now) c.args.w (length c.args.relations.now.text.now - c.args.w.end - 0) (omega arith) c.requires (omega arith) (omega arith), search rules)

pub returns-then-byte_at-ne-AMPERSAND-clause-taken : goal.returns-then-byte_at-ne-AMPERSAND-clause-taken
returns-then-byte_at-ne-AMPERSAND-clause-taken c = (going-last (row read_literal 44) 38 (joined said_terms) (stage_in (lines_in c.args.relations.now)) (stage_fits true (lines_in c.args.relations.now)) (stage_fits false (lines_in c.args.relations.now)) c.args.relations.now.text.now (rows_in c.args.draft.now c.args.vars.now) c.args.w c.loop-n.invariant.0 _ (omega arith) c.stage-x.ensures.taken c.byte_at.ensures.0 c.if-byte_at-ne-AMPERSAND.true c.move_to.ensures)

pub loop-n-preserved : goal.loop-n-preserved
loop-n-preserved c = rw sub-add-eq (going_on (row read_literal 44) 38 (joined said_terms) (stage_in (lines_in c.args.relations.now)) (stage_fits true (lines_in c.args.relations.now)) (stage_fits false (lines_in c.args.relations.now)) c.args.relations.now.text.now (rows_in c.args.draft.now c.args.vars.now) c.args.w c.loop-n.invariant.0 _ (omega arith) c.stage-x.ensures.taken c.byte_at.ensures.0 c.after_mark.result _ c.if-byte_at-ne-AMPERSAND.false c.after_mark.ensures.0 c.after_mark.ensures.1 c.move_to-x.ensures, search rules)

pub returns-clause-taken : goal.returns-clause-taken
returns-clause-taken c = let n : c.loop-n.n ≡ length c.args.relations.now.text.now - c.args.w.end = omega arith in (going_done (row read_literal 44) 38 (joined said_terms) (stage_in (lines_in c.args.relations.now)) (stage_fits true (lines_in c.args.relations.now)) (stage_fits false (lines_in c.args.relations.now)) c.args.relations.now.text.now (rows_in c.args.draft.now c.args.vars.now) c.args.w c.loop-n.invariant.0 (omega arith) (rw (← n) at c.move_to-2.ensures))
