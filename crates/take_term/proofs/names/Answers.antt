use mathlib.Core.Path.{◌≡◌}
use Rattle.std.proofs.Common.{rules}
use native.Mathlib.Nat.{sub-add-eq, sub-zero}
use Prim.Native.Nat.{◌-◌}
use lib.ListN.{length}
use native.Mathlib.Omega.{arith}
use Rattle.take_term.proofs.Ways.{names-done, names-last, names-on, names-start}
use Rattle.take_term.proofs.Laws.{takes-ready}
use mathlib.Core.List.{[]}
use Rattle.take_term.proofs.names.Goals as goal

pub loop-n-init : goal.loop-n-init
loop-n-init c = (rw sub-zero (names-start c.args.s.now c.requires (omega arith) (omega arith)), search rules)

pub term-r-requires : goal.term-r-requires
term-r-requires c = takes-ready (c.loop-n.invariant.0 []).taken

pub returns-then-byte_at-ne-COMMA-clause-taken : goal.returns-then-byte_at-ne-COMMA-clause-taken
returns-then-byte_at-ne-COMMA-clause-taken c = let left = length c.args.s.now - c.args.w.end - c.loop-n.n in names-last c.args.s.now left c.loop-n.invariant.0 c.byte_at.result (omega arith) c.term-r.ensures.taken c.byte_at.ensures.0 c.if-byte_at-ne-COMMA.true c.move_to.ensures

pub loop-n-preserved : goal.loop-n-preserved
loop-n-preserved c = let left = length c.args.s.now - c.args.w.end - c.loop-n.n in (rw sub-add-eq (names-on c.args.s.now left c.loop-n.invariant.0 c.byte_at.result (omega arith) c.term-r.ensures.taken c.byte_at.ensures.0 c.after_mark-behind.result _ c.if-byte_at-ne-COMMA.false c.after_mark-behind.ensures.0 c.after_mark-behind.ensures.1 c.move_to-r.ensures), search rules)

pub returns-clause-taken : goal.returns-clause-taken
returns-clause-taken c = let left = length c.args.s.now - c.args.w.end - c.loop-n.n in let n : c.loop-n.n ≡ length c.args.s.now - c.args.w.end = omega arith in names-done c.args.s.now left c.loop-n.invariant.0 (omega arith) (rw (← n) at c.move_to-2.ensures)
