use Rattle.std.proofs.Common.{rules}
use native.Mathlib.Nat.{sub-add-eq}
use native.Mathlib.Omega.{arith}
use Rattle.take_modes.proofs.Walked.{line-few, line-fresh, line-right, near-enough, walk_end, walk-on, walk_start, walk-stop}
use Rattle.read_names.proofs.Short.{lines-last, lines_none}
use mathlib.Core.Path.{refl}
use Rattle.take_modes.proofs.mode_lines.Goals as goal

pub loop-init : goal.loop-init
loop-init c = (walk_start c.args.s.now c.args.m c.args.out.now c.args.tables.now.places.now c.args.tables.now.arities.now c.args.tables.now.links.now _ c.requires.0 c.requires.1 c.requires.2 c.requires.3 refl, search rules)

pub returns-then-not-is_mode_line-clause-taken : goal.returns-then-not-is_mode_line-clause-taken
returns-then-not-is_mode_line-clause-taken c = walk_end c.loop.invariant.0 (lines-last c.args.s.now c.loop.p _ c.is_mode_line.ensures (c.if-not-is_mode_line.true)) c.told.ensures

pub returns-in-Err-clause-taken : goal.returns-in-Err-clause-taken
returns-in-Err-clause-taken c = walk-stop c.loop.invariant.0 _ c.is_mode_line.ensures (c.if-not-is_mode_line.false) c.read_line-line.ensures c.test_line.result _ c.test_line.ensures c.in-Err.is

pub enter-requires : goal.enter-requires
enter-requires c = (c.read_line-line.ensures.inside, c.read_line-line.ensures.chain, c.loop.invariant.0.moded.index, let few = line-few c.loop.invariant.0 _ c.is_mode_line.ensures (c.if-not-is_mode_line.false) c.read_line-line.ensures c.test_line.result _ c.test_line.ensures c.in-Ok.is in let room = c.loop.invariant.0.room in omega arith, c.loop.invariant.0.moded.size, line-fresh c.loop.invariant.0 _ c.is_mode_line.ensures (c.if-not-is_mode_line.false) c.read_line-line.ensures c.test_line.result _ c.test_line.ensures c.in-Ok.is)

pub begin-requires : goal.begin-requires
begin-requires c = line-right c.loop.invariant.0 _ c.is_mode_line.ensures (c.if-not-is_mode_line.false) c.read_line-line.ensures c.test_line.result _ c.test_line.ensures c.in-Ok.is

pub overflow_add-at-in-loop : goal.overflow_add-at-in-loop
overflow_add-at-in-loop c = let h = near-enough c.loop.invariant.0 in let k = line-right c.loop.invariant.0 _ c.is_mode_line.ensures (c.if-not-is_mode_line.false) c.read_line-line.ensures c.test_line.result _ c.test_line.ensures c.in-Ok.is in omega arith

pub loop-preserved : goal.loop-preserved
loop-preserved c = (rw sub-add-eq (walk-on c.loop.invariant.0 _ c.is_mode_line.ensures (c.if-not-is_mode_line.false) c.read_line-line.ensures c.test_line.result _ c.test_line.ensures c.in-Ok.is (omega arith) c.enter.ensures.entered c.begin.ensures), search rules)

pub returns-clause-taken : goal.returns-clause-taken
returns-clause-taken c = walk_end c.loop.invariant.0 (lines_none c.args.s.now c.loop.p (let h = c.loop.invariant.0.fuel in omega arith)) c.told-2.ensures
