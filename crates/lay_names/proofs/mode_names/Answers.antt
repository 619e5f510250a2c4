use mathlib.Core.Path.{ap}
use mathlib.Core.List.{List}
use lib.ListN.{drop, length}
use Prim.Native.Nat.{◌-◌}
use Rattle.lay_names.proofs.Entered.{entry-end, entry-on}
use Rattle.read_names.proofs.Lined.{line-last, line-more, line-none, mode-name}
use Rattle.read_names.specs.Tables.{mode_names}
use Rattle.text_program.specs.Source.{Got, is_mode_line, lines_for, ModeLine, read_mode_line}
use native.Mathlib.Nat.{sub-add-eq}
use native.Mathlib.Omega.{arith}
use Rattle.lay_names.proofs.mode_names.Goals as goal

pub returns-then-not-is_mode_line : goal.returns-then-not-is_mode_line
returns-then-not-is_mode_line c = entry-end _ (ap (λ (y : Got (List ModeLine)). mode_names y.value) (line-last is_mode_line read_mode_line c.args.s.now (length c.args.s.now - c.loop.counter) c.loop.p _ (omega arith) c.is_mode_line.ensures (c.if-not-is_mode_line.true))) c.loop.invariant.0

pub loop-preserved : goal.loop-preserved
loop-preserved c = rw sub-add-eq (entry-on _ (read_mode_line (drop c.loop.p c.args.s.now)).value.name _ (mode_names (lines_for ((length c.args.s.now - c.loop.counter) - 1) is_mode_line read_mode_line (drop c.mode_line-line.result.end c.args.s.now)).value) (ap (λ (y : Got (List ModeLine)). mode_names y.value) (line-more is_mode_line read_mode_line c.args.s.now (length c.args.s.now - c.loop.counter) c.loop.p c.mode_line-line.result.end _ (omega arith) c.is_mode_line.ensures (c.if-not-is_mode_line.false) c.mode_line-line.ensures.end)) (mode-name c.args.s.now c.loop.p c.past_name-from.result c.past_name-from.ensures.0) c.loop.invariant.0 c.entry-to.ensures, c.mode_line-line.ensures.inside)

pub returns : goal.returns
returns c = entry-end _ (ap (λ (y : Got (List ModeLine)). mode_names y.value) (line-none is_mode_line read_mode_line c.args.s.now (length c.args.s.now - c.loop.counter) c.loop.p (omega arith))) c.loop.invariant.0
