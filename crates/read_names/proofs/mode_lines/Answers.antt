use lib.ListN.{length}
use Prim.Native.Nat.{◌-◌}
use native.Mathlib.Nat.{sub-add-eq}
use mathlib.Core.Path.{◌≡◌, refl}
use Rattle.read_goal.proofs.Spanned.{span-on, span-done}
use Rattle.read_names.proofs.Lined.{line-more, line-last, line-none}
use Rattle.text_program.specs.Source.{is_mode_line, read_mode_line}
use native.Mathlib.Omega.{arith}
use Rattle.read_names.proofs.mode_lines.Goals as goal

pub returns-then-not-is_mode_line : goal.returns-then-not-is_mode_line
returns-then-not-is_mode_line c = let left = length c.args.s.now - c.args.at - c.loop-n.n in span-done _ (line-last is_mode_line read_mode_line c.args.s.now left c.loop-n.p _ (omega arith) c.is_mode_line.ensures (c.if-not-is_mode_line.true)) refl c.loop-n.invariant

pub loop-n-preserved : goal.loop-n-preserved
loop-n-preserved c = let left = length c.args.s.now - c.args.at - c.loop-n.n in rw sub-add-eq (span-on _ _ (line-more is_mode_line read_mode_line c.args.s.now left c.loop-n.p c.mode_line-line.result.end _ (omega arith) c.is_mode_line.ensures (c.if-not-is_mode_line.false) c.mode_line-line.ensures.end) refl (omega arith) c.mode_line-line.ensures.inside c.loop-n.invariant)

pub returns : goal.returns
returns c = let left = length c.args.s.now - c.args.at - c.loop-n.n in let n : c.loop-n.n ≡ length c.args.s.now - c.args.at = omega arith in rw (← n) (span-done _ (line-none is_mode_line read_mode_line c.args.s.now left c.loop-n.p (omega arith)) refl c.loop-n.invariant)
