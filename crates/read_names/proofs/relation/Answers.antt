use lib.ListN.{drop, length}
use Prim.Native.Nat.{◌-◌}
use native.Mathlib.Nat.{sub-add-eq}
use mathlib.Core.Path.{◌∙◌, ◌≡◌, ap}
use mathlib.Core.List.{List}
use Rattle.read_names.proofs.Lined.{find_none, find-one, find-more, line-more, line-last, line-none, mode-name}
use Rattle.text_names.specs.Bytes.{front}
use Rattle.text_names.specs.Names.{Name, same_name}
use Rattle.text_program.specs.Source.{Got, is_mode_line, ModeLine, read_mode_line, lines_for}
use native.Mathlib.Omega.{arith}
use Rattle.read_names.proofs.relation.Goals as goal

pub returns-then-not-is_mode_line : goal.returns-then-not-is_mode_line
returns-then-not-is_mode_line c = let left = length c.args.s.now - c.args.from - c.loop-n.n in find_none _ _ (ap (λ (g : Got (List ModeLine)). g.value) (line-last is_mode_line read_mode_line c.args.s.now left c.loop-n.p _ (omega arith) c.is_mode_line.ensures (c.if-not-is_mode_line.true))) c.loop-n.invariant

pub returns-then-same_name : goal.returns-then-same_name
returns-then-same_name c = let left = length c.args.s.now - c.args.from - c.loop-n.n in find-one _ _ (read_mode_line (drop c.loop-n.p c.args.s.now)).value (lines_for (left - 1) is_mode_line read_mode_line (drop c.mode_line-line.result.end c.args.s.now)).value _ _ (ap (λ (g : Got (List ModeLine)). g.value) (line-more is_mode_line read_mode_line c.args.s.now left c.loop-n.p c.mode_line-line.result.end _ (omega arith) c.is_mode_line.ensures (c.if-not-is_mode_line.false) c.mode_line-line.ensures.end)) (c.same_name.ensures ∙ ap (λ (y : Name). same_name y (front (drop c.args.q c.args.s.now))) (mode-name c.args.s.now c.loop-n.p c.past_name-name.result c.past_name-name.ensures.0)) c.if-same_name.true c.mode_line-line.ensures.count c.loop-n.invariant

pub loop-n-preserved : goal.loop-n-preserved
loop-n-preserved c = let left = length c.args.s.now - c.args.from - c.loop-n.n in rw sub-add-eq (find-more _ _ (read_mode_line (drop c.loop-n.p c.args.s.now)).value (lines_for (left - 1) is_mode_line read_mode_line (drop c.mode_line-line.result.end c.args.s.now)).value _ c.mode_line-line.result.end (ap (λ (g : Got (List ModeLine)). g.value) (line-more is_mode_line read_mode_line c.args.s.now left c.loop-n.p c.mode_line-line.result.end _ (omega arith) c.is_mode_line.ensures (c.if-not-is_mode_line.false) c.mode_line-line.ensures.end)) (c.same_name.ensures ∙ ap (λ (y : Name). same_name y (front (drop c.args.q c.args.s.now))) (mode-name c.args.s.now c.loop-n.p c.past_name-name.result c.past_name-name.ensures.0)) c.if-same_name.false c.mode_line-line.ensures.inside (omega arith) c.loop-n.invariant)

pub returns : goal.returns
returns c = let left = length c.args.s.now - c.args.from - c.loop-n.n in let n : c.loop-n.n ≡ length c.args.s.now - c.args.from = omega arith in rw (← n) (find_none _ _ (ap (λ (g : Got (List ModeLine)). g.value) (line-none is_mode_line read_mode_line c.args.s.now left c.loop-n.p (omega arith))) c.loop-n.invariant)
