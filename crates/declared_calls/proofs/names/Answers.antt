use Rattle.read_names.proofs.Lined.{mode-name}
use Rattle.declared_calls.proofs.Gathered.{gather-full, gather-on, gather-same, gather-skip, gather-start}
use mathlib.Core.Path.{ap}
use mathlib.Core.Bool.{not}
use Rattle.declared_calls.proofs.names.Goals as goal
use Rattle.declared_calls.proofs.names.Goals.{else-in_class, then-in_class+else-a-n}

pub loop-init : goal.loop-init
loop-init c = gather-start c.args.s.now c.args.places.now c.args.links.now c.args.m c.args.class c.requires.0 c.requires.1

pub returns-then-a-n : goal.returns-then-a-n
returns-then-a-n c = rw c.told-then-a-n.ensures (gather-full c.loop.invariant _ c.add-a.ensures c.if-a-n.true)

pub loop-preserved : goal.loop-preserved
loop-preserved c =
    elim c.if-in_class.branch [
      | then-in_class+else-a-n w ↦ gather-same w.places-is w.links-is w.n-is (gather-on c.loop.invariant _ w.add-a.ensures _ c.mode_line-line.result.end c.is_mode_line.ensures (ap not c.if-not-is_mode_line.false) (mode-name c.args.s.now c.loop.p c.past_name-name.result c.past_name-name.ensures.0) w.if-a-n.false c.mode_line-line.ensures.end c.mode_line-line.ensures.inside)
      | else-in_class w ↦ gather-same w.places-is w.links-is w.n-is (gather-skip c.args.s.now c.loop.p _ _ c.mode_line-line.result.end c.is_mode_line.ensures (ap not c.if-not-is_mode_line.false) (mode-name c.args.s.now c.loop.p c.past_name-name.result c.past_name-name.ensures.0) c.mode_line-line.ensures.end c.loop.invariant c.in_class.result _ c.name_at-word.ensures.chain c.in_class.ensures w.if-in_class.false c.mode_line-line.ensures.inside)
    ]
