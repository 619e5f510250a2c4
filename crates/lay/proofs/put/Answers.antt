use Rattle.lay.proofs.Laws.{lays-in, lays-out}
use Rattle.lay.proofs.put.Goals as goal
use Rattle.lay.proofs.put.Goals.{else-at-out, then-at-out}

pub returns : goal.returns
returns c =
    let s = c.args in
    elim c.if-at-out.branch [
      | then-at-out w ↦ lays-in s.out.now c.if-at-out.out s.at s.byte w.out-is
      | else-at-out w ↦ lays-out s.out.now c.if-at-out.out s.at s.byte w.if-at-out.false w.out-is
    ]
