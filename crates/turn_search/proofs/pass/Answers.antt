use mathlib.Core.Path.{sym}
use Prim.Native.Nat.{◌-◌}
use borrow.Author.Tests.{le-ltb, lt-ltb}
use native.Mathlib.Omega.{arith}
use Rattle.rows.proofs.Tables.{procs-length}
use Rattle.turn_search.specs.Notes.{note_in}
use Rattle.turn_search.proofs.Passing.{all_end, all_here}
use Rattle.turn_search.proofs.Order.{sweep-end, sweep-next}
use Rattle.turn_search.proofs.pass.Goals.{then-can_move+then-last-q, then-can_move+else-last-q, else-can_move}
use Rattle.turn_search.proofs.pass.Goals as goal

pub can_move-requires : goal.can_move-requires
can_move-requires g c = (note_in c.loop-q.notes (c.loop-q.q - 1), sym c.said_to-s.ensures, all_here _ _ (procs-length _ _) c.requires.2 _ _ (omega arith) (omega arith) c.loop-q.invariant.0)

pub loop-q-preserved : goal.loop-q-preserved
loop-q-preserved g c =
    let next = sweep-next _ c.args.procs.now.count c.args.last _ c.loop-q.behind c.loop-q.round (omega arith) c.loop-q.invariant.1 c.can_move.ensures in (
      c.hear_row.ensures,
      elim c.if-can_move.branch [
        | then-can_move+then-last-q w ↦ next (rw (w.if-can_move.true, lt-ltb _ _ w.if-last-q.true) w.behind-is) (rw w.if-can_move.true w.round-is)
        | then-can_move+else-last-q w ↦ next (rw (w.if-can_move.true, le-ltb _ _ w.if-last-q.false) w.behind-is) (rw w.if-can_move.true w.round-is)
        | else-can_move w ↦ next (rw w.if-can_move.false w.behind-is) (rw w.if-can_move.false w.round-is)
      ],
    )

pub returns : goal.returns
returns g c = (sweep-end _ c.args.procs.now.count c.args.last _ c.loop-q.behind c.loop-q.round (omega arith) c.loop-q.invariant.1 c.or.ensures, all_end _ _ _ _ _ (omega arith) c.loop-q.invariant.0)
