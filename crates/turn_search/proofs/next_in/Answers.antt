use Rattle.rows.proofs.Tables.{procs-length}
use Rattle.move_plan.specs.Plans.{state_in}
use Rattle.turn_search.proofs.Passing.{all_start, turn-there}
use Rattle.turn_search.proofs.Room.{notes-room}
use Rattle.turn_search.proofs.next_in.Goals as goal

pub pass-who-requires : goal.pass-who-requires
pass-who-requires g c = (notes-room _ c.requires.1, (c.requires.0, c.requires.1, c.requires.2, rw c.new-notes.ensures (all_start _ _ (procs-length _ _) c.requires.0)))

pub told_of-told-requires : goal.told_of-told-requires
told_of-told-requires g c = let a = c.args in
    (notes-room _ c.requires.1, (c.requires.0, c.pass-who.ensures.1, λ p e. turn-there (state_in a.procs.now.bytes.now a.procs.now.count a.vars.now.bytes.now a.vars.now.count) a.procs.now.count a.last (procs-length a.procs.now.bytes.now a.procs.now.count) c.pass-who.ensures.0 e))
