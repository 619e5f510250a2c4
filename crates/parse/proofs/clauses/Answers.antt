use Rattle.std.proofs.lemmas.Result.{err_from_is_err_and}
use mathlib.Core.Path.{refl, sym}
use lib.Seq.{length-take-le}
use Rattle.parse.proofs.Called.{tells}
use Rattle.parse.proofs.Stops.{all-declared, all-taken, ask-refused, stop-clauses}
use Rattle.parse.proofs.clauses.Goals as goal

pub declared-behind-requires : goal.declared-behind-requires
declared-behind-requires c = (c.clause_lines-r.ensures.taken.inside, all-declared c.args.relations.now.moded)

pub returns-then-r-ne0 : goal.returns-then-r-ne0
returns-then-r-ne0 c = rw (c.stopped.ensures) (tells (stop-clauses c.requires.0 c.clause_lines-r.ensures.taken c.args.image.now c.args.names.now _ _ c.if-r-ne0.true c.declared-behind.ensures refl))

pub returns-in_err-test_ask : goal.returns-in_err-test_ask
returns-in_err-test_ask c = let p = err_from_is_err_and c.from_residual.result c.from_residual.ensures.1 in rw (p.1, p.2) (tells (ask-refused c.requires.0 c.clause_lines-r.ensures.taken c.if-r-ne0.false c.behind_arrow-q.result c.behind_arrow-q.ensures.0 c.ask-a.ensures.taken _ refl c.args.image.now c.args.names.now _ (sym c.in_err-test_ask.ensures)))

pub slice_bounds-write-end : goal.slice_bounds-write-end
slice_bounds-write-end c = let z = all-taken c.requires.0 c.clause_lines-r.ensures.taken c.if-r-ne0.false c.behind_arrow-q.result c.behind_arrow-q.ensures.0 c.ask-a.ensures.taken _ refl c.args.image.now c.args.names.now (sym c.in_ok-test_ask.ensures) c.requires.2 in z.in_row

pub slice_bounds-write-end-2 : goal.slice_bounds-write-end-2
slice_bounds-write-end-2 c = let z = all-taken c.requires.0 c.clause_lines-r.ensures.taken c.if-r-ne0.false c.behind_arrow-q.result c.behind_arrow-q.ensures.0 c.ask-a.ensures.taken _ refl c.args.image.now c.args.names.now (sym c.in_ok-test_ask.ensures) c.requires.2 in sym (length-take-le _ _ z.in_row)

pub returns : goal.returns
returns c = let z = all-taken c.requires.0 c.clause_lines-r.ensures.taken c.if-r-ne0.false c.behind_arrow-q.result c.behind_arrow-q.ensures.0 c.ask-a.ensures.taken _ refl c.args.image.now c.args.names.now (sym c.in_ok-test_ask.ensures) c.requires.2 in rw (← z.tells) c.write.ensures
