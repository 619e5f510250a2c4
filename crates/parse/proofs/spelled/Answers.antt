use mathlib.Core.Path.{refl}
use native.Mathlib.Omega.{arith}
use Rattle.name_index.proofs.Chains.{index-zeros}
use Rattle.parse.proofs.Called.{tells}
use Rattle.parse.proofs.Stops.{behind-modes, stop-modes}
use Rattle.parse.proofs.spelled.Goals as goal

pub mode_lines-requires : goal.mode_lines-requires
mode_lines-requires c = (c.skip_blanks-m.ensures.1, omega arith, refl, index-zeros _ _ _ 544 (omega arith) refl refl)

pub declared_behind-behind-requires : goal.declared_behind-behind-requires
declared_behind-behind-requires c = (c.skip_blanks-m.ensures.1, index-zeros _ _ _ 4897 (omega arith) refl refl)

pub returns-in-Err : goal.returns-in-Err
returns-in-Err c = rw (c.stopped.ensures) (tells (stop-modes c.args.s.now c.skip_blanks-m.result (c.declared_behind-behind.ensures.0.place) c.skip_blanks-m.ensures.0 c.declared_behind-behind.ensures.0.behind c.args.image.now c.args.names.now _ c.in-Err.ensures.taken c.declared_behind-behind.ensures.0.declared))

pub clauses-requires : goal.clauses-requires
clauses-requires c = (behind-modes c.in-Ok.ensures.taken c.skip_blanks-m.ensures.0 c.skip_blanks-m.ensures.1 refl, index-zeros _ _ _ 4897 (omega arith) refl refl, refl)
