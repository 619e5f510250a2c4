use mathlib.Core.Bool.{◌&&◌, Bool, false}
use mathlib.Core.Path.{ap, refl}
use Rattle.lay_lines.proofs.Lined.{no-clause}
use Rattle.read_names.proofs.Lined.{line-last, line-none}
use Rattle.mode_table.specs.Held.{lines_in}
use Rattle.std.proofs.Common.{rules}
use Rattle.take_text.proofs.Far.{far-done, far-on, far-start, far-stop, known_as}
use Rattle.take_text.specs.declared.Clauses.{Clauses}
use Rattle.text_program.specs.Source.{is_clause, read_clause}
use native.Mathlib.Omega.{arith}
use Rattle.take_text.proofs.clause_lines.Goals as goal

pub loop-w-init : goal.loop-w-init
loop-w-init c = (far-start c.args.relations.now.text.now (lines_in c.args.relations.now) c.args.draft.now.out.now c.args.draft.now.consts.now c.args.draft.now.links.now c.args.next.from c.args.next.at c.args.next.consts c.args.known c.start-w.result c.start-w.ensures c.requires.0 c.requires.1 c.requires.2 c.requires.4, search rules)

pub returns-then-byte_at-eq-ARROW-clause-taken : goal.returns-then-byte_at-eq-ARROW-clause-taken
returns-then-byte_at-eq-ARROW-clause-taken c = known_as (ap (λ (w : Clauses). w.known) c.start-w.ensures) (far-done c.loop-w.invariant.0 (line-last is_clause read_clause c.args.relations.now.text.now c.loop-w.w.left c.loop-w.w.end false c.loop-w-test.true (no-clause c.args.relations.now.text.now c.loop-w.w.end _ c.byte_at.ensures.0 c.if-byte_at-eq-ARROW.true) refl))

pub returns-then-w-gt0-clause-taken : goal.returns-then-w-gt0-clause-taken
returns-then-w-gt0-clause-taken c = known_as (ap (λ (w : Clauses). w.known) c.start-w.ensures) (far-stop c.loop-w.invariant.0 _ c.turn-t.ensures.taken c.loop-w-test.true c.byte_at.ensures.0 c.if-byte_at-eq-ARROW.false (ap (λ (b : Bool). c.loop-w.semicolon && b) c.same_name.ensures) c.if-w-gt0.true)

pub loop-w-preserved : goal.loop-w-preserved
loop-w-preserved c = (far-on c.loop-w.invariant.0 _ c.turn-t.ensures.taken c.loop-w-test.true c.byte_at.ensures.0 c.if-byte_at-eq-ARROW.false (ap (λ (b : Bool). c.loop-w.semicolon && b) c.same_name.ensures) c.if-w-gt0.false, search rules)

pub returns-clause-taken : goal.returns-clause-taken
returns-clause-taken c = known_as (ap (λ (w : Clauses). w.known) c.start-w.ensures) (far-done c.loop-w.invariant.0 (line-none is_clause read_clause c.args.relations.now.text.now c.loop-w.w.left c.loop-w.w.end (omega arith)))
