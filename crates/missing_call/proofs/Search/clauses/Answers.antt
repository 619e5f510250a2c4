use Prim.Native.Nat.{◌-◌}
use native.Mathlib.Nat.{sub-add-eq}
use lib.ListN.{drop}
use mathlib.Core.Path.{refl}
use mathlib.Core.Bool.{false, true}
use native.Mathlib.Omega.{arith}
use Rattle.text_program.specs.Source.{is_clause, read_clause}
use Rattle.read_names.proofs.Lined.{line-last, line-more, line-none}
use Rattle.lay_lines.proofs.Lined.{a_clause, no-clause}
use Rattle.missing_call.specs.Called.{clause_calls}
use Rattle.missing_call.proofs.Walked.{walked-done, walked_on}
use Rattle.missing_call.proofs.Search.clauses.Goals as goal

pub returns-then-byte_at-eq-ARROW : goal.returns-then-byte_at-eq-ARROW
returns-then-byte_at-eq-ARROW c = walked-done clause_calls c.args.self.now.text.now c.args.self.now.places.now c.args.self.now.asked c.args.w (line-last is_clause read_clause c.args.self.now.text.now (c.args.left - c.loop.counter) c.loop.v.end false (omega arith) (no-clause c.args.self.now.text.now c.loop.v.end _ c.byte_at.ensures.0 c.if-byte_at-eq-ARROW.true) refl) c.loop.invariant

pub loop-preserved : goal.loop-preserved
loop-preserved c = rw sub-add-eq (walked_on clause_calls c.args.self.now.text.now c.args.self.now.places.now c.args.self.now.asked c.args.w (read_clause (drop c.loop.v.end c.args.self.now.text.now)).value c.clause-v.result.end (line-more is_clause read_clause c.args.self.now.text.now (c.args.left - c.loop.counter) c.loop.v.end c.clause-v.result.end true (omega arith) (a_clause c.args.self.now.text.now c.loop.v.end _ c.byte_at.ensures.0 c.if-byte_at-eq-ARROW.false) refl c.clause-v.ensures.end) c.clause-v.ensures c.clause-v.ensures.inside c.loop.invariant)

pub returns : goal.returns
returns c = walked-done clause_calls c.args.self.now.text.now c.args.self.now.places.now c.args.self.now.asked c.args.w (line-none is_clause read_clause c.args.self.now.text.now (c.args.left - c.loop.counter) c.loop.v.end (omega arith)) c.loop.invariant
