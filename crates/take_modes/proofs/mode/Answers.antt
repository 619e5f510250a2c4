use Rattle.lay_lines.proofs.Lined.{mode-in, mode-out}
use Rattle.take_modes.proofs.mode.Goals as goal

pub returns-then-byte_at-eq-OUTPUT : goal.returns-then-byte_at-eq-OUTPUT
returns-then-byte_at-eq-OUTPUT c = mode-out c.args.s.now c.args.at _ c.byte_at.ensures.0 c.if-byte_at-eq-OUTPUT.true

pub returns-else-byte_at-eq-OUTPUT : goal.returns-else-byte_at-eq-OUTPUT
returns-else-byte_at-eq-OUTPUT c = mode-in c.args.s.now c.args.at _ c.byte_at.ensures.0 c.if-byte_at-eq-OUTPUT.false
