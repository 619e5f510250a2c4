use native.Mathlib.Nat.{sub-add-eq, sub-zero}
use native.Mathlib.Omega.{arith}
use Rattle.text_program.specs.Source.{read_mode, row}
use Rattle.read_goal.proofs.Turn.{row-fuel, row_last, row_more, row-none}
use Rattle.read_goal.proofs.Spanned.{span-done, span_last, span-on, span-start}
use Rattle.lay_literal.specs.Lows.{lows}
use Rattle.text_program.proofs.Joined.{singles}
use Rattle.lay_lines.proofs.Lined.{mode-item}
use Rattle.lay_literal.proofs.Laid.{all_true, lay_done, lay-last, lay-on, lay-start, whole-as}
use Prim.Native.Nat.{◌-◌, ℕ}
use lib.ListN.{drop, length}
use mathlib.Core.List.{[], ◌∷◌}
use mathlib.Core.Path.{ap, refl, ◌≡◌}
use mathlib.Core.Bool.{true}
use Rattle.take_modes.proofs.marks.Goals as goal

pub loop-n-init : goal.loop-n-init
loop-n-init c = rw sub-zero (whole-as (ap lows (singles (row read_mode 44 (drop c.args.at c.args.s.now)).value)) (all_true (row read_mode 44 (drop c.args.at c.args.s.now)).value) (lay-start (λ (m : ℕ). m ∷ []) (λ (m : ℕ). true) _ _ (row-fuel read_mode 44 c.args.s.now c.args.at (length c.args.s.now - c.args.at) refl) (omega arith) (omega arith)), span-start _ c.requires (omega arith) (row-fuel read_mode 44 c.args.s.now c.args.at (length c.args.s.now - c.args.at) refl) refl)

pub returns-then-byte_at-ne-COMMA : goal.returns-then-byte_at-ne-COMMA
returns-then-byte_at-ne-COMMA c = let left = length c.args.s.now - c.args.at - c.loop-n.n in (span_last _ _ (row_last read_mode 44 c.args.s.now left c.loop-n.q c.after_mark-q.result _ c.after_mark-q.ensures.0 c.byte_at.ensures.0 (omega arith) c.if-byte_at-ne-COMMA.true) refl c.after_mark-q.ensures.1 c.loop-n.invariant.1, (lay-last (λ (m : ℕ). m ∷ []) (λ (m : ℕ). true) _ _ _ (row_last read_mode 44 c.args.s.now left c.loop-n.q c.after_mark-q.result _ c.after_mark-q.ensures.0 c.byte_at.ensures.0 (omega arith) c.if-byte_at-ne-COMMA.true) c.loop-n.invariant.0 (mode-item c.args.s.now c.loop-n.q c.mode.result c.mode.ensures c.number-to.ensures)).row)

pub loop-n-preserved : goal.loop-n-preserved
loop-n-preserved c = let left = length c.args.s.now - c.args.at - c.loop-n.n in rw sub-add-eq (lay-on (λ (m : ℕ). m ∷ []) (λ (m : ℕ). true) _ _ _ (row_more read_mode 44 c.args.s.now left c.loop-n.q c.after_mark-q.result _ c.after_mark-q.ensures.0 c.byte_at.ensures.0 c.after_mark-q-in-loop-n.result (omega arith) c.if-byte_at-ne-COMMA.false c.after_mark-q-in-loop-n.ensures.0) c.loop-n.invariant.0 (mode-item c.args.s.now c.loop-n.q c.mode.result c.mode.ensures c.number-to.ensures), span-on _ _ (row_more read_mode 44 c.args.s.now left c.loop-n.q c.after_mark-q.result _ c.after_mark-q.ensures.0 c.byte_at.ensures.0 c.after_mark-q-in-loop-n.result (omega arith) c.if-byte_at-ne-COMMA.false c.after_mark-q-in-loop-n.ensures.0) refl (omega arith) c.after_mark-q-in-loop-n.ensures.1 c.loop-n.invariant.1)

pub returns : goal.returns
returns c = let left = length c.args.s.now - c.args.at - c.loop-n.n in let n : c.loop-n.n ≡ length c.args.s.now - c.args.at = omega arith in rw (← n) (span-done _ (row-none read_mode 44 c.args.s.now left c.loop-n.q (omega arith)) refl c.loop-n.invariant.1, (lay_done (λ (m : ℕ). m ∷ []) (λ (m : ℕ). true) _ _ (row-none read_mode 44 c.args.s.now left c.loop-n.q (omega arith)) c.loop-n.invariant.0).row)
