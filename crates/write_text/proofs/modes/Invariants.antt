use Prim.Native.Nat.{◌+◌}
use mathlib.Core.List.{[], ◌∷◌}
use Rattle.text_program.specs.Printing.{mode_text, row_text}
use Rattle.text_program.specs.Parsing.{all_of}
use Rattle.parlog.specs.Scan.{list_of}
use Rattle.parlog.specs.Image.{byte_at, mode_end}
use Rattle.write_text.specs.Modes.{any_mode}
use Rattle.write_goal.proofs.Rowed.{RowAt}
use Rattle.write_text.proofs.modes.Given as goal

abbrev pub invariant-loop-k : goal.invariant-loop-k
invariant-loop-k l = RowAt mode_text any_mode (44 ∷ []) (byte_at l.s) mode_end l.n l.k (l.from + l.k) l.initial.w (row_text mode_text (44 ∷ []) (list_of (byte_at l.s) mode_end l.n l.from)) (all_of any_mode (list_of (byte_at l.s) mode_end l.n l.from)) l.w
