-- What is asked of a mode before its mark is written.
use Rattle.std.specs.Prelude.{Bool, true, ℕ}

-- nothing: every mode has its mark
unfoldable pub any_mode : ℕ → Bool
any_mode m = true
