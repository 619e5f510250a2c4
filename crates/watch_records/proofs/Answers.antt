-- What the contract of the watch says by itself.
use Rattle.std.specs.Prelude.{Option}
use mathlib.Core.Path.{◌∙◌, ◌≡◌, sym}
use mathlib.Core.List.{List}
use Prim.Native.Nat.{ℕ}
use Rattle.parlog.specs.Run.{watch_of}
use Rattle.parlog.specs.declared.Process.{Process}

-- the contract allows one answer only
pub watch-once : (ps : List Process) (r q : Option ℕ) → r ≡ watch_of ps → q ≡ watch_of ps → r ≡ q
watch-once ps r q a b = a ∙ sym b
