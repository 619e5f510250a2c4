-- The notes take little memory, for as many rows as a table can have.
use Prim.Native.Nat.{◌+◌, ◌*◌, ◌<◌, ◌≤◌, suc, ℕ}
use native.Mathlib.Omega.{arith}
use prog.Memory.{up}

up-less : (e : ℕ) → up 2 e ≤ suc e
up-less e = omega arith

up-one : (e : ℕ) → up 1 e ≤ e
up-one e = omega arith

pub notes-room : (w : ℕ) → w ≤ 512 → up 2 (up 2 (up 2 (up 1 (0 + w * 1) + w * 1) + w * 2) + w * 2) < 9223372036854775808
notes-room w h =
    let a = up 1 (0 + w * 1) + w * 1 in
    let b = up 2 a + w * 2 in
    let c = up 2 b + w * 2 in
    omega (arith, up-one (0 + w * 1), up-less a, up-less b, up-less c)
