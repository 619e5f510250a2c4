use mathlib.Core.Path.{◌≡◌}
use Prim.Native.Nat.{◌+◌, ◌-◌, ◌*◌}
use Rattle.parlog.specs.Names.{terms_named}
use Rattle.load_names.proofs.terms_named.Given as goal

abbrev pub invariant-loop : goal.invariant-loop
invariant-loop l = (terms_named l.s l.vars (l.n - l.counter) l.at ≡ terms_named l.s l.vars l.n l.from) × (l.at ≡ l.from + 2 * l.counter)
