-- Two answers of two values each that are the same give the same values.
use mathlib.Core.Path.{◌≡◌, ap}
use Rattle.std.specs.Prelude.{Ok}
use Rattle.parlog.specs.Answer.{Answer}

pub ok-both : {A B : Type 0} {a c : A} {b d : B} → ◌≡◌ {A = Answer (A × B)} (Ok (a, b)) (Ok (c, d)) → (a ≡ c) × (b ≡ d)
ok-both {A = A} {B = B} {a = a} {c = c} {b = b} {d = d} e =
    let p : ◌≡◌ {A = A × B} (a, b) (c, d) = cc in
    (ap (λ x. x.0) p, ap (λ x. x.1) p)
