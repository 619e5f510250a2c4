-- The contract of a writer of text allows one result only.
use mathlib.Core.Path.{◌∙◌, ◌≡◌, ap, ap₂, sym}
use mathlib.Core.List.{◌++◌, List}
use Prim.Native.Nat.{◌+◌, ◌≤◌, ℕ}
use lib.ListN.{drop, length, length-drop, take, take-append-drop}
use native.Mathlib.Omega.{arith}
use Rattle.runner_text.specs.Fronting.{Fronted}

-- a text that begins inside has its length
begins : {o o' : List ℕ} {p most r : ℕ} {t : List ℕ} → Fronted o p most t o' r → p ≤ length o → r + length t ≡ length o
begins {o} {o'} {r = r} x h =
    let a = ap length (sym x.text) ∙ length-drop r o' in
    let b = x.size in
    let c = x.lower in
    omega arith

pub fronted-once : {o o' o'' : List ℕ} {p most r q : ℕ} {t : List ℕ} → p ≤ length o → Fronted o p most t o' r → Fronted o p most t o'' q → (r ≡ q) × (o' ≡ o'')
fronted-once {o} {o'} {o''} {r = r} {q = q} {t = t} h x y =
    let e : r ≡ q = omega (arith, begins x h, begins y h) in
    let a : take r o' ≡ take r o'' = x.front ∙ ap (λ (k : ℕ). take k o) e ∙ sym y.front ∙ ap (λ (k : ℕ). take k o'') (sym e) in
    let b : drop r o' ≡ drop r o'' = x.text ∙ sym y.text ∙ ap (λ (k : ℕ). drop k o'') (sym e) in
    (e, sym (take-append-drop r o') ∙ ap₂ (λ (u v : List ℕ). u ++ v) a b ∙ take-append-drop r o'')
