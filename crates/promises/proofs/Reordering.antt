-- Request 6 over what is let in: plans whose equating processes ask the same equations in other orders end alike.
use mathlib.Core.Path.{◌≡◌}
use mathlib.Core.Bool.{true}
use mathlib.Core.List.{List}
use Prim.Native.Nat.{ℕ}
use Rattle.entry.proofs.Held.{tables-state}
use Rattle.parlog.proofs.Equates.{plans-alike, steps_alike}
use Rattle.parlog.specs.Limits.{Limits}
use Rattle.parlog.specs.Orders.{AllAsk, EndAlike, Reordered}
use Rattle.parlog.specs.Program.{program_of}
use Rattle.parlog.specs.TableRules.{state_ok}
use Rattle.parlog.specs.Tables.{Lent, tables_in}
use Rattle.parlog.specs.declared.Pair.{Pair}
use Rattle.promises.proofs.Demand2.{image-sane}
use Rattle.promises.proofs.Entry.{let-ok}
use Rattle.promises.specs.Refusals.{LetIn, state_in}

let-state : (lim : Limits) (s : List ℕ) (l : Lent) {r c : ℕ} → LetIn lim s l r c → state_ok lim (program_of s r c) (state_in l) ≡ true
let-state lim s l {r} {c} i = tables-state lim (program_of s r c) (tables_in l) (let-ok lim s l i)

-- two plans, or one, over the same bindings
pub plans-end-alike : (lim lim' : Limits) (s s' : List ℕ) (l l' : Lent) {r c r' c' : ℕ} → LetIn lim s l r c → LetIn lim' s' l' r' c' → {ps qs : List ℕ} {es fs : List Pair}
    → (state_in l).vars ≡ (state_in l').vars → AllAsk (program_of s r c) (state_in l) ps es → AllAsk (program_of s' r' c') (state_in l') qs fs → Reordered es fs
    → EndAlike (program_of s r c) (state_in l) ps (program_of s' r' c') (state_in l') qs
plans-end-alike lim lim' s s' l l' {r} {c} {r'} {c'} i i' v a b o =
    plans-alike lim lim' (program_of s r c) (program_of s' r' c') (image-sane lim s l i) (image-sane lim' s' l' i') (state_in l) (state_in l') (let-state lim s l i) (let-state lim' s' l' i') v a b o

-- the same processes stepped in any two orders
pub steps-end-alike : (lim : Limits) (s : List ℕ) (l : Lent) {r c : ℕ} → LetIn lim s l r c → {ps qs : List ℕ} {es : List Pair}
    → AllAsk (program_of s r c) (state_in l) ps es → Reordered ps qs → EndAlike (program_of s r c) (state_in l) ps (program_of s r c) (state_in l) qs
steps-end-alike lim s l {r} {c} i a o = steps_alike lim (program_of s r c) (image-sane lim s l i) (state_in l) (let-state lim s l i) a o
