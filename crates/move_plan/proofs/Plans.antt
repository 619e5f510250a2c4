-- What plans mean, and what is known of one that acts.
use mathlib.Core.Path.{◌≡◌, refl}
use mathlib.Core.Bool.{Bool, cond, false, true}
use mathlib.Core.List.{[]}
use Prim.Native.Nat.{◌+◌, ◌-◌, ◌<◌, ◌≤◌, ℕ}
use lib.Dec.{leb}
use lib.ListN.{length}
use borrow.Author.Tests.{le-leb, leb-false, leb-true, lt-leb}
use native.Mathlib.Omega.{arith}
use Rattle.parlog.proofs.Bools.{and-true, split}
use Rattle.parlog.specs.Codes.{Result}
use Rattle.parlog.specs.Delta.{Delta, report, reporting_with, with_notes}
use Rattle.parlog.specs.Limits.{Limits}
use Rattle.parlog.specs.Rules.{Applied, by_rule, fits, no_rule}
use Rattle.parlog.specs.Tables.{State}
use Rattle.parlog.specs.declared.Move.{Move}
use Rattle.parlog.specs.declared.Process.{Process}
use Rattle.move_plan.specs.Plans.{applied_of, delta_of, fits_in}
use Rattle.move_plan.specs.declared.Plan.{Plan}
use Rattle.rows.proofs.Tables.{procs-length}
use Rattle.unify.proofs.Laws.{noted-many}
use Rattle.unify.specs.Pending.{noted_in, pending}
use Rattle.unify.specs.declared.waiting.Changes.{Changes}
use Rattle.unify.specs.declared.waiting.Noted.{Noted}

-- ---- a plan that acts

no-by : {X : Type 0} {m : Move} {d : Delta} → no_rule ≡ by_rule m d → X
no-by e = let z : ◌≡◌ {A = ℕ} 0 1 = cc in absurd (omega arith)

module _ (pl : Plan) {m : Move} {d : Delta} (e : applied_of pl ≡ by_rule m d) where
  acting : (b : Bool) → cond b (by_rule pl.mv (delta_of pl)) no_rule ≡ by_rule m d → by_rule pl.mv (delta_of pl) ≡ by_rule m d
  acting true q = q
  acting false q = no-by q

  both : by_rule pl.mv (delta_of pl) ≡ by_rule m d
  unfolding applied_of
  both = acting pl.acts e

  pub applied-acts : pl.acts ≡ true
  unfolding applied_of
  applied-acts = split pl.acts (λ q. q) (λ q. no-by (rw q at e))

  pub applied-move : pl.mv ≡ m
  applied-move = let q = both in cc

  pub applied-delta : delta_of pl ≡ d
  applied-delta = let q = both in cc

-- and one that does not
pub applied-none : (pl : Plan) → pl.acts ≡ false → applied_of pl ≡ no_rule
unfolding applied_of
applied-none pl e = rw e

pub applied-some : (pl : Plan) → pl.acts ≡ true → applied_of pl ≡ by_rule pl.mv (delta_of pl)
unfolding applied_of
applied-some pl e = rw e

pub delta-new : (pl : Plan) → length (delta_of pl).new ≡ pl.count
unfolding delta_of
delta-new pl = procs-length pl.rows pl.count

pub delta-fresh : (pl : Plan) → (delta_of pl).fresh ≡ pl.fresh
unfolding delta_of
delta-fresh pl = refl

-- ---- room

module _ (procs vars n m count fresh : ℕ) where
  pub fits_not : n ≤ procs → procs - n < count → false ≡ fits_in procs vars n m count fresh
  unfolding fits_in
  fits_not a h = rw (lt-leb (n + count) procs (omega arith))

  pub fits_by : n ≤ procs → m ≤ vars → count ≤ procs - n → leb fresh (vars - m) ≡ fits_in procs vars n m count fresh
  unfolding fits_in
  fits_by a b h = rw (le-leb (n + count) procs (omega arith)) (split (leb fresh (vars - m))
      (λ q. let k : fresh ≤ vars - m = leb-true fresh (vars - m) q in rw (q, le-leb (m + fresh) vars (omega arith)))
      (λ q. let k : vars - m < fresh = leb-false fresh (vars - m) q in rw (q, lt-leb (m + fresh) vars (omega arith))))

  pub fits-procs : fits_in procs vars n m count fresh ≡ true → n + count ≤ procs
  unfolding fits_in
  fits-procs e = leb-true (n + count) procs (and-true (leb (n + count) procs) (leb (m + fresh) vars) e).0

  pub fits-vars : fits_in procs vars n m count fresh ≡ true → m + fresh ≤ vars
  unfolding fits_in
  fits-vars e = leb-true (m + fresh) vars (and-true (leb (n + count) procs) (leb (m + fresh) vars) e).1

-- the room of the rules
pub fits-is : (lim : Limits) (s : State) (pl : Plan) → fits_in lim.procs lim.vars (length s.procs) (length s.vars) pl.count pl.fresh ≡ fits lim s (delta_of pl)
unfolding fits_in fits
fits-is lim s pl = rw (delta-new pl, delta-fresh pl)

-- ---- notes

-- as many as are counted, in a row's four places
pub noted-is : (x : Process) (s : Noted) → ◌≡◌ {A = Process} (record { tag = x.tag; mode = 5; result = x.result; count = s.count; parent = x.parent; spot = x.spot; notes = s.notes }) (with_notes (noted_in s) x)
unfolding with_notes noted_in
noted-is x s = rw (← s.filled, noted-many s)

-- a report that binds nothing
pub reports-plain : {mv : Move} (t : Result) (x : Process) (c : Changes) → pending c ≡ [] → {a : Applied} → a ≡ by_rule mv (reporting_with t x (pending c)) → a ≡ by_rule mv (report t x)
reports-plain t x c e q = rw e at q
