-- What a supply and a look come to, over tables that keep the rules.
use Rattle.std.specs.Prelude.{None}
use mathlib.Core.Path.{◌≡◌, refl, sym}
use mathlib.Core.Bool.{true}
use Prim.Native.Nat.{◌<◌, ◌≤◌, ℕ}
use lib.Dec.{leb, ltb}
use borrow.Author.Tests.{le-leb, le-ltb, leb-false, leb-true, lt-leb, lt-ltb, ltb-false, ltb-true}
use Rattle.parlog.proofs.Bools.{split}
use Rattle.parlog.proofs.OneValue.{has_value}
use Rattle.parlog.proofs.Steps.{steady_kept}
use Rattle.parlog.proofs.Values.{Falling, leads-is, leads-value, value-free}
use Rattle.parlog.specs.Demands.{HasValue}
use Rattle.parlog.specs.Limits.{Limits}
use Rattle.parlog.specs.Notions.{Leads}
use Rattle.parlog.specs.Program.{Program}
use Rattle.parlog.specs.Run.{given, seen, supplied, Supplying, supply_tables, supply_value, ungiven, unseen, value_tables}
use Rattle.parlog.specs.TableRules.{tables_ok}
use Rattle.parlog.specs.Tables.{binding_of, Tables}
use Rattle.parlog.specs.Unify.{value}
use Rattle.parlog.specs.declared.Term.{Term}
use Rattle.parlog.specs.declared.Term.TheVariants.{Const, Var}

module _ (lim : Limits) (pr : Program) (t : Tables) (ok : tables_ok lim pr t ≡ true) (v k : ℕ) where
  falls : Falling t.state.vars
  falls = (steady_kept lim pr t ok).0.falls

  pub supply-twelve : pr.goal_vars ≤ v → supply_tables pr t v k ≡ ungiven 12
  unfolding supply_tables
  supply-twelve h = rw (le-ltb v pr.goal_vars h)

  pub supply-fourteen : v < pr.goal_vars → 32767 < k → supply_tables pr t v k ≡ ungiven 14
  unfolding supply_tables
  supply-fourteen h g = rw (lt-ltb v pr.goal_vars h, lt-leb k 32767 g)

  supply-by : v < pr.goal_vars → k ≤ 32767 → (x : Term) → value t.state.vars (Var v) ≡ x → supply_tables pr t v k ≡ supply_value x t k
  unfolding supply_tables
  supply-by h g x e = rw (lt-ltb v pr.goal_vars h, le-leb k 32767 g, e)

  pub supply-thirteen : v < pr.goal_vars → k ≤ 32767 → {j : ℕ} → Leads t.state.vars (Var v) (Const j) → supply_tables pr t v k ≡ ungiven 13
  unfolding supply_value
  supply-thirteen h g {j} l = supply-by h g (Const j) (leads-is t.state.vars falls l)

  pub supply-gives : v < pr.goal_vars → k ≤ 32767 → {u : ℕ} → Leads t.state.vars (Var v) (Var u) → supply_tables pr t v k ≡ given u (supplied t u k)
  unfolding supply_value
  supply-gives h g {u} l = supply-by h g (Var u) (leads-is t.state.vars falls l)

  pub data Offer : Supplying → Type 0 where
    not_there : pr.goal_vars ≤ v → Offer (ungiven 12)
    too_large : v < pr.goal_vars → 32767 < k → Offer (ungiven 14)
    is-constant : {j : ℕ} → v < pr.goal_vars → k ≤ 32767 → Leads t.state.vars (Var v) (Const j) → Offer (ungiven 13)
    is-taken : {u : ℕ} → v < pr.goal_vars → k ≤ 32767 → Leads t.state.vars (Var v) (Var u) → binding_of t.state.vars u ≡ None → Offer (given u (supplied t u k))

  pub offer : Offer (supply_tables pr t v k)
  offer = split (ltb v pr.goal_vars)
      (λ e. let h : v < pr.goal_vars = ltb-true v pr.goal_vars e in split (leb k 32767)
      (λ f. on h (leb-true k 32767 f) (value t.state.vars (Var v)) refl)
      (λ f. let g : 32767 < k = leb-false k 32767 f in rw (supply-fourteen h g) (too_large h g)))
      (λ e. let h : pr.goal_vars ≤ v = ltb-false v pr.goal_vars e in rw (supply-twelve h) (not_there h))
    where
      on : v < pr.goal_vars → k ≤ 32767 → (x : Term) → value t.state.vars (Var v) ≡ x → Offer (supply_tables pr t v k)
      on h g (Const j) e =
          let l : Leads t.state.vars (Var v) (Const j) = rw e at (leads-value t.state.vars falls (Var v)) in
          rw (supply-thirteen h g l) (is-constant h g l)
      on h g (Var u) e =
          let l : Leads t.state.vars (Var v) (Var u) = rw e at (leads-value t.state.vars falls (Var v)) in
          rw (supply-gives h g l) (is-taken h g l (value-free t.state.vars falls (Var v) u e))

module _ (lim : Limits) (pr : Program) (t : Tables) (ok : tables_ok lim pr t ≡ true) (v : ℕ) where
  pub look-twelve : pr.goal_vars ≤ v → value_tables pr t v ≡ unseen 12
  unfolding value_tables
  look-twelve h = rw (le-ltb v pr.goal_vars h)

  pub look-sees : v < pr.goal_vars → value_tables pr t v ≡ seen (value t.state.vars (Var v))
  unfolding value_tables
  look-sees h = rw (lt-ltb v pr.goal_vars h)

  pub look-value : HasValue t.state.vars (Var v)
  look-value = has_value t.state.vars (steady_kept lim pr t ok).0.falls (Var v)

  pub look_is : look-value.to ≡ value t.state.vars (Var v)
  look_is = sym (look-value.alone (value t.state.vars (Var v)) (leads-value t.state.vars (steady_kept lim pr t ok).0.falls (Var v)))
