-- The ways through a look at a goal variable.
use Rattle.std.specs.Prelude.{Option, Err, Ok}
use Rattle.parlog.specs.Answer.{Answer}
use mathlib.Core.Path.{◌≡◌}
use mathlib.Core.Bool.{cond}
use mathlib.Core.List.{List}
use Prim.Native.Nat.{◌<◌, ◌≤◌, ℕ}
use lib.Dec.{ltb}
use borrow.Author.Tests.{le-ltb, lt-ltb}
use Rattle.load.specs.Fields.{refusal_of}
use Rattle.entry.specs.Entered.{EnterSays}
use Rattle.parlog.specs.Calls.{value_answer, value_call}
use Rattle.parlog.specs.Limits.{Limits}
use Rattle.parlog.specs.Load.{refusal}
use Rattle.parlog.specs.Program.{program_of}
use Rattle.parlog.specs.Run.{seen, unseen, value_tables}
use Rattle.parlog.specs.Tables.{Lent, tables_in, var_count, vars_in}
use Rattle.parlog.specs.Unify.{value}
use Rattle.parlog.specs.declared.Refusal.{Refusal}
use Rattle.parlog.specs.declared.Term.{Term}
use Rattle.parlog.specs.declared.Term.TheVariants.{Var}

module _ (k : ℕ) (vs : List (Option Term)) (v : ℕ) {g : ℕ} (eg : g ≡ k) where
  pub look_none : g ≤ v → {f : Refusal} → f ≡ refusal 12 0 → Err f ≡ value_answer (cond (ltb v k) (seen (value vs (Var v))) (unseen 12))
  look_none h ef = rw (ef, ← eg, le-ltb v g h)

  pub look-some : v < g → {t : Term} → t ≡ value vs (Var v) → Ok t ≡ value_answer (cond (ltb v k) (seen (value vs (Var v))) (unseen 12))
  look-some h et = rw (et, ← eg, lt-ltb v g h)

module _ (lim : Limits) (s : List ℕ) (l : Lent) (v : ℕ) {a : Answer (ℕ × ℕ)} (told : EnterSays lim s l a) where
  pub value-refused : {f r : Refusal} → a ≡ Err f → r ≡ refusal_of a → Err r ≡ value_call lim s l v
  unfolding value_call
  value-refused e er = rw (told.entry, er, e)

  pub value-looked : {r c : ℕ} → a ≡ Ok (r, c) → {x : Answer Term}
      → x ≡ value_answer (cond (ltb v (program_of s r c).goal_vars) (seen (value (vars_in l.vars (var_count l.head)) (Var v))) (unseen 12))
      → x ≡ value_call lim s l v
  unfolding value_call value_tables tables_in
  value-looked e ex = rw (told.entry, ex, e)
