-- The words of a clause and of the relations, when one clause more is passed.
use mathlib.Core.Path.{◌∙◌, ◌≡◌, ap, refl, sym}
use mathlib.Core.Bool.{Bool, cond, false, true}
use mathlib.Core.List.{List}
use Prim.Native.Nat.{◌+◌, ◌<◌, ◌≤◌, ℕ}
use lib.Dec.{eqb}
use borrow.Author.Tests.{eqb-false, eqb-true, ne_eqb}
use native.Mathlib.Omega.{arith}
use Rattle.index_fill.specs.Filling.{Blocks, First, Last, Vars, vars_word}
use Rattle.parlog.proofs.Bools.{split}
use Rattle.parlog.specs.Program.{clause_at, opens, Program, program_of}
use Rattle.parlog.specs.Records.{byte_at, record_at}
use Rattle.program_block.proofs.BlockTurns.{opens-other, opens-turn, tally-rest, tally-turn}
use Rattle.program_block.specs.Parts.{opens_by, own_before}
use Rattle.program_clause.proofs.Fields.{all-vars, relation-some}
use Rattle.program_clause.proofs.Modes.{modes-some}

one-most : (b : Bool) (n k : ℕ) → n ≤ k → cond b (n + 1) n ≤ k + 1
one-most true n k h = omega arith
one-most false n k h = omega arith

-- clause k is of relation q
module _ (s : List ℕ) (r c k : ℕ) (h : k < c) {at q : ℕ} (ea : at ≡ record_at s (r + k)) (eq : q ≡ byte_at s (at + 4)) where
  abbrev pr : Program
  pr = program_of s r c

  own : q ≡ (clause_at pr k).rel
  own = relation-some s r c k h ea eq

  other : (j : ℕ) → (q ≡ j → ⊥) → eqb (clause_at pr k).rel j ≡ false
  other j ne = ap (λ (z : ℕ). eqb z j) (sym own) ∙ ne_eqb q j ne

  pub vars-own : q < r → {rec : ℕ} → rec ≡ record_at s q → vars_word s at rec ≤ 510 → Vars pr k (vars_word s at rec)
  vars-own hq {rec} er few = (all-vars s r c k h ea eq (byte_at s (rec + 4)) (rec + 5) (modes-some s r q hq er refl) refl refl, few)

  pub blocks-own : {mark x : ℕ} {mine new : Bool} → mine ≡ own_before pr q k → mark ≡ byte_at s (at + 6) → new ≡ opens_by q mine mark q → Blocks pr k q x → Blocks pr (k + 1) q (cond new (x + 1) x)
  blocks-own {x = x} {new = new} em ek en old =
      let o = opens-turn s r c k h ea eq q ek em en in
      (tally-turn (opens pr q) k o old.0 refl, one-most new x k old.1)

  pub blocks-other : (j : ℕ) → (q ≡ j → ⊥) → (x : ℕ) → Blocks pr k j x → Blocks pr (k + 1) j x
  blocks-other j ne x old =
      (old.0 ∙ sym (tally-rest (opens pr j) k (k + 1) (omega arith) (λ i a l. let e : i ≡ k = omega arith in rw e (opens-other pr j k (other j ne)))), let f = old.1 in omega arith)

  -- none of the clauses before is of q where nothing is behind
  pub first-own : {b f : ℕ} → Last pr k q b → First pr k q f → First pr (k + 1) q (cond (eqb b 0) k f)
  first-own {b} {f} last old = go (eqb b 0) refl
    where
      go : (z : Bool) → eqb b 0 ≡ z → First pr (k + 1) q (cond z k f)
      go true e = let n = eqb-true b 0 e in ((λ i l. last.0 i (omega arith) l), omega arith)
      go false e = (old.0, let m = old.1 in omega arith)

  pub first-other : (j : ℕ) → (q ≡ j → ⊥) → (x : ℕ) → First pr k j x → First pr (k + 1) j x
  first-other j ne x old = (old.0, let m = old.1 in omega arith)

  pub behind-own : Last pr (k + 1) q (k + 1)
  behind-own = ((λ i a l. absurd (omega arith)), omega arith)

  pub behind-other : (j : ℕ) → (q ≡ j → ⊥) → (x : ℕ) → Last pr k j x → Last pr (k + 1) j x
  behind-other j ne x old = (
    (λ i a l. split (eqb i k)
        (λ b. rw (eqb-true i k b) (other j ne))
        (λ b. let n = eqb-false i k b in old.0 i a (omega (arith, n)))),
    let f = old.1 in omega arith,
  )
