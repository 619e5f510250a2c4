-- The ways through the tests of a record.
use Rattle.std.specs.Prelude.{Err, Ok}
use mathlib.Core.Path.{refl, ◌≡◌}
use mathlib.Core.Bool.{Bool, false, not, true}
use mathlib.Core.List.{List}
use Prim.Native.Nat.{ℕ, ◌+◌}
use lib.Dec.{leb, ltb}
use lib.ListN.{drop}
use borrow.Author.Tests.{leb-false, ltb-false}
use native.Mathlib.Omega.{arith}
use Rattle.judge_text.specs.Tests.{Counted, kept, tested}
use Rattle.parlog.specs.Load.{refuse_if}
use Rattle.parlog.specs.declared.Progress.{Progress}
use Rattle.text_names.specs.Bytes.{front}
use Rattle.text_program.specs.Source.{read_clause}

-- ---- the first that fails

module _ (many right known full : Bool) (next : Progress) where
  pub tested-many : many ≡ true → Err 6 ≡ tested many right known full next
  unfolding tested
  tested-many e = rw e

  pub tested-right : many ≡ false → not right ≡ true → Err 4 ≡ tested many right known full next
  unfolding tested
  tested-right e f = rw (e, f)

  pub tested-known : many ≡ false → not right ≡ false → not known ≡ true → Err 5 ≡ tested many right known full next
  unfolding tested
  tested-known e f g = rw (e, f, g)

  pub tested-full : many ≡ false → not right ≡ false → not known ≡ false → full ≡ true → Err 6 ≡ tested many right known full next
  unfolding tested
  tested-full e f g h = rw (e, f, g, h)

  pub tested-goes : many ≡ false → not right ≡ false → not known ≡ false → full ≡ false → Ok next ≡ tested many right known full next
  unfolding tested
  tested-goes e f g h = rw (e, f, g, h)

  pub tested-kept : (many ≡ false → full ≡ false → Counted next) → kept (tested many right known full next)
  unfolding tested
  tested-kept k = go many right known full refl refl
    where
      go : (a b c d : Bool) → many ≡ a → full ≡ d → kept (refuse_if a 6 (refuse_if (not b) 4 (refuse_if (not c) 5 (refuse_if d 6 (Ok next)))))
      go true b c d e f = (omega arith, omega arith)
      go false false c d e f = (omega arith, omega arith)
      go false true false d e f = (omega arith, omega arith)
      go false true true true e f = (omega arith, omega arith)
      go false true true false e f = k e f

pub clause-name : (s : List ℕ) (at : ℕ) → front (drop at s) ≡ (read_clause (drop at s)).value.name
unfolding read_clause
clause-name s at = refl

-- ---- a clause

pub clause-counted : (g : Progress) (r b : ℕ) → Counted g → leb 64 g.clauses ≡ false → ltb 8 b ≡ false → Counted (record { relations = g.relations; clauses = g.clauses + 1; kind = 2; relation = r; block = b })
clause-counted g r b h e f = record { relations = h.relations; clauses = (let z = leb-false 64 g.clauses e in omega arith); kind = omega arith; block = ltb-false 8 b f }
