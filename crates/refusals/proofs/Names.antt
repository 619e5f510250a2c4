-- NAME: the tests of terms and literals decide that each is named right.
use mathlib.Core.Path.{◌≡◌, refl, subst, sym}
use mathlib.Core.Logic.{◌≢◌}
use mathlib.Core.Bool.{◌&&◌, Bool, true}
use mathlib.Core.List.{List}
use Prim.Native.Nat.{◌*◌, ◌+◌, ◌-◌, ◌<◌, ◌≤◌, ℕ}
use lib.Dec.{eqb, ltb}
use borrow.Author.Tests.{eq-eqb, eqb-false, eqb-true, lt-ltb, ltb-false, ltb-true}
use native.Mathlib.Omega.{arith}
use Rattle.parlog.proofs.Along.{along-terms}
use Rattle.std.proofs.lemmas.Bool.{and_parts, and_from}
use Rattle.parlog.proofs.Bools.{split}
use Rattle.parlog.specs.Image.{equality, term_end, term_of}
use Rattle.parlog.specs.Names.{arity_of, literal_named, relation_named, term_named, term_named_at, terms_named}
use Rattle.parlog.specs.Records.{byte_at, word_at}
use Rattle.refusals.proofs.Tests.{and-too, Decides, equal, for-each, less}
use Rattle.refusals.specs.Right.{a_call, an_equality, how_many, LiteralNamed, RelationKnown, TermNamed, TermsNamed}

module _ (s : List ℕ) where
  term-named : (n w : ℕ) → Decides (term_named n (term_of w)) ((v : ℕ) → w ≡ 32768 + v → v < n)
  term-named n w = split (ltb w 32768)
      (λ e. let h = ltb-true w 32768 e in rw e (λ q v f. absurd (omega arith), λ q. refl))
      (λ e. let h = ltb-false w 32768 e in
      rw e (λ q v f. let l = ltb-true (w - 32768) n q in omega arith, λ q. lt-ltb (w - 32768) n (q (w - 32768) (omega arith))))

  pub terms-named : (n m a : ℕ) → Decides (terms_named s n m a) (TermsNamed s n m a)
  unfolding term_named_at
  terms-named n m a = for-each (term_named_at s n) term_end (λ i. TermNamed s n (a + 2 * i)) m a (λ i. rw (along-terms i a) (term-named n (word_at s (a + 2 * i))))

  module _ (k rels : ℕ) (same : rels ≡ how_many s 1 k) (few : rels ≤ 32) where
    pub relation-known : (q m : ℕ) → Decides (relation_named s rels q m) (RelationKnown s k q m)
    unfolding relation_named
    relation-known q m =
        let d = and-too (ltb q rels) (eqb m (arity_of s q)) (less q rels) (equal m (arity_of s q)) in
        (λ e. let f = d.0 e in record { there = subst (λ x. q < x) same f.0; arity = f.1 }, λ r. d.1 (subst (λ x. q < x) (sym same) r.there, r.arity))

    module _ (n a : ℕ) where
      abbrev terms : Bool
      terms = terms_named s n (byte_at s (a + 1)) (a + 2)

      of-equality : byte_at s a ≡ 255 → Decides (eqb (byte_at s (a + 1)) 2 && terms) (LiteralNamed s k n a)
      of-equality z = (to, back)
        where
          to : (eqb (byte_at s (a + 1)) 2 && terms_named s n (byte_at s (a + 1)) (a + 2)) ≡ true → LiteralNamed s k n a
          to e =
              let p = and_parts (eqb (byte_at s (a + 1)) 2) (terms_named s n (byte_at s (a + 1)) (a + 2)) e in
              let two = eqb-true (byte_at s (a + 1)) 2 p.0 in
              an_equality z two (subst (λ x. TermsNamed s n x (a + 2)) two ((terms-named n (byte_at s (a + 1)) (a + 2)).0 p.1))

          back : LiteralNamed s k n a → (eqb (byte_at s (a + 1)) 2 && terms_named s n (byte_at s (a + 1)) (a + 2)) ≡ true
          back (a_call r t) = let h = r.there in absurd (omega arith)
          back (an_equality y two t) =
              and_from (eqb (byte_at s (a + 1)) 2) (terms_named s n (byte_at s (a + 1)) (a + 2)) (eq-eqb (byte_at s (a + 1)) 2 two)
              ((terms-named n (byte_at s (a + 1)) (a + 2)).1 (subst (λ x. TermsNamed s n x (a + 2)) (sym two) t))

      of-call : byte_at s a ≢ 255 → Decides (relation_named s rels (byte_at s a) (byte_at s (a + 1)) && terms) (LiteralNamed s k n a)
      of-call z = (to, back)
        where
          to : (relation_named s rels (byte_at s a) (byte_at s (a + 1)) && terms_named s n (byte_at s (a + 1)) (a + 2)) ≡ true → LiteralNamed s k n a
          to e =
              let p = and_parts (relation_named s rels (byte_at s a) (byte_at s (a + 1))) (terms_named s n (byte_at s (a + 1)) (a + 2)) e in
              a_call ((relation-known (byte_at s a) (byte_at s (a + 1))).0 p.0) ((terms-named n (byte_at s (a + 1)) (a + 2)).0 p.1)

          back : LiteralNamed s k n a → (relation_named s rels (byte_at s a) (byte_at s (a + 1)) && terms_named s n (byte_at s (a + 1)) (a + 2)) ≡ true
          back (a_call r t) =
              and_from (relation_named s rels (byte_at s a) (byte_at s (a + 1))) (terms_named s n (byte_at s (a + 1)) (a + 2))
              ((relation-known (byte_at s a) (byte_at s (a + 1))).1 r) ((terms-named n (byte_at s (a + 1)) (a + 2)).1 t)
          back (an_equality y two t) = absurd (z y)

      pub literal-named : Decides (literal_named s rels n a) (LiteralNamed s k n a)
      unfolding literal_named
      literal-named = split (eqb (byte_at s a) equality)
          (λ e. rw e (of-equality (eqb-true (byte_at s a) equality e)))
          (λ e. rw e (of-call (eqb-false (byte_at s a) equality e)))
