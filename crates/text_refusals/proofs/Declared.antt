-- The test for a relation without a mode line finds one exactly where there is one.
use mathlib.Core.Path.{◌≡◌, refl, sym}
use mathlib.Core.Logic.{◌⊎◌, inl, inr}
use mathlib.Core.Bool.{◌&&◌, Bool, cond, false, true}
use mathlib.Core.List.{[], ◌∷◌, List}
use Prim.Native.Nat.{◌<◌, suc}
use lib.ListN.{length}
use borrow.Author.Tests.{ltb-false, ltb-true}
use native.Mathlib.Omega.{arith}
use Rattle.std.proofs.lemmas.Bool.{and_cases, and_left, and_right}
use Rattle.parlog.proofs.Bools.{never, not_so}
use Rattle.text_names.proofs.Looked.{same-is, same_self}
use Rattle.text_names.specs.Names.{known, look, Name, same_name}
use Rattle.text_program.specs.Numbered.{relation_names}
use Rattle.text_program.specs.Parsing.{all_of, clause_declared, declared, goal_declared, literal_declared}
use Rattle.text_program.specs.Source.{calls, equals, Said, SaidClause, Source}
use Rattle.text_refusals.specs.Unread.{as_head, behind, Calls, In, in_body, in_front, in_goal, in_guard, in_stage, Mentions, Undeclared}

-- ---- tests of all items

pub record Failing {A : Type 0} (f : A → Bool) (xs : List A) : Type 0 where
  pub item : A
  pub among : In item xs
  pub fails : f item ≡ false

pub all-false : {A : Type 0} (f : A → Bool) (xs : List A) → all_of f xs ≡ false → Failing f xs
unfolding all_of
all-false f [] e = never (sym e)
all-false f (x ∷ xs) e = go (f x) refl e (all-false f xs)
  where
    go : (b : Bool) → f x ≡ b → (b && all_of f xs) ≡ false → (all_of f xs ≡ false → Failing f xs) → Failing f (x ∷ xs)
    go true d e more = let w = more e in record { item = w.item; among = behind w.among; fails = w.fails }
    go false d e more = record { item = x; among = in_front; fails = d }

false-all : {A : Type 0} (f : A → Bool) {x : A} {xs : List A} → In x xs → f x ≡ false → all_of f xs ≡ false
unfolding all_of
false-all f {x} (in_front {xs = xs}) e = and_left (f x) (all_of f xs) e
false-all f (behind {y = y} {xs = xs} i) e = and_right (f y) (all_of f xs) (false-all f i e)

-- ---- names that are known

known_in : (ys : List Name) (x : Name) → look ys x < length ys → In x ys
unfolding look
known_in [] x h = absurd (omega arith)
known_in (y ∷ ys) x h = go (same_name y x) refl h (known_in ys x)
  where
    go : (b : Bool) → same_name y x ≡ b → cond b 0 (suc (look ys x)) < suc (length ys) → (look ys x < length ys → In x ys) → In x (y ∷ ys)
    go true e h more = let z = same-is y x e in rw z in_front
    go false e h more = behind (more (omega arith))

in-known : {x : Name} {ys : List Name} → In x ys → look ys x < length ys
unfolding look
in-known {x} in_front = rw (same_self x) (omega arith)
in-known {x} (behind {y = y} {xs = ys} i) = go (same_name y x) (in-known i)
  where
    go : (b : Bool) → look ys x < length ys → cond b 0 (suc (look ys x)) < suc (length ys)
    go true h = omega arith
    go false h = omega arith

missing-not : (ys : List Name) (x : Name) → known ys x ≡ false → In x ys → ⊥
missing-not ys x e i = let h = in-known i in let g = ltb-false (look ys x) (length ys) e in omega arith

not-missing : (ys : List Name) (x : Name) → (In x ys → ⊥) → known ys x ≡ false
not-missing ys x h = not_so (known ys x) (λ e. h (known_in ys x (ltb-true (look ys x) (length ys) e)))

-- ---- goals and clauses

module _ (rels : List Name) where
  record Lacks (P : Name → Type 0) : Type 0 where
    pub name : Name
    pub there : P name
    pub unknown : known rels name ≡ false

  literal-lacks : (st : List Said) (g : List (List Said)) → In st g → (l : Said) → In l st → literal_declared rels l ≡ false → Lacks (λ x. Calls x g)
  literal-lacks st g i (calls x ts) j e = record { name = x; there = in_stage i j; unknown = e }
  literal-lacks st g i (equals a b) j e = never (sym e)

  goal-lacks : (g : List (List Said)) → goal_declared rels g ≡ false → Lacks (λ x. Calls x g)
  goal-lacks g e =
      let a = all-false (all_of (literal_declared rels)) g e in
      let b = all-false (literal_declared rels) a.item a.fails in
      literal-lacks a.item g a.among b.item b.among b.fails

  lacks-goal : {x : Name} {g : List (List Said)} → Calls x g → known rels x ≡ false → goal_declared rels g ≡ false
  lacks-goal (in_stage i j) e = false-all (all_of (literal_declared rels)) i (false-all (literal_declared rels) j e)

module _ (p : Source) where
  abbrev rels : List Name
  rels = relation_names p

  abbrev rests : SaidClause → Bool
  rests c = goal_declared rels c.guard && goal_declared rels c.body

  from-lacks : {P : Name → Type 0} → ((x : Name) → P x → Mentions x p) → Lacks rels P → Undeclared p
  from-lacks f w = record { name = w.name; mentioned = f w.name w.there; missing = missing-not rels w.name w.unknown }

  clause-lacks : (c : SaidClause) → In c p.clauses → clause_declared rels c ≡ false → Undeclared p
  clause-lacks c i e = head (and_cases (known rels c.name) (rests c) e)
    where
      goals : (goal_declared rels c.guard ≡ false) ⊎ (goal_declared rels c.body ≡ false) → Undeclared p
      goals (inl e) = from-lacks {P = λ x. Calls x c.guard} (λ x y. in_guard i y) (goal-lacks rels c.guard e)
      goals (inr e) = from-lacks {P = λ x. Calls x c.body} (λ x y. in_body i y) (goal-lacks rels c.body e)

      head : (known rels c.name ≡ false) ⊎ (rests c ≡ false) → Undeclared p
      head (inl e) = record { name = c.name; mentioned = as_head i refl; missing = missing-not rels c.name e }
      head (inr e) = goals (and_cases (goal_declared rels c.guard) (goal_declared rels c.body) e)

  pub declared-not : declared p ≡ false → Undeclared p
  unfolding declared
  declared-not e = go (and_cases (all_of (clause_declared rels) p.clauses) (goal_declared rels p.goal) e)
    where
      go : (all_of (clause_declared rels) p.clauses ≡ false) ⊎ (goal_declared rels p.goal ≡ false) → Undeclared p
      go (inl e) = let w = all-false (clause_declared rels) p.clauses e in clause-lacks w.item w.among w.fails
      go (inr e) = from-lacks {P = λ x. Calls x p.goal} (λ x y. in_goal y) (goal-lacks rels p.goal e)

  clauses-false : {c : SaidClause} → In c p.clauses → clause_declared rels c ≡ false → declared p ≡ false
  unfolding declared
  clauses-false i e = and_left (all_of (clause_declared rels) p.clauses) (goal_declared rels p.goal) (false-all (clause_declared rels) i e)

  mentions-false : {x : Name} → Mentions x p → known rels x ≡ false → declared p ≡ false
  mentions-false (as_head {c} i z) e = clauses-false i (and_left (known rels c.name) (rests c) (rw z e))
  mentions-false (in_guard {c} i y) e = clauses-false i (and_right (known rels c.name) (rests c) (and_left (goal_declared rels c.guard) (goal_declared rels c.body) (lacks-goal rels y e)))
  mentions-false (in_body {c} i y) e = clauses-false i (and_right (known rels c.name) (rests c) (and_right (goal_declared rels c.guard) (goal_declared rels c.body) (lacks-goal rels y e)))
  mentions-false (in_goal y) e = unfold declared in and_right (all_of (clause_declared rels) p.clauses) (goal_declared rels p.goal) (lacks-goal rels y e)

  -- THE LAW: the test finds it
  pub not-declared : Undeclared p → declared p ≡ false
  not-declared u = mentions-false u.mentioned (not-missing rels u.name u.missing)
