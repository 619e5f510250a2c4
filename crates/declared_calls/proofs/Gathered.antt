-- The names of mode lines gathered in a table, one line after the other.
use mathlib.Core.Path.{◌∙◌, ◌≡◌, ap, refl, sym}
use mathlib.Core.Bool.{◌||◌, Bool, false, not, or_assoc, true}
use mathlib.Core.List.{[], ◌++◌, ◌∷◌, List}
use Prim.Native.Nat.{◌<◌, ◌≤◌, ℕ}
use lib.Dec.{leb}
use lib.ListN.{drop, length, length-append, take}
use lib.Seq.{take_all, take-append-le}
use borrow.Author.Tests.{leb-false, leb-true, ltb-false, not-false}
use native.Mathlib.Omega.{arith}
use Rattle.declared_calls.specs.Declares.{Names}
use Rattle.declared_calls.specs.declared.Named.{Named}
use Rattle.missing_call.specs.Least.{in_class, of_class}
use Rattle.name_index.specs.Index.{AddsOne, chain_of, Indexed}
use Rattle.name_index.specs.declared.Added.{Added}
use Rattle.parlog.proofs.Bools.{never, not_so, split}
use Rattle.read_names.proofs.Short.{lines_more}
use Rattle.read_names.proofs.Tabled.{names_fit}
use Rattle.read_names.specs.Tables.{mode_names, modes_from, names_at}
use Rattle.text_names.proofs.Looked.{known-again, known-cons, known-last, look-most, same-is}
use Rattle.text_names.specs.Names.{add, adds, known, look, Name, same_name}
use Rattle.text_program.specs.Source.{Got, is_mode_line, lines, ModeLine, read_mode_line}

-- ---- a name more, as long as there is room for c names

module _ (ts us : List Name) (x : Name) (room k c : ℕ) (fit : length ts ≤ room) (told : us ≡ take room (adds ts (x ∷ []))) (found : k ≡ look ts x) (size : length us ≡ c) where
  was-known : known ts x ≡ true → us ≡ ts
  unfolding adds add
  was-known e = told ∙ rw e (take_all room ts fit)

  was-new : known ts x ≡ false → us ≡ take room (ts ++ (x ∷ []))
  unfolding adds add
  was-new e = told ∙ rw e refl

  new-number : known ts x ≡ false → k ≡ length ts
  new-number e = let h = ltb-false (look ts x) (length ts) e in let i = look-most ts x in omega arith

  no_room : room ≤ length ts → known ts x ≡ false → us ≡ ts
  no_room h e = was-new e ∙ take-append-le room ts (x ∷ []) h ∙ take_all room ts fit

  some-room : length ts < room → known ts x ≡ false → us ≡ ts ++ (x ∷ [])
  some-room h e = let l = length-append ts (x ∷ []) in was-new e ∙ take_all room (ts ++ (x ∷ [])) (omega arith)

  -- there was none
  added_full : k ≡ c → us ≡ ts
  added_full h = split (known ts x) was-known (λ e. go e (leb room (length ts)) refl)
    where
      go : known ts x ≡ false → (b : Bool) → leb room (length ts) ≡ b → us ≡ ts
      go e true f = no_room (leb-true room (length ts) f) e
      go e false f =
          let a = ap length (some-room (leb-false room (length ts) f) e) in
          let l = length-append ts (x ∷ []) in
          let n = new-number e in
          absurd (omega arith)

  -- there was some, or it was not wanted
  added-one : (k ≡ c → ⊥) → (z : Name) → known us z ≡ (known ts z || same_name x z)
  added-one h z = split (known ts x) (λ e. rw (was-known e) (known-again ts x z e)) (λ e. go e (leb room (length ts)) refl)
    where
      go : known ts x ≡ false → (b : Bool) → leb room (length ts) ≡ b → known us z ≡ (known ts z || same_name x z)
      go e true f =
          let a = ap length (no_room (leb-true room (length ts) f) e) in
          let n = new-number e in
          absurd (h (omega arith))
      go e false f = rw (some-room (leb-false room (length ts) f) e) (known-last ts x z)

-- ---- the walk over mode lines

-- n names of class k are in the table, and the walk is at p
abbrev pub Gathered : List ℕ → List ℕ → ℕ → ℕ → List ℕ → List ℕ → ℕ → ℕ → Type 0
Gathered s t m k u l n p = Names s t m k u l (record { from = m; class = k; count = n; rest = p })

pub gather-start : (s t l : List ℕ) (m k : ℕ) → m ≤ length s → Indexed s t l 0 → Gathered s t m k t l 0 m
unfolding names_at look
gather-start s t l m k h i = record { declares = record { index = i; names = λ x c. refl; inside = h }; from = refl; class = refl; behind = refl; size = refl }

-- a line at p, of the name x, which ends at e
module _ (s : List ℕ) (p : ℕ) (x : Name) (b : Bool) (e : ℕ) (is : b ≡ is_mode_line (drop p s)) (line : not b ≡ false) (name : x ≡ (read_mode_line (drop p s)).value.name) (end : drop e s ≡ (read_mode_line (drop p s)).rest) where
  line_known : (z : Name) → known (mode_names (modes_from s p)) z ≡ (same_name x z || known (mode_names (modes_from s e)) z)
  line_known z =
      ap (λ (g : Got (List ModeLine)). known (mode_names g.value) z) (lines_more s p b is e (not-false b line) end)
      ∙ known-cons (read_mode_line (drop p s)).value.name (mode_names (modes_from s e)) z ∙ ap (λ (y : Name). same_name y z || known (mode_names (modes_from s e)) z) (sym name)

  line-rest : (lines is_mode_line read_mode_line (drop e s)).rest ≡ (lines is_mode_line read_mode_line (drop p s)).rest
  line-rest = sym (ap (λ (g : Got (List ModeLine)). g.rest) (lines_more s p b is e (not-false b line) end))

  -- a name of another class is passed over
  pub gather-skip : {t u l : List ℕ} {m k n : ℕ} → Gathered s t m k u l n p → (c : Bool) (h : ℕ) → h ≡ chain_of x → c ≡ in_class k h → c ≡ false → e ≤ length s → Gathered s t m k u l n e
  gather-skip {u = u} {m = m} {k = k} {n = n} here c h chain class out inside = record {
    declares = record { index = here.declares.index; names = now; inside = inside };
    from = refl;
    class = refl;
    behind = line-rest ∙ here.behind;
    size = here.size;
  }
    where
      other : (z : Name) → of_class k z ≡ true → same_name x z ≡ false
      other z c = not_so (same_name x z) (λ h. never (sym out ∙ class ∙ ap (in_class k) chain ∙ ap (of_class k) (same-is x z h) ∙ c))

      now : (z : Name) → of_class k z ≡ true → known (mode_names (modes_from s m)) z ≡ (known (names_at s (take n u)) z || known (mode_names (modes_from s e)) z)
      now z c =
          here.declares.names z c ∙ ap (λ (d : Bool). known (names_at s (take n u)) z || d) (line_known z)
          ∙ ap (λ (d : Bool). known (names_at s (take n u)) z || (d || known (mode_names (modes_from s e)) z)) (other z c)

module _ {s t u l v h : List ℕ} {m k n p : ℕ} (here : Gathered s t m k u l n p) (x : Name) {r : Added} (one : AddsOne s u l n x v h r) where
  fit-before : length (names_at s (take n u)) ≡ n
  fit-before = names_fit s u n here.declares.index.inside

  fit-after : length (names_at s (take r.count v)) ≡ r.count
  fit-after = names_fit s v r.count one.adds.inside

  fits : length (names_at s (take n u)) ≤ length u
  fits = let a = fit-before in let b = here.declares.index.inside in omega arith

  -- no room for the name
  pub gather-full : r.number ≡ r.count → Gathered s t m k v h r.count p
  gather-full e =
      let same = added_full (names_at s (take n u)) (names_at s (take r.count v)) x (length u) r.number r.count fits one.adds.names one.number fit-after e in
      record {
        declares = record { index = one.index; names = λ z c. here.declares.names z c ∙ ap (λ (ys : List Name). known ys z || known (mode_names (modes_from s p)) z) (sym same); inside = here.declares.inside };
        from = refl;
        class = refl;
        behind = here.behind;
        size = one.adds.size ∙ here.size;
      }

  -- a line more
  pub gather-on : (b : Bool) (e : ℕ) → b ≡ is_mode_line (drop p s) → not b ≡ false → x ≡ (read_mode_line (drop p s)).value.name → (r.number ≡ r.count → ⊥) → drop e s ≡ (read_mode_line (drop p s)).rest → e ≤ length s →
      Gathered s t m k v h r.count e
  gather-on b e is line name some end inside = record {
    declares = record { index = one.index; names = now; inside = inside };
    from = refl;
    class = refl;
    behind = line-rest s p x b e is line name end ∙ here.behind;
    size = one.adds.size ∙ here.size;
  }
    where
      now : (z : Name) → of_class k z ≡ true → known (mode_names (modes_from s m)) z ≡ (known (names_at s (take r.count v)) z || known (mode_names (modes_from s e)) z)
      now z c =
          here.declares.names z c ∙ ap (λ (d : Bool). known (names_at s (take n u)) z || d) (line_known s p x b e is line name end z)
          ∙ sym (or_assoc (known (names_at s (take n u)) z) (same_name x z) (known (mode_names (modes_from s e)) z))
          ∙ ap (λ (d : Bool). d || known (mode_names (modes_from s e)) z)
          (sym (added-one (names_at s (take n u)) (names_at s (take r.count v)) x (length u) r.number r.count fits one.adds.names one.number fit-after some z))

-- where two ways meet
pub gather-same : {s t u l v h : List ℕ} {m k n c e : ℕ} → u ≡ v → l ≡ h → n ≡ c → Gathered s t m k v h c e → Gathered s t m k u l n e
gather-same a b d g = rw (a, b, d) g

-- the row of chains is as long as at first
pub links-kept : {s t u l h : List ℕ} {m k c : ℕ} {r : Named} → Names s t m k u l r → Indexed s t h c → length l ≡ length h
links-kept here first = let a = here.declares.index.size in let b = first.size in let d = here.size in omega arith
