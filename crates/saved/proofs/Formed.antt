-- A saved run is read exactly where it is formed so, and refused exactly where one of its records is wrong.
use Rattle.std.specs.Prelude.{Err, Ok}
use Rattle.parlog.specs.Answer.{Answer}
use mathlib.Core.Path.{◌∙◌, ◌≡◌, refl, sym}
use mathlib.Core.Logic.{◌≢◌}
use mathlib.Core.Bool.{Bool, cond, false, not, true}
use mathlib.Core.List.{List}
use Prim.Native.Nat.{◌*◌, ◌+◌, ◌<◌, ◌≤◌, suc, zero, ℕ}
use lib.Dec.{eqb, ltb}
use lib.ListN.{length}
use borrow.Author.Tests.{eq-eqb, eqb-false, eqb-true, le-ltb, ne_eqb, not-false, not-true}
use native.Mathlib.Omega.{arith}
use Rattle.parlog.proofs.Bools.{and-true, never, split}
use Rattle.parlog.proofs.Walk.{walk-holds, whole}
use Rattle.parlog.specs.Load.{refusal}
use Rattle.parlog.specs.Records.{cut, kind_at, record_end, word_at}
use Rattle.parlog.specs.declared.Refusal.{Refusal}
use Rattle.saved.proofs.Faults.{begun, fault-form, fault-three, fault-two, Form, form_of, form-right, is-former, is-old, is_right, is-wrong, long-is, Passes, rule_is}
use Rattle.saved.proofs.Following.{kind_fits}
use Rattle.saved.proofs.Passing.{ends, goes, stops}
use Rattle.saved.specs.Form.{current_rule, former_length, head_kind, head_length, length_of, process_kind, process_length, variable_kind, variable_length}
use Rattle.saved.specs.Formed.{at_front, BadSaved, Behind, Formed, Former, Front, is_first, is_later, KindFits, LengthFits, no_record, one_more, RightAt, RuleFits, saved_body, saved_cut, saved_former, saved_kind, saved_rule, WholeAt}
use Rattle.saved.specs.Reading.{cut_at, former, form_fault, kind_wrong, length_wrong, nothing_seen, read_end, read_one, reads, read_saved, rule_at, rule_wrong, Seen, seen_with}

-- ---- the tests of a record, and the facts

pub whole-exactly : (x : List ℕ) (at : ℕ) → cut x at ≡ false → WholeAt x at
whole-exactly x at e = let w = whole x at e in record { begun = begun x at e; size = w.0; inside = w.1 }

pub whole-uncut : (x : List ℕ) (at : ℕ) → WholeAt x at → cut x at ≡ false
unfolding cut
whole-uncut x at w =
    let a : ltb (length x) (at + 4) ≡ false = le-ltb (length x) (at + 4) w.begun in
    let b : ltb (word_at x at) 4 ≡ false = le-ltb (word_at x at) 4 w.size in
    let d : ltb (length x) (record_end x at) ≡ false = le-ltb (length x) (record_end x at) w.inside in
    rw (a, b, d)

fits-kind : (before kind : ℕ) → KindFits before kind → kind_wrong before kind ≡ false
unfolding kind_wrong
fits-kind before kind (is_first e f) = rw (eq-eqb before 0 e, eq-eqb kind head_kind f)
fits-kind before kind (is_later n a b d) = rw (ne_eqb before 0 n, le-ltb kind process_kind a, le-ltb variable_kind kind b, le-ltb kind before d)

fits-length : (x : List ℕ) (at : ℕ) → LengthFits x at → length_wrong x at ≡ false
unfolding length_wrong
fits-length x at e = rw (eq-eqb (word_at x at) (length_of (kind_at x at)) e)

right-length : (x : List ℕ) (at : ℕ) → length_wrong x at ≡ false → LengthFits x at
unfolding length_wrong
right-length x at e = eqb-true (word_at x at) (length_of (kind_at x at)) (not-false (eqb (word_at x at) (length_of (kind_at x at))) e)

former-exactly : (x : List ℕ) (at : ℕ) → former x at ≡ true → Former x at
unfolding former
former-exactly x at e =
    let a = and-true (eqb (kind_at x at) head_kind) (eqb (word_at x at) former_length) e in
    record { kind = eqb-true (kind_at x at) head_kind a.0; size = eqb-true (word_at x at) former_length a.1 }

is-former-so : (x : List ℕ) (at : ℕ) → Former x at → former x at ≡ true
unfolding former
is-former-so x at f = rw (eq-eqb (kind_at x at) head_kind f.kind, eq-eqb (word_at x at) former_length f.size)

not-former : (x : List ℕ) (at : ℕ) → (Former x at → ⊥) → former x at ≡ false
not-former x at n = split (former x at) (λ e. absurd (n (former-exactly x at e))) (λ e. e)

-- a record of its kind's length is not in a former one
long-unformer : (x : List ℕ) (at : ℕ) → LengthFits x at → Former x at → ⊥
long-unformer x at e f = let z : 16 ≡ length_of 16 = sym f.size ∙ e ∙ rw f.kind in omega arith

fits-rule : (x : List ℕ) (at : ℕ) → RuleFits x at → rule_wrong x at ≡ false
unfolding rule_wrong
fits-rule x at f = split (eqb (kind_at x at) head_kind)
    (λ e. rw (e, eq-eqb (rule_at x at) current_rule (f (eqb-true (kind_at x at) head_kind e))))
    (λ e. rw e)

rule-head : (x : List ℕ) (at : ℕ) → rule_wrong x at ≡ true → (kind_at x at ≡ head_kind) × (rule_at x at ≢ current_rule)
unfolding rule_wrong
rule-head x at e =
    let a = and-true (eqb (kind_at x at) head_kind) (not (eqb (rule_at x at) current_rule)) e in
    (eqb-true (kind_at x at) head_kind a.0, eqb-false (rule_at x at) current_rule (not-true (eqb (rule_at x at) current_rule) a.1))

head-rule : (x : List ℕ) (at : ℕ) → kind_at x at ≡ head_kind → rule_at x at ≢ current_rule → rule_wrong x at ≡ true
unfolding rule_wrong
head-rule x at e n = rw (eq-eqb (kind_at x at) head_kind e, ne_eqb (rule_at x at) current_rule n)

-- ---- the number of a form

form-is-right : (x : List ℕ) (at : ℕ) → former x at ≡ false → length_wrong x at ≡ false → rule_wrong x at ≡ false → form_fault x at ≡ 0
unfolding form_fault
form-is-right x at a b d = rw (a, b, d)

form-is-old : (x : List ℕ) (at : ℕ) → former x at ≡ false → length_wrong x at ≡ false → rule_wrong x at ≡ true → 18 ≡ form_fault x at
unfolding form_fault
form-is-old x at a b d = rw (a, b, d)

form-is-wrong : (x : List ℕ) (at : ℕ) → former x at ≡ false → length_wrong x at ≡ true → 4 ≡ form_fault x at
unfolding form_fault
form-is-wrong x at a b = rw (a, b)

form-is-former : (x : List ℕ) (at : ℕ) → former x at ≡ true → 18 ≡ form_fault x at
unfolding form_fault
form-is-former x at a = rw a

module _ (x : List ℕ) (before at : ℕ) where
  right-passes : RightAt x before at → Passes x before at
  right-passes r = record {
    uncut = whole-uncut x at r.whole;
    kind = fits-kind before (kind_at x at) r.kind;
    form = form-is-right x at (not-former x at (long-unformer x at r.length_fits)) (fits-length x at r.length_fits) (fits-rule x at r.rule_fits);
  }

  passes-right : Passes x before at → RightAt x before at
  passes-right p = record {
    whole = whole-exactly x at p.uncut;
    kind = kind_fits before (kind_at x at) p.kind;
    length_fits = long-is x at p.form;
    rule_fits = rule_is x at (form-right x at (form_fault x at) p.form (form_of x at)).rule;
  }

-- ---- from the facts to the refusal

record Known (x : List ℕ) (at kind : ℕ) : Type 0 where
  known : Seen
  kind_is : known.kind ≡ kind
  same : read_saved x ≡ reads x (length x) at known

behind-known : (x : List ℕ) {at kind : ℕ} → Behind x at kind → Known x at kind
unfolding read_saved
behind-known x at_front = record { known = nothing_seen; kind_is = refl; same = refl }
behind-known x (one_more {at} {before} b r) =
    let k = behind-known x b in
    let p : Passes x k.known.kind at = rw k.kind_is (right-passes x before at r) in
    let f = r.whole.begun in
    record { known = seen_with k.known (kind_at x at); kind_is = refl; same = k.same ∙ goes x at k.known (omega arith) p }

-- the form of the first record
first-form : (x : List ℕ) → 0 < length x → WholeAt x 0 → kind_at x 0 ≡ head_kind → {n : ℕ} → n ≡ form_fault x 0 → (n ≡ 0 → ⊥) → read_saved x ≡ Err (refusal n 0)
unfolding read_saved
first-form x h w k en some =
    stops x 0 nothing_seen h (fault-form x 0 0 refl (whole-uncut x 0 w) refl refl (fits-kind 0 (kind_at x 0) (is_first refl k)) en) some

pub bad-read : (x : List ℕ) {n o : ℕ} → BadSaved x n o → read_saved x ≡ Err (refusal n o)
bad-read x (no_record e) = unfold read_saved in (ends x 0 nothing_seen (omega arith))
bad-read x (saved_cut {at} {before} b h w) =
    let k = behind-known x b in
    let q : cut x at ≡ true = split (cut x at) (λ e. e) (λ e. absurd (w (whole-exactly x at e))) in
    k.same ∙ stops x at k.known h (fault-two x k.known.kind at refl q) (λ z. omega arith)
bad-read x (saved_kind {at} {before} b h w n) =
    let k = behind-known x b in
    let q : kind_wrong k.known.kind (kind_at x at) ≡ true = rw k.kind_is (split (kind_wrong before (kind_at x at)) (λ e. e) (λ e. absurd (n (kind_fits before (kind_at x at) e)))) in
    k.same ∙ stops x at k.known h (fault-three x k.known.kind at refl (whole-uncut x at w) refl refl q) (λ z. omega arith)
bad-read x (saved_former h w f) = first-form x h w f.kind (form-is-former x 0 (is-former-so x 0 f)) (λ z. omega arith)
bad-read x (saved_body {at} {before} b h w f a n) =
    let k = behind-known x b in
    let q : kind_wrong k.known.kind (kind_at x at) ≡ false = rw k.kind_is (fits-kind before (kind_at x at) f) in
    let v : length_wrong x at ≡ true = split (length_wrong x at) (λ e. e) (λ e. absurd (n (right-length x at e))) in
    k.same ∙ stops x at k.known h (fault-form x k.known.kind at refl (whole-uncut x at w) refl refl q (form-is-wrong x at (not-former x at a) v)) (λ z. omega arith)
bad-read x (saved_rule h w k e n) = first-form x h w k (form-is-old x 0 (not-former x 0 (long-unformer x 0 e)) (fits-length x 0 e) (head-rule x 0 k n)) (λ z. omega arith)

-- ---- from the records to the facts

-- what the records before a place are
record Passed (x : List ℕ) (at : ℕ) (g : Seen) : Type 0 where
  some : head_kind ≤ g.kind
  most : g.kind ≤ variable_kind
  place : at ≡ head_length + g.procs * process_length + g.vars * variable_length
  inside : at ≤ length x
  no-vars : g.kind ≤ process_kind → g.vars ≡ 0
  head : Front x 0 head_length head_kind
  rule : rule_at x 0 ≡ current_rule
  procs : (i : ℕ) → i < g.procs → Front x (head_length + i * process_length) process_length process_kind
  vars : (v : ℕ) → v < g.vars → Front x (head_length + g.procs * process_length + v * variable_length) variable_length variable_kind

data Prefix (x : List ℕ) (at : ℕ) (g : Seen) : Type 0 where
  nothing_yet : at ≡ 0 → g.kind ≡ 0 → g.procs ≡ 0 → g.vars ≡ 0 → Prefix x at g
  some-yet : Passed x at g → Prefix x at g

front_at : {x : List ℕ} {a b size kind : ℕ} → a ≡ b → Front x a size kind → Front x b size kind
front_at e f = rw (← e) f

module _ (x : List ℕ) where
  after_first : (p : ℕ) (t : Seen) → t.kind ≡ 16 → t.procs ≡ 0 → t.vars ≡ 0 → p ≡ 18 → p ≤ length x → Front x 0 18 16 → rule_at x 0 ≡ 2 → Passed x p t
  after_first p t k n m e h f y = record {
    some = omega arith;
    most = omega arith;
    place = omega arith;
    inside = h;
    no-vars = λ u. m;
    head = f;
    rule = y;
    procs = λ i u. absurd (omega arith);
    vars = λ v u. absurd (omega arith);
  }

  module _ (at : ℕ) (g : Seen) (P : Passed x at g) (p : ℕ) (inside : p ≤ length x) (t : Seen) where
    after-process : g.kind ≤ 17 → t.kind ≡ 17 → t.procs ≡ g.procs + 1 → t.vars ≡ g.vars → p ≡ at + 28 → Front x at 28 17 → Passed x p t
    after-process u k n m e f =
        let z = P.no-vars u in
        let q = P.place in
        record {
          some = omega arith;
          most = omega arith;
          place = omega arith;
          inside = inside;
          no-vars = λ w. omega arith;
          head = P.head;
          rule = P.rule;
          procs = λ i h. split (eqb i g.procs)
              (λ y. let w : i ≡ g.procs = eqb-true i g.procs y in front_at (omega arith) f)
              (λ y. let w : i ≡ g.procs → ⊥ = eqb-false i g.procs y in P.procs i (omega (arith, w)));
          vars = λ v h. absurd (omega arith);
        }

    after-variable : t.kind ≡ 18 → t.procs ≡ g.procs → t.vars ≡ g.vars + 1 → p ≡ at + 8 → Front x at 8 18 → Passed x p t
    after-variable k n m e f =
        let q = P.place in
        record {
          some = omega arith;
          most = omega arith;
          place = omega arith;
          inside = inside;
          no-vars = λ w. absurd (omega arith);
          head = P.head;
          rule = P.rule;
          procs = λ i h. P.procs i (omega arith);
          vars = λ v h. split (eqb v g.vars)
              (λ y. let w : v ≡ g.vars = eqb-true v g.vars y in front_at (omega arith) f)
              (λ y. let w : v ≡ g.vars → ⊥ = eqb-false v g.vars y in front_at (omega arith) (P.vars v (omega (arith, w))));
        }

  -- a right record more
  next : (at : ℕ) (g : Seen) → Prefix x at g → RightAt x g.kind at → Passed x (record_end x at) (seen_with g (kind_at x at))
  next at g P r = go P r.kind
    where
      long : (k z : ℕ) → kind_at x at ≡ k → length_of k ≡ z → word_at x at ≡ z
      long k z e f = r.length_fits ∙ rw e f

      go : Prefix x at g → KindFits g.kind (kind_at x at) → Passed x (record_end x at) (seen_with g (kind_at x at))
      go (nothing_yet a k n m) (is_later z lo hi up) = absurd (z k)
      go (nothing_yet a k n m) (is_first z q) =
          let w = long 16 18 q refl in
          after_first (record_end x at) (seen_with g (kind_at x at)) q (rw q n) (rw q m) (omega arith) r.whole.inside (front_at a (record { size_is = w; kind_is = q })) (rw a at (r.rule_fits q))
      go (some-yet Q) (is_first z q) = let s = Q.some in absurd (omega arith)
      go (some-yet Q) (is_later z lo hi up) = split (eqb (kind_at x at) 17)
          (λ y. let q : kind_at x at ≡ 17 = eqb-true (kind_at x at) 17 y in
          let w = long 17 28 q refl in
          after-process at g Q (record_end x at) r.whole.inside (seen_with g (kind_at x at)) (omega arith) q (rw q) (rw q) (omega arith) (record { size_is = w; kind_is = q }))
          (λ y. let u : kind_at x at ≡ 17 → ⊥ = eqb-false (kind_at x at) 17 y in
          let q : kind_at x at ≡ 18 = omega (arith, u) in
          let w = long 18 8 q refl in
          after-variable at g Q (record_end x at) r.whole.inside (seen_with g (kind_at x at)) q (rw q) (rw q) (omega arith) (record { size_is = w; kind_is = q }))

  abbrev Told : Answer (ℕ × ℕ) → Type 0
  Told (Ok (a, b)) = Formed x a b
  Told (Err f) = BadSaved x f.number f.offset

  record Here (at : ℕ) (g : Seen) : Type 0 where
    behind : Behind x at g.kind
    before : Prefix x at g

  -- the head's record is the first
  first_of : (at : ℕ) (g : Seen) → Prefix x at g → KindFits g.kind (kind_at x at) → kind_at x at ≡ head_kind → at ≡ 0
  first_of at g (nothing_yet a k n m) f q = a
  first_of at g (some-yet P) (is_first z y) q = let s = P.some in absurd (omega arith)
  first_of at g (some-yet P) (is_later z lo hi up) q = absurd (omega arith)

  refused : (at : ℕ) (g : Seen) → Here at g → at < length x → cut x at ≡ false → kind_wrong g.kind (kind_at x at) ≡ false → (n : ℕ) → (n ≡ 0 → ⊥) → Form x at n → BadSaved x n at
  refused at g h more e eb n some (is-former a) =
      let f = former-exactly x at a in
      let z = first_of at g h.before (kind_fits g.kind (kind_at x at) eb) f.kind in
      rw z (saved_former (rw z at more) (rw z at (whole-exactly x at e)) (rw z at f))
  refused at g h more e eb n some (is-wrong a b) =
      saved_body h.behind more (whole-exactly x at e) (kind_fits g.kind (kind_at x at) eb) (λ f. never (sym a ∙ is-former-so x at f)) (λ f. never (sym (fits-length x at f) ∙ b))
  refused at g h more e eb n some (is-old a b d) =
      let k = rule-head x at d in
      let z = first_of at g h.before (kind_fits g.kind (kind_at x at) eb) k.0 in
      rw z (saved_rule (rw z at more) (rw z at (whole-exactly x at e)) (rw z at k.0) (rw z at (right-length x at b)) (rw z at k.1))
  refused at g h more e eb n some (is_right a b d) = absurd (some refl)

  told-one : (at : ℕ) (g : Seen) → Here at g → at < length x → cut x at ≡ false → (rest : Seen → Answer (ℕ × ℕ)) → ((t : Seen) → Here (record_end x at) t → Told (rest t)) → Told (read_one x rest at g)
  told-one at g h more e rest on = go (kind_wrong g.kind (kind_at x at)) refl
    where
      form : kind_wrong g.kind (kind_at x at) ≡ false → (b : Bool) → eqb (form_fault x at) 0 ≡ b → Told (cond b (rest (seen_with g (kind_at x at))) (Err (refusal (form_fault x at) at)))
      form eb true y =
          let r = passes-right x g.kind at (record { uncut = e; kind = eb; form = eqb-true (form_fault x at) 0 y }) in
          on (seen_with g (kind_at x at)) (record { behind = one_more h.behind r; before = some-yet (next at g h.before r) })
      form eb false y = refused at g h more e eb (form_fault x at) (eqb-false (form_fault x at) 0 y) (form_of x at)

      go : (b : Bool) → kind_wrong g.kind (kind_at x at) ≡ b
          → Told (cond b (Err (refusal 3 at)) (cond (eqb (form_fault x at) 0) (rest (seen_with g (kind_at x at))) (Err (refusal (form_fault x at) at))))
      go true eb = saved_kind h.behind more (whole-exactly x at e) (λ f. never (sym (fits-kind g.kind (kind_at x at) f) ∙ eb))
      go false eb = form eb (eqb (form_fault x at) 0) refl

  told-end : (at : ℕ) (g : Seen) → Here at g → length x ≤ at → Told (read_end g)
  told-end at g h past = go h.before
    where
      go : Prefix x at g → Told (read_end g)
      go (nothing_yet a k n m) = rw (eq-eqb g.kind 0 k) (no_record (omega arith))
      go (some-yet P) =
          let s = P.some in
          let q = P.place in
          let i = P.inside in
          rw (ne_eqb g.kind 0 (λ z. omega arith)) (record { size = omega arith; head = P.head; rule = P.rule; procs = P.procs; vars = P.vars })

  -- THE LAW: what is read is formed so, and what is refused has a record that is wrong
  pub told : Told (read_saved x)
  unfolding read_saved
  told = walk-holds x cut_at (read_one x) read_end Here Told
      (λ at g h more e. saved_cut h.behind more (λ w. never (sym (whole-uncut x at w) ∙ e)))
      told-one
      told-end
      (length x)
      0
      nothing_seen
      (omega arith)
      (record { behind = at_front; before = nothing_yet refl refl refl refl })

  pub read-formed : {a b : ℕ} → read_saved x ≡ Ok (a, b) → Formed x a b
  read-formed e = rw e at told

  pub read-bad : {f : Refusal} → read_saved x ≡ Err f → BadSaved x f.number f.offset
  read-bad e = rw e at told

-- ---- from the form to the reading

module _ (x : List ℕ) (a b : ℕ) (F : Formed x a b) where
  step : (at z k : ℕ) (g : Seen) → Front x at z k → z ≡ length_of k → 4 ≤ z → at + z ≤ length x → KindFits g.kind k → (k ≡ head_kind → rule_at x at ≡ current_rule) → reads x (length x) at g ≡ reads x (length x) (at + z) (seen_with g k)
  step at z k g f e lo hi q y =
      let w = f.size_is in
      let r : RightAt x g.kind at = record {
        whole = record { begun = omega arith; size = omega arith; inside = omega arith };
        kind = rw f.kind_is q;
        length_fits = w ∙ e ∙ sym (rw f.kind_is);
        rule_fits = λ i. y (sym f.kind_is ∙ i);
      } in
      goes x at g (omega arith) (right-passes x g.kind at r) ∙ rw (f.size_is, f.kind_is)

  abbrev seen : ℕ → ℕ → ℕ → Seen
  seen q n m = record { kind = q; procs = n; vars = m }

  vars-through : (n v : ℕ) → v + n ≡ b → (q : ℕ) → 16 ≤ q → q ≤ 18 → reads x (length x) (18 + a * 28 + v * 8) (seen q a v) ≡ Ok (a, b)
  vars-through zero v e q lo hi =
      let s = F.size in
      let same : v ≡ b = omega arith in
      ends x (18 + a * 28 + v * 8) (seen q a v) (omega arith) ∙ rw (ne_eqb q 0 (λ z. omega arith), same)
  vars-through (suc n) v e q lo hi =
      let s = F.size in
      let p : 18 + a * 28 + v * 8 + 8 ≡ 18 + a * 28 + (v + 1) * 8 = omega arith in
      step (18 + a * 28 + v * 8) 8 18 (seen q a v) (F.vars v (omega arith)) refl (omega arith) (omega arith) (is_later (λ z. omega arith) (omega arith) (omega arith) (omega arith)) (λ z. absurd (omega arith))
      ∙ rw p (vars-through n (v + 1) (omega arith) 18 (omega arith) (omega arith))

  procs-through : (n i : ℕ) → i + n ≡ a → (q : ℕ) → 16 ≤ q → q ≤ 17 → reads x (length x) (18 + i * 28) (seen q i 0) ≡ Ok (a, b)
  procs-through zero i e q lo hi =
      let same : i ≡ a = omega arith in
      let p : 18 + a * 28 ≡ 18 + a * 28 + 0 * 8 = omega arith in
      rw (same, p) (vars-through b 0 (omega arith) q lo (omega arith))
  procs-through (suc n) i e q lo hi =
      let s = F.size in
      let p : 18 + i * 28 + 28 ≡ 18 + (i + 1) * 28 = omega arith in
      step (18 + i * 28) 28 17 (seen q i 0) (F.procs i (omega arith)) refl (omega arith) (omega arith) (is_later (λ z. omega arith) (omega arith) (omega arith) (omega arith)) (λ z. absurd (omega arith))
      ∙ rw p (procs-through n (i + 1) (omega arith) 17 (omega arith) (omega arith))

  -- THE LAW: what is formed so is read
  pub formed-read : read_saved x ≡ Ok (a, b)
  unfolding read_saved
  formed-read =
      let s = F.size in
      let p : 0 + 18 ≡ 18 + 0 * 28 = omega arith in
      step 0 18 16 nothing_seen F.head refl (omega arith) (omega arith) (is_first refl refl) (λ z. F.rule) ∙ rw p (procs-through a 0 (omega arith) 16 (omega arith) (omega arith))
