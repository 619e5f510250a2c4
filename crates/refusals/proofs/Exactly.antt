-- Refusals 1 to 7: an image is accepted exactly where it is right, and refused with a number and an offset exactly where the relation has these.
use Rattle.std.specs.Prelude.{Err, Ok}
use Rattle.parlog.specs.Answer.{Answer}
use mathlib.Core.Path.{◌∙◌, ◌≡◌, ap, refl, subst, sym}
use mathlib.Core.Logic.{◌↔◌, ◌≢◌}
use mathlib.Core.Bool.{false, not, true}
use mathlib.Core.List.{List}
use Prim.Native.Nat.{◌<◌, ◌≤◌, suc, zero, ℕ}
use lib.Dec.{eqb, ltb}
use lib.ListN.{length}
use borrow.Author.Tests.{eq-eqb, eqb-false, eqb-true, le-ltb, lt-ltb, ltb-false, ltb-true, ne_eqb, not-false}
use native.Mathlib.Omega.{arith}
use Rattle.load.proofs.Turn.{ends, stops}
use Rattle.load.specs.Fields.{record_verdict}
use Rattle.parlog.proofs.Bools.{split}
use Rattle.parlog.proofs.Scans.{below_suc}
use Rattle.parlog.proofs.Walk.{walk-holds}
use Rattle.parlog.specs.Body.{body_right}
use Rattle.parlog.specs.Load.{after, block_full, broken, judged, kind_fault, load_end, load_of, long, nothing_read, progressed, records, refusal, too_many, verdict}
use Rattle.parlog.specs.Names.{names_right}
use Rattle.parlog.specs.Records.{cut, record_at, record_end}
use Rattle.parlog.specs.Scan.{along}
use Rattle.parlog.specs.declared.Progress.{Progress}
use Rattle.parlog.specs.declared.Refusal.{Refusal}
use Rattle.refusals.proofs.Before.{Before, block-right, few-right, kind-right, names-right, whole-record}
use Rattle.refusals.proofs.Fields.{body-fits}
use Rattle.refusals.proofs.Tests.{refuted, refutes}
use Rattle.refusals.proofs.Walked.{before_next, body-not, cut-not, kind-not, Known-before, known-before, many-not, names-not, next_place, nothing-before}
use Rattle.refusals.specs.Refused.{Comes, is_cut, ninth_of_block, no_goal, one_too_many, refused_image, RefusedAt, right_image, RightOrRefused, too_long, wrong_body, wrong_kind, wrong_name}
use Rattle.refusals.specs.Right.{record_kind, RightImage, RightRecord}

module _ (s : List ℕ) where
  short-load : length s ≤ 32768 → load_of s ≡ records s (length s) 0 nothing_read
  unfolding load_of long
  short-load h = rw (le-ltb 32768 (length s) h)

  -- ---- from the relation to the load

  stopped : (k j : ℕ) → Comes s k → (i : Known-before s k) → record_verdict s i.known (record_at s k) ≡ Err j → load_of s ≡ Err (refusal j (record_at s k))
  stopped k j c i v = short-load c.short ∙ i.same ∙ stops s i.known (record_at s k) j c.more v

  load-refused : {n o : ℕ} → RefusedAt s n o → load_of s ≡ Err (refusal n o)
  unfolding load_of long verdict
  load-refused (too_long h) = rw (lt-ltb 32768 (length s) h)
  load-refused (is_cut {k} c w) =
      let i = known-before s k c.before in
      stopped k 2 c i (rw (not-false (cut s (record_at s k)) (refutes (not (cut s (record_at s k))) (whole-record s k) w)))
  load-refused (wrong_kind {k} c w q) =
      let i = known-before s k c.before in
      let g = i.known in
      stopped k 3 c i (rw (cut-not s k g i.before w, not-false (kind_fault g (record_kind s k)) (refutes (not (kind_fault g (record_kind s k))) (kind-right s k g i.before) q)))
  load-refused (one_too_many {k} c w q f) =
      let i = known-before s k c.before in
      let g = i.known in
      stopped k 6 c i
      (rw (cut-not s k g i.before w, kind-not s k g i.before q, not-false (too_many g (record_kind s k)) (refutes (not (too_many g (record_kind s k))) (few-right s k g i.before) f)))
  load-refused (wrong_body {k} c w q f b) =
      let i = known-before s k c.before in
      let g = i.known in
      stopped k 4 c i
      (rw (cut-not s k g i.before w, kind-not s k g i.before q, many-not s k g i.before f, refutes (body_right s (record_at s k) (record_kind s k)) (body-fits s k q) b))
  load-refused (wrong_name {k} c w q f b n) =
      let i = known-before s k c.before in
      let g = i.known in
      let e = body-not s k g i.before q b in
      stopped k 5 c i
      (rw (cut-not s k g i.before w, kind-not s k g i.before q, many-not s k g i.before f, e, refutes (names_right s g (record_at s k) (record_kind s k)) (names-right s k g i.before q e) n))
  load-refused (ninth_of_block {k} c w q f b n h) =
      let i = known-before s k c.before in
      let g = i.known in
      stopped k 6 c i
      (rw (
        cut-not s k g i.before w,
        kind-not s k g i.before q,
        many-not s k g i.before f,
        body-not s k g i.before q b,
        names-not s k g i.before q b n,
        (block-right s k g i.before q).1 h,
      ))
  load-refused (no_goal {k} h f e n) =
      let i = known-before s k f in
      let B = i.before in
      short-load h ∙ i.same ∙ ends s i.known (record_at s k) (omega arith) ∙ rw (ne_eqb i.known.kind 3 (ungoal k i.known B n))
    where
      ungoal : (k : ℕ) (g : Progress) → Before s k g → ((j : ℕ) → j < k → record_kind s j ≢ 3) → g.kind ≢ 3
      ungoal zero g B n z = let y = B.none refl in omega arith
      ungoal (suc j) g B n z = n j (omega arith) (sym (B.kind j refl) ∙ z)

  goal-last : (n : ℕ) (g : Progress) → Before s n g → ((k : ℕ) → k < n → RightRecord s k) → (j : ℕ) → j < n → record_kind s j ≡ 3 → g.kind ≡ 3
  goal-last zero g B f j h q = absurd (omega arith)
  goal-last (suc m) g B f j h q =
      let a = B.highest j h in
      let b = B.kind m refl in
      let c = (f m (omega arith)).kind.most in
      omega arith

  load-accepted : {r c : ℕ} → RightImage s r c → load_of s ≡ Ok (r, c)
  load-accepted {r} {c} a =
      let i = known-before s a.count a.right in
      let g = i.known in
      let e = a.ends in
      let q = goal-last a.count g i.before a.right a.goal a.there a.asks in
      let x : g.relations ≡ r = i.before.relations ∙ a.relations in
      let y : g.clauses ≡ c = i.before.clauses ∙ a.clauses in
      short-load a.short ∙ i.same ∙ ends s g (record_at s a.count) (omega arith) ∙ rw (eq-eqb g.kind 3 q, x, y)

  -- ---- from the load to the relation

  abbrev Told : Answer (ℕ × ℕ) → Type 0
  Told (Ok (r, c)) = RightImage s r c
  Told (Err f) = RefusedAt s f.number f.offset

  -- the walk stands before record k, and all before it are right
  record Here (at : ℕ) (g : Progress) : Type 0 where
    pub which : ℕ
    pub place : record_at s which ≡ at
    pub before : Before s which g
    pub right : (j : ℕ) → j < which → RightRecord s j

  module _ (short : length s ≤ 32768) where
    within : (k : ℕ) → ((j : ℕ) → j < k → RightRecord s j) → record_at s k ≤ length s
    unfolding along
    within zero f = omega arith
    within (suc k) f = rw (next_place s k) (f k (omega arith)).whole.inside

    module _ (k : ℕ) (g : Progress) (B : Before s k g) (f : (j : ℕ) → j < k → RightRecord s j) where
      abbrev at : ℕ
      at = record_at s k

      here-next : RightRecord s k → Here (record_end s at) (progressed s g at (record_kind s k))
      here-next R = record {
        which = suc k;
        place = next_place s k;
        before = before_next s k g B R;
        right = λ j h. below_suc j k h (λ e. subst (λ x. RightRecord s x) (sym e) R) (f j);
      }

      told-end : record_at s k ≡ length s → Told (load_end s g)
      told-end e = split (eqb g.kind 3) (λ q. rw q (the_goal k refl (eqb-true g.kind 3 q))) (λ q. rw q (no_goal short f e (λ j h z. none-there j h z (eqb-false g.kind 3 q))))
        where
          none-there : (j : ℕ) → j < k → record_kind s j ≡ 3 → g.kind ≢ 3 → ⊥
          none-there j h z n = n (goal-last k g B f j h z)

          the_goal : (n : ℕ) → k ≡ n → g.kind ≡ 3 → RightImage s g.relations g.clauses
          the_goal zero q z = let y = B.none q in absurd (omega arith)
          the_goal (suc j) q z = record {
            short = short;
            count = k;
            right = f;
            ends = e;
            goal = j;
            there = omega arith;
            asks = sym (B.kind j (sym q)) ∙ z;
            relations = sym B.relations;
            clauses = sym B.clauses;
          }

      module _ (more : record_at s k < length s) where
        comes : Comes s k
        comes = record { short = short; before = f; more = more }

        told-cut : cut s at ≡ true → RefusedAt s 2 at
        told-cut e = is_cut comes (refuted (whole-record s k) (rw e))

        told-one : cut s at ≡ false → (rest : Progress → Answer (ℕ × ℕ)) → ((t : Progress) → Here (record_end s at) t → Told (rest t)) → Told (after rest at (verdict s g at))
        unfolding verdict
        told-one e rest go =
            let q = record_kind s k in
            let w = (whole-record s k).0 (rw e) in
            split (kind_fault g q) (λ x. rw x (wrong_kind comes w (refuted (kind-right s k g B) (rw x))))
            (λ x. let K = (kind-right s k g B).0 (rw x) in
            split (too_many g q) (λ y. rw (x, y) (one_too_many comes w K (refuted (few-right s k g B) (rw y))))
            (λ y. let F = (few-right s k g B).0 (rw y) in
            split (body_right s at q)
            (λ z. let b = (body-fits s k K).0 z in
            split (names_right s g at q)
            (λ u. let n = (names-right s k g B K z).0 u in
            split (block_full s g at q) (λ v. rw (x, y, z, u, v) (ninth_of_block comes w K F b n ((block-right s k g B K).0 v)))
            (λ v. rw (x, y, z, u, v) (go (progressed s g at q) (here-next (record { whole = w; kind = K; few = F; body = b; names = n; block = refuted (block-right s k g B K) v })))))
            (λ u. rw (x, y, z, u) (wrong_name comes w K F b (refuted (names-right s k g B K z) u))))
            (λ z. rw (x, y, z) (wrong_body comes w K F (refuted (body-fits s k K) z)))))

    told-records : Told (records s (length s) 0 nothing_read)
    unfolding along
    told-records = walk-holds s broken (judged s) (load_end s) Here Told
        (λ at g h l e. let p = h.place in subst (λ x. RefusedAt s 2 x) p (told-cut h.which g h.before h.right (rw p l) (rw p e)))
        (λ at g h l e rest go. let p = h.place in
        subst (λ x. Told (after rest x (verdict s g x))) p (told-one h.which g h.before h.right (rw p l) (rw p e) rest (λ t y. go t (subst (λ x. Here (record_end s x) t) p y))))
        (λ at g h l. let p = h.place in let w = within h.which h.right in told-end h.which g h.before h.right (omega arith))
        (length s) 0 nothing_read (omega arith) (record { which = 0; place = refl; before = nothing-before s; right = λ j h. absurd (omega arith) })

  told : Told (load_of s)
  unfolding load_of long
  told = split (ltb 32768 (length s)) (λ e. rw e (too_long (ltb-true 32768 (length s) e))) (λ e. rw e (told-records (ltb-false 32768 (length s) e)))

  -- THE LAW: accepted exactly where the image is right, with the counts of its relations and clauses
  pub accepted-right : {r c : ℕ} → (load_of s ≡ Ok (r, c)) ↔ RightImage s r c
  accepted-right = (λ e. rw e at told, load-accepted)

  -- THE LAW: refused with this number and offset exactly where the relation has them
  pub refused-exactly : {n o : ℕ} → (load_of s ≡ Err (refusal n o)) ↔ RefusedAt s n o
  refused-exactly = (λ e. rw e at told, load-refused)

  -- one of the two
  pub either-one : RightOrRefused s
  either-one = go (load_of s) told
    where
      go : (a : Answer (ℕ × ℕ)) → Told a → RightOrRefused s
      go (Ok (r, c)) i = right_image i
      go (Err f) i = refused_image i

  -- never both
  pub never_both : {r c n o : ℕ} → RightImage s r c → RefusedAt s n o → ⊥
  never_both i x = let e = sym (load-accepted i) ∙ load-refused x in let z : ◌≡◌ {A = ℕ} 0 1 = cc in omega arith

  -- and one way only
  pub refused-once : {n o m p : ℕ} → RefusedAt s n o → RefusedAt s m p → (n ≡ m) × (o ≡ p)
  refused-once {n} {o} {m} {p} x y =
      let e = sym (load-refused x) ∙ load-refused y in
      let f : refusal n o ≡ refusal m p = cc in
      (ap (λ (r : Refusal). r.number) f, ap (λ (r : Refusal). r.offset) f)

-- the numbers are 1 to 7
pub refused-number : {s : List ℕ} {n o : ℕ} → RefusedAt s n o → (1 ≤ n) × (n ≤ 7)
refused-number (too_long h) = (omega arith, omega arith)
refused-number (is_cut c w) = (omega arith, omega arith)
refused-number (wrong_kind c w q) = (omega arith, omega arith)
refused-number (one_too_many c w q f) = (omega arith, omega arith)
refused-number (wrong_body c w q f b) = (omega arith, omega arith)
refused-number (wrong_name c w q f b n) = (omega arith, omega arith)
refused-number (ninth_of_block c w q f b n h) = (omega arith, omega arith)
refused-number (no_goal h f e n) = (omega arith, omega arith)
