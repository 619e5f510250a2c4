-- The tests of a text's records refuse the first record that has a reason, with that reason.
use Rattle.std.specs.Prelude.{Ok, Err}
use Rattle.parlog.specs.Answer.{Answer}
use mathlib.Core.Path.{◌∙◌, ◌≡◌, ap, refl, subst, sym}
use mathlib.Core.Bool.{◌&&◌, false, not, true}
use mathlib.Core.List.{[], List}
use Prim.Native.Nat.{◌+◌, ◌-◌, ◌<◌, ◌≤◌, suc, zero, ℕ}
use lib.Dec.{eqb, leb, ltb}
use lib.ListN.{get_or, length}
use borrow.Author.Tests.{eq-eqb, eqb-true, leb-false, leb-true, lt-ltb, ltb-false, ltb-true, not-false}
use native.Mathlib.Omega.{arith}
use Rattle.load.proofs.Turn.{passed}
use Rattle.parlog.proofs.Along.{along-add}
use Rattle.parlog.proofs.Bools.{and-true, never, split}
use Rattle.parlog.proofs.Scans.{below_suc}
use Rattle.parlog.proofs.Walk.{walk-holds, walk-one}
use Rattle.parlog.specs.Body.{body_right}
use Rattle.parlog.specs.Image.{relation_kind}
use Rattle.parlog.specs.Load.{after, block_full, broken, load_end, nothing_read, progressed, refusal, too_many, verdict}
use Rattle.parlog.specs.Names.{names_right}
use Rattle.parlog.specs.Program.{Program}
use Rattle.parlog.specs.Records.{cut, kind_at, record_at, record_end, walk}
use Rattle.parlog.specs.Scan.{along, tally}
use Rattle.parlog.specs.declared.Progress.{Progress}
use Rattle.refusals.proofs.Before.{Before, block-right, few-right, names-right}
use Rattle.refusals.proofs.Fields.{body-fits}
use Rattle.refusals.proofs.Tests.{Decides, refuted, refutes}
use Rattle.refusals.proofs.Walked.{before_next, body-not, cut-not, kind-not, many-not, names-not, next_place, nothing-before, right-goes}
use Rattle.refusals.specs.Right.{how_many, KindRight, record_kind, Whole}
use Rattle.text_loads.proofs.Counted.{encoded-kinds}
use Rattle.text_loads.proofs.Refusing.{all_end, at_place, goes-up, placed, placed_end, placed-in}
use Rattle.text_loads.proofs.Stands.{along-up}
use Rattle.text_names.proofs.Looked.{look-found, look-within}
use Rattle.text_names.specs.Names.{look, Name}
use Rattle.text_program.specs.Encoded.{program_bytes}
use Rattle.text_program.specs.Parsing.{records_in, repeated, text_verdict}
use Rattle.text_refusals.specs.Unread.{at_record, LineRefused, LinesRefused, ninth_of_block, one_too_many, RightLine, second_line, SecondLine, wrong_body, wrong_name}

all_ones : (s : List ℕ) (k : ℕ) → ((j : ℕ) → j < k → record_kind s j ≡ 1) → how_many s 1 k ≡ k
unfolding tally
all_ones s zero h = refl
all_ones s (suc k) h = rw (eq-eqb (record_kind s k) 1 (h k (omega arith))) (ap suc (all_ones s k (λ j l. h j (omega arith))))

module _ (rels : List Name) (pr : Program) (as_many : length rels ≡ length pr.relations) where
  abbrev s : List ℕ
  s = program_bytes pr

  abbrev r : ℕ
  r = length pr.relations

  abbrev c : ℕ
  c = length pr.clauses

  abbrev kind : ℕ → ℕ
  kind k = kind_at s (record_at s k)

  -- ---- records of an encoded program are whole and of their kinds

  in-range : (k : ℕ) → record_at s k < length s → k ≤ r + c
  in-range k h = split (leb k (r + c)) (λ e. leb-true k (r + c) e) (λ e. absurd (outside (leb-false k (r + c) e)))
    where
      outside : r + c < k → ⊥
      outside l =
          let d = k - suc (r + c) in
          let z : suc (r + c) + d ≡ k = omega arith in
          let a : along (record_end s) d (record_at s (suc (r + c))) ≡ record_at s k = (rw z at (along-add (record_end s) d (suc (r + c)) 0)) in
          let u = along-up (record_end s) (λ at. omega arith) d (record_at s (suc (r + c))) in
          let e = all_end rels pr in
          omega arith

  encoded-whole : (k : ℕ) → k ≤ r + c → Whole s k
  encoded-whole k h =
      let p = placed rels pr k h in
      let i = placed-in s (record_at s k) p.0 p.1 in
      let e = placed_end s (record_at s k) p.0 p.1 in
      record { begun = omega arith; size = omega arith; inside = omega arith }

  encoded-kind : (k : ℕ) → k ≤ r + c → KindRight s k
  encoded-kind k h =
      let a = at_place kind r c (encoded-kinds pr) k h in
      record {
        least = a.least;
        most = a.most;
        up = λ j e. (let w = (goes-up kind r c (encoded-kinds pr) j (omega arith)).0 in rw (← e) w);
        before_goal = λ j l e. let w = (at_place kind r c (encoded-kinds pr) j (omega arith)).early (omega arith) in omega arith;
      }

  -- ---- second mode lines

  relation-number : (k : ℕ) → k ≤ r + c → record_kind s k ≡ 1 → (k < r) × (how_many s 1 k ≡ k)
  relation-number k h q =
      let a = at_place kind r c (encoded-kinds pr) k h in
      let l : k < r = split (ltb k r) (λ e. ltb-true k r e) (λ e. let x = a.later (ltb-false k r e) in absurd (omega arith)) in
      (l, all_ones s k (λ j m. (at_place kind r c (encoded-kinds pr) j (omega arith)).first-ones (omega arith)))

  module _ (k : ℕ) (g : Progress) (B : Before s k g) (h : k ≤ r + c) where
    second_so : Decides (eqb (record_kind s k) 1 && repeated rels g.relations) (SecondLine rels s k)
    unfolding repeated
    second_so = (to, from)
      where
        to : (eqb (record_kind s k) 1 && ltb (look rels (get_or rels g.relations [])) g.relations) ≡ true → SecondLine rels s k
        to e =
            let w = and-true (eqb (record_kind s k) 1) (ltb (look rels (get_or rels g.relations [])) g.relations) e in
            let q = eqb-true (record_kind s k) 1 w.0 in
            let n = relation-number k h q in
            let z : g.relations ≡ k = B.relations ∙ n.1 in
            let l = ltb-true (look rels (get_or rels k [])) k (rw z at w.1) in
            let m = n.0 in
            record { relation = q; other = look rels (get_or rels k []); before = l; same = look-found rels (get_or rels k []) (omega arith) }

        from : SecondLine rels s k → (eqb (record_kind s k) 1 && ltb (look rels (get_or rels g.relations [])) g.relations) ≡ true
        from t =
            let n = relation-number k h t.relation in
            let m = n.0 in
            let z : g.relations ≡ k = B.relations ∙ n.1 in
            let b = t.before in
            let w = look-within rels t.other (omega arith) in
            let e : look rels (get_or rels t.other []) ≡ look rels (get_or rels k []) = ap (look rels) t.same in
            rw (eq-eqb (record_kind s k) 1 t.relation, z) (lt-ltb (look rels (get_or rels k [])) k (omega arith))

  -- ---- from the tests to the reasons

  abbrev Told : Answer (ℕ × ℕ) → Type 0
  Told (Ok (a, b)) = Unit {0}
  Told (Err f) = LinesRefused rels s f.number f.offset

  record Here (at : ℕ) (g : Progress) : Type 0 where
    pub which : ℕ
    pub place : record_at s which ≡ at
    pub before : Before s which g
    pub right : (j : ℕ) → j < which → RightLine rels s j

  module _ (k : ℕ) (g : Progress) (B : Before s k g) (f : (j : ℕ) → j < k → RightLine rels s j) (more : record_at s k < length s) where
    abbrev at : ℕ
    at = record_at s k

    K : KindRight s k
    K = encoded-kind k (in-range k more)

    here-next : RightLine rels s k → Here (record_end s at) (progressed s g at (record_kind s k))
    here-next R = record {
      which = suc k;
      place = next_place s k;
      before = before_next s k g B R.right;
      right = λ j h. below_suc j k h (λ e. subst (λ x. RightLine rels s x) (sym e) R) (f j);
    }

    told-one : (rest : Progress → Answer (ℕ × ℕ)) → ((t : Progress) → Here (record_end s at) t → Told (rest t)) → Told (after rest at (text_verdict rels s g at))
    unfolding text_verdict verdict
    told-one rest go =
        let q = record_kind s k in
        let x = kind-not s k g B K in
        split (too_many g q) (λ y. rw (x, y) (at_record f more (one_too_many (refuted (few-right s k g B) (rw y)))))
        (λ y. let F = (few-right s k g B).0 (rw y) in
        split (body_right s at q)
        (λ z. let b = (body-fits s k K).0 z in
        split (names_right s g at q)
        (λ u. let n = (names-right s k g B K z).0 u in
        split (block_full s g at q) (λ v. rw (x, y, z, u, v) (at_record f more (ninth_of_block F b n ((block-right s k g B K).0 v))))
        (λ v. let o = refuted (block-right s k g B K) v in
        split (eqb q 1 && repeated rels g.relations)
        (λ w. rw (x, y, z, u, v, w) (at_record f more (second_line F b n o ((second_so k g B (in-range k more)).0 w))))
        (λ w. rw (x, y, z, u, v, w)
        (go (progressed s g at q) (here-next (record { right = record { whole = encoded-whole k (in-range k more); kind = K; few = F; body = b; names = n; block = o }; once = refuted (second_so k g B (in-range k more)) w }))))))
        (λ u. rw (x, y, z, u) (at_record f more (wrong_name F b (refuted (names-right s k g B K z) u)))))
        (λ z. rw (x, y, z) (at_record f more (wrong_body F (refuted (body-fits s k K) z)))))

  abbrev texted : (Progress → Answer (ℕ × ℕ)) → ℕ → Progress → Answer (ℕ × ℕ)
  texted rest at g = after rest at (text_verdict rels s g at)

  -- at the end of the bytes the goal has been seen
  at-end : (at : ℕ) (g : Progress) → Here at g → length s ≤ at → Told (load_end s g)
  at-end at g h l = rw (eq-eqb g.kind 3 (h.before.kind (r + c) all_seen ∙ (encoded-kinds pr).goal)) tt
    where
      all_seen : suc (r + c) ≡ h.which
      all_seen =
          let p = h.place in
          split (leb h.which (r + c)) (λ e. let w = (encoded-whole h.which (leb-true h.which (r + c) e)).begun in absurd (omega arith))
          (λ e. let m = leb-false h.which (r + c) e in
          split (leb h.which (suc (r + c))) (λ d. let n = leb-true h.which (suc (r + c)) d in omega arith)
          (λ d. let n = leb-false h.which (suc (r + c)) d in let w = (h.right (suc (r + c)) n).right.whole.begun in let e = all_end rels pr in absurd (omega arith)))

  pub told : Told (records_in rels s)
  unfolding records_in along
  told = walk-holds s broken texted (load_end s) Here Told
      (λ at g h l e. let p = h.place in never (sym (cut-not s h.which g h.before (encoded-whole h.which (in-range h.which (rw p l)))) ∙ (rw p e)))
      (λ at g h l e rest go. let p = h.place in subst (λ x. Told (after rest x (text_verdict rels s g x))) p (told-one h.which g h.before h.right (rw p l) rest (λ t y. go t (subst (λ x. Here (record_end s x) t) p y))))
      at-end
      (length s) 0 nothing_read (omega arith) (record { which = 0; place = refl; before = nothing-before s; right = λ j h. absurd (omega arith) })

  -- ---- from the reasons to the tests

  record Known-text (k : ℕ) : Type 0 where
    pub known : Progress
    pub before : Before s k known
    pub same : records_in rels s ≡ walk s broken texted (load_end s) (length s) (record_at s k) known

  text-goes : (rest : Progress → Answer (ℕ × ℕ)) (at : ℕ) (g t : Progress) → verdict s g at ≡ Ok t → (eqb (kind_at s at) relation_kind && repeated rels g.relations) ≡ false → texted rest at g ≡ rest t
  unfolding text_verdict
  text-goes rest at g t v a = rw (v, a)

  text-stops : (rest : Progress → Answer (ℕ × ℕ)) (at n : ℕ) (g : Progress) → text_verdict rels s g at ≡ Err n → texted rest at g ≡ Err (refusal n at)
  text-stops rest at n g v = rw v

  known-text : (k : ℕ) → ((j : ℕ) → j < k → RightLine rels s j) → Known-text k
  unfolding records_in along
  known-text zero f = record { known = nothing_read; before = nothing-before s; same = refl }
  known-text (suc k) f =
      let i = known-text k (λ j h. f j (omega arith)) in
      let L = f k (omega arith) in
      let R = L.right in
      let g = i.known in
      let at = record_at s k in
      let b = R.whole.begun in
      let t = progressed s g at (record_kind s k) in
      let v = passed (cut s at) 2 (verdict s g at) t (right-goes s k g i.before R) in
      let a = refutes (eqb (record_kind s k) 1 && repeated rels g.relations) (second_so k g i.before (in-range k (omega arith))) L.once in
      record {
        known = t;
        before = before_next s k g i.before R;
        same = i.same
            ∙ walk-one s broken texted (load_end s) (length s) at g (omega arith) (omega arith) v.0
            ∙ text-goes (walk s broken texted (load_end s) (length s) (record_end s at)) at g t v.1 a
            ∙ ap (λ x. walk s broken texted (load_end s) (length s) x t) (sym (next_place s k));
      }

  module _ (k : ℕ) (g : Progress) (B : Before s k g) (more : record_at s k < length s) where
    abbrev place : ℕ
    place = record_at s k

    right-kind : KindRight s k
    right-kind = encoded-kind k (in-range k more)

    line-verdict : {n : ℕ} → LineRefused rels s k n → text_verdict rels s g place ≡ Err n
    unfolding text_verdict verdict
    line-verdict (one_too_many f) =
        rw (kind-not s k g B right-kind, not-false (too_many g (record_kind s k)) (refutes (not (too_many g (record_kind s k))) (few-right s k g B) f))
    line-verdict (wrong_body f b) =
        rw (kind-not s k g B right-kind, many-not s k g B f, refutes (body_right s place (record_kind s k)) (body-fits s k right-kind) b)
    line-verdict (wrong_name f b n) =
        let e = body-not s k g B right-kind b in
        rw (kind-not s k g B right-kind, many-not s k g B f, e, refutes (names_right s g place (record_kind s k)) (names-right s k g B right-kind e) n)
    line-verdict (ninth_of_block f b n h) =
        rw (kind-not s k g B right-kind, many-not s k g B f, body-not s k g B right-kind b, names-not s k g B right-kind b n, (block-right s k g B right-kind).1 h)
    line-verdict (second_line f b n h t) =
        rw (
          kind-not s k g B right-kind,
          many-not s k g B f,
          body-not s k g B right-kind b,
          names-not s k g B right-kind b n,
          refutes (block_full s g place (record_kind s k)) (block-right s k g B right-kind) h,
          (second_so k g B (in-range k more)).1 t,
        )

  -- THE LAW: a reason refuses
  pub refused : {n o : ℕ} → LinesRefused rels s n o → records_in rels s ≡ Err (refusal n o)
  refused (at_record {k} {n} f more x) =
      let i = known-text k f in
      let g = i.known in
      let at = record_at s k in
      i.same
      ∙ walk-one s broken texted (load_end s) (length s) at g (omega arith) more (cut-not s k g i.before (encoded-whole k (in-range k more)))
      ∙ text-stops (walk s broken texted (load_end s) (length s) (record_end s at)) at n g (line-verdict k g i.before more x)
