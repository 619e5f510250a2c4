-- Request 1, a supply: refused as the plain one, then for the row; else the plain one, and the variable that takes the binding is told. And what follows for all three calls.
use Rattle.parlog.specs.Answer.{Answer}
use Rattle.std.specs.Prelude.{Option, None, Ok, Err, Some}
use mathlib.Core.Path.{◌∙◌, ◌≡◌, ap, refl, subst, sym}
use mathlib.Core.Logic.{◌≢◌}
use mathlib.Core.List.{[], ◌∷◌, List}
use Prim.Native.Nat.{◌<◌, ◌≤◌, ℕ}
use lib.Dec.{eqb, leb}
use lib.ListN.{length}
use borrow.Author.Tests.{eqb-false, eqb-true, leb-false, leb-true}
use native.Mathlib.Omega.{arith}
use Rattle.bound.proofs.Rows.{tell-fits, tell-short}
use Rattle.bound.specs.Calls.{RowCall, supply_bound_call, tell_in}
use Rattle.bound_row.proofs.Rows.{bytes-length}
use Rattle.bound_row.specs.Row.{bound_bytes}
use Rattle.capi.specs.Tells.{RowTells}
use Rattle.entry.proofs.Held.{same-lent, tables-state}
use Rattle.lay.specs.Lay.{laid}
use Rattle.parlog.proofs.Bools.{split}
use Rattle.parlog.proofs.Good.{state-good}
use Rattle.parlog.proofs.Keeps.{state-facts}
use Rattle.parlog.proofs.Values.{Falling, leads-is}
use Rattle.parlog.specs.Calls.{supply_call}
use Rattle.parlog.specs.Limits.{Limits}
use Rattle.parlog.specs.Load.{refusal}
use Rattle.parlog.specs.Notions.{Leads, onward, unbound}
use Rattle.parlog.specs.Numbers.{Numbers, refused_as, word}
use Rattle.parlog.specs.Program.{program_of}
use Rattle.parlog.specs.Run.{supplied, Supplying}
use Rattle.parlog.specs.Tables.{binding_of, Lent, put_tables, Tables, tables_in}
use Rattle.parlog.specs.declared.Term.{Term}
use Rattle.parlog.specs.declared.Term.TheVariants.{Var}
use Rattle.promises.proofs.Bound.{demand-1-step-bound, demand-1-turn-bound, kept_of, plain_step, plain_turn, row-holds}
use Rattle.promises.proofs.Demand1.{a-refusal, Answered, no-refusal, refuses-by, supply-as, supply-numbered, supply-refused}
use Rattle.promises.proofs.Demand2.{demand-2-supply}
use Rattle.promises.proofs.Entry.{away, Door, door, inside, let-ok}
use Rattle.promises.proofs.Giving.{is-constant, is-taken, not_there, Offer, offer, supply-gives, too_large}
use Rattle.promises.proofs.Newly.{supply-binds}
use Rattle.promises.proofs.Words.{given-told}
use Rattle.promises.specs.Bound.{as_supply, bytes_for, NewlyBound, RefusingRow, StepBoundMeets, SupplyBoundMeets, SupplyBoundRefused, SupplyTold, SupplyUntold, TurnBoundMeets, untold_step, untold_supply, untold_turn}
use Rattle.promises.specs.Outcomes.{refusal_in, SupplyMeets}
use Rattle.promises.specs.Reach.{Later, then_step, then_supply, then_turn}
use Rattle.promises.specs.Refusals.{has_constant, LetIn, no_constant, no_variable, state_in, supply_away, SupplyRefused}

-- where a variable leads is no higher
lower : (vs : List (Option Term)) → Falling vs → {t : Term} {u : ℕ} → Leads vs t (Var u) → (x : ℕ) → t ≡ Var x → u ≤ x
lower vs fall (unbound {v} e) x q = let z : v ≡ x = cc in omega arith
lower vs fall {u = u} (onward {v} {t} e d) x q = by t e (λ j f. lower vs fall d j f) d
  where
    by : (y : Term) → binding_of vs v ≡ Some y → ((j : ℕ) → y ≡ Var j → u ≤ j) → Leads vs y (Var u) → u ≤ x
    by (Rattle.parlog.specs.declared.Term.TheVariants.Const _) b rec g = elim g [ ]
    by (Var j) b rec g = let z : v ≡ x = cc in let h = rec j refl in let f = fall v j b in omega arith

-- one variable is bound
given-newly : (l l' : Lent) (u k : ℕ) → tables_in l' ≡ supplied (tables_in l) u k → u < length (state_in l).vars → binding_of (state_in l).vars u ≡ None
    → NewlyBound (state_in l).vars (state_in l').vars (u ∷ [])
unfolding supplied
given-newly l l' u k e h f =
    subst (λ (x : List (Option Term)). NewlyBound (state_in l).vars x (u ∷ [])) (sym (ap (λ (t : Tables). t.state.vars) e)) (supply-binds (state_in l).vars u k h f)

module _ (lim : Limits) (s : List ℕ) (l : Lent) (row : List ℕ) (v k : ℕ) where
  supply-plainly : {n o : ℕ} → SupplyRefused lim s l v k n o → supply_bound_call lim s l row v k ≡ record { answer = Err (refusal n o); lent = l; row = row }
  unfolding supply_bound_call
  supply-plainly y = rw (supply-refused lim s l v k y)

  module _ {r c : ℕ} (i : LetIn lim s l r c) (h : v < (program_of s r c).goal_vars) (g : k ≤ 32767) {u : ℕ} (x : Leads (state_in l).vars (Var v) (Var u)) where
    given-call : supply_call lim s l v k ≡ record { answer = Ok u; lent = put_tables l (supplied (tables_in l) u k) }
    given-call = supply-as lim s l v k i (supply-gives lim (program_of s r c) (tables_in l) (let-ok lim s l i) v k h g x)

    supply-call : supply_bound_call lim s l row v k ≡ tell_in (Err (refusal 11 0)) (Ok u) (put_tables l (supplied (tables_in l) u k)) l row (bound_bytes (u ∷ []))
    unfolding supply_bound_call
    supply-call = rw given-call

    supply-short : length row < bytes_for 1 → supply_bound_call lim s l row v k ≡ record { answer = Err (refusal 11 0); lent = l; row = row }
    supply-short e = supply-call ∙ tell-short _ _ _ l row (bound_bytes (u ∷ [])) (rw (bytes-length (u ∷ [])) e)

    supply-fits-in : bytes_for 1 ≤ length row → supply_bound_call lim s l row v k ≡ record { answer = Ok u; lent = put_tables l (supplied (tables_in l) u k); row = laid row 0 (bound_bytes (u ∷ [])) }
    supply-fits-in e = supply-call ∙ tell-fits (Err (refusal 11 0)) (Ok u) (put_tables l (supplied (tables_in l) u k)) l row (bound_bytes (u ∷ [])) (rw (bytes-length (u ∷ [])) e)

  supply-refused-call : {n o : ℕ} → SupplyBoundRefused lim s l row v k n o → supply_bound_call lim s l row v k ≡ record { answer = Err (refusal n o); lent = l; row = row }
  supply-refused-call (as_supply y) = supply-plainly y
  supply-refused-call (untold_supply y) = supply-short y.inside y.variable y.constant y.value y.short

  data SupplyView : RowCall (Answer ℕ) → Type 0 where
    view-ungiven : {n o : ℕ} → SupplyBoundRefused lim s l row v k n o → SupplyView (record { answer = Err (refusal n o); lent = l; row = row })
    view-given : {r c u : ℕ} (i : LetIn lim s l r c) → v < (program_of s r c).goal_vars → k ≤ 32767 → Leads (state_in l).vars (Var v) (Var u) → bytes_for 1 ≤ length row
        → SupplyView (record { answer = Ok u; lent = put_tables l (supplied (tables_in l) u k); row = laid row 0 (bound_bytes (u ∷ [])) })

  supply-view : SupplyView (supply_bound_call lim s l row v k)
  supply-view = go (door lim s l)
    where
      plain : {n o : ℕ} → SupplyRefused lim s l v k n o → SupplyView (supply_bound_call lim s l row v k)
      plain y = rw (supply-plainly y) (view-ungiven (as_supply y))

      by : {r c : ℕ} (i : LetIn lim s l r c) {a : Supplying} → Offer lim (program_of s r c) (tables_in l) (let-ok lim s l i) v k a → SupplyView (supply_bound_call lim s l row v k)
      by i (not_there h) = plain (no_variable i h)
      by i (too_large h g) = plain (no_constant i h g)
      by i (is-constant h g x) = plain (has_constant i h g x)
      by {r} {c} i (is-taken {u} h g x f) = split (leb (bytes_for 1) (length row))
          (λ e. let z : bytes_for 1 ≤ length row = leb-true (bytes_for 1) (length row) e in rw (supply-fits-in i h g x z) (view-given i h g x z))
          (λ e. let z : length row < bytes_for 1 = leb-false (bytes_for 1) (length row) e in
          rw (supply-short i h g x z) (view-ungiven (untold_supply (record { relations = r; clauses = c; inside = i; variable = h; constant = g; unbound = u; value = x; short = z }))))

      go : Door lim s l → SupplyView (supply_bound_call lim s l row v k)
      go (away a) = plain (supply_away a)
      go (inside {r} {c} i) = by i (offer lim (program_of s r c) (tables_in l) (let-ok lim s l i) v k)

  supply-bound-numbered : {n o : ℕ} → SupplyBoundRefused lim s l row v k n o → (1 ≤ n) × (n ≤ 14)
  supply-bound-numbered (as_supply y) = supply-numbered y
  supply-bound-numbered (untold_supply u) = (omega arith, omega arith)

  module _ (w : ℕ) (l' : Lent) (row' : List ℕ) (meets : SupplyBoundMeets lim s l row v k w l' row') where
    supply-word : (n o : ℕ) → SupplyBoundRefused lim s l row v k n o → w ≡ word (refused_as (refusal n o))
    supply-word n o y = let e = supply-refused-call {n = n} {o = o} y in meets.contract.answer ∙ rw e

    supply-bound-answered : Answered (SupplyBoundRefused lim s l row v k) w
    supply-bound-answered = go supply-view refl
      where
        go : {x : RowCall (Answer ℕ)} → SupplyView x → supply_bound_call lim s l row v k ≡ x → Answered (SupplyBoundRefused lim s l row v k) w
        go (view-ungiven y) e = a-refusal y
        go (view-given {u = u} i h g x f) e = no-refusal (given-told w u (meets.contract.answer ∙ rw e))

    pub demand-1-supply-bound : RefusingRow (SupplyBoundRefused lim s l row v k) l row w l' row'
    demand-1-supply-bound = record {
      by = refuses-by w (λ n o y. supply-bound-numbered y) (omega arith) supply-word supply-bound-answered;
      kept = kept_of w supply-bound-answered (λ n o y. let e = supply-refused-call {n = n} {o = o} y in same-lent l' l (meets.contract.head ∙ rw e) (meets.contract.procs ∙ rw e) (meets.contract.vars ∙ rw e));
      row_kept = kept_of w supply-bound-answered (λ n o y. let e = supply-refused-call {n = n} {o = o} y in meets.contract.row ∙ rw e);
    }

    same-supply : {a : Answer ℕ} {m : Lent} {q : List ℕ} → supply_bound_call lim s l row v k ≡ record { answer = a; lent = m; row = q } → supply_call lim s l v k ≡ record { answer = a; lent = m } → SupplyMeets lim s l v k w l'
    same-supply e d =
        record { contract = record { answer = meets.contract.answer ∙ rw (e, d); head = meets.contract.head ∙ rw (e, d); procs = meets.contract.procs ∙ rw (e, d); vars = meets.contract.vars ∙ rw (e, d) } }

    -- word and tables are the plain call's, wherever the row is not what refuses it
    pub plain-supply : (SupplyUntold lim s l row v k → ⊥) → SupplyMeets lim s l v k w l'
    plain-supply n = go supply-view refl
      where
        go : {x : RowCall (Answer ℕ)} → SupplyView x → supply_bound_call lim s l row v k ≡ x → SupplyMeets lim s l v k w l'
        go (view-ungiven (as_supply y)) e = same-supply e (supply-refused lim s l v k y)
        go (view-ungiven (untold_supply u)) e = absurd (n u)
        go (view-given i h g x f) e = same-supply e (given-call i h g x)

    given_so : {r c u : ℕ} (i : LetIn lim s l r c) (h : v < (program_of s r c).goal_vars) (g : k ≤ 32767) (x : Leads (state_in l).vars (Var v) (Var u)) → bytes_for 1 ≤ length row → refusal_in w ≡ 0
        → SupplyTold l row v k w l' row'
    given_so {r} {c} {u} i h g x f z =
        let e = supply-fits-in i h g x f in
        let vs : List (Option Term) = (state_in l).vars in
        let ok = tables-state lim (program_of s r c) (tables_in l) (let-ok lim s l i) in
        let fall = (state-good lim (program_of s r c) (state_in l) ok).falls in
        let y = demand-2-supply lim s l i v k w l' (same-supply e (given-call i h g x)) z in
        let a : Var y.unbound ≡ Var u = sym (leads-is vs fall y.value) ∙ leads-is vs fall x in
        let q : y.unbound ≡ u = cc in
        let there : y.unbound < length vs = omega (arith, lower vs fall y.value v refl, h, (state-facts lim (program_of s r c) (state_in l) ok).goal) in
        record {
          supplies = y;
          exactly = given-newly l l' y.unbound k y.tables.read there y.free;
          holds = rw q (row-holds row (u ∷ []) f (meets.contract.row ∙ rw e));
        }

    -- demand 2: a supply that is not refused binds the value of its variable, and tells it
    pub demand-2-supply-bound : {r c : ℕ} → LetIn lim s l r c → refusal_in w ≡ 0 → SupplyTold l row v k w l' row'
    demand-2-supply-bound j z = go supply-view refl
      where
        go : {x : RowCall (Answer ℕ)} → SupplyView x → supply_bound_call lim s l row v k ≡ x → SupplyTold l row v k w l' row'
        go (view-ungiven y) e = let b = demand-1-supply-bound.by in let a = (b.given y).0 in let d = (b.numbered y).0 in absurd (omega arith)
        go (view-given i h g x f) e = given_so i h g x f z

-- ---- only one result

module _ (lim : Limits) (s : List ℕ) (l : Lent) (row : List ℕ) {w w' : ℕ} {l' l'' : Lent} {row' row'' : List ℕ} where
  pub rows_same : {n : Numbers} {m : Lent} {q : List ℕ} → RowTells n m q w l'.head l'.procs l'.vars row' → RowTells n m q w' l''.head l''.procs l''.vars row''
      → (w ≡ w') × (l' ≡ l'') × (row' ≡ row'')
  rows_same a b = (a.answer ∙ sym b.answer, same-lent l' l'' (a.head ∙ sym b.head) (a.procs ∙ sym b.procs) (a.vars ∙ sym b.vars), a.row ∙ sym b.row)

  pub once-step-bound : {p : ℕ} → StepBoundMeets lim s l row p w l' row' → StepBoundMeets lim s l row p w' l'' row'' → (w ≡ w') × (l' ≡ l'') × (row' ≡ row'')
  once-step-bound a b = rows_same a.contract b.contract

  pub once-turn-bound : TurnBoundMeets lim s l row w l' row' → TurnBoundMeets lim s l row w' l'' row'' → (w ≡ w') × (l' ≡ l'') × (row' ≡ row'')
  once-turn-bound a b = rows_same a.contract b.contract

  pub once-supply-bound : {v k : ℕ} → SupplyBoundMeets lim s l row v k w l' row' → SupplyBoundMeets lim s l row v k w' l'' row'' → (w ≡ w') × (l' ≡ l'') × (row' ≡ row'')
  once-supply-bound a b = rows_same a.contract b.contract

-- ---- demand 3 reads on across them: what they leave is left by plain calls too

-- refused, or the plain call
later-by : {lim : Limits} {s : List ℕ} {l m m' : Lent} (w : ℕ) → (refusal_in w ≢ 0 → m' ≡ m) → (refusal_in w ≡ 0 → Later lim s l m') → Later lim s l m → Later lim s l m'
later-by w kept done d = split (eqb (refusal_in w) 0) (λ e. done (eqb-true (refusal_in w) 0 e)) (λ e. rw (kept (eqb-false (refusal_in w) 0 e)) d)

module _ (lim : Limits) (s : List ℕ) {l m m' : Lent} {row row' : List ℕ} {w : ℕ} where
  pub later-step-bound : {p : ℕ} → Later lim s l m → StepBoundMeets lim s m row p w m' row' → Later lim s l m'
  later-step-bound {p} d meets =
      let b = demand-1-step-bound lim s m row p w m' row' meets in
      later-by w b.kept (λ z. then_step p d (plain_step lim s m row p w m' row' meets (λ u. let g = (b.by.given (untold_step u)).0 in absurd (omega arith)))) d

  pub later-turn-bound : Later lim s l m → TurnBoundMeets lim s m row w m' row' → Later lim s l m'
  later-turn-bound d meets =
      let b = demand-1-turn-bound lim s m row w m' row' meets in
      later-by w b.kept (λ z. then_turn d (plain_turn lim s m row w m' row' meets (λ u. let g = (b.by.given (untold_turn u)).0 in absurd (omega arith)))) d

  pub later-supply-bound : {v k : ℕ} → Later lim s l m → SupplyBoundMeets lim s m row v k w m' row' → Later lim s l m'
  later-supply-bound {v} {k} d meets =
      let b = demand-1-supply-bound lim s m row v k w m' row' meets in
      later-by w b.kept (λ z. then_supply v k d (plain-supply lim s m row v k w m' row' meets (λ u. let g = (b.by.given (untold_supply u)).0 in absurd (omega arith)))) d
