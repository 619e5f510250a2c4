-- Demand 2: a step, by number or by turn, is exactly the move of the rules; a supply binds, a look tells, a start begins.
use Rattle.parlog.proofs.Answered.{ok-both}
use Rattle.std.specs.Prelude.{Some, Ok}
use mathlib.Core.Path.{◌∙◌, ◌≡◌, ap, refl, sym}
use mathlib.Core.Logic.{inl, inr}
use mathlib.Core.Bool.{true}
use mathlib.Core.List.{List}
use Prim.Native.Nat.{◌*◌, ◌<◌, ◌≤◌, ℕ}
use lib.ListN.{get_or, length}
use native.Mathlib.Omega.{arith}
use Rattle.entry.proofs.Held.{count-procs, same-lent, started-good, started-read, tables-state}
use Rattle.load.proofs.Sanity.{accepted-sane}
use Rattle.parlog.proofs.Exact.{at_most_one}
use Rattle.parlog.proofs.Kept.{step_keeps, supply-keeps}
use Rattle.parlog.proofs.Rows.{rows-length, written-length, written-past}
use Rattle.parlog.specs.Limits.{Limits, Usable}
use Rattle.parlog.specs.Load.{load_of, refusal}
use Rattle.parlog.specs.Numbers.{term_numbers}
use Rattle.parlog.specs.Program.{Program, program_of}
use Rattle.parlog.specs.Relation.{Fits, Rule}
use Rattle.parlog.specs.Run.{made, Stepping, step_tables, supplied, Supplying, supply_tables, unmade}
use Rattle.parlog.specs.Sane.{Sane}
use Rattle.parlog.specs.TableRules.{state_ok, tables_ok}
use Rattle.parlog.specs.Tables.{binding_bytes, cell_size, fresh_tables, Lent, number_code, proc_count, process_bytes, put_tables, rows_bytes, row_size, sort_code, started_lent, State, Tables, tables_in, written}
use Rattle.parlog.specs.declared.Move.{Move}
use Rattle.parlog.specs.declared.Term.{Term}
use Rattle.parlog.specs.declared.Term.TheVariants.{Const, Var}
use Rattle.promises.proofs.Demand1.{demand-1-start, gathered-all, is-begun, is-refused, Start, start-begun, starting-so, step-as, supply-as, turn-meets-step, turn-there, value_as}
use Rattle.promises.proofs.Entry.{let_by, let-image, let-ok, put_holds, values-let}
use Rattle.promises.proofs.Fours.{Fours, fours-in, fours-step, fours-supply}
use Rattle.promises.proofs.Giving.{is-constant, is-taken, look_is, look-sees, look-value, not_there, Offer, offer, too_large}
use Rattle.promises.proofs.Loaded.{accepted-few}
use Rattle.promises.proofs.Whose.{goes, is-full, is-still, too-high, Trial, trial}
use Rattle.promises.proofs.Words.{moved_told, refused-told, term_told, values-told}
use Rattle.promises.specs.Moves.{after_step, Holds, MovesExactly, Sees, SeesAll, SeesIn, Shows, Supplies}
use Rattle.promises.specs.Outcomes.{refusal_in, StartMeets, StepMeets, SupplyMeets, TurnMeets, ValueMeets, ValuesMeets}
use Rattle.promises.specs.Reach.{Begins}
use Rattle.promises.specs.Refusals.{CanMove, LacksRoom, LetIn, state_in, Turn}
use Rattle.refusals.proofs.Exactly.{accepted-right}
use Rattle.rows.proofs.Laws.{row-length}
use Rattle.values.proofs.Laws.{values_length, values-number, values-sort}
use Rattle.values.specs.Values.{values_bytes}
use Rattle.vars.proofs.Laws.{cell-length}

module _ (lim : Limits) (s : List ℕ) (l : Lent) {r c : ℕ} (i : LetIn lim s l r c) where
  abbrev pr : Program
  pr = program_of s r c

  kept : state_ok lim pr (state_in l) ≡ true
  kept = tables-state lim pr (tables_in l) (let-ok lim s l i)

  pub image-sane : Sane (program_of s r c)
  image-sane = accepted-sane s r c (let-image i)

  -- bytes that became those of t
  pub holds-in : (t : Tables) (l' : Lent) → Fours t.state → tables_ok lim (program_of s r c) t ≡ true → l' ≡ put_tables l t → Holds l t l'
  holds-in t l' f ok e = rw e (put_holds lim s l i t f ok)

  -- ---- a step

  module _ (p w : ℕ) (l' : Lent) (meets : StepMeets lim s l p w l') (h : p < proc_count l.head) where
    refused_as : (k : ℕ) → k ≤ 255 → step_tables lim pr (tables_in l) p ≡ unmade k → refusal_in w ≡ k
    refused_as k small-k e = (refused-told w (refusal k 0) small-k (meets.contract.answer ∙ rw (step-as lim s l p i e))).0

    shows-made : {m : Move} {s' : State} → Rule pr (state_in l) p m s' → Fits lim s' → step_tables lim pr (tables_in l) p ≡ made m (after_step (tables_in l) p s') → Shows lim pr l p m s' w l'
    shows-made {m} {s'} x f e =
        let t : Tables = after_step (tables_in l) p s' in
        let q = step-as lim s l p i e in
        record {
          holds = x;
          fits = f;
          tells = moved_told w m (meets.contract.answer ∙ rw q);
          tables = holds-in t l' (fours-step lim pr (tables_in l) (fours-in l) p m t e) (step_keeps lim pr image-sane (tables_in l) t p m (let-ok lim s l i) e)
              (same-lent l' (put_tables l t) (meets.contract.head ∙ rw q) (meets.contract.procs ∙ rw q) (meets.contract.vars ∙ rw q));
        }

    full-not : {m : Move} {s' : State} → Rule pr (state_in l) p m s' → Fits lim s' → LacksRoom lim pr (state_in l) p → ⊥
    full-not x f q = let z = (at_most_one lim pr (state_in l) kept p x q.holds).1 in q.full (rw z at f)

    can-of : {m : Move} {s' : State} → Rule pr (state_in l) p m s' → CanMove pr (state_in l) p
    can-of {m} {s'} x = record { rule = m; after = s'; holds = x }

    by-trial : {a : Stepping} → Trial lim pr (tables_in l) (let-ok lim s l i) p a → step_tables lim pr (tables_in l) p ≡ a → MovesExactly lim pr l p w l'
    by-trial (too-high g) e = absurd (omega (arith, count-procs l))
    by-trial (is-still g n) e =
        let k : refusal_in w ≡ 10 = refused_as 10 (omega arith) e in
        record {
          does = λ x f. absurd (n (can-of x));
          only = λ z. absurd (omega arith);
          still = (λ z. n, λ z. k);
          room = (λ z. absurd (omega arith), λ q. absurd (n (can-of q.holds)));
          nothing_else = inr (inl k);
        }
    by-trial (is-full g q) e =
        let k : refusal_in w ≡ 11 = refused_as 11 (omega arith) e in
        record {
          does = λ x f. absurd (full-not x f q);
          only = λ z. absurd (omega arith);
          still = (λ z. absurd (omega arith), λ n. absurd (n (can-of q.holds)));
          room = (λ z. q, λ z. k);
          nothing_else = inr (inr k);
        }
    by-trial (goes {m} {s'} g x f) e =
        let k = shows-made x f e in
        let o : refusal_in w ≡ 0 = k.tells.accepted in
        record {
          does = λ y u. let z = at_most_one lim pr (state_in l) kept p x y in rw (z.0, z.1) at k;
          only = λ z. record { rule = m; after = s'; shows = k };
          still = (λ z. absurd (omega arith), λ n. absurd (n (can-of x)));
          room = (λ z. absurd (omega arith), λ q. absurd (full-not x f q));
          nothing_else = inl o;
        }

    -- demand 2: the step of p is exactly the move of the rules
    pub demand-2-step : MovesExactly lim (program_of s r c) l p w l'
    demand-2-step = by-trial (trial lim pr (tables_in l) (let-ok lim s l i) p) refl

  -- demand 2: a turn is that of the process whose turn it is
  pub demand-2-turn : (w : ℕ) (l' : Lent) → TurnMeets lim s l w l' → {p : ℕ} → Turn (program_of s r c) (tables_in l) p → MovesExactly lim (program_of s r c) l p w l'
  demand-2-turn w l' meets {p} u = demand-2-step p w l' (turn-meets-step lim s l w l' meets i u) (turn-there lim s l i u)

  -- ---- a supply and a look

  module _ (v k w : ℕ) (l' : Lent) (meets : SupplyMeets lim s l v k w l') where
    by-offer : {a : Supplying} → Offer lim pr (tables_in l) (let-ok lim s l i) v k a → supply_tables pr (tables_in l) v k ≡ a → refusal_in w ≡ 0 → Supplies l v k w l'
    by-offer (not_there h) e z = let g = (refused-told w (refusal 12 0) (omega arith) (meets.contract.answer ∙ rw (supply-as lim s l v k i e))).0 in absurd (omega arith)
    by-offer (too_large h g) e z = let g = (refused-told w (refusal 14 0) (omega arith) (meets.contract.answer ∙ rw (supply-as lim s l v k i e))).0 in absurd (omega arith)
    by-offer (is-constant h g x) e z = let g = (refused-told w (refusal 13 0) (omega arith) (meets.contract.answer ∙ rw (supply-as lim s l v k i e))).0 in absurd (omega arith)
    by-offer (is-taken {u} h g x f) e z =
        let t : Tables = supplied (tables_in l) u k in
        let q = supply-as lim s l v k i e in
        record {
          accepted = z;
          unbound = u;
          value = x;
          free = f;
          tables = holds-in t l' (fours-supply (tables_in l) t (fours-in l) u k refl) (supply-keeps lim pr (tables_in l) t v k u (let-ok lim s l i) e)
              (same-lent l' (put_tables l t) (meets.contract.head ∙ rw q) (meets.contract.procs ∙ rw q) (meets.contract.vars ∙ rw q));
        }

    -- a supply that is not refused binds the value of v
    pub demand-2-supply : refusal_in w ≡ 0 → Supplies l v k w l'
    demand-2-supply = by-offer (offer lim pr (tables_in l) (let-ok lim s l i) v k) refl

  module _ (v w : ℕ) (meets : ValueMeets lim s l v w) where
    -- a look that is not refused tells the value of v
    pub demand-2-value : v < (program_of s r c).goal_vars → Sees l v w
    demand-2-value h =
        let a = look-value lim pr (tables_in l) (let-ok lim s l i) v in
        let q = value_as lim s l v i (look-sees lim pr (tables_in l) (let-ok lim s l i) v h) in
        let b = term_told w a.to (meets.contract ∙ rw (q, look_is lim pr (tables_in l) (let-ok lim s l i) v)) in
        record { accepted = b.0; value = a.to; leads = a.leads; ends = a.ends; sort = b.1; number = b.2 }

  module _ (row : List ℕ) (w : ℕ) (row' : List ℕ) (meets : ValuesMeets lim s l row w row') where
    sees-in : (v : ℕ) → v < pr.goal_vars → SeesIn l v (written (values_bytes (state_in l).vars pr.goal_vars) row)
    sees-in v h =
        let a = look-value lim pr (tables_in l) (let-ok lim s l i) v in
        let e = look_is lim pr (tables_in l) (let-ok lim s l i) v in
        record {
          value = a.to;
          leads = a.leads;
          ends = a.ends;
          sort = values-sort (state_in l).vars pr.goal_vars row v h ∙ rw (← e) (sort-told a.to);
          number = values-number (state_in l).vars pr.goal_vars row v h ∙ rw (← e) (number-told a.to);
        }
      where
        sort-told : (t : Term) → sort_code (Some t) ≡ (term_numbers t).a
        sort-told (Const c) = refl
        sort-told (Var u) = refl

        number-told : (t : Term) → number_code (Some t) ≡ (term_numbers t).c
        number-told (Const c) = refl
        number-told (Var u) = refl

    -- a look at all values into a row that is long enough tells the value of each
    pub demand-2-values : (program_of s r c).goal_vars * cell_size ≤ length row → SeesAll (program_of s r c).goal_vars l row w row'
    demand-2-values h =
        let n : ℕ = pr.goal_vars in
        let q = values-let lim s l i row ∙ gathered-all n (state_in l).vars row h in
        let b = values-told w n (meets.contract.answer ∙ rw q) in
        let e : row' ≡ written (values_bytes (state_in l).vars n) row = meets.contract.row_is ∙ rw q in
        let z = values_length (state_in l).vars n in
        record {
          accepted = b.0;
          count = b.1;
          size = rw e (written-length (values_bytes (state_in l).vars n) row (omega arith));
          each = λ v u. rw e (sees-in v u);
          behind = λ j u. rw e (written-past (values_bytes (state_in l).vars n) row j (omega arith));
        }

-- ---- a start

module _ (s : List ℕ) {r c : ℕ} (e : load_of s ≡ Ok (r, c)) where
  pub goal-few : (program_of s r c).goal_vars ≤ 255
  goal-few = omega (arith, (accepted-few s e).2)

  pub started-let : (lim : Limits) → Usable lim → LetIn lim s (started_lent lim (program_of s r c)) r c
  started-let lim usable = let_by e (started-good lim usable (program_of s r c) goal-few)

-- a start that is not refused leaves a fresh start
pub demand-2-start : (lim : Limits) → Usable lim → (s : List ℕ) (l : Lent) (w : ℕ) (l' : Lent) → StartMeets lim s l w l' → refusal_in w ≡ 0 → Begins lim s l'
demand-2-start lim usable s l w l' meets z = go (starting-so lim s l)
  where
    go : Start lim s l → Begins lim s l'
    go (is-refused y) = let g = (demand-1-start lim s l w l' meets).by in let a = (g.given y).0 in let b = (g.numbered y).0 in absurd (omega arith)
    go (is-begun {r} {c} e h) =
        let q = start-begun lim s l e h in
        let k : l' ≡ started_lent lim (program_of s r c) = same-lent l' (started_lent lim (program_of s r c)) (meets.contract.head ∙ rw q) (meets.contract.procs ∙ rw q) (meets.contract.vars ∙ rw q) in
        record { relations = r; clauses = c; image = (accepted-right s).0 e; read = rw k (started-read lim usable (program_of s r c) (goal-few s e)); bytes = k }

-- the same, for the counts that a load of the image tells
pub begun-at : (lim : Limits) → Usable lim → (s : List ℕ) (l : Lent) (w : ℕ) (l' : Lent) → StartMeets lim s l w l' → refusal_in w ≡ 0 → {r c : ℕ} → load_of s ≡ Ok (r, c)
    → (tables_in l' ≡ fresh_tables (program_of s r c)) × (l' ≡ started_lent lim (program_of s r c))
begun-at lim usable s l w l' meets z {r} {c} e =
    let b = demand-2-start lim usable s l w l' meets z in
    let q = ok-both (sym ((accepted-right s).1 b.image) ∙ e) in
    let x : b.relations ≡ r = q.0 in
    let y : b.clauses ≡ c = q.1 in
    (rw (x, y) at b.read, rw (x, y) at b.bytes)

-- ---- bytes past what a call writes

module _ (l : Lent) (t : Tables) where
  procs-behind : (j : ℕ) → length t.state.procs * row_size ≤ j → get_or (put_tables l t).procs j 0 ≡ get_or l.procs j 0
  unfolding put_tables
  procs-behind j h = written-past (rows_bytes process_bytes t.state.procs) l.procs j (omega (arith, rows-length process_bytes 24 row-length t.state.procs))

  vars-behind : (j : ℕ) → length t.state.vars * cell_size ≤ j → get_or (put_tables l t).vars j 0 ≡ get_or l.vars j 0
  unfolding put_tables
  vars-behind j h = written-past (rows_bytes binding_bytes t.state.vars) l.vars j (omega (arith, rows-length binding_bytes 4 cell-length t.state.vars))

  module _ (l' : Lent) (h : Holds l t l') where
    -- Refusals 23: they stay, in the row of processes and in the row of variables
    pub behind-procs : (j : ℕ) → length t.state.procs * row_size ≤ j → get_or l'.procs j 0 ≡ get_or l.procs j 0
    behind-procs j u = ap (λ (x : Lent). get_or x.procs j 0) h.bytes ∙ procs-behind j u

    pub behind-vars : (j : ℕ) → length t.state.vars * cell_size ≤ j → get_or l'.vars j 0 ≡ get_or l.vars j 0
    behind-vars j u = ap (λ (x : Lent). get_or x.vars j 0) h.bytes ∙ vars-behind j u
