-- The ways through the rules of or-par, seq-search and or-search.
use Rattle.std.specs.Prelude.{None, Option, Some}
use mathlib.Core.Path.{ap, refl, ◌≡◌}
use mathlib.Core.Bool.{Bool, false, true}
use mathlib.Core.List.{[], List, ◌∷◌}
use Prim.Native.Nat.{suc, zero, ℕ, ◌+◌, ◌<◌, ◌≤◌}
use lib.Dec.{ltb}
use lib.ListN.{length}
use borrow.Author.Tests.{eq-eqb, le-ltb, lt-ltb, ne_eqb}
use native.Mathlib.Omega.{arith}
use native.Mathlib.Numerals.{add-one}
use Rattle.children.specs.Telling.{heard_of}
use Rattle.children.specs.declared.News.{News}
use Rattle.children.specs.declared.News.TheVariants.{Bad, Good, Silent}
use Rattle.parlog.specs.Codes.{failure, is_tag, or_par, or_search, reporting, seq_search, starting, success, Tag, the_body, waiting}
use Rattle.parlog.specs.Delta.{at_block, block_spot, call_spot, literal_spot, making, report, with_clause, with_mode, with_spot}
use Rattle.parlog.specs.Program.{block_count, body_tag, clause_at, committed_body, is_split, literal_at, Program}
use Rattle.parlog.specs.Rules.{Applied, body_child, by_rule, no_rule, or_par_heard, or_par_start, or_par_wait, or_search_wait, searching, seq_search_next, seq_search_start, seq_search_wait, start_rule, wait_rule, with_found}
use Rattle.parlog.specs.Tables.{at, goal_spot, new_process, procs_of, State}
use Rattle.parlog.specs.Tree.{all_children, heard, lowest_child}
use Rattle.parlog.specs.declared.Move.{Move}
use Rattle.parlog.specs.declared.Move.TheVariants.{OrParFailure, OrParSpawn, OrParStart, OrParSuccess, OrSearchCommit, OrSearchFailure, SeqSearchFailure, SeqSearchNext, SeqSearchNone, SeqSearchStart, SeqSearchSuccess}
use Rattle.parlog.specs.declared.Process.{Process}
use Rattle.parlog.specs.declared.Spot.{Spot}
use Rattle.parlog.specs.declared.Term.{Term}
use Rattle.program_goal.specs.Parts.{shown}
use Rattle.program_goal.specs.declared.Lit.{Lit}
use Rattle.rows.proofs.Tables.{procs-length}

-- ---- what the rules share

pub called_is : (pr : Program) (z : Spot) {l : Lit} → l ≡ shown (literal_at pr z) → l.rel ≡ (literal_at pr z).rel
unfolding shown
called_is pr z e = ap (λ (l : Lit). l.rel) e

module _ (ps : List Process) (vs : List (Option Term)) (c : ℕ) (x : Process) where
  pub committed : {y : Process} {z : Spot} {me : Process} → y ≡ at ps c → z ≡ with_clause y.spot.found y.spot.first x.spot
      → me ≡ with_spot reporting z x
      → {mv : Move} {a : Applied} → a ≡ by_rule mv (report success me)
      → a ≡ by_rule mv (report success (with_found (record { procs = ps; vars = vs }) c x))
  unfolding with_found
  committed ey ez em ea = rw (← ey, ← ez, ← em) ea

-- ---- or-par

pub or-par-starts : (pr : Program) (s : State) (p : ℕ) (x : Process) {n : ℕ} {z : Spot} {y me : Process}
    → z ≡ literal_spot x.spot x.spot.literal → y ≡ new_process seq_search starting p z → me ≡ with_mode waiting x
    → {a : Applied} → a ≡ by_rule (OrParStart n) (making me None (y ∷ []) 0) → length s.procs ≡ n → a ≡ start_rule or_par pr s p x
unfolding start_rule or_par_start call_spot
or-par-starts pr s p x ez ey em ea en = rw (en, ← ez, ← ey, ← em) ea

pub body-made : (pr : Program) (p k v : ℕ) {t : Tag} {z : Spot} {y : Process}
    → t ≡ body_tag (is_split pr (clause_at pr k)) (committed_body pr (clause_at pr k)) → z ≡ goal_spot the_body k v → y ≡ new_process t starting p z → y ≡ body_child pr p k v
unfolding body_child
body-made pr p k v et ez ey = rw (et, ez) at ey

module _ (pr : Program) (l : List ℕ) (n : ℕ) (vs : List (Option Term)) (p : ℕ) (x : Process) where
  module _ (c : ℕ) {y : Process} (ey : y ≡ at (procs_of l n) c) {a : Applied} where
    pub body-done : (y.tag ≡ 3 → ⊥) → a ≡ by_rule (OrParSuccess p) (report success x)
        → a ≡ or_par_heard (is_tag seq_search (at (procs_of l n) c).tag) pr (record { procs = procs_of l n; vars = vs }) p x c
    unfolding or_par_heard
    body-done ne ea = rw (← ey, ne_eqb y.tag 3 ne) ea

    pub clause-found : y.tag ≡ 3 → {b : Process} → b ≡ body_child pr p y.spot.found y.spot.first
        → a ≡ by_rule (OrParSpawn n) (making x (Some c) (b ∷ []) 0)
        → a ≡ or_par_heard (is_tag seq_search (at (procs_of l n) c).tag) pr (record { procs = procs_of l n; vars = vs }) p x c
    unfolding or_par_heard
    clause-found h eb ea = rw (← ey, eq-eqb y.tag 3 h, ← ey, ← eb, procs-length l n) ea

  module _ {h : News} (eh : heard_of h ≡ heard (procs_of l n) p) {a : Applied} where
    pub par-silent : h ≡ Silent → a ≡ no_rule → a ≡ wait_rule or_par pr (record { procs = procs_of l n; vars = vs }) p x
    unfolding wait_rule or_par_wait
    par-silent e ea = rw (← eh, e) ea

    pub par-good : {c : ℕ} → h ≡ Good c → a ≡ or_par_heard (is_tag seq_search (at (procs_of l n) c).tag) pr (record { procs = procs_of l n; vars = vs }) p x c
        → a ≡ wait_rule or_par pr (record { procs = procs_of l n; vars = vs }) p x
    unfolding wait_rule or_par_wait
    par-good e ea = rw (← eh, e) ea

    pub par-bad : {c : ℕ} → h ≡ Bad c → a ≡ by_rule (OrParFailure p) (report failure x)
        → a ≡ wait_rule or_par pr (record { procs = procs_of l n; vars = vs }) p x
    unfolding wait_rule or_par_wait
    par-bad e ea = rw (← eh, e) ea

-- ---- seq-search

pub searching-made : (b p : ℕ) (x : Process) (nap : Option ℕ) {u z : Spot} {me y : Process}
    → u ≡ at_block b x.spot → me ≡ with_spot waiting u x → z ≡ block_spot x.spot b → y ≡ new_process or_search starting p z
    → {mv : Move} {a : Applied} → a ≡ by_rule mv (making me nap (y ∷ []) 0) → a ≡ by_rule mv (searching b p x nap)
unfolding searching
searching-made b p x nap eu em ez ey ea = rw (← eu, ← em, ← ez, ← ey) ea

positive : (n : ℕ) → (n ≡ 0 → ⊥) → 0 < n
positive zero ne = absurd (ne refl)
positive (suc n) ne = omega arith

module _ (pr : Program) (s : State) (p : ℕ) (x : Process) {count : ℕ} (ec : count ≡ block_count pr (literal_at pr x.spot).rel) {a : Applied} where
  pub no_block : count ≡ 0 → a ≡ by_rule (SeqSearchNone p) (report failure x) → a ≡ start_rule seq_search pr s p x
  unfolding start_rule seq_search_start
  no_block z ea = rw (← ec, le-ltb 0 count (omega arith)) ea

  pub first_block : {n : ℕ} → (count ≡ 0 → ⊥) → a ≡ by_rule (SeqSearchStart n) (searching 0 p x None) → length s.procs ≡ n → a ≡ start_rule seq_search pr s p x
  unfolding start_rule seq_search_start
  first_block ne ea en = rw (← ec, lt-ltb 0 count (positive count ne), en) ea

  module _ (c : ℕ) where
    pub no-next : count ≤ x.spot.block + 1 → a ≡ by_rule (SeqSearchFailure p) (report failure x)
        → a ≡ seq_search_next (ltb (suc x.spot.block) (block_count pr (literal_at pr x.spot).rel)) s p x c
    unfolding seq_search_next
    no-next h ea = rw (← ec, le-ltb (suc x.spot.block) count (omega arith)) ea

    pub next-found : {n : ℕ} → x.spot.block + 1 < count → a ≡ by_rule (SeqSearchNext n) (searching (x.spot.block + 1) p x (Some c)) → length s.procs ≡ n
        → a ≡ seq_search_next (ltb (suc x.spot.block) (block_count pr (literal_at pr x.spot).rel)) s p x c
    unfolding seq_search_next
    next-found {n} h ea en =
        let q : a ≡ by_rule (SeqSearchNext n) (searching (suc x.spot.block) p x (Some c)) = rw (add-one x.spot.block) at ea in
        rw (← ec, lt-ltb (suc x.spot.block) count (omega arith), en) q

module _ (pr : Program) (l : List ℕ) (n : ℕ) (vs : List (Option Term)) (p : ℕ) (x : Process) {h : News} (eh : heard_of h ≡ heard (procs_of l n) p) {a : Applied} where
  pub seq-silent : h ≡ Silent → a ≡ no_rule → a ≡ wait_rule seq_search pr (record { procs = procs_of l n; vars = vs }) p x
  unfolding wait_rule seq_search_wait
  seq-silent e ea = rw (← eh, e) ea

  pub seq-good : {c : ℕ} → h ≡ Good c → a ≡ by_rule (SeqSearchSuccess p) (report success (with_found (record { procs = procs_of l n; vars = vs }) c x))
      → a ≡ wait_rule seq_search pr (record { procs = procs_of l n; vars = vs }) p x
  unfolding wait_rule seq_search_wait
  seq-good e ea = rw (← eh, e) ea

  pub seq-bad : {c : ℕ} → h ≡ Bad c
      → ((s : State) → length s.procs ≡ n → a ≡ seq_search_next (ltb (suc x.spot.block) (block_count pr (literal_at pr x.spot).rel)) s p x c)
      → a ≡ wait_rule seq_search pr (record { procs = procs_of l n; vars = vs }) p x
  unfolding wait_rule seq_search_wait
  seq-bad e ea = rw (← eh, e) (ea (record { procs = procs_of l n; vars = vs }) (procs-length l n))

-- ---- or-search waiting

module _ (p : ℕ) (x : Process) {a : Applied} where
  module _ (s : State) {b : Bool} where
    pub all-fail : b ≡ true → a ≡ by_rule (OrSearchFailure p) (report failure x) → a ≡ or_search_wait None b s p x
    unfolding or_search_wait
    all-fail h ea = rw h ea

    pub some-try : b ≡ false → a ≡ no_rule → a ≡ or_search_wait None b s p x
    unfolding or_search_wait
    some-try h ea = rw h ea

  module _ (ps : List Process) (pr : Program) (vs : List (Option Term)) {f : Option ℕ} (ef : f ≡ lowest_child success ps p) where
    pub none_first : {b : Bool} → b ≡ all_children failure ps p → f ≡ None → ((s : State) → a ≡ or_search_wait None b s p x)
        → a ≡ wait_rule or_search pr (record { procs = ps; vars = vs }) p x
    unfolding wait_rule
    none_first eb e ea = rw (← ef, e, ← eb) (ea (record { procs = ps; vars = vs }))

    pub first-commits : {c : ℕ} → f ≡ Some c → a ≡ by_rule (OrSearchCommit p) (report success (with_found (record { procs = ps; vars = vs }) c x))
        → a ≡ wait_rule or_search pr (record { procs = ps; vars = vs }) p x
    unfolding wait_rule or_search_wait
    first-commits e ea = rw (← ef, e) ea
