-- The ways through literals, goals and clauses.
use mathlib.Core.Path.{◌∙◌, ◌≡◌, ap, refl}
use mathlib.Core.Bool.{◌||◌, false, true}
use mathlib.Core.List.{[], ◌++◌, ◌∷◌, List}
use Prim.Native.Nat.{◌≤◌, ℕ}
use lib.Dec.{eqb}
use lib.ListN.{drop, get_or, length}
use borrow.Author.Tests.{eq-eqb, ne_eqb}
use Rattle.missing_call.proofs.Folded.{least_on}
use Rattle.missing_call.proofs.One.{Called}
use Rattle.missing_call.specs.Called.{calls_from, clause_calls, goal_calls, said_calls}
use Rattle.missing_call.specs.Least.{least}
use Rattle.missing_call.specs.Sees.{least_of, one_at, OneIn, Sees, unseen, Within}
use Rattle.missing_call.specs.declared.Asked.{Asked}
use Rattle.missing_call.specs.declared.Seen.{Seen}
use Rattle.read_clause.specs.Parts.{ClauseIn, part_of}
use Rattle.read_clause.specs.declared.ClauseAt.{ClauseAt}
use Rattle.read_goal.specs.Spans.{Spans}
use Rattle.read_goal.specs.declared.Span.{Span}
use Rattle.text_names.proofs.Rest.{first-at}
use Rattle.text_names.specs.Bytes.{back, front, next, past, skip}
use Rattle.text_names.specs.Names.{Name}
use Rattle.text_program.specs.Numbered.{joined}
use Rattle.text_program.specs.Source.{behind_arrow, is_clause, lines_for, read_body, read_brackets, read_clause, Reader, read_goal, read_literal, read_term, Said}

-- a literal is walked over
abbrev LiteralSeen : List ℕ → List ℕ → Asked → Seen → Seen → Type 0
LiteralSeen s t a w r = Sees s (read_literal (drop w.end s)).rest (least_of s t a w (said_calls (read_literal (drop w.end s)).value)) r

module _ (s t : List ℕ) (a : Asked) (w : Seen) (m p b : ℕ) (name : drop m s ≡ back (drop w.end s)) (blanks : drop p s ≡ skip (drop m s)) (is : b ≡ get_or s p 0) where
  behind : drop p s ≡ past (drop w.end s)
  behind = blanks ∙ ap skip name

  pub equality-seen : (from e : ℕ) → b ≡ 61 → drop from s ≡ next (drop p s) → drop e s ≡ past (drop from s) → e ≤ length s → OneIn s w.at → LiteralSeen s t a w (record { end = e; at = w.at })
  unfolding read_literal read_term least
  equality-seen from e h f g i k =
      rw (← behind, first-at s p, ← is, eq-eqb b 61 h) (record { end = g ∙ ap past (f ∙ ap next behind); inside = i; name = refl; within = k })

  pub call-seen : (u : Seen) (g : Span) → (b ≡ 61 → ⊥) → Called s t a w w.end u → Spans s (read_brackets read_term (drop p s)).rest (length (read_brackets read_term (drop p s)).value) true g →
      LiteralSeen s t a w (record { end = g.end; at = u.at })
  unfolding read_literal
  call-seen u g h k v =
      rw (← behind, first-at s p, ← is, ne_eqb b 61 h)
      (record { end = v.end ∙ ap (λ (z : List ℕ). (read_brackets read_term z).rest) behind; inside = v.inside; name = k.0; within = k.1 })

-- ---- a goal, as it is read

-- what a reader has read is walked over
abbrev GoalSeen : Reader (List (List Said)) → List ℕ → List ℕ → Asked → Seen → Seen → Type 0
GoalSeen read s t a w r = Sees s (read (drop w.end s)).rest (least_of s t a w (goal_calls (read (drop w.end s)).value)) r

module _ {s : List ℕ} (t : List ℕ) (a : Asked) {w : Seen} (here : Within s w) where
  -- nothing is there
  none_seen : Sees s (drop w.end s) (least_of s t a w (goal_calls [])) w
  unfolding joined least
  none_seen = record { end = refl; inside = here.inside; name = refl; within = here.within }

  module _ (b : ℕ) (is : b ≡ get_or s w.end 0) where
    pub body-none : (eqb b 46 || eqb b 59) ≡ true → GoalSeen read_body s t a w w
    unfolding read_body
    body-none m = rw (first-at s w.end, ← is, m) none_seen

    pub body-some : (v : Seen) → (eqb b 46 || eqb b 59) ≡ false → GoalSeen read_goal s t a w v → GoalSeen read_body s t a w v
    unfolding read_body
    body-some v m k = rw (first-at s w.end, ← is, m) k

-- a goal of a clause is walked over
abbrev pub PartSeen : List ℕ → List ℕ → Asked → Seen → List (List Said) → Seen → Type 0
PartSeen s t a w g r = Sees s (drop r.end s) (least_of s t a w (goal_calls g)) r

pub part_none : {s : List ℕ} (t : List ℕ) (a : Asked) {w : Seen} → Within s w → PartSeen s t a w [] w
part_none t a here = none_seen t a here

-- one that was read at a place
pub part_some : (s t : List ℕ) (a : Asked) (w : Seen) {v r : Seen} (read : Reader (List (List Said))) (at : ℕ) → v ≡ record { end = at; at = w.at } → GoalSeen read s t a v r → PartSeen s t a w (read (drop at s)).value r
part_some s t a w {v} {r} read at e g =
    let k = (rw e at g) in
    record { end = refl; inside = k.inside; name = k.name; within = k.within }

-- ---- a clause

module _ (s t : List ℕ) (a : Asked) (w : Seen) (c : ClauseAt) (u g b : Seen) where
  pub clause-seen : ClauseIn s w.end (read_clause (drop w.end s)) c → Called s t a w w.end u → PartSeen s t a u (part_of s c.guard) g → PartSeen s t a g (part_of s c.body) b →
      Sees s (read_clause (drop w.end s)).rest (least_of s t a w (clause_calls (read_clause (drop w.end s)).value)) (record { end = c.next; at = b.at })
  clause-seen is head guard body =
      let C = (read_clause (drop w.end s)).value in
      let G = part_of s c.guard in
      let B = part_of s c.body in
      record {
        end = is.next;
        inside = is.next_in;
        name = body.name ∙ least_on s t a u g (goal_calls G) (goal_calls B) guard.name ∙ least_on s t a w u (front (drop w.end s) ∷ []) (goal_calls G ++ goal_calls B) head.0
            ∙ ap (λ (y : Name). least_of s t a w (y ∷ (goal_calls G ++ goal_calls B))) is.name
            ∙ ap (λ (y : List (List Said)). least_of s t a w (C.name ∷ (goal_calls y ++ goal_calls B))) is.guard
            ∙ ap (λ (y : List (List Said)). least_of s t a w (C.name ∷ (goal_calls C.guard ++ goal_calls y))) is.body;
        within = body.within;
      }

-- ---- clauses and the goal behind them

module _ (s t : List ℕ) (a : Asked) (from left : ℕ) (c m r : Seen) (e : ℕ) where
  pub text-seen : Sees s (lines_for left is_clause read_clause (drop from s)).rest (least_of s t a (unseen from) (joined clause_calls (lines_for left is_clause read_clause (drop from s)).value)) c →
      drop e s ≡ behind_arrow (drop c.end s) → m ≡ record { end = e; at = c.at } → GoalSeen read_body s t a m r →
      (one_at s r.at ≡ least_of s t a (unseen from) (calls_from s from left)) × OneIn s r.at
  text-seen lines arrow is body =
      let L = lines_for left is_clause read_clause (drop from s) in
      let N = joined clause_calls L.value in
      let B = goal_calls (read_body (drop e s)).value in
      let last : one_at s r.at ≡ least_of s t a c B = (rw is at body).name in (
        last ∙ least_on s t a (unseen from) c N B lines.name ∙ ap (λ (y : List ℕ). least_of s t a (unseen from) (N ++ goal_calls (read_body y).value)) (arrow ∙ ap behind_arrow lines.end),
        body.within,
      )
