-- A literal as the reads hand it on, and a goal where it stands.
use Rattle.std.specs.Prelude.{[], Bool, cond, eqb, false, get_or, length, List, ltb, suc, true, zero, ℕ, ◌&&◌, ◌+◌, ◌∷◌, ◌≤◌}
use Rattle.parlog.specs.Codes.{equate, or_par, Tag}
use Rattle.parlog.specs.Image.{byte_at, equality, mode_end, record_end, stage_end, term_at, term_end}
use Rattle.parlog.specs.Program.{before, clause_at, Goal, Literal, modes_at, modes_of, out_count, outputs, Program, stage_of}
use Rattle.parlog.specs.Scan.{list_of}
use Rattle.parlog.specs.declared.Term.TheVariants.{Const}
use Rattle.program_goal.specs.declared.Home.{Home}
use Rattle.program_goal.specs.declared.Lit.{Lit}

-- a literal as a struct: relation, arity, and the arguments that it may have, in four places
unfoldable pub shown : Literal → Lit
shown l = record {
  rel = l.rel;
  arity = length l.args;
  args = get_or l.args 0 (Const 0) ∷ get_or l.args 1 (Const 0) ∷ get_or l.args 2 (Const 0) ∷ get_or l.args 3 (Const 0) ∷ [];
}

-- n stages at a place
unfoldable pub stages_of : List ℕ → ℕ → ℕ → Goal
stages_of s n at = list_of (stage_of s) (stage_end s) n at

-- the output equations of n modes and m head terms at their places
unfoldable pub outs_of : List ℕ → ℕ → ℕ → ℕ → ℕ → ℕ → List Literal
outs_of s n mat m tat v = outputs (list_of (byte_at s) mode_end n mat) (list_of (term_at s) term_end m tat) v

-- those of the clause at a place
unfoldable pub clause_outs : List ℕ → ℕ → ℕ → List Literal
clause_outs s r at = outputs (get_or (list_of (modes_of s) (record_end s) r 0) (byte_at s (at + 4)) []) (list_of (term_at s) term_end (byte_at s (at + 5)) (at + 8)) (byte_at s (at + 7))

-- the output equations that come before stage i: those of the clause, before the first stage of a committed body
unfoldable pub front : Bool → ℕ → List ℕ → ℕ → ℕ → List Literal
front false i s r at = []
front true zero s r at = clause_outs s r at
front true (suc i) s r at = []

-- the goal that stands there
unfoldable pub goal_in : List ℕ → ℕ → Home → Goal
goal_in s r h = before (front h.body 0 s r h.clause) (stages_of s h.stages h.at)

-- clause k has an output argument, and so many stages are more than one
unfoldable pub splits_with : Program → ℕ → ℕ → Bool
splits_with pr k n = ltb 0 (out_count (modes_at pr (clause_at pr k).rel)) && ltb 1 n

-- bounds of its places
abbrev pub Near : Home → Type 0
Near h = (h.stages ≤ 255) × (h.at ≤ 134217728) × (h.clause ≤ 8388608)

-- the tag of a literal of relation rel
unfoldable pub relation_tag : ℕ → Tag
relation_tag rel = cond (eqb rel equality) equate or_par
