-- Writes through a lent writer, one behind the other.
use mathlib.Core.Path.{◌∙◌, ◌≡◌, refl}
use mathlib.Core.Bool.{◌&&◌, Bool, true}
use mathlib.Core.List.{[], ◌++◌, List}
use Prim.Native.Nat.{ℕ}
use lib.ListN.{length}
use Rattle.lay_text.proofs.Laws.{left_as, left_end, left-start, left_step, writes-both, writes-none}
use Rattle.lay_text.specs.Laying.{Left}
use Rattle.lay_text.specs.Wrote.{Wrote}
use Rattle.lay_text.specs.declared.Writer.{Writer}

-- of the bytes bs, to be laid through w, there are left cs, to be laid through x
pub record Leaves (w : Writer) (bs : List ℕ) (ok : Bool) (x : Writer) (cs : List ℕ) (rest : Bool) : Type 0 where
  pub lent : x.out.ghost_name ≡ w.out.ghost_name
  pub size : length x.out.now ≡ length w.out.now
  pub left : Left w.out.now w.to bs ok x.out.now x.to cs rest

pub leaves-start : (w : Writer) (bs : List ℕ) (ok : Bool) → Leaves w bs ok w bs ok
leaves-start w bs ok = record { lent = refl; size = refl; left = left-start w.out.now w.to bs ok w.holds.0 w.holds.1 }

pub leaves_step : {w x y : Writer} {bs : List ℕ} {ok : Bool} (xs cs : List ℕ) (here rest : Bool) → Leaves w bs ok x (xs ++ cs) (here && rest) → Wrote x xs here y → Leaves w bs ok y cs rest
leaves_step xs cs here rest l v = record { lent = v.lent ∙ l.lent; size = v.size ∙ l.size; left = left_step xs cs here rest l.left v.writes }

pub leaves_end : {w x : Writer} {bs : List ℕ} {ok : Bool} → Leaves w bs ok x [] true → Wrote w bs ok x
leaves_end l = record { lent = l.lent; size = l.size; writes = left_end l.left }

-- what is left, told otherwise
pub leaves_as : {w x : Writer} {bs : List ℕ} {ok : Bool} {cs ds : List ℕ} {rest other : Bool} → cs ≡ ds → rest ≡ other → Leaves w bs ok x cs rest → Leaves w bs ok x ds other
leaves_as e f l = record { lent = l.lent; size = l.size; left = left_as e f l.left }

-- nothing written
pub wrote-none : (w : Writer) → Wrote w [] true w
wrote-none w = record { lent = refl; size = refl; writes = writes-none w.out.now w.to w.holds.0 w.holds.1 }

-- two writes
pub wrote-both : {w x y : Writer} {bs cs : List ℕ} {a b : Bool} → Wrote w bs a x → Wrote x cs b y → Wrote w (bs ++ cs) (a && b) y
wrote-both f g = record { lent = g.lent ∙ f.lent; size = g.size ∙ f.size; writes = writes-both f.writes g.writes }
