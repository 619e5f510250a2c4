-- A turn with the marker beside the counts.
use Rattle.parlog.specs.declared.Move.{Move}
use Rattle.parlog.specs.Answer.{Answer}
use Rattle.std.specs.Prelude.{◌≡◌, [], ◌++◌, ◌∷◌, List, ◌%◌, ◌*◌, ◌+◌, ◌/◌, ℕ, drop, length, take}
use Rattle.parlog.specs.Limits.{Limits}
use Rattle.parlog.specs.Tables.{high, Lent, lent, low, u16_at}
use Rattle.parlog.specs.declared.Marker.{Marker}
use Rattle.parlog.specs.Calls.{turn_call}
use Rattle.turn_forms.specs.declared.Turned.{Turned}

-- the marker as the bytes behind the counts
unfoldable pub marker_bytes : Marker → List ℕ
marker_bytes m = low m.last ∷ high m.last ∷ m.steps % 256 ∷ m.steps / 256 % 256 ∷ m.steps / 65536 % 256 ∷ m.steps / 16777216 ∷ []

-- counts and marker as a head
abbrev pub lent_with : List ℕ → Marker → List ℕ → List ℕ → Lent
lent_with cs m ps vs = lent (cs ++ marker_bytes m) ps vs

-- the marker in these bytes
unfoldable pub marker_in : List ℕ → Marker
marker_in b = record { last = u16_at b 0; steps = u16_at b 2 + u16_at b 4 * 65536 }

-- a marker and an answer together
abbrev pub turned_from : Marker → Answer Move → Turned
turned_from m a = record { last = m.last; steps = m.steps; answer = a }

-- Turns 2, 4: a turn with the marker beside the counts
pub record TurnedSays (lim : Limits) (s cs ps vs : List ℕ) (m : Marker) (t : Turned) (cs' ps' vs' : List ℕ) : Type 0 where
  pub turned : t ≡ turned_from (marker_in (drop (length cs) (turn_call lim s (lent_with cs m ps vs)).lent.head)) (turn_call lim s (lent_with cs m ps vs)).answer
  pub counts : cs' ≡ take (length cs) (turn_call lim s (lent_with cs m ps vs)).lent.head
  pub procs : ps' ≡ (turn_call lim s (lent_with cs m ps vs)).lent.procs
  pub vars : vs' ≡ (turn_call lim s (lent_with cs m ps vs)).lent.vars
