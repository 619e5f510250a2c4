-- Refusals and limits that are computed: their statements stand in specs/Instances and specs/CallInstances.
use mathlib.Core.Path.{refl}
use Rattle.parlog.proofs.Opened.{opened}
use Rattle.parlog.specs.Cases.{empty_goal}
use Rattle.refusals.specs.CallInstances.{BytesShown, CountsTested, ImageFirst, NumbersTested, PlacesTested, RoomTold, RowsTested, SizesTested, SplitTested, StepsTold, SuppliesTold, WordsShown}
use Rattle.refusals.specs.Instances.{BodiesRefused, CutsAndKindsRefused, LongsRefused, ManyRefused, NamesRefused, OrderOfTests, times}

-- ---- refusals 1 to 7

pub cuts_and_kinds : CutsAndKindsRefused
unfolding opened empty_goal
cuts_and_kinds = (refl, refl, refl, refl, refl, refl, refl, refl, refl, refl)

pub bodies : BodiesRefused
unfolding opened empty_goal times
bodies = (refl, refl, refl, refl, refl, refl, refl, refl, refl, refl, refl, refl, refl, refl, refl, refl, refl, refl, refl, refl, refl, refl, refl, refl, refl)

pub names : NamesRefused
unfolding opened empty_goal times
names = (refl, refl, refl, refl, refl, refl, refl, refl, refl, refl, refl, refl, refl, refl)

pub many : ManyRefused
unfolding opened empty_goal times
many = (refl, refl, refl, refl, refl, refl, refl, refl)

pub test_order : OrderOfTests
unfolding opened times
test_order = (refl, refl, refl, refl, refl, refl, refl)

pub longs : LongsRefused
unfolding opened
longs = (refl, refl)

-- ---- refusals 8 to 14

pub sizes : SizesTested
unfolding opened
sizes = (refl, refl, refl, refl, refl, refl, refl, refl)

pub counts : CountsTested
unfolding opened
counts = (refl, refl, refl, refl, refl, refl)

pub numbers : NumbersTested
unfolding opened
numbers = (refl, refl, refl, refl, refl, refl, refl, refl, refl, refl)

pub rows : RowsTested
unfolding opened
rows = (refl, refl, refl, refl, refl, refl, refl)

pub places : PlacesTested
unfolding opened
places = (refl, refl, refl, refl, refl, refl, refl, refl, refl, refl, refl)

pub splits : SplitTested
unfolding opened
splits = (refl, refl, refl, refl)

pub steps : StepsTold
unfolding opened
steps = (refl, refl, refl, refl, refl, refl)

pub room : RoomTold
unfolding opened
room = (refl, refl, refl, refl, refl)

pub supplies : SuppliesTold
unfolding opened
supplies = (refl, refl, refl, refl, refl, refl, refl, refl)

pub entries : ImageFirst
unfolding opened
entries = (refl, refl)

pub bytes : BytesShown
unfolding opened
bytes = (refl, refl, refl, refl, refl, refl, refl, refl)

pub words : WordsShown
unfolding opened
words = (refl, refl, refl, refl, refl)
