-- How many records there are, and how many with one more.
use mathlib.Core.Path.{◌≡◌, refl}
use mathlib.Core.Bool.{false}
use Prim.Native.Nat.{◌+◌, ◌<◌, ℕ}
use borrow.Author.Tests.{leb-false}
use Rattle.judge_image.specs.Judged.{progress_of}
use Rattle.parlog.specs.Load.{too_many}
use Rattle.parlog.specs.declared.Progress.{Progress}

pub few-relations : (g : Progress) → too_many g 1 ≡ false → g.relations < 32
unfolding too_many
few-relations g e = leb-false 32 g.relations e

pub few-clauses : (g : Progress) → too_many g 2 ≡ false → g.clauses < 64
unfolding too_many
few-clauses g e = leb-false 64 g.clauses e

pub more-relations : (g : Progress) → ((progress_of g 1 0 0).relations ≡ g.relations + 1) × ((progress_of g 1 0 0).clauses ≡ g.clauses)
unfolding progress_of
more-relations g = (refl, refl)

pub more-clauses : (g : Progress) (r mark : ℕ) → ((progress_of g 2 r mark).clauses ≡ g.clauses + 1) × ((progress_of g 2 r mark).relation ≡ r) × ((progress_of g 2 r mark).relations ≡ g.relations)
unfolding progress_of
more-clauses g r mark = (refl, refl, refl)
