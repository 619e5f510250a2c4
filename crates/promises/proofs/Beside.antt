-- Request 7: a trace goes on over nights, and replays beside a saved run.
use mathlib.Core.Path.{◌≡◌, refl}
use mathlib.Core.List.{List}
use Prim.Native.Nat.{◌<◌, ℕ}
use Rattle.parlog.specs.Limits.{Limits, Usable}
use Rattle.parlog.specs.Program.{program_of}
use Rattle.parlog.specs.Tables.{Lent, tables_in}
use Rattle.promises.proofs.Keeping.{Goes, goes-holds}
use Rattle.promises.proofs.Nights.{read_back}
use Rattle.promises.proofs.Recorded.{day-of, Trail, trail-on, trail-plays}
use Rattle.promises.specs.Outcomes.{ReplayMeets}
use Rattle.promises.specs.Reach.{Night}
use Rattle.promises.specs.Refusals.{LetIn}
use Rattle.promises.specs.Traces.{first_day, PlaysTo, RecordedOver, then_night_traced}

module _ (lim : Limits) (ok : Usable lim) (s : List ℕ) (l : Lent) {r c : ℕ} (i : LetIn lim s l r c) (a : ℕ) (h : a < 65536) where
  trail-over : {x : List ℕ} {m : Lent} {b : ℕ} → RecordedOver lim s l a x m b → Trail lim ok s l i a x m b
  trail-over (first_day k) = (day-of lim ok s l i a h k).trail
  trail-over (then_night_traced {y = y} {m = m} {n = n} {m' = m'} {b = b} {c = e} k night day) =
      let tr = trail-over k in
      let back = read_back lim s m n night tr.enters in
      let d = (day-of lim ok s n back.enters b tr.stamp day).trail in
      let same = back.tables in
      trail-on lim ok s l i a tr (tables_in m') (rw same at d.gone) y d.records e (rw same at d.all) d.size d.stamp m' refl d.enters

  -- a replay on bytes that hold the tables of l
  over-plays : {x : List ℕ} {m : Lent} {b : ℕ} → RecordedOver lim s l a x m b → (q : Lent) → LetIn lim s q r c → tables_in q ≡ tables_in l → {w : ℕ} {m' : Lent} → ReplayMeets lim s q x w m' → PlaysTo x w q m m'
  over-plays {m = m} k q j same meets =
      let tr = trail-over k in
      let (accepted, told, bytes) = trail-plays lim ok s l i a h tr q j same meets in
      let gone : Goes lim (program_of s r c) (tables_in q) (tables_in m) = rw same tr.gone in
      record { accepted = accepted; told = told; tables = rw bytes (goes-holds lim s q j (tables_in m) gone) }

  -- THE LAW: what calls recorded, with nights in between, replays on the bytes that the first began with
  pub recorded-over-replays : {x : List ℕ} {m : Lent} {b : ℕ} → RecordedOver lim s l a x m b → {w : ℕ} {m' : Lent} → ReplayMeets lim s l x w m' → PlaysTo x w l m m'
  recorded-over-replays k meets = over-plays k l i refl meets

  -- THE LAW: and it does so beside a saved run: on the bytes that a night made of them
  pub replays-beside : {x : List ℕ} {m : Lent} {b : ℕ} → RecordedOver lim s l a x m b → {q : Lent} → Night lim s l q → {w : ℕ} {m' : Lent} → ReplayMeets lim s q x w m' → PlaysTo x w q m m'
  replays-beside k {q} night meets = let back = read_back lim s l q night i in over-plays k q back.enters back.tables meets
