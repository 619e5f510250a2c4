-- What is told of the children of a process.
use Rattle.std.specs.Prelude.{◌≡◌, List, ℕ}
use Rattle.children.specs.declared.News.{News}
use Rattle.children.specs.declared.News.TheVariants.{Bad, Good, Silent}
use Rattle.children.specs.declared.Told.{Told}
use Rattle.parlog.specs.Codes.{failure, success}
use Rattle.parlog.specs.Tree.{all_children, any_child, bad, good, Heard, heard, lowest_child, silent}
use Rattle.parlog.specs.declared.Process.{Process}

-- what the latest child has reported
abbrev pub heard_of : News → Heard
heard_of Silent = silent
heard_of (Good c) = good c
heard_of (Bad c) = bad c

-- Tags 6, 7, 13, 25: what the children of p report
pub record Tells (ps : List Process) (p : ℕ) (t : Told) : Type 0 where
  pub failed : t.failed ≡ any_child failure ps p
  pub succeeded : t.succeeded ≡ all_children success ps p
  pub hopeless : t.hopeless ≡ all_children failure ps p
  pub lowest : t.lowest ≡ lowest_child success ps p
  pub latest : heard_of t.latest ≡ heard ps p
