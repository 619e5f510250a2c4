-- What the writers do to the lists of processes and bindings.
use Rattle.parlog.specs.declared.Term.{Term}
use Rattle.std.specs.Prelude.{Bool, false, true, ◌++◌, List, ℕ, length, replicate, set, Option, None, Some}
use Rattle.parlog.specs.Codes.{dormant}
use Rattle.parlog.specs.Delta.{Delta, row_after, with_mode}
use Rattle.parlog.specs.Scan.{build}
use Rattle.parlog.specs.Tables.{at}
use Rattle.parlog.specs.Unify.{changed}
use Rattle.parlog.specs.declared.Process.{Process}
use Rattle.tree.specs.Family.{slept_below}

unfoldable pub cut_below : Bool → List Process → ℕ → List Process
cut_below true ps p = slept_below ps p
cut_below false ps p = ps

unfoldable pub slept_at : List Process → ℕ → List Process
slept_at ps c = set ps c (with_mode dormant (at ps c))

unfoldable pub napped : Option ℕ → List Process → List Process
napped None ps = ps
napped (Some c) ps = slept_at ps c

-- apply, list by list
unfoldable pub procs_after : List Process → ℕ → Delta → List Process
procs_after ps p d = build (row_after ps p d) (length ps) ++ d.new

unfoldable pub vars_after : List (Option Term) → Delta → List (Option Term)
vars_after vs d = changed (vs ++ replicate d.fresh None) d.changes
