-- The processes that a view of a table shows.
use Rattle.std.specs.Prelude.{List}
use Rattle.parlog.specs.Tables.{procs_of}
use Rattle.parlog.specs.declared.Process.{Process}
use Rattle.rows.specs.declared.Processes.{Processes}

-- the used rows
abbrev pub processes_in : Processes → List Process
processes_in p = procs_of p.bytes.now p.count
