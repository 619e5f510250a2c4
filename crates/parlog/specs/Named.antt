-- The tag, the mode, the result and the kind of goal that a case of the code stands for.
use Rattle.parlog.specs.Codes.{and_par, and_seq, as_written, dormant, equate, failure, guard_eval, input_match, Kind, Mode, none, or_par, or_search, ready, reporting, Result, seq_search, starting, success, suspended, Tag, the_body, the_goal, the_guard, try_clause, waiting}
use Rattle.parlog.specs.declared.cases.Kind.{Kind as KindCase}
use Rattle.parlog.specs.declared.cases.Kind.TheVariants.{AsWritten, TheBody, TheGoal, TheGuard}
use Rattle.parlog.specs.declared.cases.Mode.{Mode as ModeCase}
use Rattle.parlog.specs.declared.cases.Mode.TheVariants.{Dormant, Ready, Reporting, Starting, Suspended, Waiting}
use Rattle.parlog.specs.declared.cases.Outcome.{Outcome}
use Rattle.parlog.specs.declared.cases.Outcome.TheVariants.{Failure, Nothing, Success}
use Rattle.parlog.specs.declared.cases.Tag.{Tag as TagCase}
use Rattle.parlog.specs.declared.cases.Tag.TheVariants.{AndPar, AndSeq, Equate, GuardEval, InputMatch, OrPar, OrSearch, SeqSearch, TryClause}

-- Tags 1: each case is the tag of its name
abbrev pub tag_named : TagCase → Tag
tag_named AndPar = and_par
tag_named AndSeq = and_seq
tag_named OrPar = or_par
tag_named SeqSearch = seq_search
tag_named OrSearch = or_search
tag_named TryClause = try_clause
tag_named InputMatch = input_match
tag_named GuardEval = guard_eval
tag_named Equate = equate

-- Tags 2: each case is the mode of its name
abbrev pub mode_named : ModeCase → Mode
mode_named Dormant = dormant
mode_named Ready = ready
mode_named Starting = starting
mode_named Waiting = waiting
mode_named Reporting = reporting
mode_named Suspended = suspended

-- Tables 3b: each case is the result of its name, and no result is a case too
abbrev pub result_named : Outcome → Result
result_named Nothing = none
result_named Success = success
result_named Failure = failure

-- Tables 3b: each case is the kind of its name
abbrev pub kind_named : KindCase → Kind
kind_named TheGoal = the_goal
kind_named TheGuard = the_guard
kind_named TheBody = the_body
kind_named AsWritten = as_written
