-- The mode lines that tables have.
use Rattle.std.specs.Prelude.{List}
use Rattle.mode_table.specs.declared.Relations.{Relations}
use Rattle.read_names.specs.Tables.{modes_from}
use Rattle.text_program.specs.Source.{ModeLine}

-- those of the relations of a text
abbrev pub lines_in : Relations → List ModeLine
lines_in r = modes_from r.text.now r.lines.from
