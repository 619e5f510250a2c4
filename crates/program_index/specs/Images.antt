-- An accepted image with its index, and the program that it holds.
use Rattle.parlog.specs.Program.{Program, program_of}
use Rattle.program_index.specs.declared.Image.{Image}

-- the program of an accepted image
abbrev pub program_in : Image → Program
program_in i = program_of i.bytes.now i.relations i.clauses
