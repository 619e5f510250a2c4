-- The numbers of a print and a parse, and what of them can be told.
use Rattle.parlog.specs.Answer.{Answer}
use Rattle.std.specs.Prelude.{◌%◌, ◌/◌, ◌≤◌, ℕ, Err, Ok}
use Rattle.parlog.specs.Numbers.{Numbers, refused_as}
use Rattle.words.specs.Nights.{told_offset, told_refusal}

-- Text 28, 29: of a print: how many bytes the text has
abbrev pub print_numbers : Answer ℕ → Numbers
print_numbers (Ok n) = record { refused = 0; a = 0; b = 0; c = told_offset n }
print_numbers (Err r) = refused_as (told_refusal r)

-- Text 21, 29: of a parse: how many bytes the image has, its low byte in bits 8 to 15 and its high one in bits 16 to 23, and how many the names have
abbrev pub parse_numbers : Answer (ℕ × ℕ) → Numbers
parse_numbers (Ok (n, m)) = record { refused = 0; a = n % 256; b = n / 256; c = told_offset m }
parse_numbers (Err r) = refused_as (told_refusal r)

-- an image whose length fits into two bytes
abbrev pub ParseFits : Answer (ℕ × ℕ) → Type 0
ParseFits (Ok (n, m)) = n ≤ 65535
ParseFits (Err r) = Unit {0}
