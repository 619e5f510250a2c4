-- Worked examples of texts and images.
use Rattle.parlog.specs.Answer.{Answer}
use Rattle.std.specs.Prelude.{[], ◌∷◌, List, ◌≡◌, ℕ, Err, Ok}
use Rattle.parlog.specs.Load.{refusal}
use Rattle.text_program.specs.Parsing.{parse_call}
use Rattle.text_program.specs.Printing.{print_call}

-- `mode s(^).`, `s(five).`, `<- s(A).`, a line each
abbrev pub one_fact : List ℕ
one_fact = 109 ∷ 111 ∷ 100 ∷ 101 ∷ 32 ∷ 115 ∷ 40 ∷ 94 ∷ 41 ∷ 46 ∷ 10 ∷ 115 ∷ 40 ∷ 102 ∷ 105 ∷ 118 ∷ 101 ∷ 41 ∷ 46 ∷ 10 ∷ 60 ∷ 45 ∷ 32 ∷ 115 ∷ 40 ∷ 65 ∷ 41 ∷ 46 ∷ 10 ∷ []

-- its image: that of the last marked run, with another constant
abbrev pub one_fact_image : List ℕ
one_fact_image = 6 ∷ 0 ∷ 1 ∷ 0 ∷ 1 ∷ 1 ∷ 12 ∷ 0 ∷ 2 ∷ 0 ∷ 0 ∷ 1 ∷ 0 ∷ 0 ∷ 0 ∷ 0 ∷ 0 ∷ 0 ∷ 11 ∷ 0 ∷ 3 ∷ 0 ∷ 1 ∷ 1 ∷ 1 ∷ 0 ∷ 1 ∷ 0 ∷ 128 ∷ []

-- its names: `s`, `five`
abbrev pub one_fact_names : List ℕ
one_fact_names = 115 ∷ 10 ∷ 102 ∷ 105 ∷ 118 ∷ 101 ∷ 10 ∷ []

-- two relations and four clauses, with blanks, names and last marks as one likes
abbrev pub loose : List ℕ
loose = 109 ∷ 111 ∷ 100 ∷ 101 ∷ 32 ∷ 112 ∷ 32 ∷ 40 ∷ 32 ∷ 63 ∷ 32 ∷ 44 ∷ 32 ∷ 94 ∷ 32 ∷ 41 ∷ 32 ∷ 46 ∷ 13 ∷ 10 ∷ 109 ∷ 111 ∷ 100 ∷ 101 ∷ 32 ∷ 113 ∷ 46 ∷ 10 ∷ 32 ∷ 112 ∷ 40 ∷ 97 ∷ 44 ∷ 88 ∷ 41 ∷ 32 ∷ 60 ∷ 45 ∷ 32 ∷ 113 ∷ 32 ∷ 38 ∷ 32 ∷ 89 ∷ 61 ∷ 98 ∷ 44 ∷ 88 ∷ 61 ∷ 89 ∷ 58 ∷ 113 ∷ 59 ∷ 112 ∷ 40 ∷ 98 ∷ 44 ∷ 90 ∷ 41 ∷ 60 ∷ 45 ∷ 10 ∷ 9 ∷ 90 ∷ 32 ∷ 61 ∷ 32 ∷ 97 ∷ 46 ∷ 10 ∷ 112 ∷ 40 ∷ 77 ∷ 111 ∷ 100 ∷ 101 ∷ 44 ∷ 99 ∷ 41 ∷ 59 ∷ 10 ∷ 113 ∷ 32 ∷ 60 ∷ 45 ∷ 32 ∷ 113 ∷ 32 ∷ 58 ∷ 32 ∷ 59 ∷ 10 ∷ 60 ∷ 45 ∷ 112 ∷ 40 ∷ 99 ∷ 44 ∷ 81 ∷ 41 ∷ 44 ∷ 81 ∷ 61 ∷ 87 ∷ 38 ∷ 113 ∷ 46 ∷ []

-- the same as it is written
abbrev pub tidy : List ℕ
tidy = 109 ∷ 111 ∷ 100 ∷ 101 ∷ 32 ∷ 112 ∷ 40 ∷ 63 ∷ 44 ∷ 94 ∷ 41 ∷ 46 ∷ 10 ∷ 109 ∷ 111 ∷ 100 ∷ 101 ∷ 32 ∷ 113 ∷ 46 ∷ 10 ∷ 112 ∷ 40 ∷ 97 ∷ 44 ∷ 65 ∷ 41 ∷ 32 ∷ 60 ∷ 45 ∷ 32 ∷ 113 ∷ 32 ∷ 38 ∷ 32 ∷ 66 ∷ 32 ∷ 61 ∷ 32 ∷ 98 ∷ 44 ∷ 32 ∷ 65 ∷ 32 ∷ 61 ∷ 32 ∷ 66 ∷ 32 ∷ 58 ∷ 32 ∷ 113 ∷ 59 ∷ 10 ∷ 112 ∷ 40 ∷ 98 ∷ 44 ∷ 65 ∷ 41 ∷ 32 ∷ 60 ∷ 45 ∷ 32 ∷ 65 ∷ 32 ∷ 61 ∷ 32 ∷ 97 ∷ 46 ∷ 10 ∷ 112 ∷ 40 ∷ 65 ∷ 44 ∷ 99 ∷ 41 ∷ 46 ∷ 10 ∷ 113 ∷ 32 ∷ 60 ∷ 45 ∷ 32 ∷ 113 ∷ 32 ∷ 58 ∷ 32 ∷ 46 ∷ 10 ∷ 60 ∷ 45 ∷ 32 ∷ 112 ∷ 40 ∷ 99 ∷ 44 ∷ 65 ∷ 41 ∷ 44 ∷ 32 ∷ 65 ∷ 32 ∷ 61 ∷ 32 ∷ 66 ∷ 32 ∷ 38 ∷ 32 ∷ 113 ∷ 46 ∷ 10 ∷ []

-- the image of both
abbrev pub loose_image : List ℕ
loose_image = 7 ∷ 0 ∷ 1 ∷ 0 ∷ 2 ∷ 0 ∷ 1 ∷ 5 ∷ 0 ∷ 1 ∷ 0 ∷ 0 ∷ 33 ∷ 0 ∷ 2 ∷ 0 ∷ 0 ∷ 2 ∷ 0 ∷ 2 ∷ 0 ∷ 0 ∷ 0 ∷ 128 ∷ 2 ∷ 1 ∷ 1 ∷ 0 ∷ 2 ∷ 255 ∷ 2 ∷ 1 ∷ 128 ∷ 1 ∷ 0 ∷ 255 ∷ 2 ∷ 0 ∷ 128 ∷ 1 ∷ 128 ∷ 1 ∷ 1 ∷ 1 ∷ 0 ∷ 21 ∷ 0 ∷ 2 ∷ 0 ∷ 0 ∷ 2 ∷ 1 ∷ 1 ∷ 1 ∷ 0 ∷ 0 ∷ 128 ∷ 0 ∷ 1 ∷ 1 ∷ 255 ∷ 2 ∷ 0 ∷ 128 ∷ 0 ∷ 0 ∷ 14 ∷ 0 ∷ 2 ∷ 0 ∷ 0 ∷ 2 ∷ 0 ∷ 1 ∷ 0 ∷ 128 ∷ 2 ∷ 0 ∷ 0 ∷ 0 ∷ 13 ∷ 0 ∷ 2 ∷ 0 ∷ 1 ∷ 0 ∷ 0 ∷ 0 ∷ 1 ∷ 1 ∷ 1 ∷ 0 ∷ 0 ∷ 22 ∷ 0 ∷ 3 ∷ 0 ∷ 2 ∷ 2 ∷ 2 ∷ 0 ∷ 2 ∷ 2 ∷ 0 ∷ 0 ∷ 128 ∷ 255 ∷ 2 ∷ 0 ∷ 128 ∷ 1 ∷ 128 ∷ 1 ∷ 1 ∷ 0 ∷ []

-- and their names: `p`, `q`, `a`, `b`, `c`
abbrev pub loose_names : List ℕ
loose_names = 112 ∷ 10 ∷ 113 ∷ 10 ∷ 97 ∷ 10 ∷ 98 ∷ 10 ∷ 99 ∷ 10 ∷ []

-- `<- p.`: no mode line
abbrev pub no_mode : List ℕ
no_mode = 60 ∷ 45 ∷ 32 ∷ 112 ∷ 46 ∷ []

-- `mode p(?).`, `<- p.`: another arity
abbrev pub other_arity : List ℕ
other_arity = 109 ∷ 111 ∷ 100 ∷ 101 ∷ 32 ∷ 112 ∷ 40 ∷ 63 ∷ 41 ∷ 46 ∷ 10 ∷ 60 ∷ 45 ∷ 32 ∷ 112 ∷ 46 ∷ []

-- mode lines of `p`, `q` and `p`
abbrev pub mode_twice : List ℕ
mode_twice = 109 ∷ 111 ∷ 100 ∷ 101 ∷ 32 ∷ 112 ∷ 46 ∷ 10 ∷ 109 ∷ 111 ∷ 100 ∷ 101 ∷ 32 ∷ 113 ∷ 46 ∷ 10 ∷ 109 ∷ 111 ∷ 100 ∷ 101 ∷ 32 ∷ 112 ∷ 46 ∷ 10 ∷ 60 ∷ 45 ∷ 32 ∷ 112 ∷ 46 ∷ []

-- a mode line with five marks
abbrev pub five_marks : List ℕ
five_marks = 109 ∷ 111 ∷ 100 ∷ 101 ∷ 32 ∷ 112 ∷ 40 ∷ 63 ∷ 44 ∷ 63 ∷ 44 ∷ 63 ∷ 44 ∷ 63 ∷ 44 ∷ 63 ∷ 41 ∷ 46 ∷ 10 ∷ 60 ∷ 45 ∷ 32 ∷ 46 ∷ []

-- an arity that is wrong, and behind it a relation without mode line
abbrev pub late_no_mode : List ℕ
late_no_mode = 109 ∷ 111 ∷ 100 ∷ 101 ∷ 32 ∷ 112 ∷ 40 ∷ 63 ∷ 41 ∷ 46 ∷ 10 ∷ 112 ∷ 46 ∷ 10 ∷ 60 ∷ 45 ∷ 32 ∷ 113 ∷ 46 ∷ []

-- clauses of `q` before those of `p`
abbrev pub backwards : List ℕ
backwards = 109 ∷ 111 ∷ 100 ∷ 101 ∷ 32 ∷ 112 ∷ 46 ∷ 10 ∷ 109 ∷ 111 ∷ 100 ∷ 101 ∷ 32 ∷ 113 ∷ 46 ∷ 10 ∷ 113 ∷ 46 ∷ 10 ∷ 112 ∷ 46 ∷ 10 ∷ 60 ∷ 45 ∷ 32 ∷ 46 ∷ []

-- a goal with seventeen variables
abbrev pub many_variables : List ℕ
many_variables = 109 ∷ 111 ∷ 100 ∷ 101 ∷ 32 ∷ 112 ∷ 40 ∷ 63 ∷ 44 ∷ 63 ∷ 44 ∷ 63 ∷ 44 ∷ 63 ∷ 41 ∷ 46 ∷ 10 ∷ 60 ∷ 45 ∷ 32 ∷ 112 ∷ 40 ∷ 65 ∷ 44 ∷ 66 ∷ 44 ∷ 67 ∷ 44 ∷ 68 ∷ 41 ∷ 44 ∷ 32 ∷ 112 ∷ 40 ∷ 69 ∷ 44 ∷ 70 ∷ 44 ∷ 71 ∷ 44 ∷ 72 ∷ 41 ∷ 44 ∷ 32 ∷ 112 ∷ 40 ∷ 73 ∷ 44 ∷ 74 ∷ 44 ∷ 75 ∷ 44 ∷ 76 ∷ 41 ∷ 44 ∷ 32 ∷ 112 ∷ 40 ∷ 77 ∷ 44 ∷ 78 ∷ 44 ∷ 79 ∷ 44 ∷ 80 ∷ 41 ∷ 44 ∷ 32 ∷ 81 ∷ 32 ∷ 61 ∷ 32 ∷ 97 ∷ 46 ∷ []

-- 33 mode lines
abbrev pub many_relations : List ℕ
many_relations = 109 ∷ 111 ∷ 100 ∷ 101 ∷ 32 ∷ 97 ∷ 46 ∷ 109 ∷ 111 ∷ 100 ∷ 101 ∷ 32 ∷ 98 ∷ 46 ∷ 109 ∷ 111 ∷ 100 ∷ 101 ∷ 32 ∷ 99 ∷ 46 ∷ 109 ∷ 111 ∷ 100 ∷ 101 ∷ 32 ∷ 100 ∷ 46 ∷ 109 ∷ 111 ∷ 100 ∷ 101 ∷ 32 ∷ 101 ∷ 46 ∷ 109 ∷ 111 ∷ 100 ∷ 101 ∷ 32 ∷ 102 ∷ 46 ∷ 109 ∷ 111 ∷ 100 ∷ 101 ∷ 32 ∷ 103 ∷ 46 ∷ 109 ∷ 111 ∷ 100 ∷ 101 ∷ 32 ∷ 104 ∷ 46 ∷ 109 ∷ 111 ∷ 100 ∷ 101 ∷ 32 ∷ 105 ∷ 46 ∷ 109 ∷ 111 ∷ 100 ∷ 101 ∷ 32 ∷ 106 ∷ 46 ∷ 109 ∷ 111 ∷ 100 ∷ 101 ∷ 32 ∷ 107 ∷ 46 ∷ 109 ∷ 111 ∷ 100 ∷ 101 ∷ 32 ∷ 108 ∷ 46 ∷ 109 ∷ 111 ∷ 100 ∷ 101 ∷ 32 ∷ 109 ∷ 46 ∷ 109 ∷ 111 ∷ 100 ∷ 101 ∷ 32 ∷ 110 ∷ 46 ∷ 109 ∷ 111 ∷ 100 ∷ 101 ∷ 32 ∷ 111 ∷ 46 ∷ 109 ∷ 111 ∷ 100 ∷ 101 ∷ 32 ∷ 112 ∷ 46 ∷ 109 ∷ 111 ∷ 100 ∷ 101 ∷ 32 ∷ 113 ∷ 46 ∷ 109 ∷ 111 ∷ 100 ∷ 101 ∷ 32 ∷ 114 ∷ 46 ∷ 109 ∷ 111 ∷ 100 ∷ 101 ∷ 32 ∷ 115 ∷ 46 ∷ 109 ∷ 111 ∷ 100 ∷ 101 ∷ 32 ∷ 116 ∷ 46 ∷ 109 ∷ 111 ∷ 100 ∷ 101 ∷ 32 ∷ 117 ∷ 46 ∷ 109 ∷ 111 ∷ 100 ∷ 101 ∷ 32 ∷ 118 ∷ 46 ∷ 109 ∷ 111 ∷ 100 ∷ 101 ∷ 32 ∷ 119 ∷ 46 ∷ 109 ∷ 111 ∷ 100 ∷ 101 ∷ 32 ∷ 120 ∷ 46 ∷ 109 ∷ 111 ∷ 100 ∷ 101 ∷ 32 ∷ 121 ∷ 46 ∷ 109 ∷ 111 ∷ 100 ∷ 101 ∷ 32 ∷ 122 ∷ 46 ∷ 109 ∷ 111 ∷ 100 ∷ 101 ∷ 32 ∷ 97 ∷ 97 ∷ 46 ∷ 109 ∷ 111 ∷ 100 ∷ 101 ∷ 32 ∷ 97 ∷ 98 ∷ 46 ∷ 109 ∷ 111 ∷ 100 ∷ 101 ∷ 32 ∷ 97 ∷ 99 ∷ 46 ∷ 109 ∷ 111 ∷ 100 ∷ 101 ∷ 32 ∷ 97 ∷ 100 ∷ 46 ∷ 109 ∷ 111 ∷ 100 ∷ 101 ∷ 32 ∷ 97 ∷ 101 ∷ 46 ∷ 109 ∷ 111 ∷ 100 ∷ 101 ∷ 32 ∷ 97 ∷ 102 ∷ 46 ∷ 109 ∷ 111 ∷ 100 ∷ 101 ∷ 32 ∷ 97 ∷ 103 ∷ 46 ∷ 60 ∷ 45 ∷ 46 ∷ []

-- 32 mode lines, and one more of the first relation
abbrev pub many_and_twice : List ℕ
many_and_twice = 109 ∷ 111 ∷ 100 ∷ 101 ∷ 32 ∷ 97 ∷ 46 ∷ 109 ∷ 111 ∷ 100 ∷ 101 ∷ 32 ∷ 98 ∷ 46 ∷ 109 ∷ 111 ∷ 100 ∷ 101 ∷ 32 ∷ 99 ∷ 46 ∷ 109 ∷ 111 ∷ 100 ∷ 101 ∷ 32 ∷ 100 ∷ 46 ∷ 109 ∷ 111 ∷ 100 ∷ 101 ∷ 32 ∷ 101 ∷ 46 ∷ 109 ∷ 111 ∷ 100 ∷ 101 ∷ 32 ∷ 102 ∷ 46 ∷ 109 ∷ 111 ∷ 100 ∷ 101 ∷ 32 ∷ 103 ∷ 46 ∷ 109 ∷ 111 ∷ 100 ∷ 101 ∷ 32 ∷ 104 ∷ 46 ∷ 109 ∷ 111 ∷ 100 ∷ 101 ∷ 32 ∷ 105 ∷ 46 ∷ 109 ∷ 111 ∷ 100 ∷ 101 ∷ 32 ∷ 106 ∷ 46 ∷ 109 ∷ 111 ∷ 100 ∷ 101 ∷ 32 ∷ 107 ∷ 46 ∷ 109 ∷ 111 ∷ 100 ∷ 101 ∷ 32 ∷ 108 ∷ 46 ∷ 109 ∷ 111 ∷ 100 ∷ 101 ∷ 32 ∷ 109 ∷ 46 ∷ 109 ∷ 111 ∷ 100 ∷ 101 ∷ 32 ∷ 110 ∷ 46 ∷ 109 ∷ 111 ∷ 100 ∷ 101 ∷ 32 ∷ 111 ∷ 46 ∷ 109 ∷ 111 ∷ 100 ∷ 101 ∷ 32 ∷ 112 ∷ 46 ∷ 109 ∷ 111 ∷ 100 ∷ 101 ∷ 32 ∷ 113 ∷ 46 ∷ 109 ∷ 111 ∷ 100 ∷ 101 ∷ 32 ∷ 114 ∷ 46 ∷ 109 ∷ 111 ∷ 100 ∷ 101 ∷ 32 ∷ 115 ∷ 46 ∷ 109 ∷ 111 ∷ 100 ∷ 101 ∷ 32 ∷ 116 ∷ 46 ∷ 109 ∷ 111 ∷ 100 ∷ 101 ∷ 32 ∷ 117 ∷ 46 ∷ 109 ∷ 111 ∷ 100 ∷ 101 ∷ 32 ∷ 118 ∷ 46 ∷ 109 ∷ 111 ∷ 100 ∷ 101 ∷ 32 ∷ 119 ∷ 46 ∷ 109 ∷ 111 ∷ 100 ∷ 101 ∷ 32 ∷ 120 ∷ 46 ∷ 109 ∷ 111 ∷ 100 ∷ 101 ∷ 32 ∷ 121 ∷ 46 ∷ 109 ∷ 111 ∷ 100 ∷ 101 ∷ 32 ∷ 122 ∷ 46 ∷ 109 ∷ 111 ∷ 100 ∷ 101 ∷ 32 ∷ 97 ∷ 97 ∷ 46 ∷ 109 ∷ 111 ∷ 100 ∷ 101 ∷ 32 ∷ 97 ∷ 98 ∷ 46 ∷ 109 ∷ 111 ∷ 100 ∷ 101 ∷ 32 ∷ 97 ∷ 99 ∷ 46 ∷ 109 ∷ 111 ∷ 100 ∷ 101 ∷ 32 ∷ 97 ∷ 100 ∷ 46 ∷ 109 ∷ 111 ∷ 100 ∷ 101 ∷ 32 ∷ 97 ∷ 101 ∷ 46 ∷ 109 ∷ 111 ∷ 100 ∷ 101 ∷ 32 ∷ 97 ∷ 102 ∷ 46 ∷ 109 ∷ 111 ∷ 100 ∷ 101 ∷ 32 ∷ 97 ∷ 46 ∷ 60 ∷ 45 ∷ 46 ∷ []

-- a second mode line, with five marks
abbrev pub marks_and_twice : List ℕ
marks_and_twice = 109 ∷ 111 ∷ 100 ∷ 101 ∷ 32 ∷ 112 ∷ 46 ∷ 109 ∷ 111 ∷ 100 ∷ 101 ∷ 32 ∷ 112 ∷ 40 ∷ 63 ∷ 44 ∷ 63 ∷ 44 ∷ 63 ∷ 44 ∷ 63 ∷ 44 ∷ 63 ∷ 41 ∷ 46 ∷ 60 ∷ 45 ∷ 46 ∷ []

-- 65 clauses, a block each
abbrev pub many_clauses : List ℕ
many_clauses = 109 ∷ 111 ∷ 100 ∷ 101 ∷ 32 ∷ 112 ∷ 46 ∷ 112 ∷ 59 ∷ 112 ∷ 59 ∷ 112 ∷ 59 ∷ 112 ∷ 59 ∷ 112 ∷ 59 ∷ 112 ∷ 59 ∷ 112 ∷ 59 ∷ 112 ∷ 59 ∷ 112 ∷ 59 ∷ 112 ∷ 59 ∷ 112 ∷ 59 ∷ 112 ∷ 59 ∷ 112 ∷ 59 ∷ 112 ∷ 59 ∷ 112 ∷ 59 ∷ 112 ∷ 59 ∷ 112 ∷ 59 ∷ 112 ∷ 59 ∷ 112 ∷ 59 ∷ 112 ∷ 59 ∷ 112 ∷ 59 ∷ 112 ∷ 59 ∷ 112 ∷ 59 ∷ 112 ∷ 59 ∷ 112 ∷ 59 ∷ 112 ∷ 59 ∷ 112 ∷ 59 ∷ 112 ∷ 59 ∷ 112 ∷ 59 ∷ 112 ∷ 59 ∷ 112 ∷ 59 ∷ 112 ∷ 59 ∷ 112 ∷ 59 ∷ 112 ∷ 59 ∷ 112 ∷ 59 ∷ 112 ∷ 59 ∷ 112 ∷ 59 ∷ 112 ∷ 59 ∷ 112 ∷ 59 ∷ 112 ∷ 59 ∷ 112 ∷ 59 ∷ 112 ∷ 59 ∷ 112 ∷ 59 ∷ 112 ∷ 59 ∷ 112 ∷ 59 ∷ 112 ∷ 59 ∷ 112 ∷ 59 ∷ 112 ∷ 59 ∷ 112 ∷ 59 ∷ 112 ∷ 59 ∷ 112 ∷ 59 ∷ 112 ∷ 59 ∷ 112 ∷ 59 ∷ 112 ∷ 59 ∷ 112 ∷ 59 ∷ 112 ∷ 59 ∷ 112 ∷ 59 ∷ 112 ∷ 59 ∷ 112 ∷ 59 ∷ 112 ∷ 59 ∷ 112 ∷ 59 ∷ 112 ∷ 59 ∷ 112 ∷ 59 ∷ 112 ∷ 59 ∷ 112 ∷ 59 ∷ 60 ∷ 45 ∷ 46 ∷ []

-- nine clauses in one block
abbrev pub nine_in_block : List ℕ
nine_in_block = 109 ∷ 111 ∷ 100 ∷ 101 ∷ 32 ∷ 112 ∷ 46 ∷ 112 ∷ 46 ∷ 112 ∷ 46 ∷ 112 ∷ 46 ∷ 112 ∷ 46 ∷ 112 ∷ 46 ∷ 112 ∷ 46 ∷ 112 ∷ 46 ∷ 112 ∷ 46 ∷ 112 ∷ 46 ∷ 60 ∷ 45 ∷ 46 ∷ []

-- `mode p.<- q`: no text, and no mode line of `q`
abbrev pub stuck_and_no_mode : List ℕ
stuck_and_no_mode = 109 ∷ 111 ∷ 100 ∷ 101 ∷ 32 ∷ 112 ∷ 46 ∷ 60 ∷ 45 ∷ 32 ∷ 113 ∷ []

-- what a parse answers over rows without a byte
abbrev pub answer_to : List ℕ → Answer (ℕ × ℕ)
answer_to t = (parse_call [] [] t).answer

-- Text 10 to 15, 21: texts become image and names; bytes behind them stay
pub record TextsParsed : Type 0 where
  pub one-fact : parse_call (9 ∷ 9 ∷ 9 ∷ 9 ∷ 9 ∷ 9 ∷ 9 ∷ 9 ∷ 9 ∷ 9 ∷ 9 ∷ 9 ∷ 9 ∷ 9 ∷ 9 ∷ 9 ∷ 9 ∷ 9 ∷ 9 ∷ 9 ∷ 9 ∷ 9 ∷ 9 ∷ 9 ∷ 9 ∷ 9 ∷ 9 ∷ 9 ∷ 9 ∷ 9 ∷ 9 ∷ []) (9 ∷ 9 ∷ 9 ∷ 9 ∷ 9 ∷ 9 ∷ 9 ∷ 9 ∷ []) one_fact ≡ record { answer = Ok (29, 7); image = 6 ∷ 0 ∷ 1 ∷ 0 ∷ 1 ∷ 1 ∷ 12 ∷ 0 ∷ 2 ∷ 0 ∷ 0 ∷ 1 ∷ 0 ∷ 0 ∷ 0 ∷ 0 ∷ 0 ∷ 0 ∷ 11 ∷ 0 ∷ 3 ∷ 0 ∷ 1 ∷ 1 ∷ 1 ∷ 0 ∷ 1 ∷ 0 ∷ 128 ∷ 9 ∷ 9 ∷ []; names = 115 ∷ 10 ∷ 102 ∷ 105 ∷ 118 ∷ 101 ∷ 10 ∷ 9 ∷ [] }
  pub much : parse_call (0 ∷ 0 ∷ 0 ∷ 0 ∷ 0 ∷ 0 ∷ 0 ∷ 0 ∷ 0 ∷ 0 ∷ 0 ∷ 0 ∷ 0 ∷ 0 ∷ 0 ∷ 0 ∷ 0 ∷ 0 ∷ 0 ∷ 0 ∷ 0 ∷ 0 ∷ 0 ∷ 0 ∷ 0 ∷ 0 ∷ 0 ∷ 0 ∷ 0 ∷ 0 ∷ 0 ∷ 0 ∷ 0 ∷ 0 ∷ 0 ∷ 0 ∷ 0 ∷ 0 ∷ 0 ∷ 0 ∷ 0 ∷ 0 ∷ 0 ∷ 0 ∷ 0 ∷ 0 ∷ 0 ∷ 0 ∷ 0 ∷ 0 ∷ 0 ∷ 0 ∷ 0 ∷ 0 ∷ 0 ∷ 0 ∷ 0 ∷ 0 ∷ 0 ∷ 0 ∷ 0 ∷ 0 ∷ 0 ∷ 0 ∷ 0 ∷ 0 ∷ 0 ∷ 0 ∷ 0 ∷ 0 ∷ 0 ∷ 0 ∷ 0 ∷ 0 ∷ 0 ∷ 0 ∷ 0 ∷ 0 ∷ 0 ∷ 0 ∷ 0 ∷ 0 ∷ 0 ∷ 0 ∷ 0 ∷ 0 ∷ 0 ∷ 0 ∷ 0 ∷ 0 ∷ 0 ∷ 0 ∷ 0 ∷ 0 ∷ 0 ∷ 0 ∷ 0 ∷ 0 ∷ 0 ∷ 0 ∷ 0 ∷ 0 ∷ 0 ∷ 0 ∷ 0 ∷ 0 ∷ 0 ∷ 0 ∷ 0 ∷ 0 ∷ 0 ∷ 0 ∷ 0 ∷ 0 ∷ 0 ∷ []) (0 ∷ 0 ∷ 0 ∷ 0 ∷ 0 ∷ 0 ∷ 0 ∷ 0 ∷ 0 ∷ 0 ∷ []) loose ≡ record { answer = Ok (115, 10); image = loose_image; names = loose_names }
  pub again : parse_call loose_image loose_names tidy ≡ record { answer = Ok (115, 10); image = loose_image; names = loose_names }

-- a refused parse of a text, over two rows that are as they were afterwards
abbrev pub Leaves : List ℕ → List ℕ → List ℕ → ℕ → ℕ → Type 0
Leaves image names t n o = parse_call image names t ≡ record { answer = Err (refusal n o); image = image; names = names }

-- Text 16, 17, 19: texts that are refused: with 17, with 5, 4 and 6 at their places, with 11
pub record TextsRefused : Type 0 where
  pub no-mode : answer_to no_mode ≡ Err (refusal 17 0)
  pub other-arity : answer_to other_arity ≡ Err (refusal 5 6)
  pub mode-twice : answer_to mode_twice ≡ Err (refusal 5 10)
  pub five-marks : answer_to five_marks ≡ Err (refusal 4 0)
  pub late-no-mode : answer_to late_no_mode ≡ Err (refusal 17 0)
  pub out_of_order : answer_to backwards ≡ Err (refusal 5 20)
  pub many-variables : answer_to many_variables ≡ Err (refusal 4 9)
  pub many-relations : answer_to many_relations ≡ Err (refusal 6 160)
  pub many-and-twice : answer_to many_and_twice ≡ Err (refusal 6 160)
  pub marks-and-twice : answer_to marks_and_twice ≡ Err (refusal 4 5)
  pub many-clauses : answer_to many_clauses ≡ Err (refusal 6 645)
  pub nine-in-block : answer_to nine_in_block ≡ Err (refusal 6 85)
  pub no_room : answer_to one_fact ≡ Err (refusal 11 0)

-- Text 19, 20: 16 goes before 17; whatever refuses, both rows stay, and either row may be the one that is short
pub record TextsLeave : Type 0 where
  pub stuck_first : Leaves (1 ∷ 2 ∷ []) (3 ∷ []) stuck_and_no_mode 16 11
  pub no-mode : Leaves (1 ∷ 2 ∷ []) (3 ∷ []) no_mode 17 0
  pub five-marks : Leaves (1 ∷ 2 ∷ []) (3 ∷ []) five_marks 4 0
  pub mode-twice : Leaves (1 ∷ 2 ∷ []) (3 ∷ []) mode_twice 5 10
  pub nine-in-block : Leaves (1 ∷ 2 ∷ []) (3 ∷ []) nine_in_block 6 85
  pub short_image : Leaves (9 ∷ 9 ∷ 9 ∷ 9 ∷ 9 ∷ 9 ∷ 9 ∷ 9 ∷ 9 ∷ 9 ∷ 9 ∷ 9 ∷ 9 ∷ 9 ∷ 9 ∷ 9 ∷ 9 ∷ 9 ∷ 9 ∷ 9 ∷ 9 ∷ 9 ∷ 9 ∷ 9 ∷ 9 ∷ 9 ∷ 9 ∷ 9 ∷ []) one_fact_names one_fact 11 0
  pub short_names : Leaves one_fact_image (9 ∷ 9 ∷ 9 ∷ 9 ∷ 9 ∷ 9 ∷ []) one_fact 11 0

-- Text 22 to 28: images become text; what a list lacks is refused
pub record ImagesPrinted : Type 0 where
  pub one-fact : print_call one_fact one_fact_image one_fact_names ≡ record { answer = Ok 29; text = one_fact }
  pub much : print_call (0 ∷ 0 ∷ 0 ∷ 0 ∷ 0 ∷ 0 ∷ 0 ∷ 0 ∷ 0 ∷ 0 ∷ 0 ∷ 0 ∷ 0 ∷ 0 ∷ 0 ∷ 0 ∷ 0 ∷ 0 ∷ 0 ∷ 0 ∷ 0 ∷ 0 ∷ 0 ∷ 0 ∷ 0 ∷ 0 ∷ 0 ∷ 0 ∷ 0 ∷ 0 ∷ 0 ∷ 0 ∷ 0 ∷ 0 ∷ 0 ∷ 0 ∷ 0 ∷ 0 ∷ 0 ∷ 0 ∷ 0 ∷ 0 ∷ 0 ∷ 0 ∷ 0 ∷ 0 ∷ 0 ∷ 0 ∷ 0 ∷ 0 ∷ 0 ∷ 0 ∷ 0 ∷ 0 ∷ 0 ∷ 0 ∷ 0 ∷ 0 ∷ 0 ∷ 0 ∷ 0 ∷ 0 ∷ 0 ∷ 0 ∷ 0 ∷ 0 ∷ 0 ∷ 0 ∷ 0 ∷ 0 ∷ 0 ∷ 0 ∷ 0 ∷ 0 ∷ 0 ∷ 0 ∷ 0 ∷ 0 ∷ 0 ∷ 0 ∷ 0 ∷ 0 ∷ 0 ∷ 0 ∷ 0 ∷ 0 ∷ 0 ∷ 0 ∷ 0 ∷ 0 ∷ 0 ∷ 0 ∷ 0 ∷ 0 ∷ 0 ∷ 0 ∷ 0 ∷ 0 ∷ 0 ∷ 0 ∷ 0 ∷ 0 ∷ 0 ∷ 0 ∷ 0 ∷ 0 ∷ 0 ∷ 0 ∷ 0 ∷ 0 ∷ 0 ∷ []) loose_image loose_names ≡ record { answer = Ok 111; text = tidy }
  pub no_name : print_call one_fact one_fact_image (115 ∷ 10 ∷ []) ≡ record { answer = Err (refusal 17 0); text = one_fact }
  pub no_end : print_call one_fact one_fact_image (115 ∷ 10 ∷ 97 ∷ []) ≡ record { answer = Err (refusal 17 0); text = one_fact }
  pub upper_case : print_call one_fact one_fact_image (115 ∷ 10 ∷ 65 ∷ 10 ∷ []) ≡ record { answer = Err (refusal 17 0); text = one_fact }
  pub no_room : print_call (1 ∷ 2 ∷ []) one_fact_image one_fact_names ≡ record { answer = Err (refusal 11 0); text = 1 ∷ 2 ∷ [] }
  pub no_image : print_call one_fact [] one_fact_names ≡ record { answer = Err (refusal 7 0); text = one_fact }
