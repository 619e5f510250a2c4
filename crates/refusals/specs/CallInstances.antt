-- Refusals 8 to 14 computed from bytes: each once at least, table rules broken by one byte (all but parts of 3g and 3h), limits at and past them, a row's bytes and words.
use Rattle.std.specs.Prelude.{◌≡◌, [], ◌++◌, ◌∷◌, List, ◌*◌, ◌+◌, ℕ, drop, set, take, Err, Ok}
use Rattle.parlog.specs.Calls.{run_call, start_call, step_call, supply_call, turn_call, value_call}
use Rattle.parlog.specs.Cases.{ask_one, relation_p}
use Rattle.parlog.specs.Limits.{Limits, small}
use Rattle.parlog.specs.Load.{load_of, refusal}
use Rattle.parlog.specs.Numbers.{load_numbers, run_numbers, step_numbers, value_numbers, word}
use Rattle.parlog.specs.Stories.{four_notes}
use Rattle.parlog.specs.Tables.{cell_size, head_size, Lent, lent, row_size, zeros}
use Rattle.parlog.specs.declared.End.TheVariants.{Room, Success}
use Rattle.parlog.specs.declared.Move.TheVariants.{OrParStart}
use Rattle.parlog.specs.declared.Term.{Term}
use Rattle.parlog.specs.declared.Term.TheVariants.{Const, Var}

-- ---- lent bytes

-- room for eight processes and four variables
abbrev pub tiny : Limits
tiny = record { procs = 8; vars = 4 }

-- rows of zeros of the full sizes
abbrev pub blank : Limits → Lent
blank lim = lent (zeros head_size) (zeros (lim.procs * row_size)) (zeros (lim.vars * cell_size))

-- mode q(?), fact q(1), goal q(A)
abbrev pub asked : List ℕ
asked = ask_one 0 1

-- the bytes after a start
abbrev pub begun : Limits → List ℕ → Lent
begun lim s = (start_call lim s (blank lim)).lent

-- the bytes after the run up to where nothing can move: process 4 notes variable 0
abbrev pub waits : Lent
waits = (run_call tiny asked (begun tiny asked) 100).lent

-- ---- 8

-- `waits` with one byte of the head changed
abbrev pub in_head : ℕ → ℕ → Lent
in_head i b = lent (set waits.head i b) waits.procs waits.vars

-- with one byte of the row of process p changed
abbrev pub in_row : ℕ → ℕ → ℕ → Lent
in_row p i b = lent waits.head (set waits.procs (p * row_size + i) b) waits.vars

-- with the row of variable 0 as given
abbrev pub in_cell : ℕ → ℕ → ℕ → ℕ → Lent
in_cell sort a b c = lent waits.head waits.procs (sort ∷ a ∷ b ∷ c ∷ drop cell_size waits.vars)

-- a look at the goal's variable is refused with 8
abbrev pub Breaks : Lent → Type 0
Breaks l = value_call tiny asked l 0 ≡ Err (refusal 8 0)

-- it is let in, and sees this
abbrev pub Keeps : Lent → Term → Type 0
Keeps l t = value_call tiny asked l 0 ≡ Ok t

-- Refusals 21, Tables 1: a row that is shorter or longer than its limit wants; the limits of a run want 512 rows of 24 bytes and 1,024 of 4
abbrev pub SizesTested : Type 0
SizesTested =
    Keeps waits (Var 0)
    × Breaks (lent (waits.head ++ (0 ∷ [])) waits.procs waits.vars)
    × Breaks (lent waits.head (waits.procs ++ (0 ∷ [])) waits.vars)
    × Breaks (lent waits.head waits.procs (drop 1 waits.vars))
    × ((start_call tiny asked (lent (zeros 9) (blank tiny).procs (blank tiny).vars)).answer ≡ Err (refusal 8 0))
    × ((start_call small asked (lent (zeros 10) (zeros 12288) (zeros 4096))).answer ≡ Ok tt)
    × ((start_call small asked (lent (zeros 10) (zeros 12287) (zeros 4096))).answer ≡ Err (refusal 8 0))
    × ((start_call small asked (lent (zeros 10) (zeros 12288) (zeros 4097))).answer ≡ Err (refusal 8 0))

-- Tables 3a, 3l: no process, a ninth where eight have room; a fifth variable where four have, fewer than the goal has; the marker at the count
abbrev pub CountsTested : Type 0
CountsTested =
    Breaks (in_head 0 0)
    × Breaks (in_head 0 9)
    × Keeps (in_head 2 4) (Var 0)
    × Breaks (in_head 2 5)
    × Breaks (in_head 2 0)
    × Breaks (in_head 4 6)

-- Tables 3b, 3i: a tag, a mode, a result, a kind and a sort that there are not, something behind unbound; a constant at the limit and past it; a variable bound to itself
abbrev pub NumbersTested : Type 0
NumbersTested =
    Breaks (in_row 5 0 9)
    × Breaks (in_row 5 1 6)
    × Breaks (in_row 5 2 3)
    × Keeps (in_row 5 6 3) (Var 0)
    × Breaks (in_row 5 6 4)
    × Breaks (in_cell 3 0 0 0)
    × Breaks (in_cell 0 1 0 0)
    × Keeps (in_cell 1 255 127 0) (Const 32767)
    × Breaks (in_cell 1 0 128 0)
    × Breaks (in_cell 2 0 0 0)

-- Tables 3c, 3d, 3e: a report of nothing, also of process 0 when dormant; process 0 with a parent, with another tag; a parent not lower, and one whose rules make other tags
abbrev pub RowsTested : Type 0
RowsTested =
    Breaks (in_row 5 2 0)
    × Breaks (in_row 0 1 0)
    × Breaks (in_row 0 4 1)
    × Breaks (in_row 0 0 1)
    × Breaks (in_row 0 6 1)
    × Breaks (in_row 4 4 4)
    × Breaks (in_row 4 4 2)

-- Tables 3f to 3h, 3j, 3k: a stage, a literal, a block and a clause that there are not, first variables at the count and past it; notes past four, and of a variable not in use
abbrev pub PlacesTested : Type 0
PlacesTested =
    Breaks (in_row 0 10 1)
    × Breaks (in_row 0 11 1)
    × Breaks (in_row 2 12 1)
    × Breaks (in_row 1 12 1)
    × Breaks (in_row 3 13 1)
    × Keeps (in_row 3 14 1) (Var 0)
    × Breaks (in_row 3 14 2)
    × Breaks (in_row 0 8 1)
    × Breaks (in_row 4 3 5)
    × Keeps (in_row 4 3 4) (Var 0)
    × Breaks (in_row 4 16 1)

-- mode s(^), s(5) <- 1 = 1 & 1 = 1, goal s(A): a split clause
abbrev pub split_asked : List ℕ
split_asked =
    6 ∷ 0 ∷ 1 ∷ 0 ∷ 1 ∷ 1
    ∷ 26 ∷ 0 ∷ 2 ∷ 0 ∷ 0 ∷ 1 ∷ 0 ∷ 0 ∷ 5 ∷ 0 ∷ 0 ∷ 2 ∷ 1 ∷ 255 ∷ 2 ∷ 1 ∷ 0 ∷ 1 ∷ 0 ∷ 1 ∷ 255 ∷ 2 ∷ 1 ∷ 0 ∷ 1 ∷ 0
    ∷ 11 ∷ 0 ∷ 3 ∷ 0 ∷ 1 ∷ 1 ∷ 1 ∷ 0 ∷ 1 ∷ 0 ∷ 128 ∷ []

-- its tables when process 6 has just been made for the equations, with another tag and another goal kind there
abbrev pub spawned : ℕ → ℕ → Lent
spawned tag kind =
    lent (run_call tiny split_asked (begun tiny split_asked) 13).lent.head
    (set (set (run_call tiny split_asked (begun tiny split_asked) 13).lent.procs (6 * row_size) tag) (6 * row_size + 6) kind)
    (run_call tiny split_asked (begun tiny split_asked) 13).lent.vars

-- Tables 3g: an and-par and an equate are there, no and-seq; at the body as it is written an and-seq is
abbrev pub SplitTested : Type 0
SplitTested =
    (value_call tiny split_asked (spawned 0 2) 0 ≡ Ok (Var 0))
    × (value_call tiny split_asked (spawned 8 2) 0 ≡ Ok (Var 0))
    × (value_call tiny split_asked (spawned 1 2) 0 ≡ Err (refusal 8 0))
    × (value_call tiny split_asked (spawned 1 3) 0 ≡ Ok (Var 0))

-- ---- 9 to 14

-- so many processes and variables
abbrev pub room_for : ℕ → ℕ → Limits
room_for p v = record { procs = p; vars = v }

-- Refusals 9, 10, 22: NODE at the process count and not below it; STILL of a step and of a turn
abbrev pub StepsTold : Type 0
StepsTold =
    ((step_call tiny asked (begun tiny asked) 0).answer ≡ Ok (OrParStart 1))
    × ((step_call tiny asked (begun tiny asked) 1).answer ≡ Err (refusal 9 0))
    × ((step_call tiny asked waits 4).answer ≡ Err (refusal 10 0))
    × ((step_call tiny asked waits 6).answer ≡ Err (refusal 9 0))
    × ((turn_call tiny asked waits).answer ≡ Err (refusal 10 0))
    × ((turn_call tiny asked waits).lent ≡ waits)

-- Refusals 11: ROOM: one process more than there is room for, and one variable more; with just that room the moves are made
abbrev pub RoomTold : Type 0
RoomTold =
    ((step_call (room_for 1 4) asked (begun (room_for 1 4) asked) 0).answer ≡ Err (refusal 11 0))
    × ((step_call (room_for 2 4) asked (begun (room_for 2 4) asked) 0).answer ≡ Ok (OrParStart 1))
    × ((run_call (room_for 8 1) (ask_one 1 5) (begun (room_for 8 1) (ask_one 1 5)) 100).answer ≡ Ok (Room, 2))
    × ((turn_call (room_for 8 1) (ask_one 1 5) (run_call (room_for 8 1) (ask_one 1 5) (begun (room_for 8 1) (ask_one 1 5)) 100).lent).answer ≡ Err (refusal 11 0))
    × ((run_call (room_for 7 2) (ask_one 1 5) (begun (room_for 7 2) (ask_one 1 5)) 100).answer ≡ Ok (Success, 16))

-- variable 0 supplied with 300
abbrev pub supplied300 : Lent
supplied300 = (supply_call tiny asked waits 0 300).lent

-- Refusals 12, 13, 14, 22: NOVAR, CONST and BOUND, in this order, and the constant at its limit
abbrev pub SuppliesTold : Type 0
SuppliesTold =
    ((supply_call tiny asked waits 0 32767).answer ≡ Ok 0)
    × ((supply_call tiny asked waits 0 32768).answer ≡ Err (refusal 14 0))
    × ((supply_call tiny asked waits 1 5).answer ≡ Err (refusal 12 0))
    × ((supply_call tiny asked waits 1 32768).answer ≡ Err (refusal 12 0))
    × ((supply_call tiny asked supplied300 0 5).answer ≡ Err (refusal 13 0))
    × ((supply_call tiny asked supplied300 0 32768).answer ≡ Err (refusal 14 0))
    × (value_call tiny asked waits 1 ≡ Err (refusal 12 0))
    × (value_call tiny asked supplied300 0 ≡ Ok (Const 300))

-- Refusals 20 to 22: a bad image before bad tables, bad tables before a process that there is not
abbrev pub ImageFirst : Type 0
ImageFirst =
    ((step_call tiny (relation_p ++ (1 ∷ [])) (blank tiny) 9).answer ≡ Err (refusal 2 5))
    × ((step_call tiny asked (blank tiny) 9).answer ≡ Err (refusal 8 0))

-- ---- bytes and words

-- the row of process p
abbrev pub row_in : Lent → ℕ → List ℕ
row_in l p = take row_size (drop (p * row_size) l.procs)

-- the bytes after the run of `fourNotes` up to where nothing can move: process 4 notes all four variables
abbrev pub waits_four : Lent
waits_four = (run_call tiny four_notes (begun tiny four_notes) 100).lent

-- process 4 of that, woken by variable 3
abbrev pub woken4 : Lent
woken4 = (turn_call tiny four_notes (supply_call tiny four_notes waits_four 3 260).lent).lent

-- the bytes after a run to its end: variable 0 supplied with 1
abbrev pub ended : Lent
ended = (run_call tiny asked (supply_call tiny asked waits 0 1).lent 100).lent

-- the head of `waits`, its process 4 (an input-match, suspended, that noted variable 0), and the row of the variable supplied with 300;
-- a process with four notes, the same woken, its notes cleared; of a run that ended the goal's process, the search that told a clause, and the body
abbrev pub BytesShown : Type 0
BytesShown =
    (waits.head ≡ 6 ∷ 0 ∷ 1 ∷ 0 ∷ 5 ∷ 0 ∷ 9 ∷ 0 ∷ 0 ∷ 0 ∷ [])
    × (row_in waits 4 ≡ 6 ∷ 5 ∷ 0 ∷ 1 ∷ 3 ∷ 0 ∷ 0 ∷ 0 ∷ 0 ∷ 0 ∷ 0 ∷ 0 ∷ 0 ∷ 0 ∷ 1 ∷ 0 ∷ 0 ∷ 0 ∷ 0 ∷ 0 ∷ 0 ∷ 0 ∷ 0 ∷ 0 ∷ [])
    × (take 4 supplied300.vars ≡ 1 ∷ 44 ∷ 1 ∷ 0 ∷ [])
    × (row_in waits_four 4 ≡ 6 ∷ 5 ∷ 0 ∷ 4 ∷ 3 ∷ 0 ∷ 0 ∷ 0 ∷ 0 ∷ 0 ∷ 0 ∷ 0 ∷ 0 ∷ 0 ∷ 4 ∷ 0 ∷ 0 ∷ 0 ∷ 1 ∷ 0 ∷ 2 ∷ 0 ∷ 3 ∷ 0 ∷ [])
    × (row_in woken4 4 ≡ 6 ∷ 2 ∷ 0 ∷ 0 ∷ 3 ∷ 0 ∷ 0 ∷ 0 ∷ 0 ∷ 0 ∷ 0 ∷ 0 ∷ 0 ∷ 0 ∷ 4 ∷ 0 ∷ 0 ∷ 0 ∷ 0 ∷ 0 ∷ 0 ∷ 0 ∷ 0 ∷ 0 ∷ [])
    × (row_in ended 0 ≡ 2 ∷ 0 ∷ 1 ∷ 0 ∷ 0 ∷ 0 ∷ 0 ∷ 0 ∷ 0 ∷ 0 ∷ 0 ∷ 0 ∷ 0 ∷ 0 ∷ 0 ∷ 0 ∷ 0 ∷ 0 ∷ 0 ∷ 0 ∷ 0 ∷ 0 ∷ 0 ∷ 0 ∷ [])
    × (row_in ended 1 ≡ 3 ∷ 0 ∷ 1 ∷ 0 ∷ 0 ∷ 0 ∷ 0 ∷ 0 ∷ 0 ∷ 0 ∷ 0 ∷ 0 ∷ 0 ∷ 0 ∷ 1 ∷ 0 ∷ 0 ∷ 0 ∷ 0 ∷ 0 ∷ 0 ∷ 0 ∷ 0 ∷ 0 ∷ [])
    × (row_in ended 6 ≡ 1 ∷ 0 ∷ 1 ∷ 0 ∷ 0 ∷ 0 ∷ 2 ∷ 0 ∷ 1 ∷ 0 ∷ 0 ∷ 0 ∷ 0 ∷ 0 ∷ 0 ∷ 0 ∷ 0 ∷ 0 ∷ 0 ∷ 0 ∷ 0 ∷ 0 ∷ 0 ∷ 0 ∷ [])

-- Turns 10: refused 2 at 5; one relation and one clause; rule 11, process 1 made; waiting after 9 moves; the constant 300
abbrev pub WordsShown : Type 0
WordsShown =
    (word (load_numbers (load_of (relation_p ++ (1 ∷ [])))) ≡ 21474836482)
    × (word (load_numbers (load_of asked)) ≡ 65792)
    × (word (step_numbers (step_call tiny asked (begun tiny asked) 0).answer) ≡ 4294970112)
    × (word (run_numbers (run_call tiny asked (begun tiny asked) 100).answer) ≡ 38654706432)
    × (word (value_numbers (value_call tiny asked supplied300 0)) ≡ 1288490189056)
