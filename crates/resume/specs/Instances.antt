-- Saves and resumes computed from bytes: two runs saved byte for byte, and each refusal with its place.
use Rattle.std.specs.Prelude.{◌≡◌, [], ◌++◌, ◌∷◌, List, ◌*◌, ℕ, drop, set, take, Err, Ok}
use Rattle.parlog.specs.Calls.{run_call, start_call, turn_call}
use Rattle.parlog.specs.Cases.{ask_one, equation_goal, goal_p, relation_p}
use Rattle.parlog.specs.Limits.{Limits}
use Rattle.parlog.specs.Load.{refusal}
use Rattle.parlog.specs.Tables.{cell_size, head_size, Lent, lent, row_size, zeros}
use Rattle.resume.specs.Calls.{resume_call, save_call}

-- room for eight processes and four variables
abbrev pub tiny : Limits
tiny = record { procs = 8; vars = 4 }

-- rows of the full sizes, all zeros
abbrev pub blank : Lent
blank = lent (zeros head_size) (zeros (8 * row_size)) (zeros (4 * cell_size))

-- ---- the goal 1 = 1

-- c2
abbrev pub ones : List ℕ
ones = equation_goal 1 1

-- its tables after a start
abbrev pub begun : Lent
begun = (start_call tiny ones blank).lent

-- and after a turn
abbrev pub turned : Lent
turned = (turn_call tiny ones begun).lent

-- Saved 2: the head's record, after so many steps
abbrev pub head_after : ℕ → List ℕ
head_after n = 18 ∷ 0 ∷ 16 ∷ 0 ∷ 1 ∷ 0 ∷ 0 ∷ 0 ∷ 0 ∷ 0 ∷ n ∷ 0 ∷ 0 ∷ 0 ∷ 13 ∷ 0 ∷ 2 ∷ 0 ∷ []

-- Saved 3: the record of a process with this tag, mode and result and nothing else
abbrev pub plain : ℕ → ℕ → ℕ → List ℕ
plain t m r = 28 ∷ 0 ∷ 17 ∷ 0 ∷ t ∷ m ∷ r ∷ zeros 21

-- the whole run at its start
abbrev pub saved : List ℕ
saved = head_after 0 ++ plain 8 2 0

-- Saved 1 to 4: 46 bytes, before and after the turn; a row of 45 is too short; bytes behind stay
abbrev pub OnesSaved : Type 0
OnesSaved =
    (save_call tiny ones begun (zeros 46) ≡ record { answer = Ok 46; row = saved })
    × (save_call tiny ones turned (zeros 46) ≡ record { answer = Ok 46; row = head_after 1 ++ plain 8 4 1 })
    × (save_call tiny ones begun (zeros 45) ≡ record { answer = Err (refusal 11 0); row = zeros 45 })
    × (save_call tiny ones begun (zeros 46 ++ (7 ∷ 9 ∷ [])) ≡ record { answer = Ok 46; row = saved ++ (7 ∷ 9 ∷ []) })
    × ((save_call tiny ones blank (zeros 46)).answer ≡ Err (refusal 8 0))
    × ((save_call tiny (drop 1 ones) begun (zeros 46)).answer ≡ Err (refusal 2 0))

-- ---- q(?), fact q(1), goal q(A), as far as it goes without A

-- c6, waiting
abbrev pub waits : Lent
waits = (run_call tiny (ask_one 0 1) (start_call tiny (ask_one 0 1) blank).lent 100).lent

-- its saved run
abbrev pub waiting : List ℕ
waiting = (save_call tiny (ask_one 0 1) waits (zeros 194)).row

-- Saved 1 to 3: 194 bytes: the head, process 4, and the variable
abbrev pub WaitingSaved : Type 0
WaitingSaved =
    ((save_call tiny (ask_one 0 1) waits (zeros 194)).answer ≡ Ok 194)
    × (take 18 waiting ≡ 18 ∷ 0 ∷ 16 ∷ 0 ∷ 6 ∷ 0 ∷ 1 ∷ 0 ∷ 5 ∷ 0 ∷ 9 ∷ 0 ∷ 0 ∷ 0 ∷ 29 ∷ 0 ∷ 2 ∷ 0 ∷ [])
    × (take 28 (drop 130 waiting) ≡ 28 ∷ 0 ∷ 17 ∷ 0 ∷ 6 ∷ 5 ∷ 0 ∷ 1 ∷ 3 ∷ 0 ∷ zeros 8 ++ (1 ∷ 0 ∷ zeros 8))
    × (drop 186 waiting ≡ 8 ∷ 0 ∷ 18 ∷ 0 ∷ 0 ∷ 0 ∷ 0 ∷ 0 ∷ [])

-- Saved 10: what was saved is read back, whatever the rows held; bytes of unused rows become zeros
abbrev pub ReadBack : Type 0
ReadBack =
    (resume_call tiny ones blank saved ≡ record { answer = Ok tt; lent = begun })
    × (resume_call tiny ones (lent begun.head (set begun.procs 100 7) (set begun.vars 3 9)) saved ≡ record { answer = Ok tt; lent = begun })

-- ---- refusals

-- a resume of the run `ones`
abbrev pub Refuses : List ℕ → ℕ → ℕ → Type 0
Refuses x n o = resume_call tiny ones begun x ≡ record { answer = Err (refusal n o); lent = begun }

-- Saved 5 to 7: a byte missing; two bytes left; the head's record once more; that record missing, and no record; a 17 of another length; a 19; a 17 behind an 18
abbrev pub RecordsRefused : Type 0
RecordsRefused =
    Refuses (take 45 saved) 2 18
    × Refuses (saved ++ (0 ∷ 0 ∷ [])) 2 46
    × Refuses (saved ++ head_after 0) 3 46
    × Refuses (plain 8 2 0) 3 0
    × Refuses [] 3 0
    × Refuses (head_after 0 ++ (27 ∷ 0 ∷ 17 ∷ 0 ∷ 8 ∷ 2 ∷ zeros 21)) 4 18
    × Refuses (saved ++ (8 ∷ 0 ∷ 19 ∷ 0 ∷ zeros 4)) 3 46
    × Refuses (saved ++ (8 ∷ 0 ∷ 18 ∷ 0 ∷ zeros 4) ++ plain 8 2 0) 3 54

-- Saved 2, 13: the head's record at the start, with another rule number
abbrev pub head_under : ℕ → ℕ → List ℕ
head_under low high = 18 ∷ 0 ∷ 16 ∷ 0 ∷ 1 ∷ 0 ∷ 0 ∷ 0 ∷ 0 ∷ 0 ∷ 0 ∷ 0 ∷ 0 ∷ 0 ∷ 13 ∷ 0 ∷ low ∷ high ∷ []

-- Saved 13: the same as it was saved before there were rule numbers
abbrev pub head_former : List ℕ
head_former = 16 ∷ 0 ∷ 16 ∷ 0 ∷ 1 ∷ 0 ∷ 0 ∷ 0 ∷ 0 ∷ 0 ∷ 0 ∷ 0 ∷ 0 ∷ 0 ∷ 13 ∷ 0 ∷ []

-- Saved 7, 13: the former length, for an image of another length too; rule numbers 1, 3 and 258; both before the records behind are looked at;
-- 17 and 20 bytes; a former record that is cut, and one that is not the first
abbrev pub RulesRefused : Type 0
RulesRefused =
    Refuses (head_former ++ plain 8 2 0) 18 0
    × (resume_call tiny (relation_p ++ goal_p) begun (head_former ++ plain 8 2 0) ≡ record { answer = Err (refusal 18 0); lent = begun })
    × Refuses (head_under 1 0 ++ plain 8 2 0) 18 0
    × Refuses (head_under 3 0 ++ plain 8 2 0) 18 0
    × Refuses (head_under 2 1 ++ plain 8 2 0) 18 0
    × Refuses (head_former ++ (27 ∷ 0 ∷ 17 ∷ 0 ∷ zeros 23)) 18 0
    × Refuses (head_under 3 0 ++ (0 ∷ 0 ∷ [])) 18 0
    × Refuses (17 ∷ 0 ∷ 16 ∷ 0 ∷ zeros 13) 4 0
    × Refuses (20 ∷ 0 ∷ 16 ∷ 0 ∷ zeros 16) 4 0
    × Refuses (take 15 head_former) 2 0
    × Refuses (saved ++ head_former) 3 46

-- Saved 8, 9: another image, accepted and one byte longer; a variable more, a process twice; a row of another size; a tag that is none
abbrev pub TablesRefused : Type 0
TablesRefused =
    (resume_call tiny (relation_p ++ goal_p) begun saved ≡ record { answer = Err (refusal 15 0); lent = begun })
    × Refuses (saved ++ (8 ∷ 0 ∷ 18 ∷ 0 ∷ zeros 4)) 8 0
    × Refuses (saved ++ plain 8 2 0) 8 0
    × Refuses (head_after 0 ++ plain 9 2 0) 8 0
    × (resume_call tiny ones (lent (zeros 11) blank.procs blank.vars) saved ≡ record { answer = Err (refusal 8 0); lent = lent (zeros 11) blank.procs blank.vars })
    × ((resume_call tiny (drop 1 ones) begun saved).answer ≡ Err (refusal 2 0))
