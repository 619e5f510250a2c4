-- Refusals computed from bytes: each from 1 to 14 once at least, limits at and past them, their order, offsets, a row's bytes and words.
-- What is computed here is the load and the calls; for 1 to 8 the relations say the same (proofs/Exactly, proofs/RuledExactly).
use Rattle.std.specs.Prelude.{◌≡◌, [], ◌++◌, ◌∷◌, List, ◌+◌, suc, zero, ℕ, length, replicate, Err, Ok}
use Rattle.parlog.specs.Cases.{empty_goal, fact_p, relation_p}
use Rattle.parlog.specs.Load.{load_of, refusal}

-- ---- images

-- n times the same
unfoldable pub times : ℕ → List ℕ → List ℕ
times zero r = []
times (suc n) r = r ++ times n r

-- the load refuses the image with this number, at this offset
abbrev pub RefusedWith : List ℕ → ℕ → ℕ → Type 0
RefusedWith s n o = load_of s ≡ Err (refusal n o)

-- the load accepts it, with this many relations and clauses
abbrev pub AcceptedWith : List ℕ → ℕ → ℕ → Type 0
AcceptedWith s r c = load_of s ≡ Ok (r, c)

-- a record of kind 1, 2 or 3: its length, its kind, its body of fewer than 252 bytes
abbrev pub record_of : ℕ → List ℕ → List ℕ
record_of kind body = (length body + 4) ∷ 0 ∷ kind ∷ 0 ∷ body

-- a relation with the modes ms
abbrev pub relation_with : List ℕ → List ℕ
relation_with ms = record_of 1 (length ms ∷ ms)

-- a fact of relation r without arguments, with block mark m and v variables
abbrev pub fact_of : ℕ → ℕ → ℕ → List ℕ
fact_of r m v = record_of 2 (r ∷ 0 ∷ m ∷ v ∷ 0 ∷ 0 ∷ [])

-- a goal of v variables, with its stages
abbrev pub goal_with : ℕ → List ℕ → List ℕ
goal_with v g = record_of 3 (v ∷ g)

-- a call of relation 0 without arguments, as a literal
abbrev pub call_p : List ℕ
call_p = 0 ∷ 0 ∷ []

-- relation p, without arguments, and a goal of it with the stages g
abbrev pub asks_p : List ℕ → List ℕ
asks_p g = relation_p ++ goal_with 0 g

-- eight blocks of eight facts
abbrev pub sixty_four : List ℕ
sixty_four = times 8 fact_p ++ times 7 (fact_of 0 1 0 ++ times 7 fact_p)

-- ---- 1 to 7

-- Refusals 2, 3, 7: CUT, KIND and NOGOAL, at offsets above 0 too
abbrev pub CutsAndKindsRefused : Type 0
CutsAndKindsRefused =
    RefusedWith (relation_p ++ (1 ∷ [])) 2 5
    × RefusedWith (relation_p ++ (3 ∷ 0 ∷ 3 ∷ 0 ∷ [])) 2 5
    × RefusedWith (relation_p ++ (7 ∷ 0 ∷ 3 ∷ 0 ∷ 0 ∷ 0 ∷ [])) 2 5
    × RefusedWith (record_of 0 (0 ∷ [])) 3 0
    × RefusedWith (record_of 4 (0 ∷ [])) 3 0
    × RefusedWith (5 ∷ 0 ∷ 1 ∷ 1 ∷ 0 ∷ []) 3 0
    × RefusedWith (relation_p ++ fact_p ++ relation_p) 3 15
    × RefusedWith (empty_goal ++ empty_goal) 3 6
    × RefusedWith (relation_p ++ fact_p) 7 15
    × RefusedWith [] 7 0

-- Refusals 4: BODY, in a relation, a clause and a goal: ranges at their limits and past them, and fields that end before or behind the record's end
abbrev pub BodiesRefused : Type 0
BodiesRefused =
    AcceptedWith (relation_with (0 ∷ 1 ∷ 1 ∷ 0 ∷ []) ++ empty_goal) 1 0
    × RefusedWith (relation_with (0 ∷ 1 ∷ 1 ∷ 0 ∷ 0 ∷ []) ++ empty_goal) 4 0
    × RefusedWith (relation_with (2 ∷ []) ++ empty_goal) 4 0
    × AcceptedWith (relation_p ++ fact_of 0 0 16 ++ empty_goal) 1 1
    × RefusedWith (relation_p ++ fact_of 0 0 17 ++ empty_goal) 4 5
    × AcceptedWith (relation_p ++ fact_p ++ fact_of 0 1 0 ++ empty_goal) 1 2
    × RefusedWith (relation_p ++ fact_p ++ fact_of 0 2 0 ++ empty_goal) 4 15
    × AcceptedWith (goal_with 16 (0 ∷ [])) 0 0
    × RefusedWith (goal_with 17 (0 ∷ [])) 4 0
    × AcceptedWith (asks_p (8 ∷ times 8 (1 ∷ call_p))) 1 0
    × RefusedWith (asks_p (9 ∷ times 9 (1 ∷ call_p))) 4 5
    × AcceptedWith (asks_p (1 ∷ 8 ∷ times 8 call_p)) 1 0
    × RefusedWith (asks_p (1 ∷ 9 ∷ times 9 call_p)) 4 5
    × RefusedWith (asks_p (2 ∷ 4 ∷ times 4 call_p ++ 5 ∷ times 5 call_p)) 4 5
    × RefusedWith (asks_p (1 ∷ 0 ∷ [])) 4 5
    × AcceptedWith (relation_with (0 ∷ 0 ∷ 0 ∷ 0 ∷ []) ++ goal_with 0 (1 ∷ 1 ∷ 0 ∷ 4 ∷ times 8 (0 ∷ []))) 1 0
    × RefusedWith (relation_with (0 ∷ 0 ∷ 0 ∷ 0 ∷ []) ++ goal_with 0 (1 ∷ 1 ∷ 0 ∷ 5 ∷ times 10 (0 ∷ []))) 4 9
    × RefusedWith (goal_with 0 (0 ∷ 0 ∷ [])) 4 0
    × RefusedWith (goal_with 0 (1 ∷ 1 ∷ 255 ∷ 2 ∷ 0 ∷ 0 ∷ 0 ∷ [])) 4 0
    × AcceptedWith (relation_with (0 ∷ 0 ∷ 0 ∷ 0 ∷ []) ++ record_of 2 (0 ∷ 4 ∷ 0 ∷ 0 ∷ times 8 (0 ∷ []) ++ 0 ∷ 0 ∷ []) ++ empty_goal) 1 1
    × RefusedWith (relation_with (0 ∷ 0 ∷ 0 ∷ 0 ∷ []) ++ record_of 2 (0 ∷ 5 ∷ 0 ∷ 0 ∷ times 10 (0 ∷ []) ++ 0 ∷ 0 ∷ []) ++ empty_goal) 4 9
    × RefusedWith (relation_p ++ record_of 2 (0 ∷ 0 ∷ 0 ∷ 0 ∷ 9 ∷ times 9 (1 ∷ call_p) ++ 0 ∷ []) ++ empty_goal) 4 5
    × RefusedWith (relation_p ++ record_of 2 (0 ∷ 0 ∷ 0 ∷ 0 ∷ 0 ∷ 9 ∷ times 9 (1 ∷ call_p)) ++ empty_goal) 4 5
    × RefusedWith (relation_p ++ record_of 2 (times 7 (0 ∷ [])) ++ empty_goal) 4 5
    × RefusedWith (record_of 1 (0 ∷ 0 ∷ []) ++ empty_goal) 4 0

-- Refusals 5: NAME, in a goal, a head, a guard and a body: relations, arities, equality, variables at their count and below, the order of clauses, and the mark of a relation's first clause
abbrev pub NamesRefused : Type 0
NamesRefused =
    RefusedWith (goal_with 0 (1 ∷ 1 ∷ call_p)) 5 0
    × RefusedWith (asks_p (1 ∷ 1 ∷ 0 ∷ 1 ∷ 0 ∷ 0 ∷ [])) 5 5
    × RefusedWith (goal_with 0 (1 ∷ 1 ∷ 255 ∷ 1 ∷ 0 ∷ 0 ∷ [])) 5 0
    × RefusedWith (relation_p ++ fact_of 255 0 0 ++ empty_goal) 5 5
    × RefusedWith (relation_p ++ fact_of 1 0 0 ++ empty_goal) 5 5
    × AcceptedWith (goal_with 1 (1 ∷ 1 ∷ 255 ∷ 2 ∷ 0 ∷ 128 ∷ 255 ∷ 127 ∷ [])) 0 0
    × RefusedWith (goal_with 1 (1 ∷ 1 ∷ 255 ∷ 2 ∷ 1 ∷ 128 ∷ 0 ∷ 0 ∷ [])) 5 0
    × AcceptedWith (times 3 relation_p ++ fact_of 0 0 0 ++ fact_of 2 0 0 ++ empty_goal) 3 2
    × RefusedWith (times 3 relation_p ++ fact_of 2 0 0 ++ fact_of 0 0 0 ++ empty_goal) 5 25
    × RefusedWith (relation_p ++ fact_of 0 1 0 ++ empty_goal) 5 5
    × RefusedWith (times 2 relation_p ++ fact_p ++ fact_of 1 1 0 ++ empty_goal) 5 20
    × RefusedWith (relation_with (0 ∷ []) ++ record_of 2 (0 ∷ 1 ∷ 0 ∷ 1 ∷ 1 ∷ 128 ∷ 0 ∷ 0 ∷ []) ++ empty_goal) 5 6
    × RefusedWith (relation_p ++ record_of 2 (0 ∷ 0 ∷ 0 ∷ 0 ∷ 1 ∷ 1 ∷ 1 ∷ 0 ∷ 0 ∷ []) ++ empty_goal) 5 5
    × RefusedWith (relation_p ++ record_of 2 (0 ∷ 0 ∷ 0 ∷ 0 ∷ 0 ∷ 1 ∷ 1 ∷ 1 ∷ 0 ∷ []) ++ empty_goal) 5 5

-- Refusals 6: MANY: 32 relations and one more, 64 clauses and one more, 8 clauses of a block and one more, also of a later block
abbrev pub ManyRefused : Type 0
ManyRefused =
    AcceptedWith (times 32 relation_p ++ empty_goal) 32 0
    × RefusedWith (times 33 relation_p ++ empty_goal) 6 160
    × AcceptedWith (relation_p ++ sixty_four ++ empty_goal) 1 64
    × RefusedWith (relation_p ++ sixty_four ++ fact_of 0 1 0 ++ empty_goal) 6 645
    × AcceptedWith (relation_p ++ times 8 fact_p ++ empty_goal) 1 8
    × RefusedWith (relation_p ++ times 9 fact_p ++ empty_goal) 6 85
    × RefusedWith (relation_p ++ fact_p ++ fact_of 0 1 0 ++ times 8 fact_p ++ empty_goal) 6 95
    × AcceptedWith (times 2 relation_p ++ times 8 fact_p ++ times 8 (fact_of 1 0 0) ++ empty_goal) 2 16

-- Refusals 16, 17: one record with several faults: 2 before 3, 3 before 6, 6 before 4, 4 before 5, 5 before the ninth of a block; and the first record that has one
abbrev pub OrderOfTests : Type 0
OrderOfTests =
    RefusedWith (3 ∷ 0 ∷ 9 ∷ 0 ∷ []) 2 0
    × RefusedWith (times 32 relation_p ++ fact_p ++ relation_p) 3 170
    × RefusedWith (times 32 relation_p ++ relation_with (2 ∷ [])) 6 160
    × RefusedWith (relation_p ++ sixty_four ++ fact_of 1 2 17) 6 645
    × RefusedWith (relation_p ++ fact_of 1 0 17) 4 5
    × RefusedWith (relation_p ++ times 8 fact_p ++ record_of 2 (0 ∷ 1 ∷ 0 ∷ 0 ∷ 0 ∷ 0 ∷ 0 ∷ 0 ∷ [])) 5 85
    × RefusedWith (relation_p ++ fact_of 1 0 0 ++ relation_with (2 ∷ []) ++ (1 ∷ [])) 5 5

-- Refusals 1, 15: LONG: one byte more than 32,768 is refused for that and for nothing else; at 32,768 the first record is looked at
abbrev pub LongsRefused : Type 0
LongsRefused =
    RefusedWith (replicate 32769 0) 1 0 × RefusedWith (replicate 32768 0) 2 0
