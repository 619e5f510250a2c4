-- What a clause text says, form by form of the grammar. `X s v t`: an X that says v can be read off s, and t is left.
use Rattle.std.specs.Prelude.{Bool, false, true, [], ◌∷◌, List, ℕ}
use Rattle.spell.specs.Forms.{Reads}
use Rattle.spell.specs.Grammar.{arrow, blank, blanks, capital, mark, name_byte, small, word}
use Rattle.text_names.specs.Names.{Name}
use Rattle.text_program.specs.Source.{calls, equals, ModeLine, Said, SaidClause, Source}

-- in a text something is said, and a text is left
abbrev pub Saying : Type 0 → Type 1
Saying A = List ℕ → A → List ℕ → Type 0

-- ---- words

-- Text 1: letters, digits and `_`: they say themselves
pub data SaysBytes : List ℕ → Name → List ℕ → Type 0 where
  no_byte : {s : List ℕ} → SaysBytes s [] s
  a_byte : {b : ℕ} {s t : List ℕ} {x : Name} → Reads name_byte (b ∷ s) s → SaysBytes s x t → SaysBytes (b ∷ s) (b ∷ x) t

-- Text 1: the name of a constant or a relation says itself, without the blanks behind it
pub data SaysLower : List ℕ → Name → List ℕ → Type 0 where
  a_lower : {b : ℕ} {s t u : List ℕ} {x : Name} → Reads small (b ∷ s) s → SaysBytes s x t → Reads blanks t u → SaysLower (b ∷ s) (b ∷ x) u

-- Text 1, 4: so does a term: the name of a constant or a variable
pub data SaysTerm : List ℕ → Name → List ℕ → Type 0 where
  a_constant : {s t : List ℕ} {x : Name} → SaysLower s x t → SaysTerm s x t
  a_variable : {b : ℕ} {s t u : List ℕ} {x : Name} → Reads capital (b ∷ s) s → SaysBytes s x t → Reads blanks t u → SaysTerm (b ∷ s) (b ∷ x) u

-- ---- lines

-- Text 3, 4, 5: items with a mark between them say what each says
pub data SaysRow {A : Type 0} (Item : Saying A) (m : ℕ) : List ℕ → List A → List ℕ → Type 0 where
  last_item : {s t : List ℕ} {x : A} → Item s x t → SaysRow Item m s (x ∷ []) t
  next_item : {s t u v : List ℕ} {x : A} {xs : List A} → Item s x t → Reads (mark m) t u → SaysRow Item m u xs v → SaysRow Item m s (x ∷ xs) v

-- Text 3, 4: items in brackets with `,` between them, or no brackets and no item
pub data SaysBrackets {A : Type 0} (Item : Saying A) : List ℕ → List A → List ℕ → Type 0 where
  no_brackets : {s : List ℕ} → SaysBrackets Item s [] s
  in_brackets : {s t u v : List ℕ} {xs : List A} → Reads (mark 40) s t → SaysRow Item 44 t xs u → Reads (mark 41) u v → SaysBrackets Item s xs v

-- Text 3: a mode, 0 for `?` and 1 for `^`
pub data SaysMode : List ℕ → ℕ → List ℕ → Type 0 where
  an_input : {s t : List ℕ} → Reads (mark 63) s t → SaysMode s 0 t
  an_output : {s t : List ℕ} → Reads (mark 94) s t → SaysMode s 1 t

-- Text 3: `mode p(?,^).`
pub data SaysModeLine : List ℕ → ModeLine → List ℕ → Type 0 where
  a_mode_line : {s t u v w : List ℕ} {x : Name} {ms : List ℕ} → Reads (word blank) s t → SaysLower t x u → SaysBrackets SaysMode u ms v → Reads (mark 46) v w →
      SaysModeLine (109 ∷ 111 ∷ 100 ∷ 101 ∷ s) (record { name = x; modes = ms }) w

-- Text 4: `p(a,B)` or `A = b`
pub data SaysLiteral : List ℕ → Said → List ℕ → Type 0 where
  a_call : {s t u : List ℕ} {x : Name} {xs : List Name} → SaysLower s x t → SaysBrackets SaysTerm t xs u → SaysLiteral s (calls x xs) u
  an_equality : {s t u v : List ℕ} {x y : Name} → SaysTerm s x t → Reads (mark 61) t u → SaysTerm u y v → SaysLiteral s (equals x y) v

-- Text 5: literals of a stage have `,` between them
abbrev pub SaysStage : Saying (List Said)
SaysStage = SaysRow SaysLiteral 44

-- Text 5: stages have `&` between them
abbrev pub SaysGoal : Saying (List (List Said))
SaysGoal = SaysRow SaysStage 38

-- Text 6, 7: no goal has no stage
pub data SaysBody : List ℕ → List (List Said) → List ℕ → Type 0 where
  no_goal : {s : List ℕ} → SaysBody s [] s
  a_goal : {s t : List ℕ} {g : List (List Said)} → SaysGoal s g t → SaysBody s g t

-- Text 6: guard and body: nothing, `<- body`, `<- guard : body` or `<- guard :`
pub data SaysHalves : List ℕ → List (List Said) → List (List Said) → List ℕ → Type 0 where
  no_halves : {s : List ℕ} → SaysHalves s [] [] s
  a_body : {s t u : List ℕ} {b : List (List Said)} → Reads arrow s t → SaysGoal t b u → SaysHalves s [] b u
  a_guard : {s t u v w : List ℕ} {g b : List (List Said)} → Reads arrow s t → SaysGoal t g u → Reads (mark 58) u v → SaysBody v b w → SaysHalves s g b w

-- Text 6: the mark at the end of a clause: is it `;`?
pub data SaysEnd : List ℕ → Bool → List ℕ → Type 0 where
  a_stop : {s t : List ℕ} → Reads (mark 46) s t → SaysEnd s false t
  a_semicolon : {s t : List ℕ} → Reads (mark 59) s t → SaysEnd s true t

-- Text 6: `p(a,B).`, `p <- body;`, `p <- guard : body.` or `p <- guard : .`
pub data SaysClause : List ℕ → SaidClause → List ℕ → Type 0 where
  a_clause : {s t u v w : List ℕ} {x : Name} {xs : List Name} {g b : List (List Said)} {e : Bool} →
      SaysLower s x t → SaysBrackets SaysTerm t xs u → SaysHalves u g b v → SaysEnd v e w →
      SaysClause s (record { name = x; terms = xs; guard = g; body = b; semicolon = e }) w

-- Text 7: `<- body.` or `<- .`
pub data SaysGoalLine : List ℕ → List (List Said) → List ℕ → Type 0 where
  a_goal_line : {s t u v : List ℕ} {g : List (List Said)} → Reads arrow s t → SaysBody t g u → Reads (mark 46) u v → SaysGoalLine s g v

-- ---- the whole text

-- Text 8: any number of lines say what each says
pub data SaysLines {A : Type 0} (Line : Saying A) : List ℕ → List A → List ℕ → Type 0 where
  no_line : {s : List ℕ} → SaysLines Line s [] s
  a_line : {s t u : List ℕ} {x : A} {xs : List A} → Line s x t → SaysLines Line t xs u → SaysLines Line s (x ∷ xs) u

-- Text 8: mode lines, clauses, one goal line; nothing is left
pub data SaysText : List ℕ → Source → Type 0 where
  a_text : {s t u v : List ℕ} {ms : List ModeLine} {cs : List SaidClause} {g : List (List Said)} →
      Reads blanks s t → SaysLines SaysModeLine t ms u → SaysLines SaysClause u cs v → SaysGoalLine v g [] →
      SaysText s (record { modes = ms; clauses = cs; goal = g })
