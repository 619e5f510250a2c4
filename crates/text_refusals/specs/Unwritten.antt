-- When a print is refused: the number, and the offset that it carries.
use Rattle.std.specs.Prelude.{◌≡◌, ◌↔◌, ◌≢◌, true, ◌++◌, ◌∷◌, List, ◌+◌, ◌<◌, suc, ℕ, length, Err}
use Rattle.parlog.specs.Load.{refusal}
use Rattle.parlog.specs.Orders.{Each}
use Rattle.parlog.specs.Program.{Program, program_of}
use Rattle.parlog.specs.declared.Refusal.{Refusal}
use Rattle.refusals.specs.Refused.{RefusedAt}
use Rattle.refusals.specs.Right.{RightImage}
use Rattle.text_back.specs.Back.{constants_in, terms_of}
use Rattle.text_names.specs.Bytes.{first, is_name, is_small}
use Rattle.text_names.specs.Names.{Name}
use Rattle.text_program.specs.Printing.{print_call, program_text}
use Rattle.text_refusals.specs.Unread.{In}

-- ---- the names of a list

-- Text 15: no byte 10 is among these
abbrev pub Endless : List ℕ → Type 0
Endless x = Each (λ (b : ℕ). b ≢ 10) x

-- Text 15: entry k of a row is x: the bytes before the first byte 10, or, behind that, entry k - 1
pub data Entry : List ℕ → ℕ → Name → Type 0 where
  first_entry : {nm x : List ℕ} (s : List ℕ) → nm ≡ x ++ (10 ∷ s) → Endless x → Entry nm 0 x
  later_entry : {nm x : List ℕ} {k : ℕ} (y s : List ℕ) → nm ≡ y ++ (10 ∷ s) → Endless y → Entry s k x → Entry nm (suc k) x

-- Text 1: a name in lower case
pub record LowerCase (x : Name) : Type 0 where
  pub letter : is_small (first x) ≡ true
  pub bytes : Each (λ (b : ℕ). is_name b ≡ true) x

-- Text 26: entry k is there and is such a name
pub record HasName (nm : List ℕ) (k : ℕ) : Type 0 where
  pub name : Name
  pub entry : Entry nm k name
  pub lower_case : LowerCase name

-- Text 15, 26: the numbers in use: of each relation, and behind them of each constant that stands in the program
pub data InUse (pr : Program) : ℕ → Type 0 where
  a_relation : {k : ℕ} → k < length pr.relations → InUse pr k
  a_constant : {c : ℕ} → In c (constants_in (terms_of pr)) → InUse pr (length pr.relations + c)

-- Text 26: one of them has no name
pub record Unnamed (nm : List ℕ) (pr : Program) : Type 0 where
  pub number : ℕ
  pub used : InUse pr number
  pub missing : HasName nm number → ⊥

-- ---- all of them

-- Text 26, 27: the image's own, then 17, then 11
pub data PrintRefused (row s nm : List ℕ) : ℕ → ℕ → Type 0 where
  bad_image : {n o : ℕ} → RefusedAt s n o → PrintRefused row s nm n o
  lacks_name : {r c : ℕ} → RightImage s r c → Unnamed nm (program_of s r c) → PrintRefused row s nm 17 0
  row_short : {r c : ℕ} → RightImage s r c → (Unnamed nm (program_of s r c) → ⊥) → length row < length (program_text nm (program_of s r c)) → PrintRefused row s nm 11 0

-- ---- exactly

-- Text 26, 27: a print is refused with a number and an offset exactly where there is that reason
abbrev pub PrintExactly : Type 0
PrintExactly = (row s nm : List ℕ) (n o : ℕ) → ((print_call row s nm).answer ≡ Err (refusal n o)) ↔ PrintRefused row s nm n o

-- Text 27: and then the row is as it was
abbrev pub PrintKept : Type 0
PrintKept = (row s nm : List ℕ) (f : Refusal) → (print_call row s nm).answer ≡ Err f → (print_call row s nm).text ≡ row
