-- A print is refused exactly where there is a reason.
use Rattle.std.specs.Prelude.{Err, Ok}
use Rattle.parlog.specs.Answer.{Answer}
use mathlib.Core.Path.{◌∙◌, ◌≡◌, ap, refl, sym}
use mathlib.Core.Bool.{Bool, false, true}
use mathlib.Core.List.{List}
use Prim.Native.Nat.{◌+◌, ◌<◌, suc, zero, ℕ}
use lib.Dec.{leb}
use lib.ListN.{length}
use borrow.Author.Tests.{leb-false, lt-leb}
use native.Mathlib.Omega.{arith}
use Rattle.parlog.proofs.Bools.{never, not_so, split}
use Rattle.parlog.proofs.Scans.{below_suc}
use Rattle.parlog.specs.Load.{load_of, refusal}
use Rattle.parlog.specs.Orders.{Each}
use Rattle.parlog.specs.Program.{Program, program_of}
use Rattle.refusals.proofs.Exactly.{accepted-right, refused-exactly}
use Rattle.refusals.proofs.Tests.{refuted}
use Rattle.refusals.specs.Right.{RightImage}
use Rattle.text_back.proofs.Made.{accepted-made}
use Rattle.text_back.proofs.Named.{AllNamed, ConstantNamed, named-program, program-named}
use Rattle.text_back.proofs.Numbers.{each_of, Made}
use Rattle.text_back.specs.Back.{constants_in, terms_of}
use Rattle.text_names.specs.Entries.{is_entry}
use Rattle.text_program.specs.Parsing.{all_of}
use Rattle.text_program.specs.Printing.{nameable, PrintCall, print_call, print_loaded, program_named, program_text, roomy, unwritten}
use Rattle.text_refusals.proofs.Declared.{all-false}
use Rattle.text_refusals.proofs.Entered.{entry_has, entry-so}
use Rattle.text_refusals.specs.Unread.{behind, In, in_front}
use Rattle.text_refusals.specs.Unwritten.{a_constant, a_relation, bad_image, InUse, lacks_name, PrintExactly, PrintKept, PrintRefused, row_short, Unnamed}

-- ---- a number that fails

data Search (f : ℕ → Bool) (n : ℕ) : Type 0 where
  all_pass : ((k : ℕ) → k < n → f k ≡ true) → Search f n
  one-fails : {k : ℕ} → k < n → f k ≡ false → Search f n

search-all : (f : ℕ → Bool) (n : ℕ) → Search f n
search-all f zero = all_pass (λ k h. absurd (omega arith))
search-all f (suc n) = go (search-all f n) (f n) refl
  where
    go : Search f n → (b : Bool) → f n ≡ b → Search f (suc n)
    go (one-fails {k} h e) b d = one-fails {k = k} (omega arith) e
    go (all_pass h) false d = one-fails {k = n} (omega arith) d
    go (all_pass h) true d = all_pass (λ k l. below_suc k n l (λ e. rw e d) (h k))

pub each_in : {A : Type 0} (P : A → Type 0) {x : A} {xs : List A} → In x xs → Each P xs → P x
each_in P in_front e = e.0
each_in P (behind i) e = each_in P i e.1

-- ---- what lacks a name

module _ (nm : List ℕ) (pr : Program) (m : Made pr) where
  abbrev r : ℕ
  r = length pr.relations

  abbrev used : ℕ → Bool
  used c = is_entry nm (r + c)

  use-named : AllNamed nm pr → {k : ℕ} → InUse pr k → is_entry nm k ≡ true
  use-named a (a_relation {k} h) = a.relations k h
  use-named a (a_constant {c} i) = each_in (ConstantNamed r nm) i a.constants

  unnamed-false : Unnamed nm pr → program_named nm pr ≡ false
  unnamed-false u = not_so (program_named nm pr) (λ e. u.missing (entry_has nm u.number (use-named (named-program nm pr m e) u.used)))

  false-unnamed : program_named nm pr ≡ false → Unnamed nm pr
  false-unnamed e = relations-so (search-all (is_entry nm) r)
    where
      constants-so : ((k : ℕ) → k < r → is_entry nm k ≡ true) → (b : Bool) → all_of used (constants_in (terms_of pr)) ≡ b → Unnamed nm pr
      constants-so h true d = never (sym e ∙ program-named nm pr m h (each_of used (ConstantNamed r nm) (λ c z. z) (constants_in (terms_of pr)) d))
      constants-so h false d =
          let w = all-false used (constants_in (terms_of pr)) d in
          record { number = r + w.item; used = a_constant w.among; missing = refuted (entry-so nm (r + w.item)) w.fails }

      relations-so : Search (is_entry nm) r → Unnamed nm pr
      relations-so (one-fails {k} h d) = record { number = k; used = a_relation h; missing = refuted (entry-so nm k) d }
      relations-so (all_pass h) = constants-so h (all_of used (constants_in (terms_of pr))) refl

-- ---- from a reason to the refusal

right-loads : {s : List ℕ} {r c : ℕ} → RightImage s r c → load_of s ≡ Ok (r, c)
right-loads {s} i = (accepted-right s).1 i

right-made : {s : List ℕ} {r c : ℕ} → RightImage s r c → Made (program_of s r c)
right-made {s} {r} {c} i = accepted-made s r c (right-loads i)

named-so : {s nm : List ℕ} {r c : ℕ} → RightImage s r c → (Unnamed nm (program_of s r c) → ⊥) → program_named nm (program_of s r c) ≡ true
named-so {s} {nm} {r} {c} i h = split (program_named nm (program_of s r c)) (λ e. e) (λ e. absurd (h (false-unnamed nm (program_of s r c) (right-made i) e)))

module _ (row s nm : List ℕ) where
  pub print-refused : {n o : ℕ} → PrintRefused row s nm n o → print_call row s nm ≡ unwritten row (refusal n o)
  unfolding print_call
  print-refused {n} {o} (bad_image x) = rw ((refused-exactly s).1 x)
  print-refused (lacks_name {r} {c} i u) = rw (right-loads i, unnamed-false nm (program_of s r c) (right-made i) u)
  print-refused (row_short {r} {c} i u h) = rw (right-loads i, named-so i u, lt-leb (length (program_text nm (program_of s r c))) (length row) h)

  -- ---- from the refusal to a reason

  abbrev Told : Answer ℕ → Type 0
  Told (Ok k) = Unit {0}
  Told (Err f) = PrintRefused row s nm f.number f.offset

  told-room : {r c : ℕ} → RightImage s r c → (Unnamed nm (program_of s r c) → ⊥) → (b : Bool) → leb (length (program_text nm (program_of s r c))) (length row) ≡ b → Told (roomy row b (program_text nm (program_of s r c))).answer
  told-room i u true e = tt
  told-room {r} {c} i u false e = row_short i u (leb-false (length (program_text nm (program_of s r c))) (length row) e)

  told_names : {r c : ℕ} → RightImage s r c → (b : Bool) → program_named nm (program_of s r c) ≡ b → Told (nameable row b (program_text nm (program_of s r c))).answer
  told_names {r} {c} i false e = lacks_name i (false-unnamed nm (program_of s r c) (right-made i) e)
  told_names {r} {c} i true e =
      told-room i (λ u. never (sym (unnamed-false nm (program_of s r c) (right-made i) u) ∙ e)) (leb (length (program_text nm (program_of s r c))) (length row)) refl

  told-load : (a : Answer (ℕ × ℕ)) → load_of s ≡ a → Told (print_loaded row a s nm).answer
  told-load (Err f) e = bad_image ((refused-exactly s).0 e)
  told-load (Ok (r, c)) e = told_names ((accepted-right s).0 e) (program_named nm (program_of s r c)) refl

  print-told : Told (print_call row s nm).answer
  unfolding print_call
  print-told = told-load (load_of s) refl

-- THE LAW: exactly
pub print-exactly : PrintExactly
print-exactly row s nm n o = (λ e. rw e at (print-told row s nm), λ w. ap (λ (c : PrintCall). c.answer) (print-refused row s nm w))

pub print-kept : PrintKept
print-kept row s nm f e = ap (λ (c : PrintCall). c.text) (print-refused row s nm (rw e at (print-told row s nm)))
