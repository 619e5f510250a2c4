-- The ways through a print, once its text is measured.
use Rattle.parlog.specs.Answer.{Answer}
use Rattle.std.specs.Prelude.{Err, Ok}
use mathlib.Core.Path.{◌∙◌, ◌≡◌, ap, refl, sym}
use mathlib.Core.Bool.{Bool, true}
use mathlib.Core.List.{◌++◌, List}
use Prim.Native.Nat.{◌<◌, ◌≤◌, ℕ}
use lib.ListN.{drop, length}
use borrow.Author.Tests.{le-leb, lt-leb}
use native.Mathlib.Omega.{arith}
use native.Mathlib.Nat.{zero-add}
use Rattle.lay.proofs.Laws.{laid-start}
use Rattle.lay_text.proofs.Laws.{capped-below, capped-in, capped-under}
use Rattle.lay_text.specs.Laying.{capped, most}
use Rattle.lay_text.specs.Wrote.{Wrote}
use Rattle.lay_text.specs.declared.Writer.{Writer}
use Rattle.parlog.specs.Load.{load_of, refusal}
use Rattle.parlog.specs.Program.{program_of}
use Rattle.parlog.specs.Tables.{written}
use Rattle.parlog.specs.declared.Refusal.{Refusal}
use Rattle.print.specs.Says.{PrintSays, Tells}
use Rattle.text_program.specs.Printing.{nameable, PrintCall, print_call, program_named, program_text, unwritten}

module _ (tx t : List ℕ) (ok : Bool) {w m : Writer} (start : (w.to.at ≡ 0) × (w.to.named ≡ true)) (v : Wrote w t ok m) where
  told : m.to.named ≡ ok
  told = v.writes.named ∙ rw start.1

  measured : m.to.at ≡ capped (length t)
  measured = v.writes.place ∙ rw start.0 (ap capped (zero-add (length t)))

  pub lacks-room : m.to.named ≡ true → length tx < m.to.at → unwritten tx (refusal 11 0) ≡ nameable tx ok t
  lacks-room h g =
      let e : length tx < length t = omega (arith, measured, capped-below (length t)) in
      rw (sym told ∙ h, lt-leb (length t) (length tx) e)

  -- x wrote into the text that is lent, which is q afterwards
  pub prints : {x y : Writer} {q : List ℕ} → m.to.named ≡ true → m.to.at ≤ length tx → length tx < most → (x.to.at ≡ 0) × (x.to.named ≡ true) → x.out.now ≡ tx → Wrote x t ok y → q ≡ y.out.now →
      record { answer = Ok y.to.at; text = q } ≡ nameable tx ok t
  unfolding written
  prints {x} {y} {q} h g l s o u e =
      let f = u.writes in
      let n : length t ≤ length tx = capped-under (length t) (length tx) (omega (arith, measured)) l in
      let a : y.to.at ≡ length t = f.place ∙ rw s.0 (ap capped (zero-add (length t)) ∙ capped-in (length t) (omega arith)) in
      let b : q ≡ t ++ drop (length t) tx = e ∙ f.row ∙ rw (o, s.0) (laid-start t tx n) in
      rw (sym told ∙ h, le-leb (length t) (length tx) n, a, b)

-- a call told by its parts
pub tells : {call call' : PrintCall} → call ≡ call' → Tells call' call.answer call.text
tells e = record { answers = ap (λ (k : PrintCall). k.answer) e; leaves = ap (λ (k : PrintCall). k.text) e }

pub print-loaded : (tx s nm : List ℕ) (r c : ℕ) {x : Answer ℕ} {q : List ℕ} → load_of s ≡ Ok (r, c) →
    Tells (nameable tx (program_named nm (program_of s r c)) (program_text nm (program_of s r c))) x q → Tells (print_call tx s nm) x q
unfolding print_call
print-loaded tx s nm r c e v = rw e v

pub print-refused : (tx s nm : List ℕ) (f : Refusal) → load_of s ≡ Err f → Tells (print_call tx s nm) (Err f) tx
unfolding print_call
print-refused tx s nm f e = rw e (record { answers = refl; leaves = refl })

-- a print has one answer and leaves one row
pub print-once : (image names text : List ℕ) {a b : Answer ℕ} {p q : List ℕ} → PrintSays image names text a p → PrintSays image names text b q → (a ≡ b) × (p ≡ q)
print-once image names text f g = (f.answers ∙ sym g.answers, f.leaves ∙ sym g.leaves)
