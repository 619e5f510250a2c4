-- The ways through a save.
use Rattle.std.specs.Prelude.{Err, Ok}
use Rattle.parlog.specs.Answer.{Answer}
use mathlib.Core.Path.{◌∙◌, ◌≡◌, ap, sym}
use mathlib.Core.Bool.{false, true}
use mathlib.Core.List.{List}
use Prim.Native.Nat.{◌<◌, ◌≤◌, ℕ}
use lib.Dec.{ltb}
use lib.ListN.{length}
use borrow.Author.Tests.{le-ltb, lt-ltb}
use Rattle.entry.specs.Entered.{EnterSays}
use Rattle.lay.proofs.Laws.{laid-start}
use Rattle.lay.specs.Lay.{Lays}
use Rattle.load.specs.Fields.{refusal_of}
use Rattle.parlog.specs.Limits.{Limits}
use Rattle.parlog.specs.Load.{refusal}
use Rattle.parlog.specs.Tables.{Lent, proc_count, var_count, written}
use Rattle.parlog.specs.declared.Refusal.{Refusal}
use Rattle.resume.specs.Calls.{save_call}
use Rattle.resume.specs.Says.{SaveSays}
use Rattle.saved.proofs.Bytes.{saved-length}
use Rattle.saved.specs.Form.{saved_bytes, saved_size}

module _ (lim : Limits) (s : List ℕ) (l : Lent) (row : List ℕ) {e : Answer (ℕ × ℕ)} (told : EnterSays lim s l e) where
  pub save-refused : {f r : Refusal} → e ≡ Err f → r ≡ refusal_of e → SaveSays lim s l row (Err r) row
  unfolding save_call
  save-refused q er = let k = rw q at told.entry in record { answer = rw (k, er, q); row_is = rw k; few = tt }

  module _ {r c : ℕ} (q : e ≡ Ok (r, c)) {n m size : ℕ} (en : n ≡ proc_count l.head) (em : m ≡ var_count l.head) (es : size ≡ saved_size n m) where
    same_size : length (saved_bytes l (length s)) ≡ size
    same_size = saved-length l (length s) ∙ sym (es ∙ rw (en, em))

    pub save-short : {f : Refusal} → length row < size → f ≡ refusal 11 0 → SaveSays lim s l row (Err f) row
    unfolding save_call
    save-short {f} h ef =
        let k = rw q at told.entry in
        let z : ltb (length row) (length (saved_bytes l (length s))) ≡ true = rw same_size (lt-ltb (length row) size h) in
        record { answer = rw (k, z, ef); row_is = rw (k, z); few = tt }

    pub save-stored : {row' : List ℕ} {next : ℕ} → size ≤ length row → size ≤ 4294967295 → Lays row row' 0 (saved_bytes l (length s)) next → SaveSays lim s l row (Ok size) row'
    unfolding save_call written
    save-stored h few w =
        let k = rw q at told.entry in
        let z : ltb (length row) (length (saved_bytes l (length s))) ≡ false = rw same_size (le-ltb (length row) size h) in
        let enough : length (saved_bytes l (length s)) ≤ length row = rw same_size h in
        let i : size ≡ length (saved_bytes l (length s)) = sym same_size in
        record { answer = rw (k, z) (ap Ok i); row_is = rw (k, z) (w.row ∙ laid-start (saved_bytes l (length s)) row enough); few = few }
