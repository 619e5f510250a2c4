-- The fields of records, read where they were written.
use mathlib.Core.Path.{◌∙◌, ◌≡◌, ap, refl}
use mathlib.Core.Bool.{false, true}
use mathlib.Core.List.{[], ◌++◌, ◌∷◌, List}
use Prim.Native.Nat.{◌*◌, ◌+◌, ◌≤◌, ℕ}
use lib.Dec.{ltb}
use lib.ListN.{drop, length, length-append, length-drop}
use borrow.Author.Tests.{le-ltb, lt-ltb}
use native.Mathlib.Omega.{arith}
use Rattle.parlog.specs.Image.{goal_end, literal_arity, literal_end, literal_relation, relation_arity, stage_end, stage_size, term_end}
use Rattle.parlog.specs.Program.{Goal, Literal}
use Rattle.parlog.specs.Records.{byte_at, cut, kind_at, record_end, word_at}
use Rattle.parlog.specs.declared.Term.{Term}
use Rattle.parlog.specs.declared.Term.TheVariants.{Const, Var}
use Rattle.text_program.proofs.Here.{byte-here, byte_next, items-end, skip_by, word-here}
use Rattle.text_program.specs.Encoded.{goal_bytes, literal_bytes, record_bytes, relation_bytes, stage_bytes, term_bytes, word_bytes}
use Rattle.text_program.specs.Numbered.{joined}

-- ---- terms

term-length : (t : Term) → length (term_bytes t) ≡ 2
unfolding term_bytes
term-length (Const c) = refl
term-length (Var v) = refl

pub terms-length : (ts : List Term) → length (joined term_bytes ts) ≡ 2 * length ts
unfolding joined
terms-length [] = refl
terms-length (t ∷ ts) = let a = term-length t in let b = terms-length ts in let c = length-append (term_bytes t) (joined term_bytes ts) in omega arith

module _ (s : List ℕ) where
  pub term-step : (t : Term) (q : ℕ) (r : List ℕ) → drop q s ≡ term_bytes t ++ r → term_end q ≡ q + length (term_bytes t)
  term-step t q r e = rw (term-length t) refl

  -- ---- literals

  module _ (l : Literal) (q : ℕ) (r : List ℕ) (e : drop q s ≡ literal_bytes l ++ r) where
    literal-cons : drop q s ≡ l.rel ∷ length l.args ∷ (joined term_bytes l.args ++ r)
    unfolding literal_bytes
    literal-cons = e

    pub literal-relation : literal_relation s q ≡ l.rel
    literal-relation = byte-here s q l.rel (length l.args ∷ (joined term_bytes l.args ++ r)) literal-cons

    literal-behind : drop (q + 1) s ≡ length l.args ∷ (joined term_bytes l.args ++ r)
    literal-behind = byte_next s q l.rel (length l.args ∷ (joined term_bytes l.args ++ r)) literal-cons

    pub literal-arity : literal_arity s q ≡ length l.args
    literal-arity = byte-here s (q + 1) (length l.args) (joined term_bytes l.args ++ r) literal-behind

    pub literal-terms : drop (q + 2) s ≡ joined term_bytes l.args ++ r
    literal-terms = let z : q + 1 + 1 ≡ q + 2 = omega arith in rw z at (byte_next s (q + 1) (length l.args) (joined term_bytes l.args ++ r) literal-behind)

  literal-length : (l : Literal) → length (literal_bytes l) ≡ 2 + 2 * length l.args
  unfolding literal_bytes
  literal-length l = let a = terms-length l.args in omega arith

  pub literal-step : (l : Literal) (q : ℕ) (r : List ℕ) → drop q s ≡ literal_bytes l ++ r → literal_end s q ≡ q + length (literal_bytes l)
  literal-step l q r e = let a = literal-arity l q r e in let b = literal-length l in omega arith

  -- ---- stages and goals

  module _ (st : List Literal) (q : ℕ) (r : List ℕ) (e : drop q s ≡ stage_bytes st ++ r) where
    stage-cons : drop q s ≡ length st ∷ (joined literal_bytes st ++ r)
    unfolding stage_bytes
    stage-cons = e

    pub stage-size : stage_size s q ≡ length st
    stage-size = byte-here s q (length st) (joined literal_bytes st ++ r) stage-cons

    pub stage-literals : drop (q + 1) s ≡ joined literal_bytes st ++ r
    stage-literals = byte_next s q (length st) (joined literal_bytes st ++ r) stage-cons

    pub stage-step : stage_end s q ≡ q + length (stage_bytes st)
    unfolding stage_end stage_bytes
    stage-step = rw stage-size (items-end s literal_bytes (literal_end s) literal-step st (q + 1) r stage-literals ∙ omega arith)

  module _ (g : Goal) (q : ℕ) (r : List ℕ) (e : drop q s ≡ goal_bytes g ++ r) where
    goal-cons : drop q s ≡ length g ∷ (joined stage_bytes g ++ r)
    unfolding goal_bytes
    goal-cons = e

    pub goal-size : byte_at s q ≡ length g
    goal-size = byte-here s q (length g) (joined stage_bytes g ++ r) goal-cons

    pub goal-stages : drop (q + 1) s ≡ joined stage_bytes g ++ r
    goal-stages = byte_next s q (length g) (joined stage_bytes g ++ r) goal-cons

    pub goal-step : goal_end s q ≡ q + length (goal_bytes g)
    unfolding goal_end goal_bytes
    goal-step = rw goal-size (items-end s stage_bytes (stage_end s) stage-step g (q + 1) r goal-stages ∙ omega arith)

-- ---- a record

pub record-length : (kind : ℕ) (body : List ℕ) → length (record_bytes kind body) ≡ 4 + length body
unfolding record_bytes
record-length kind body = omega arith

module _ (s : List ℕ) (kind : ℕ) (body : List ℕ) (q : ℕ) (r : List ℕ) (e : drop q s ≡ record_bytes kind body ++ r) where
  record-cons : drop q s ≡ word_bytes (4 + length body) ++ (word_bytes kind ++ (body ++ r))
  unfolding record_bytes
  record-cons = e

  record-word : word_at s q ≡ 4 + length body
  record-word = word-here s q (4 + length body) (word_bytes kind ++ (body ++ r)) record-cons

  record-next : drop (q + 2) s ≡ word_bytes kind ++ (body ++ r)
  record-next = skip_by s q (word_bytes (4 + length body)) (word_bytes kind ++ (body ++ r)) record-cons

  pub record-kind : kind_at s q ≡ kind
  record-kind = word-here s (q + 2) kind (body ++ r) record-next

  pub record-body : drop (q + 4) s ≡ body ++ r
  record-body = let z : q + 2 + 2 ≡ q + 4 = omega arith in rw z at (skip_by s (q + 2) (word_bytes kind) (body ++ r) record-next)

  pub record-end : record_end s q ≡ q + length (record_bytes kind body)
  record-end = rw (record-word, record-length kind body) refl

  record-room : q + (4 + length body) ≤ length s
  record-room = let a = ap (λ (l : List ℕ). length l) e in let b = length-append (record_bytes kind body) r in let c = record-length kind body in let d = length-drop q s in omega arith

  pub record-inside : ltb q (length s) ≡ true
  record-inside = let h = record-room in lt-ltb q (length s) (omega arith)

  pub record-whole : cut s q ≡ false
  unfolding cut
  record-whole =
      let h = record-room in
      rw (record-word, le-ltb (length s) (q + 4) (omega arith), le-ltb (4 + length body) 4 (omega arith), le-ltb (length s) (q + (4 + length body)) h)

-- ---- relations

module _ (s : List ℕ) where
  pub relation-step : (ms : List ℕ) (q : ℕ) (r : List ℕ) → drop q s ≡ relation_bytes ms ++ r → record_end s q ≡ q + length (relation_bytes ms)
  unfolding relation_bytes
  relation-step ms q r e = record-end s 1 (length ms ∷ ms) q r e

  pub relation-arity : (ms : List ℕ) (q : ℕ) (r : List ℕ) → drop q s ≡ relation_bytes ms ++ r → relation_arity s q ≡ length ms
  unfolding relation_bytes
  relation-arity ms q r e = byte-here s (q + 4) (length ms) (ms ++ r) (record-body s 1 (length ms ∷ ms) q r e)
