-- What writers of text do to a lent row.
use Rattle.std.specs.Prelude.{◌&&◌, Bool, cond, List, ◌≡◌, ◌+◌, ◌≤◌, ℕ, ltb, length}
use Rattle.lay.specs.Lay.{laid}
use Rattle.lay_text.specs.declared.To.{To}

-- the largest number
abbrev pub most : ℕ
most = 18446744073709551615

-- a place, or the last one
unfoldable pub capped : ℕ → ℕ
capped n = cond (ltb n most) n most

-- bytes bs are laid into o from w on, which makes it p, and the text has come to x; ok tells whether the names in bs were there
pub record Writes (o : List ℕ) (w : To) (bs : List ℕ) (ok : Bool) (p : List ℕ) (x : To) : Type 0 where
  pub row : p ≡ laid o w.at bs
  pub place : x.at ≡ capped (w.at + length bs)
  pub named : x.named ≡ (w.named && ok)
  pub small : length o ≤ most
  pub size : length p ≡ length o

-- of the bytes bs, to be laid into o from w on, there are left cs, to be laid into p from x on
pub record Left (o : List ℕ) (w : To) (bs : List ℕ) (ok : Bool) (p : List ℕ) (x : To) (cs : List ℕ) (rest : Bool) : Type 0 where
  pub row : laid p x.at cs ≡ laid o w.at bs
  pub place : capped (x.at + length cs) ≡ capped (w.at + length bs)
  pub named : (x.named && rest) ≡ (w.named && ok)
  pub small : length p ≤ most
  pub same : length p ≡ length o
  pub inside : x.at ≤ most
