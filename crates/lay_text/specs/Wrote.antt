-- What is laid through a writer that is lent.
use Rattle.std.specs.Prelude.{Bool, List, ◌≡◌, ℕ, length}
use Rattle.lay_text.specs.Laying.{Writes}
use Rattle.lay_text.specs.declared.Writer.{Writer}

-- bytes bs are laid through w, which makes it x over the same row; ok tells whether the names in bs were there
pub record Wrote (w : Writer) (bs : List ℕ) (ok : Bool) (x : Writer) : Type 0 where
  pub lent : x.out.ghost_name ≡ w.out.ghost_name
  pub size : length x.out.now ≡ length w.out.now
  pub writes : Writes w.out.now w.to bs ok x.out.now x.to
