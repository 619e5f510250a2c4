-- What a writer of text does to its row.
use Rattle.std.specs.Prelude.{◌≡◌, List, ℕ, drop}
use Rattle.runner_text.specs.Fronting.{Fronted}
use Rattle.runner_text.specs.declared.Text.{Text}

-- the text that stands
abbrev pub standing : Text → List ℕ
standing w = drop w.at w.out.now

-- text t stands over the same row, and is at most so much longer than before
pub record Fronts (w : Text) (most : ℕ) (t : List ℕ) (x : Text) : Type 0 where
  pub lent : x.out.ghost_name ≡ w.out.ghost_name
  pub fronted : Fronted w.out.now w.at most t x.out.now x.at
