use mathlib.Core.Path.{refl}
use native.Mathlib.Omega.{arith}
use Rattle.runner_text.proofs.Laws.{number_is}
use Rattle.std.proofs.lemmas.Fmt.{length-decimal-le}
use Rattle.runner_text.proofs.Text.number.Goals as goal

pub write_digits-self-requires : goal.write_digits-self-requires
write_digits-self-requires c = let l = length-decimal-le 20 c.args.n (omega arith) (omega arith) (omega arith) in (omega (arith, l, c.requires), c.args.self.now.inside)

pub returns : goal.returns
returns c = record { lent = refl; fronted = number_is _ _ _ (omega arith) c.write_digits-self.auto.buf c.write_digits-self.ensures.start c.write_digits-self.ensures.written c.write_digits-self.ensures.before }
