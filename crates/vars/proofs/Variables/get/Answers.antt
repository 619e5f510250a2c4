use Rattle.vars.proofs.Tables.{vars-at, vars-past}
use mathlib.Core.Path.{sym, ◌∙◌}
use Rattle.vars.proofs.Variables.get.Goals as goal

pub returns-then-v-self : goal.returns-then-v-self
returns-then-v-self c = c.get_binding.ensures ∙ sym (vars-at c.args.self.now.bytes.now _ _ c.if-v-self.true)

pub returns : goal.returns
returns c = sym (vars-past c.args.self.now.bytes.now _ _ c.if-v-self.false)
