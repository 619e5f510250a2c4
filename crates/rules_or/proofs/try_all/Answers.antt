use mathlib.Core.Path.{◌∙◌, refl}
use native.Mathlib.Omega.{arith}
use Rattle.parlog.specs.Program.{block_of, program_of}
use Rattle.rules_or.proofs.Tried.{tries-end, tries-next, tries-start, vars-end, vars-next}
use Rattle.rules_or.proofs.try_all.Goals as goal

pub loop-j-init : goal.loop-j-init
loop-j-init c = let a = c.args in let pr = program_of a.image.now.bytes.now a.image.now.relations a.image.now.clauses in
    (omega arith, refl, tries-start pr (block_of pr a.rel a.b) a.p a.z _ a.m, refl)

pub loop-j-preserved : goal.loop-j-preserved
loop-j-preserved c = let a = c.args in let pr = program_of a.image.now.bytes.now a.image.now.relations a.image.now.clauses in let ks = block_of pr a.rel a.b in let o = c.loop-j in
    (omega arith, c.try_one-v.ensures.2.size ∙ o.invariant.1, tries-next pr ks a.p a.z _ _ o.v o.j (omega arith) o.invariant.2 c.try_one-v.ensures.0 c.try_one-v.ensures.2, vars-next pr ks o.v o.j (omega arith) o.invariant.3 c.try_one-v.ensures.0)

pub returns : goal.returns
returns c = let a = c.args in let pr = program_of a.image.now.bytes.now a.image.now.relations a.image.now.clauses in let ks = block_of pr a.rel a.b in let o = c.loop-j in
    (tries-end pr ks a.p a.z _ o.v o.j (omega arith) c.requires.1 o.invariant.2, vars-end pr ks o.v o.j {size = a.size} (omega arith) c.requires.1 o.invariant.3)
