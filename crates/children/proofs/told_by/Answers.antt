use mathlib.Core.Bool.{◌&&◌, not}
use mathlib.Core.Path.{◌≡◌}
use Rattle.children.proofs.Noting.{tells}
use Rattle.children.proofs.Ways.{found-is}
use Rattle.children.specs.Notes.{none_silent, some_bad, some_good}
use Rattle.children.proofs.told_by.Goals as goal
use Rattle.children.proofs.told_by.Goals.{then-not-failed, else-not-failed, then-not-good, else-not-good}

pub returns : goal.returns
returns c = λ p so.
    let said = c.args.x.said in
    let spoke = c.none_silent-spoke.ensures in
    let succeeded : c.if-not-failed.result ≡ (not (some_bad said) && none_silent said) = elim c.if-not-failed.branch [
      | then-not-failed w ↦ rw (← c.some_bad-failed.ensures, ← spoke, w.if-not-failed.true) w.result-is
      | else-not-failed w ↦ rw (← c.some_bad-failed.ensures, w.if-not-failed.false) (rw w.if-not-failed.false at w.result-is)
    ] in
    let hopeless : c.if-not-good.result ≡ (not (some_good said) && none_silent said) = elim c.if-not-good.branch [
      | then-not-good w ↦ rw (← c.some_good-good.ensures, ← spoke, w.if-not-good.true) w.result-is
      | else-not-good w ↦ rw (← c.some_good-good.ensures, w.if-not-good.false) (rw w.if-not-good.false at w.result-is)
    ] in
    tells _ _ _ so c.some_bad-failed.ensures succeeded hopeless (rw (← c.some_good-good.ensures) (found-is _ c.from.ensures c.then_some.ensures)) c.heard.ensures
