use Rattle.capi.proofs.Laws.{resume-tells}
use Rattle.capi.proofs.rissobarm_resume.Goals as goal

pub returns : goal.returns
returns c = resume-tells _ _ _ _ c.resume-a.ensures c.resume_word.ensures
