use Rattle.spj_syntax.proofs.Steps.{mark_took, one_fails}
use Rattle.spj_syntax.proofs.reader.Reader.mark.Goals as goal

pub returns-then-sees_mark : goal.returns-then-sees_mark
returns-then-sees_mark c = mark_took c.if-sees_mark.ensures c.advance.ensures

pub returns-else-sees_mark : goal.returns-else-sees_mark
returns-else-sees_mark c = one_fails c.if-sees_mark.ensures
