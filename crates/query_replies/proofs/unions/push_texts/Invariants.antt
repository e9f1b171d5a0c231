use Rattle.std.proofs.Common.{take}
use Rattle.query_replies.specs.Parts.{HaveTexts}
use Rattle.query_replies.proofs.unions.push_texts.Given as goal

-- the texts of the parts so far
abbrev pub invariant-loop-at : goal.invariant-loop-at
invariant-loop-at l = HaveTexts l.database (take l.at l.selects) (take l.at l.parts) l.texts
