use Rattle.std.proofs.Common.{take}
use Rattle.query_replies.specs.Classes.{AreClassesOf}
use Rattle.query_replies.proofs.unions.classes_of.Given as goal

-- the classes of the parts so far
abbrev pub invariant-loop-at : goal.invariant-loop-at
invariant-loop-at l = AreClassesOf l.database (take l.at l.selects) l.classes
