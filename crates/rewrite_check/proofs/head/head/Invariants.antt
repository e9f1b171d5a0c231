use Rattle.std.proofs.Common.{length}
use Rattle.rewrite_check.specs.Spelling.{Created}
use Rattle.rewrite_check.specs.Reading.{GoesFrom}
use Rattle.rewrite_check.proofs.head.head.Given as goal

-- the statements so far created the tables
abbrev pub invariant-loop-claim : goal.invariant-loop-claim
invariant-loop-claim l = GoesFrom (Created l.initial.tables) l.initial.script (Created l.tables) l.script

abbrev pub decreases-loop-claim : goal.decreases-loop-claim
decreases-loop-claim l = length l.script.bytes
