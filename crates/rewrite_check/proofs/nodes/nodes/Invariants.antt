use Rattle.std.proofs.Common.{◌<◌, ◌^◌, length}
use Rattle.rewrite_check.specs.Spelling.{Ordered}
use Rattle.rewrite_check.specs.Reading.{GoesFrom}
use Rattle.rewrite_check.proofs.nodes.nodes.Given as goal

-- the statements so far lead to the certificate so far
abbrev pub invariant-loop-text : goal.invariant-loop-text
invariant-loop-text l = GoesFrom (Ordered l.initial.certificate) l.initial.script (Ordered l.certificate) l.script × (length l.certificate.select.tables < 2 ^ 32)

abbrev pub decreases-loop-text : goal.decreases-loop-text
decreases-loop-text l = length l.script.bytes
