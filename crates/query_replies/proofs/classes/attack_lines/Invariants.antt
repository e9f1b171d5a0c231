use Rattle.query_replies.proofs.LineSteps.{AreLines}
use Rattle.query_replies.proofs.classes.attack_lines.Given as goal

abbrev pub invariant-loop-pair : goal.invariant-loop-pair
invariant-loop-pair l = AreLines l.graph l.names l.pair l.lines
