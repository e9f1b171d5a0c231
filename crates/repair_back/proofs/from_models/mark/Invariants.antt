use Rattle.repair_back.proofs.Marking.{MarkedTo}
use Rattle.repair_back.proofs.from_models.mark.Given as goal

-- the rows listed so far are marked
abbrev pub invariant-loop-at : goal.invariant-loop-at
invariant-loop-at l = MarkedTo l.initial.kept l.kept l.listed l.model l.at
