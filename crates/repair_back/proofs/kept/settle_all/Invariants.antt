use Rattle.repair_back.proofs.Starting.{AllSettledTo}
use Rattle.repair_back.proofs.kept.settle_all.Given as goal

-- the tables so far are settled
abbrev pub invariant-loop-table : goal.invariant-loop-table
invariant-loop-table l = AllSettledTo l.db l.tables l.initial.kept l.kept l.table-index
