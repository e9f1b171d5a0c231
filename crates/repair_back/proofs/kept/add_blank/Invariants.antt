use Rattle.repair_back.proofs.Starting.{BlankTo}
use Rattle.repair_back.proofs.kept.add_blank.Given as goal

-- the tables so far have flags
abbrev pub invariant-loop-table : goal.invariant-loop-table
invariant-loop-table l = BlankTo l.db l.tables l.table l.kept.items
