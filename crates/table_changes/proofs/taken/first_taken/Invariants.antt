use Rattle.std.proofs.Common.{◌≡◌, ◌+◌, ◌++◌, take, drop}
use Rattle.cqa_model.specs.Database.{AreConsistent}
use Rattle.table_changes.specs.Taken.{taken_fault}
use Rattle.table_changes.proofs.taken.first_taken.Given as goal

-- the rows so far are kept beside the stored ones
abbrev pub invariant-loop-at : goal.invariant-loop-at
invariant-loop-at l = record {
  so_far : taken_fault l.key l.stored 1 l.rows ≡ taken_fault l.key (l.stored ++ take l.at l.rows) (l.at + 1) (drop l.at l.rows);
  consistent : AreConsistent l.key (l.stored ++ take l.at l.rows);
}
