use Rattle.std.proofs.Common.{◌≡◌, ◌+◌, drop}
use Rattle.refusals.specs.Kinds.{kind_fault}
use Rattle.query_resolve.specs.Checks.{answer_kinds}
use Rattle.query_resolve.proofs.answer.kind_fault_of.Given as goal

-- the values so far have their columns' kinds
abbrev pub invariant-loop-at : goal.invariant-loop-at
invariant-loop-at l = kind_fault 1 1 (answer_kinds l.bound.db.now l.bound.query.now) l.row ≡ kind_fault 1 (l.at + 1) (drop l.at (answer_kinds l.bound.db.now l.bound.query.now)) (drop l.at l.row)
