use Rattle.std.specs.List.{zip}
use Rattle.query_resolve.specs.Checks.{answer_kinds, fault_by_number, kinds_clash}
use Rattle.query_resolve.proofs.Members.{Passed}
use Rattle.query_resolve.proofs.unions.check_columns.Given as goal

-- the columns so far have the kinds of the first part's
abbrev pub invariant-loop-at : goal.invariant-loop-at
invariant-loop-at l = Passed (fault_by_number (kinds_clash l.number)) (zip (answer_kinds l.first.db.now l.first.query.now) (answer_kinds l.part.db.now l.part.query.now)) l.at
