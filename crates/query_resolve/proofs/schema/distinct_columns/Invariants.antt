use Rattle.std.proofs.Common.{◌≡◌}
use Rattle.cqa_model.specs.declared.schema.Column.{Column}
use Rattle.query_resolve.specs.Checks.{duplicate_fault}
use Rattle.query_resolve.proofs.Members.{SoFar}
use Rattle.query_resolve.proofs.schema.distinct_columns.Given as goal

-- the columns so far have different names
abbrev pub invariant-loop-at : goal.invariant-loop-at
invariant-loop-at l = SoFar duplicate_fault (λ (column copy : Column). copy ≡ column) l.columns l.at l.copies.items
