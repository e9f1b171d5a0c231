use Rattle.std.proofs.Common.{List}
use Rattle.spj_syntax.specs.declared.tree.RawCol.{RawCol}
use Rattle.query_resolve.specs.Checks.{column_fault}
use Rattle.query_resolve.specs.Resolved.{IsColumnOf}
use Rattle.query_resolve.proofs.Members.{SoFar}
use Rattle.query_resolve.proofs.column.columns_of.Given as goal

-- the columns so far are resolved
abbrev pub invariant-loop-column : goal.invariant-loop-column
invariant-loop-column l = SoFar (λ (before : List RawCol) (col : RawCol). column_fault l.db l.names col.table col.name) (IsColumnOf l.db l.names) l.columns l.column-index l.resolved.items
