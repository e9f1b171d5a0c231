use Rattle.std.proofs.Common.{◌≡◌, length}
use Rattle.join_access.specs.Listing.{names_of}
use Rattle.row_lists.specs.Frames.{AreColumnsOfFrame}
use Rattle.row_lists.proofs.lists_over.columns_of.Given as goal

-- the columns of the slots so far
abbrev pub invariant-loop-table : goal.invariant-loop-table
invariant-loop-table l = record {
  size : length l.columns.items ≡ l.table-index;
  columns : AreColumnsOfFrame l.frame.tables (names_of l.lists) l.columns.items;
}
