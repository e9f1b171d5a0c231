use Rattle.std.proofs.Common.{◌≡◌, length}
use Rattle.join_access.specs.Listing.{names_of}
use Rattle.row_witnesses.specs.Columns.{AreColumnsOfAtoms}
use Rattle.row_witnesses.proofs.column.columns_of.Given as goal

-- the columns of the atoms so far
abbrev pub invariant-loop-atom : goal.invariant-loop-atom
invariant-loop-atom l = record {
  size : length l.columns.items ≡ l.atom;
  columns : AreColumnsOfAtoms (names_of l.witnesses) l.columns.items;
}
