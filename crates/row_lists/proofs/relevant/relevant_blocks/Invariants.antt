use Rattle.cqa_model.specs.declared.limits.TheConstants.{MOST_ROWS}
use Rattle.std.proofs.Common.{◌≤◌, ◌*◌}
use Rattle.join_access.specs.Listing.{names_of}
use Rattle.row_lists.specs.Encodings.{AreListSpansTo}
use Rattle.row_lists.proofs.relevant.relevant_blocks.Given as goal

-- the blocks of the slots so far
abbrev pub invariant-loop-slot : goal.invariant-loop-slot
invariant-loop-slot l = record {
  small : l.vars ≤ MOST_ROWS * l.slot;
  blocks : AreListSpansTo l.lists.db.now l.lists.frame.now.tables (names_of l.lists.lists.now) l.slot l.vars l.spans.items;
}
