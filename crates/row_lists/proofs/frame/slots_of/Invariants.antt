use Rattle.std.proofs.Common.{◌≡◌, length}
use Rattle.row_lists.proofs.Framing.{HaveSlotsTo}
use Rattle.row_lists.proofs.frame.slots_of.Given as goal

-- the tables so far have their slots
abbrev pub invariant-loop-slot : goal.invariant-loop-slot
invariant-loop-slot l = record {
  wide : length l.slots.items ≡ l.count;
  slot : HaveSlotsTo l.tables l.slots.items l.slot;
}
