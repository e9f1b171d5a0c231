use Rattle.std.proofs.Common.{◌≡◌, length, slice_index}
use Rattle.row_lists.specs.Loose.{HasFreePlace}
use Rattle.row_lists.proofs.Loose.{IsBelow, Says}
use Rattle.row_lists.proofs.loosening.marks_before.Given as goal

-- the marks so far are right, and so is what was found at the last place
abbrev pub invariant-loop-at : goal.invariant-loop-at
invariant-loop-at l = record {
  size : length l.loose.items ≡ l.at;
  loose : Says (λ i. HasFreePlace l.key l.rows l.places (slice_index l.places i)) l.at l.loose.items;
  last : IsBelow l.key l.rows l.places l.at l.next l.last;
}
