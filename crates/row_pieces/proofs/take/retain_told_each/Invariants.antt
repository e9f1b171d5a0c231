use Rattle.std.proofs.Common.{◌≡◌, ◌≤◌, ◌-◌, ◌++◌, Bool, List, length, map, take, drop}
use Rattle.cqa_value.specs.declared.value.Value.{Value as Cell}
use Rattle.row_pieces.specs.Joined.{joined}
use Rattle.row_pieces.specs.Retained.{retained}
use Rattle.row_pieces.proofs.take.retain_told_each.Given as goal

-- the pieces so far are done, and the others are as they were
abbrev pub invariant-loop-at : goal.invariant-loop-at
invariant-loop-at l = record {
  begun : l.first ≤ l.at;
  front : take l.first l.pieces ≡ take l.first l.initial.pieces;
  order : l.low ≤ l.high;
  each : length l.rest ≡ l.high - l.low;
  fewer : length (joined l.pieces) ≤ length (joined l.initial.pieces);
  kept : (p : List Cell → Bool) → l.initial.stays ≡ map p (take (l.to - l.from) (drop l.from (joined l.initial.pieces))) → (l.rest ≡ map p (take (l.high - l.low) (drop l.low (joined (drop l.at l.pieces))))) × (retained p l.from l.to (joined l.initial.pieces) ≡ joined (take l.at l.pieces) ++ retained p l.low l.high (joined (drop l.at l.pieces)));
}
