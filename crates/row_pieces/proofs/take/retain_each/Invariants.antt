use Rattle.std.proofs.Common.{◌≡◌, ◌≤◌, ◌++◌, Bool, List, length, take, drop}
use denote.Param.Always.{always_mut}
use Rattle.std.specs.Fn.{ComputesKey}
use Rattle.cqa_value.specs.declared.value.Value.{Value as Cell}
use Rattle.row_pieces.specs.Joined.{joined}
use Rattle.row_pieces.specs.Retained.{retained}
use Rattle.row_pieces.proofs.take.retain_each.Given as goal

-- the pieces so far are done, and the others are as they were
abbrev pub invariant-loop-at : goal.invariant-loop-at
invariant-loop-at g l = record {
  begun : l.first ≤ l.at;
  front : take l.first l.pieces ≡ take l.first l.initial.pieces;
  order : l.low ≤ l.high;
  callable : always_mut g.P.FnMut l.stays;
  fewer : length (joined l.pieces) ≤ length (joined l.initial.pieces);
  kept : (p : List Cell → Bool) → ComputesKey g.P.FnMut p l.initial.stays → ComputesKey g.P.FnMut p l.stays × (retained p l.from l.to (joined l.initial.pieces) ≡ joined (take l.at l.pieces) ++ retained p l.low l.high (joined (drop l.at l.pieces)));
}
