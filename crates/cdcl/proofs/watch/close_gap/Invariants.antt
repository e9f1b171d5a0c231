use Rattle.std.proofs.Common.{◌≡◌, ◌+◌, ◌++◌, length, take, drop}
use Rattle.cdcl.proofs.watch.close_gap.Given as goal

abbrev pub invariant-loop-at : goal.invariant-loop-at
invariant-loop-at l = record {
  place : l.place + l.to ≡ l.from + l.at;
  len : length l.list.items ≡ l.at-end;
  moved : take l.place l.list.items ++ drop l.at l.list.items ≡ take l.from l.initial.list.items ++ drop l.to l.initial.list.items;
}
