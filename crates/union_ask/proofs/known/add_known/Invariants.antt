use Rattle.std.proofs.Common.{take}
use Rattle.std.specs.List.{AllZip}
use Rattle.union_ask.specs.Known.{IsKnownFor}
use Rattle.union_ask.proofs.known.add_known.Given as goal

-- those of the queries so far
abbrev pub invariant-loop-bound : goal.invariant-loop-bound
invariant-loop-bound l = AllZip IsKnownFor (take l.bound-index l.bounds) l.known.items
