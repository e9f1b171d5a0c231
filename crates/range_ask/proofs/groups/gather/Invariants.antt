use Rattle.std.proofs.Common.{map}
use Rattle.std.specs.List.{AllZip}
use Rattle.std.specs.Map.Iter.{deref_pair}
use Rattle.range_ask.specs.Tallying.{IsEnded}
use Rattle.range_ask.proofs.groups.gather.Given as goal

-- the groups so far have their ends
abbrev pub invariant-loop-value : goal.invariant-loop-value
invariant-loop-value l = AllZip (λ entry group. IsEnded l.goal entry.0 entry.1 group) (map deref_pair l.yielded) l.list
