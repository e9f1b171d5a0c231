use Rattle.std.proofs.Common.{◌≡◌, take, map, slice_index_or}
use Rattle.range_ask.proofs.ends.picked.Given as goal

abbrev pub invariant-loop-number : goal.invariant-loop-number
invariant-loop-number l = l.names.items ≡ map (λ n. record { table = l.table; place = slice_index_or l.places n 0 }) (take l.number-index l.numbers)
