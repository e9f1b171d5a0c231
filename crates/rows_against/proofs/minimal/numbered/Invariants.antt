use Rattle.std.proofs.Common.{◌≡◌, map, take, get_or}
use Rattle.join_access.specs.Listing.{no_name}
use Rattle.rows_against.proofs.minimal.numbered.Given as goal

-- the names so far
abbrev pub invariant-loop-number : goal.invariant-loop-number
invariant-loop-number l = l.some ≡ map (λ number. get_or l.names number no_name) (take l.number-index l.numbers)
