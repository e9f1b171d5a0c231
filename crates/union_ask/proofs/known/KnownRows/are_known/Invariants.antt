use Rattle.std.proofs.Common.{◌≡◌, ℕ, ◌<◌, None, Some, List, get_or}
use Rattle.cqa_value.specs.declared.value.Value.{Value}
use Rattle.union_ask.specs.Known.{IsGivenAt}
use Rattle.union_ask.proofs.known.KnownRows.are_known.Given as goal

-- those of the queries so far
abbrev pub invariant-loop-at : goal.invariant-loop-at
invariant-loop-at l = (i : ℕ) → i < l.at → IsGivenAt l.self l.given i → (rows : List (List Value)) × (get_or l.self i None ≡ Some rows)
