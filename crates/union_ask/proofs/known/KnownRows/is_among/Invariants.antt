use Rattle.std.proofs.Common.{ℕ, ◌<◌, None, get_or}
use Rattle.union_ask.specs.Known.{HoldsRow, IsGivenAt}
use Rattle.union_ask.proofs.known.KnownRows.is_among.Given as goal

-- it is in none of those so far
abbrev pub invariant-loop-at : goal.invariant-loop-at
invariant-loop-at l = (i : ℕ) → i < l.at → IsGivenAt l.self l.given i → HoldsRow (get_or l.self i None) l.row → ⊥
