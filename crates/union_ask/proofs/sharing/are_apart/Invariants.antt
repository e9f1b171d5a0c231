use Rattle.union_ask.proofs.Loose.{NoneBefore}
use Rattle.union_ask.proofs.sharing.are_apart.Given as goal

-- none of the parts so far with a later one
abbrev pub invariant-loop-at : goal.invariant-loop-at
invariant-loop-at l = NoneBefore l.parts l.given l.at
