use Rattle.union_ask.proofs.Loose.{NoneLater}
use Rattle.union_ask.proofs.sharing.shares_later.Given as goal

-- with none of the later ones so far
abbrev pub invariant-loop-later : goal.invariant-loop-later
invariant-loop-later l = NoneLater l.parts l.given l.at l.later
