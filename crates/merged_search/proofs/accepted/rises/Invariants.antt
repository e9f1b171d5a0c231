use Rattle.std.proofs.Common.{◌≡◌, take}
use Rattle.merged_search.specs.Clauses.{RisesFrom}
use Rattle.merged_search.proofs.Rising.{last_var}
use Rattle.merged_search.proofs.accepted.rises.Given as goal

abbrev pub invariant-loop-lit : goal.invariant-loop-lit
invariant-loop-lit l = RisesFrom 0 l.vars (take l.lit-index l.lits) × (l.last ≡ last_var 0 (take l.lit-index l.lits))
