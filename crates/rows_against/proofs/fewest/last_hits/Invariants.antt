use Rattle.rows_against.specs.Fewest.{AreLastHits}
use Rattle.rows_against.proofs.fewest.last_hits.Given as goal

-- those of the witnesses so far
abbrev pub invariant-loop-witness : goal.invariant-loop-witness
invariant-loop-witness l = AreLastHits l.hits l.witness l.lasts.items
