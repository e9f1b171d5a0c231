use Rattle.std.proofs.Common.{ℕ, List, drop}
use Rattle.cqa_model.specs.Database.{Table}
use Rattle.range_join.specs.Firsts.{spans_at}
use Rattle.range_join.specs.Peaks.{held_value}
use Rattle.range_groups.specs.Spans.{AreSpansOfPlaces}
use Rattle.range_groups.specs.Touched.{carried_at}
use Rattle.range_groups.proofs.Walked.{IsWalked}
use Rattle.range_groups.proofs.surest.surest_of.Given as goal

-- the carriers from the index on are left
abbrev pub invariant-loop-carrier : goal.invariant-loop-carrier
invariant-loop-carrier l = (db : List Table) (table : ℕ) → AreSpansOfPlaces db table l.spans → IsWalked l.way (carried_at l.col l.carriers) (spans_at db table) l.col (drop l.carrier-index l.carriers) (held_value l.col l.read.best) l.read.held
