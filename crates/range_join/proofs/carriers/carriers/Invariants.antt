use Rattle.std.proofs.Common.{◌≡◌, length, take}
use Rattle.cqa_model.specs.Database.{stored}
use Rattle.cqa_model.specs.Query.{rows_of}
use Rattle.join_access.specs.Listing.{names_of}
use Rattle.range_join.specs.Peaks.{best_at, AreBest, GivesValue}
use Rattle.range_join.proofs.carriers.carriers.Given as goal

-- the same of the witnesses so far
abbrev pub invariant-loop-witness : goal.invariant-loop-witness
invariant-loop-witness l =
    (length l.bests.items ≡ l.count)
    × AreBest l.look.way (GivesValue (rows_of l.found.bound.now.query.now (stored l.found.bound.now.db.now) l.look.atom) (names_of (take l.witness-index l.found.list)) l.look.lax l.look.atom l.look.col) l.count
    (best_at l.look.col l.bests.items)
