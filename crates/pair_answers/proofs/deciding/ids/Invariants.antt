use Rattle.std.proofs.Common.{◌≡◌, take, map, filter_map}
use Rattle.cqa_model.specs.Database.{stored}
use Rattle.pair_answers.specs.Kept.{id_of}
use Rattle.pair_answers.proofs.deciding.ids.Given as goal

abbrev pub invariant-loop-row : goal.invariant-loop-row
invariant-loop-row l = l.ids ≡ map (id_of l.pair.bound.now.query.now (stored l.pair.bound.now.db.now)) (filter_map (λ row. row) (take l.row-index l.own))
