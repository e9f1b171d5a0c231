use Rattle.query_strategy.proofs.ByIndex.{by_index_lem}
use Rattle.query_strategy.proofs.apart.apart_by_index.Goals as goal

pub returns : goal.returns
returns c = by_index_lem
