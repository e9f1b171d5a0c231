use Rattle.std.proofs.Common.{rules, ap}
use Rattle.std.specs.Ordering.{is_lt}
use Rattle.std.proofs.lemmas.Fn.{always_returns_same}
use Rattle.weak_pairs.proofs.Ranking.{list_ranks}
use Rattle.weak_pairs.proofs.ranks.put_in_order.Goals as goal

pub returns-clause-sorted : goal.returns-clause-sorted
returns-clause-sorted c = c.sort_unstable_by.ensures.sorted _ (list_ranks c.args.lists.now.form) (always_returns_same _ _ _ (λ a r f k. (ap is_lt (search rules), search rules)))
