use Rattle.std.proofs.Common.{◌≡◌, take}
use Rattle.pair_answers.specs.Shared.{pairs_of}
use Rattle.pair_answers.specs.Lists.{columns_of_side}
use Rattle.pair_answers.proofs.lists.columns_of.Given as goal

abbrev pub invariant-loop-col : goal.invariant-loop-col
invariant-loop-col l = l.columns.items ≡ columns_of_side l.atom (pairs_of (take l.col-index l.cols))
