use Rattle.std.proofs.Common.{ap, length}
use Rattle.pair_answers.proofs.plain.all_fit.Goals as goal

pub returns : goal.returns
returns c = λ t. record {
  none = ap length (c.is_empty.ensures.0 c.if-not-is_empty.false);
  joins = c.are_joins.ensures c.if-not-are_joins.false;
  apart = c.are_apart.ensures t;
}
