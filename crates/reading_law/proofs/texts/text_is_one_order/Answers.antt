use Rattle.spj_syntax.proofs.Once.{order_once}
use Rattle.reading_law.proofs.texts.text_is_one_order.Goals as goal

pub returns : goal.returns
returns c = order_once
