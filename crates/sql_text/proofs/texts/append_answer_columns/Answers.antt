use Rattle.std.proofs.Common.{refl}
use Rattle.sql_text.proofs.Steps.{part_more, parts_all}
use Rattle.sql_text.specs.Texts.{answer_columns_text}
use Rattle.sql_text.proofs.texts.append_answer_columns.Goals as goal

pub loop-place-preserved : goal.loop-place-preserved
loop-place-preserved c = part_more c.loop-place.invariant c.in_ok-separate.ensures c.in_ok-append_answer.ensures refl

pub returns : goal.returns
unfolding answer_columns_text
returns c = parts_all c.loop-place.invariant c.loop-place-test.false c.loop-place.auto.place-end c.len-place-end.ensures
