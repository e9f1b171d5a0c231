use Rattle.std.proofs.Common.{refl}
use Rattle.sql_text.proofs.Steps.{part_more, parts_all}
use Rattle.sql_text.specs.Texts.{size_columns_text}
use Rattle.sql_text.proofs.shared.append_size_columns.Goals as goal

pub loop-place-preserved : goal.loop-place-preserved
loop-place-preserved c = part_more c.loop-place.invariant c.in_ok-separate.ensures c.in_ok-append_size_out.ensures refl

pub returns : goal.returns
unfolding size_columns_text
returns c = parts_all c.loop-place.invariant c.loop-place-test.false c.loop-place.auto.place-end refl
