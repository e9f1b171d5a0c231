use Rattle.std.proofs.Common.{refl, ap, ◌∙◌}
use Rattle.std.proofs.lemmas.List.{get_or_default}
use Rattle.sql_text.proofs.Steps.{part_more, parts_all}
use Rattle.sql_text.specs.Texts.{led_text, all_led_text}
use Rattle.sql_text.proofs.groups.append_all_led.Goals as goal

pub loop-place-preserved : goal.loop-place-preserved
loop-place-preserved c = part_more c.loop-place.invariant c.in_ok-separate.ensures c.in_ok-append_led.ensures (ap (λ x. led_text x) (c.index-children-place.is ∙ get_or_default _ _ _ _ c.loop-place-test.true))

pub returns : goal.returns
unfolding all_led_text
returns c = parts_all c.loop-place.invariant c.loop-place-test.false c.loop-place.auto.place-end refl
