use Rattle.std.proofs.Common.{refl, ap, ◌∙◌}
use Rattle.std.proofs.lemmas.List.{get_or_default}
use Rattle.sql_text.proofs.Steps.{part_more, parts_all}
use Rattle.sql_text.specs.Texts.{cmp_text}
use Rattle.sql_text.proofs.conditions.append_cmps.Goals as goal

pub loop-place-preserved : goal.loop-place-preserved
loop-place-preserved c = part_more c.loop-place.invariant c.in_ok-separate.ensures c.in_ok-append_cmp.ensures (ap (λ x. cmp_text c.args.names.now c.args.steps.now c.args.sources.now x) (c.index-cmps-place.is ∙ get_or_default _ _ _ _ c.loop-place-test.true))

pub returns : goal.returns
returns c = parts_all c.loop-place.invariant c.loop-place-test.false c.loop-place.auto.place-end refl
