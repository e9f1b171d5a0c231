use Rattle.std.proofs.Common.{refl, ap}
use Rattle.sql_text.proofs.Steps.{part_more, parts_all}
use Rattle.sql_text.specs.Texts.{only_text}
use Rattle.sql_text.proofs.conditions.append_onlys.Goals as goal

pub loop-place-preserved : goal.loop-place-preserved
loop-place-preserved c = part_more c.loop-place.invariant c.in_ok-separate.ensures c.in_ok-append_only.ensures (ap (λ x. only_text c.args.names.now c.args.steps.now c.args.sources.now x) c.only_at.ensures)

pub returns : goal.returns
returns c = parts_all c.loop-place.invariant c.loop-place-test.false c.loop-place.auto.place-end refl
