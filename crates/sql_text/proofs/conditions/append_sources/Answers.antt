use Rattle.std.proofs.Common.{refl, ap}
use Rattle.sql_text.proofs.Steps.{part_more, parts_all}
use Rattle.sql_text.specs.Texts.{listed_text, sources_text}
use Rattle.sql_text.proofs.conditions.append_sources.Goals as goal

pub loop-place-preserved : goal.loop-place-preserved
loop-place-preserved c = part_more c.loop-place.invariant c.in_ok-separate.ensures c.in_ok-append_listed.ensures (ap (λ x. listed_text c.args.names.now c.args.steps.now x) c.listed_at.ensures)

pub returns : goal.returns
unfolding sources_text
returns c = parts_all c.loop-place.invariant c.loop-place-test.false c.loop-place.auto.place-end refl
