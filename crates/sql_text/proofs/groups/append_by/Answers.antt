use Rattle.std.proofs.Common.{refl, ap}
use Rattle.sql_text.proofs.Steps.{part_more, parts_all}
use Rattle.sql_text.specs.Texts.{cell_text, by_text}
use Rattle.sql_text.proofs.groups.append_by.Goals as goal

pub loop-place-preserved : goal.loop-place-preserved
loop-place-preserved c = part_more c.loop-place.invariant c.in_ok-separate.ensures c.in_ok-append_cell.ensures (ap (λ x. cell_text c.args.names.now c.args.steps.now c.args.sources.now x) c.cell_at.ensures)

pub returns : goal.returns
unfolding by_text
returns c = parts_all c.loop-place.invariant c.loop-place-test.false c.loop-place.auto.place-end refl
