use Rattle.std.proofs.Common.{ap, sym, ◌∙◌, arith}
use Rattle.std.proofs.lemmas.Grind.{common_steps}
use Rattle.sql_steps.specs.Steps.{cells_at}
use Rattle.sql_steps.proofs.Steps.{below-none, cells-more}
use Rattle.sql_steps.proofs.groups.first_cells.Goals as goal

pub loop-column-init : goal.loop-column-init
loop-column-init c = c.new-cells.ensures ∙ sym (ap (λ z. cells_at c.args.place z) below-none)

pub loop-column-preserved : goal.loop-column-preserved
loop-column-preserved c = grind (arith, common_steps, cells-more c.args.place c.loop-column.column)
