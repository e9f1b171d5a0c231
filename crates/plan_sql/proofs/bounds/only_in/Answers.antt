use Rattle.std.proofs.Common.{ℕ, arith}
use Rattle.std.proofs.lemmas.Grind.{common_steps}
use Rattle.std.proofs.lemmas.List.FromFn.{map-range_with_len_more}
use Rattle.std.specs.List.{slice_index}
use Rattle.sql_text.specs.declared.syntax.Within.{Within}
use Rattle.sql_steps.specs.Steps.{cell_of}
use Rattle.plan_sql.proofs.bounds.only_in.Goals as goal

pub loop-column-preserved : goal.loop-column-preserved
loop-column-preserved c =
    let at : ℕ → Within = λ j. record { cell = cell_of c.args.known.now (slice_index c.args.columns.now j); step = c.args.place; column = j } in
    grind (arith, common_steps, map-range_with_len_more at 0 c.loop-column.column c.loop-column.column (omega arith))
