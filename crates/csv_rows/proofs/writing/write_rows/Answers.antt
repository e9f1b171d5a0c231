use Rattle.std.proofs.Common.{◌≤◌, ◌∙◌, length, sym, subst, arith}
use Rattle.std.proofs.lemmas.List.{length-map}
use Rattle.std.proofs.lemmas.Result.{IfOk-weaker}
use Rattle.cqa_model.specs.Database.{kinds_of}
use Rattle.csv_rows.specs.Blocks.{HoldsRows}
use Rattle.csv_rows.proofs.Again.{rows_again}
use Rattle.csv_rows.proofs.writing.write_rows.Goals as goal

pub returns-in-Ok-clause-again : goal.returns-in-Ok-clause-again
returns-in-Ok-clause-again c =
    let rows = c.args.rows.now in
    IfOk-weaker c.finish.result _ _ (λ text is schema of_schema.
    let some : 1 ≤ length (kinds_of schema) = omega (arith, schema.kept.size.0, length-map schema.columns (λ column. column.kind)) in
    subst (λ t. HoldsRows (kinds_of schema) t rows) (sym (is ∙ c.in-Ok.ensures.text)) (rows_again (kinds_of schema) rows some of_schema c.in-Ok.ensures.stored)) c.finish.ensures
