use Rattle.std.proofs.Common.{◌∙◌, ap, map}
use Rattle.std.proofs.lemmas.Result.{IfOk-weaker}
use Rattle.cqa_model.specs.declared.schema.Column.{Column}
use Rattle.query_replies.proofs.Naming.{columned}
use Rattle.query_replies.proofs.names.names_of_table.Goals as goal

pub returns : goal.returns
returns c =
    let columns = c.as_slice.ensures ∙ columned c.args.database.now c.args.table c.schema.result.now c.requires c.schema.ensures.is in
    IfOk-weaker c.names_of.result _ _ (λ names e. e ∙ ap (λ cs. map (λ (column : Column). column.name) cs) columns) c.names_of.ensures
