use Rattle.std.proofs.Common.{◌∙◌}
use Rattle.std.proofs.lemmas.Result.{IfOk-weaker}
use Rattle.query_replies.proofs.Naming.{named}
use Rattle.query_replies.proofs.names.name_of.Goals as goal

pub returns : goal.returns
returns c = IfOk-weaker c.copy.result _ _ (λ name e. e ∙ named c.args.db.now c.args.table c.schema.result.now c.requires c.schema.ensures.is) c.copy.ensures
