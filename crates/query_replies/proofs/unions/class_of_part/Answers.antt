use Rattle.std.proofs.Common.{List, ℕ, subst}
use Rattle.std.proofs.lemmas.Result.{IfOk-weaker}
use Rattle.query_replies.specs.Classes.{IsClassWith}
use Rattle.query_replies.proofs.Written.{long_as_written}
use Rattle.query_replies.proofs.unions.class_of_part.Goals as goal

pub class_of_query-requires : goal.class_of_query-requires
class_of_query-requires c = long_as_written c.args._database.now c.args.select.now c.args.query.now c.as_slice.result.now c.as_slice.ensures c.requires

pub returns : goal.returns
returns c =
    IfOk-weaker c.class_of_query.result _ _ (λ part told. record { query = c.args.query.now; resolved = c.requires; told = subst (λ (names : List (List ℕ)). IsClassWith c.args.query.now names part) c.as_slice.ensures told })
    c.class_of_query.ensures
