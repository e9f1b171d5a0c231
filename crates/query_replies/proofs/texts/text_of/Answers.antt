use Rattle.std.proofs.Common.{◌≡◌, IfOk, subst}
use Rattle.sql_text.specs.declared.names.Names.{Names}
use Rattle.query_replies.specs.Names.{query_names}
use Rattle.query_replies.specs.Sql.{IsSqlOf}
use Rattle.query_replies.proofs.texts.text_of.Goals as goal

pub returns : goal.returns
returns c =
    let db = c.args.bound.now.db.now in
    let query = c.args.bound.now.query.now in
    let tables = c.in_ok-tables.ensures in
    let columns = c.in_ok-columns.ensures in
    let names : record { tables = c.in_ok-tables.tables; columns = c.in_ok-columns.columns } ≡ query_names db c.args.tables.now query = λ i. record { tables = tables i; columns = columns i } in
    subst (λ (n : Names). IfOk c.written-text.result (IsSqlOf query n)) names c.written-text.ensures
