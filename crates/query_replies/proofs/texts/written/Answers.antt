use Rattle.std.proofs.Common.{◌++◌, ◌∙◌, ap, subst}
use Rattle.sql_text.specs.declared.syntax.Sql.{Sql}
use Rattle.sql_text.specs.Texts.{sql_bytes}
use Rattle.query_replies.specs.Sql.{IsPromised}
use Rattle.query_replies.proofs.texts.written.Goals as goal

pub returns : goal.returns
returns c =
    let query = c.args.query.now in
    let names = c.args.names.now in
    let is = c.in_ok-sql.ensures.is in (
      c.args.plan.now.order,
      c.requires,
      subst (λ (sql : Sql). IsPromised query sql) is (record { exact = c.in_ok-sql.ensures.exact; named = c.in_ok-sql.ensures.named; once = c.in_ok-sql.ensures.once }),
      c.from_vec.ensures ∙ c.in_ok-wrote.ensures.ok ∙ ap (λ l. l ++ sql_bytes query names c.in_ok-sql.sql) c.new-text.ensures.items ∙ ap (λ (sql : Sql). sql_bytes query names sql) is,
    )
