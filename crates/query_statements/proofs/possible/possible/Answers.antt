use Rattle.std.proofs.Common.{◌≡◌, ◌∙◌, None, inr, refl, subst}
use Rattle.query_resolve.specs.Checks.{query_fault}
use Rattle.query_resolve.specs.Resolved.{IsQueryOf}
use Rattle.cqa_model.specs.Certain.{IsPossibleAnswer}
use Rattle.query_statements.proofs.possible.possible.Goals as goal

pub returns : goal.returns
returns c =
    let select = c.args.select.now in
    let query = c.in_ok-query.query in
    let rows = c.in_ok-rows.field-0 in
    let bound = c.new-bound.result in
    let tables = c.database-database.ensures.is in
    inr (
      subst (λ db. query_fault db select ≡ None) tables c.in_ok-query.ensures.valid,
      record {
        query = query;
        resolved = subst (λ db. IsQueryOf db select query) tables c.in_ok-query.ensures.is;
        rows = rows;
        possible = subst (λ q. IsPossibleAnswer c.args.session.now.tables q rows) c.new-bound.ensures.query (subst (λ db. IsPossibleAnswer db bound.query.now rows) (c.new-bound.ensures.db ∙ tables) c.in_ok-rows.ensures.possible);
        replies = refl;
        keeps = refl;
      },
    )
