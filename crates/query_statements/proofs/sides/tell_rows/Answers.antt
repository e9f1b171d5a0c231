use Rattle.std.proofs.Common.{◌∙◌, subst}
use Rattle.query_statements.specs.Sides.{FindsRows}
use Rattle.query_statements.proofs.sides.tell_rows.Goals as goal

pub reply_to-requires : goal.reply_to-requires
reply_to-requires c =
    let old = c.args.session.now in
    let bound = c.new-bound.result in
    let found = c.in_ok-found.found in
    subst (λ q. FindsRows q old.tables c.args.side old.budget found) c.new-bound.ensures.query
    (subst (λ db. FindsRows bound.query.now db c.args.side old.budget found) (c.new-bound.ensures.db ∙ c.database.ensures.is)
    (subst (λ budget. FindsRows bound.query.now bound.db.now c.args.side budget found) c.budget.ensures c.in_ok-found.ensures))
