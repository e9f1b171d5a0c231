use Rattle.std.proofs.Common.{◌∙◌, subst, sym}
use Rattle.cqa_model.specs.Unions.{AreParts}
use Rattle.union_ask.specs.Searching.{IsSearchedIn}
use Rattle.query_statements.proofs.ask_union.tell_rows.Goals as goal

pub new-bound-requires : goal.new-bound-requires
new-bound-requires c = subst (AreParts c.args.parts.now) (sym c.database.ensures.is) c.requires

pub reply_to-requires : goal.reply_to-requires
reply_to-requires c =
    let old = c.args.session.now in
    let bound = c.new-bound.result in
    let found = c.in_ok-found.found in
    subst (λ parts. IsSearchedIn old.tables parts old.budget found) c.new-bound.ensures.queries
    (subst (λ db. IsSearchedIn db bound.queries.now old.budget found) (c.new-bound.ensures.db ∙ c.database.ensures.is)
    (subst (λ budget. IsSearchedIn bound.db.now bound.queries.now budget found) c.budget.ensures c.in_ok-found.ensures))
