use Rattle.std.proofs.Common.{refl, sym, subst, true≢false}
use Rattle.part_search.specs.Judging.{IsVerdictOver}
use Rattle.union_ask.proofs.search.sift.Goals as goal

pub returns-in_ok-put_of-in-Ok-Certain-clause-sifted : goal.returns-in_ok-put_of-in-Ok-Certain-clause-sifted
returns-in_ok-put_of-in-Ok-Certain-clause-sifted c = λ none.
    let parts = c.args.parts.now in
    let judged = subst (IsVerdictOver parts.db.now c.args.scope.now.frame.tables parts.queries.now c.args.row c.args.search.now.budget) c.in-Ok-Certain.field-0-is c.in-Ok-Certain.ensures.verdict in
    (c.in_ok-put_of-in-Ok-Certain.ensures parts.db.now parts.queries.now (λ t. judged.0, λ k. refl), judged.1)

pub returns-in_ok-put_of-in-Ok-Rejected-clause-sifted : goal.returns-in_ok-put_of-in-Ok-Rejected-clause-sifted
returns-in_ok-put_of-in-Ok-Rejected-clause-sifted c = λ none.
    let parts = c.args.parts.now in
    let judged = subst (IsVerdictOver parts.db.now c.args.scope.now.frame.tables parts.queries.now c.args.row c.args.search.now.budget) c.in-Ok-Rejected.field-0-is c.in-Ok-Rejected.ensures.verdict in
    (c.in_ok-put_of-in-Ok-Rejected.ensures parts.db.now parts.queries.now (λ t. absurd (true≢false (sym t)), λ k. absurd (judged.0 k)), judged.1)
