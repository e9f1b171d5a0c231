use Rattle.std.proofs.Common.{◌≡◌, length, subst, sym}
use Rattle.table_blocks.specs.declared.bound.Bound.{Bound}
use Rattle.query_strategy.specs.Strategies.{IsStrategyOf}
use Rattle.reason_statements.specs.Against.{IsDecision, IsAgainstPair}
use Rattle.reason_statements.proofs.Opposing.{pair_decides, plan_decides, search_decides}
use Rattle.reason_statements.proofs.against.by_method.Goals as goal

pub by_pair-requires : goal.by_pair-requires
by_pair-requires c = subst (λ (b : Bound). length c.args.row.now ≡ length b.query.now.answer) (sym c.new-pair.ensures) c.requires

pub returns-in_ok-reason-in-Plan-clause-decided : goal.returns-in_ok-reason-in-Plan-clause-decided
returns-in_ok-reason-in-Plan-clause-decided c =
    let b = c.args.bound.now in
    let strategy = subst (IsStrategyOf b.query.now) c.in-Plan.is c.in_ok-plan.ensures.is in
    subst (IsDecision b.db.now b.query.now c.args.row.now) (sym c.rejecting.ensures)
    (plan_decides b.db.now b.query.now c.args.row.now c.in_ok-reason-in-Plan.field-0 strategy.0 c.in_ok-reason-in-Plan.ensures)

pub returns-in_ok-names-in-Pair-clause-decided : goal.returns-in_ok-names-in-Pair-clause-decided
returns-in_ok-names-in-Pair-clause-decided c =
    let b = c.args.bound.now in
    let strategy = subst (IsStrategyOf b.query.now) c.in-Pair.is c.in_ok-plan.ensures.is in
    let names = c.in_ok-names-in-Pair.names in
    pair_decides b.db.now b.query.now c.args.row.now names strategy.1
    (subst (λ (z : Bound). IsAgainstPair z.db.now z.query.now c.args.row.now names) c.new-pair.ensures c.in_ok-names-in-Pair.ensures)

pub returns-in-Ok-clause-decided : goal.returns-in-Ok-clause-decided
returns-in-Ok-clause-decided c =
    let b = c.args.bound.now in
    subst (IsDecision b.db.now b.query.now c.args.row.now) (sym c.rejecting-in-Ok.ensures)
    (search_decides b.db.now b.query.now c.args.row.now c.args.budget c.in-Ok.reason c.in-Ok.ensures.told)
