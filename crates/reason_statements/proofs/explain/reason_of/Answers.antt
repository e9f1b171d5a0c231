use Rattle.std.proofs.Common.{◌≡◌, IfErr, IfOk, length, subst, sym}
use Rattle.table_blocks.specs.declared.bound.Bound.{Bound}
use Rattle.query_strategy.specs.Strategies.{HasNoPlan, IsStrategyOf}
use Rattle.cqa_model.specs.Graph.{IsPair}
use Rattle.reason_statements.specs.Reasons.{IsReason, IsStopped}
use Rattle.reason_statements.proofs.explain.reason_of.Goals as goal

pub of_pair-requires-clause-long : goal.of_pair-requires-clause-long
of_pair-requires-clause-long c = subst (λ (b : Bound). length c.args.row.now ≡ length b.query.now.answer) (sym c.new-pair.ensures) c.requires

pub of_pair-requires-clause-cycle : goal.of_pair-requires-clause-cycle
of_pair-requires-clause-cycle c =
    let strategy = subst (IsStrategyOf c.args.bound.now.query.now) c.in-Pair.is c.in_ok-plan.ensures.is in
    subst (λ (b : Bound). HasNoPlan b.query.now) (sym c.new-pair.ensures) strategy.0

pub of_pair-requires-clause-weak : goal.of_pair-requires-clause-weak
of_pair-requires-clause-weak c =
    let strategy = subst (IsStrategyOf c.args.bound.now.query.now) c.in-Pair.is c.in_ok-plan.ensures.is in
    subst (λ (b : Bound). IsPair b.query.now) (sym c.new-pair.ensures) strategy.1

pub returns-in-Pair-clause-told : goal.returns-in-Pair-clause-told
returns-in-Pair-clause-told c = subst (λ (b : Bound). IfOk c.of_pair.result (IsReason b.db.now b.query.now c.args.row.now)) c.new-pair.ensures c.of_pair.ensures.told

pub returns-in-Pair-clause-stopped : goal.returns-in-Pair-clause-stopped
returns-in-Pair-clause-stopped c =
    subst (λ (b : Bound). IfErr c.of_pair.result (IsStopped b.db.now b.query.now c.args.row.now c.args.budget)) c.new-pair.ensures (c.of_pair.ensures.stopped c.args.budget)
