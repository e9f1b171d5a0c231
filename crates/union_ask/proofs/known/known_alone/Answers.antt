use Rattle.std.proofs.Common.{subst}
use Rattle.table_blocks.specs.declared.bound.Bound.{Bound}
use Rattle.row_answers.specs.declared.side.Side.TheVariants.{Certain}
use Rattle.row_answers.specs.Sides.{IsAnswerOf}
use Rattle.query_strategy.specs.Strategies.{IsStrategyOf}
use Rattle.union_ask.proofs.known.known_alone.Goals as goal

pub returns-in_ok-rows-in-Plan : goal.returns-in_ok-rows-in-Plan
returns-in_ok-rows-in-Plan c =
    let strategy = subst (IsStrategyOf c.args.bound.now.query.now) c.in-Plan.is c.in_ok-plan.ensures in
    (c.in_ok-rows-in-Plan.ensures, (λ needs. strategy.0 needs.0))

pub returns-in_ok-rows-in-Pair : goal.returns-in_ok-rows-in-Pair
returns-in_ok-rows-in-Pair c =
    let q = c.args.bound.now.query.now in
    let rows = c.in_ok-rows-in-Pair.rows in
    let strategy = subst (IsStrategyOf q) c.in-Pair.is c.in_ok-plan.ensures in
    (subst (λ (b : Bound). IsAnswerOf b.db.now b.query.now Certain rows) c.new-pair.ensures c.in_ok-rows-in-Pair.ensures, (λ needs. needs.1 strategy.1))

pub returns-in-Search : goal.returns-in-Search
returns-in-Search c = subst (IsStrategyOf c.args.bound.now.query.now) c.in-Search.is c.in_ok-plan.ensures
