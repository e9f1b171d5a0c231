use Rattle.std.proofs.Common.{subst}
use Rattle.std.proofs.lemmas.Result.{IfOk-weaker}
use Rattle.table_blocks.specs.declared.bound.Bound.{Bound}
use Rattle.row_answers.specs.Sides.{IsAnswerOf}
use Rattle.union_ask.specs.QuerySearching.{IsSearched}
use Rattle.query_strategy.specs.Strategies.{IsStrategyOf}
use Rattle.query_statements.specs.Sides.{FindsRows}
use Rattle.query_statements.proofs.Asking.{found_by_search}
use Rattle.query_statements.proofs.sides.find_rows.Goals as goal

pub returns-in_ok-rows-in-Plan : goal.returns-in_ok-rows-in-Plan
returns-in_ok-rows-in-Plan c =
    let strategy = subst (IsStrategyOf c.args.bound.now.query.now) c.in-Plan.is c.in_ok-plan.ensures in
    (c.in_ok-rows-in-Plan.ensures, (λ needs. absurd (strategy.0 needs.0)))

pub returns-in_ok-rows-in-Pair : goal.returns-in_ok-rows-in-Pair
returns-in_ok-rows-in-Pair c =
    let q = c.args.bound.now.query.now in
    let db = c.args.bound.now.db.now in
    let rows = c.in_ok-rows-in-Pair.rows in
    let strategy = subst (IsStrategyOf q) c.in-Pair.is c.in_ok-plan.ensures in
    (subst (λ (b : Bound). IsAnswerOf b.db.now b.query.now c.args.side rows) c.new-pair.ensures c.in_ok-rows-in-Pair.ensures, (λ needs. absurd (needs.1 strategy.1)))

pub returns-in-Search : goal.returns-in-Search
returns-in-Search c =
    let q = c.args.bound.now.query.now in
    let db = c.args.bound.now.db.now in
    let needs = subst (IsStrategyOf q) c.in-Search.is c.in_ok-plan.ensures in
    IfOk-weaker c.rows_by_search.result (IsSearched q db c.args.side c.args.budget) (FindsRows q db c.args.side c.args.budget) (λ found s. found_by_search q db c.args.side c.args.budget found needs s) c.rows_by_search.ensures
