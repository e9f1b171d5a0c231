-- Which method decides the rows of a query.
use Rattle.cqa_model.specs.declared.query.Query.{Query}
use Rattle.cqa_model.specs.Variables.{whole}
use Rattle.cqa_model.specs.Graph.{HasCycle, IsPair}
use Rattle.cqa_model.specs.Plan.{IsEliminationOf, IsPlanOf, IsExact}
use Rattle.query_strategy.specs.declared.strategy.Strategy.{Strategy}
use Rattle.query_strategy.specs.declared.strategy.Strategy.TheVariants.{Plan, Pair, Search}

-- a query has no plan where its attacks have a cycle (Koutris and Wijsen, ACM TODS 2017)
abbrev pub HasNoPlan : Query → Type 0
HasNoPlan q = HasCycle q (whole q)

-- a query needs search where it has no plan, unless it is of two atoms that attack each other weakly
abbrev pub NeedsSearch : Query → Type 0
NeedsSearch q = HasNoPlan q × (IsPair q → ⊥)

-- The method of a query. By a plan exactly where the query has one: an elimination order, which holds for a row exactly where
-- the row is certain. As a pair exactly where it is one. By search exactly where it needs that.
abbrev pub IsStrategyOf : Query → Strategy → Type 0
IsStrategyOf q (Plan plan) = (HasNoPlan q → ⊥) × IsEliminationOf q plan.order × IsExact q plan.order
IsStrategyOf q Pair = HasNoPlan q × IsPair q
IsStrategyOf q Search = NeedsSearch q

-- where it is by a plan, that is the query's own
abbrev pub TakesPlan : Query → Strategy → Type 0
TakesPlan q (Plan plan) = IsPlanOf q plan.order
TakesPlan q Pair = Unit {0}
TakesPlan q Search = Unit {0}
