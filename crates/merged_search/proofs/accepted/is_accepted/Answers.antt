use Rattle.std.proofs.Common.{List, refl, subst}
use Rattle.cnf_form.specs.declared.formula.Lit.{Lit}
use Rattle.merged_search.specs.Clauses.{RisesFrom}
use Rattle.merged_search.proofs.Rising.{rising_range, rising_once}
use Rattle.merged_search.proofs.Walks.{Each, each_more, each_all}
use Rattle.merged_search.proofs.accepted.is_accepted.Goals as goal

pub loop-clause-preserved : goal.loop-clause-preserved
loop-clause-preserved c = each_more (RisesFrom 0 c.args.cnf.now.vars) c.as_slice-clause-items.result.now c.loop-clause.clause-index c.clause-item.result c.loop-clause-test.true c.clause-item.is
    (subst (λ (xs : List Lit). RisesFrom 0 c.args.cnf.now.vars xs) c.as_slice.ensures (c.rises.ensures.0 c.if-not-rises.false)) c.loop-clause.invariant

all : (c : goal.After-loop-clause) → Each (RisesFrom 0 c.args.cnf.now.vars) c.args.cnf.now.clauses
all c = each_all (RisesFrom 0 c.args.cnf.now.vars) c.as_slice-clause-items.result.now c.args.cnf.now.clauses c.loop-clause.clause-index c.as_slice-clause-items.ensures c.loop-clause-test.false c.loop-clause.invariant

pub returns-clause-exact : goal.returns-clause-exact
returns-clause-exact c = (λ yes. all c, λ rising. refl)

pub returns-clause-range : goal.returns-clause-range
returns-clause-range c = λ yes d k. rising_range c.args.cnf.now.vars d (all c d k)

pub returns-clause-once : goal.returns-clause-once
returns-clause-once c = λ yes d k. rising_once 0 c.args.cnf.now.vars d (all c d k)
