use Rattle.std.proofs.Common.{ℕ, IfOk, List, length, arith, subst, ap}
use Rattle.cnf_form.specs.declared.formula.Lit.{Lit}
use Rattle.cdcl.specs.Outcomes.{AttemptIs}
use Rattle.cdcl.proofs.States.{literals_count}
use Rattle.cdcl.proofs.outcome.attempt.Goals as goal

pub new-requires-clause-range : goal.new-requires-clause-range
new-requires-clause-range c d i l j = let r = (c.requires.range d i l j).1 in omega (arith, r)

pub new-requires-clause-low : goal.new-requires-clause-low
new-requires-clause-low c d i l j = (c.requires.range d i l j).0

pub outcome_by-outcome-requires-clause-small : goal.outcome_by-outcome-requires-clause-small
outcome_by-outcome-requires-clause-small c = c.in_ok-solver.ensures.small

pub outcome_by-outcome-requires-clause-some : goal.outcome_by-outcome-requires-clause-some
outcome_by-outcome-requires-clause-some c = omega (arith, c.in_ok-solver.ensures.len)

pub outcome_by-outcome-requires-clause-permanent : goal.outcome_by-outcome-requires-clause-permanent
outcome_by-outcome-requires-clause-permanent c =
    let n = literals_count c.args.cnf.now.clauses in
    let e = ap (λ (d : List (List Lit)). length d) c.in_ok-solver.ensures.clauses in
    omega (arith, n, e, c.requires.permanent, c.in_ok-solver.ensures.permanent)

pub returns : goal.returns
returns c =
    subst (λ (n : ℕ). IfOk c.outcome_by-outcome.result (λ outcome. AttemptIs n c.args.cnf.now c.args.budget outcome)) c.in_ok-solver.ensures.permanent
    (c.outcome_by-outcome.ensures c.args.cnf.now c.in_ok-solver.ensures.clauses c.in_ok-solver.ensures.len)
