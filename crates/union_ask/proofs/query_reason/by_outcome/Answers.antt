use Rattle.std.proofs.Common.{sym, subst}
use Rattle.cdcl.specs.declared.outcome.Outcome.{Outcome}
use Rattle.cdcl.specs.Outcomes.{IsModel, OutcomeIs}
use Rattle.union_ask.specs.QueryDeciding.{IsDecided}
use Rattle.union_ask.proofs.query_reason.by_outcome.Goals as goal

pub by_model-names-requires-clause-model : goal.by_model-names-requires-clause-model
by_model-names-requires-clause-model c =
    let cnf = c.args.decided.formula.cnf in
    subst (IsModel cnf) (sym c.as_slice.ensures) (subst (OutcomeIs cnf c.args._budget) c.in-Sat.is c.requires.decided.outcome)

pub returns-in-Unsat-clause-told : goal.returns-in-Unsat-clause-told
returns-in-Unsat-clause-told c =
    let formula = c.args.decided.formula in
    let decided = subst (λ (outcome : Outcome). IsDecided c.args.bound.now.query.now c.args.bound.now.db.now c.args.row.now c.args._budget (record { formula = formula; outcome = outcome })) c.in-Unsat.is c.requires.decided in
    (c.requires.within, (formula.rows, decided))

pub returns-in-Spent-clause-untold : goal.returns-in-Spent-clause-untold
returns-in-Spent-clause-untold c =
    let formula = c.args.decided.formula in
    let decided = subst (λ (outcome : Outcome). IsDecided c.args.bound.now.query.now c.args.bound.now.db.now c.args.row.now c.args._budget (record { formula = formula; outcome = outcome })) c.in-Spent.is c.requires.decided in
    (c.requires.within, (formula.rows, decided))
