use Rattle.std.proofs.Common.{sym, subst}
use Rattle.cdcl.specs.declared.outcome.Outcome.{Outcome}
use Rattle.cdcl.specs.Outcomes.{IsModel, OutcomeIs}
use Rattle.union_ask.specs.Reasons.{IsDecidedIn}
use Rattle.union_ask.proofs.reason.by_outcome.Goals as goal

pub by_model-names-requires-clause-model : goal.by_model-names-requires-clause-model
by_model-names-requires-clause-model c =
    let cnf = c.args.decided.formula.cnf in
    subst (IsModel cnf) (sym c.as_slice.ensures) (subst (OutcomeIs cnf c.args._budget) c.in-Sat.is c.requires.decided.outcome)

pub returns-in-Unsat-clause-told : goal.returns-in-Unsat-clause-told
returns-in-Unsat-clause-told c =
    let parts = c.args.parts.now in
    let formula = c.args.decided.formula in
    let decided = subst (λ (outcome : Outcome). IsDecidedIn parts.db.now parts.queries.now c.args.row.now c.args._budget (record { formula = formula; outcome = outcome })) c.in-Unsat.is c.requires.decided in
    (c.requires.within, record { rows = formula.rows; formula = decided.formula; refuted = decided.outcome; certain = decided.says })

pub returns-in-Spent-clause-untold : goal.returns-in-Spent-clause-untold
returns-in-Spent-clause-untold c =
    let parts = c.args.parts.now in
    let formula = c.args.decided.formula in
    let decided = subst (λ (outcome : Outcome). IsDecidedIn parts.db.now parts.queries.now c.args.row.now c.args._budget (record { formula = formula; outcome = outcome })) c.in-Spent.is c.requires.decided in
    (c.requires.within, record { candidate = decided.says; rows = formula.rows; formula = decided.formula; spent = decided.outcome })
