use Rattle.std.proofs.Common.{sym, subst}
use Rattle.cdcl.specs.Outcomes.{OutcomeIs}
use Rattle.row_lists.specs.declared.formula.Encoded.{Encoded}
use Rattle.repair_clauses.specs.Encodings.{IsEncoded}
use Rattle.union_ask.proofs.QueryDeciding.{in_range, once, says_of, encoded_of, within_of}
use Rattle.union_ask.proofs.query_decision.decide.Goals as goal

pub solved_by_groups-requires-clause-range : goal.solved_by_groups-requires-clause-range
solved_by_groups-requires-clause-range c =
    let b = c.args.bound.now in
    let of = c.in_ok-found.ensures.found in
    in_range b.query.now b.db.now c.args.row.now c.in_ok-formula.field-0 (encoded_of c.in_ok-found.found b c.args.row.now of.0 of.1 c.in_ok-formula.field-0 c.in_ok-formula.ensures)

pub solved_by_groups-requires-clause-once : goal.solved_by_groups-requires-clause-once
solved_by_groups-requires-clause-once c =
    let b = c.args.bound.now in
    let of = c.in_ok-found.ensures.found in
    once b.query.now b.db.now c.args.row.now c.in_ok-formula.field-0 (encoded_of c.in_ok-found.found b c.args.row.now of.0 of.1 c.in_ok-formula.field-0 c.in_ok-formula.ensures)

pub returns-clause-decided : goal.returns-clause-decided
returns-clause-decided c =
    let b = c.args.bound.now in
    let q = b.query.now in
    let db = b.db.now in
    let row = c.args.row.now in
    let of = c.in_ok-found.ensures.found in
    let outcome = c.in_ok-decided.decided.outcome in
    let budget = c.args.budget in
    let formula = encoded_of c.in_ok-found.found b row of.0 of.1 c.in_ok-formula.field-0 c.in_ok-formula.ensures in
    record {
      formula = subst (IsEncoded q db row) (sym c.in_ok-decided.ensures.same) formula;
      outcome = subst (λ (f : Encoded). OutcomeIs f.cnf budget outcome) (sym c.in_ok-decided.ensures.same) c.in_ok-decided.ensures.outcome;
      says = says_of q db row c.in_ok-formula.field-0 formula b.fits budget outcome c.in_ok-decided.ensures.outcome;
    }

pub returns-clause-within : goal.returns-clause-within
returns-clause-within c =
    let of = c.in_ok-found.ensures.found in within_of c.in_ok-found.found c.args.bound.now c.args.row.now of.0 of.1
