use Rattle.std.specs.Prelude.{MatchOption}
use Rattle.std.proofs.Common.{subst}
use Rattle.cqa_model.specs.Certain.{IsCertain}
use Rattle.pair_answers.specs.Kept.{RejectsByNumbers}
use Rattle.pair_formula.proofs.Rejecting.{pair-rejects, pair-stored}
use Rattle.reason_statements.proofs.against.by_pair.Goals as goal

pub chosen-requires : goal.chosen-requires
chosen-requires c =
    let pair = c.args.pair.now in
    let bound = pair.bound.now in
    let q = bound.query.now in
    let db = bound.db.now in
    let row = c.args.row.now in
    let rejects = subst (λ z. MatchOption z (IsCertain db q row) (λ kept. RejectsByNumbers q db row kept.rows)) c.in-Some.is c.in_ok-kept.ensures in
    pair-stored q db row c.in-Some.kept.rows bound.database bound.fits pair.two rejects

pub returns-in_ok-names-in-Some : goal.returns-in_ok-names-in-Some
returns-in_ok-names-in-Some c =
    let pair = c.args.pair.now in
    let bound = pair.bound.now in
    let q = bound.query.now in
    let db = bound.db.now in
    let row = c.args.row.now in
    let kept = c.in-Some.kept.rows in
    let rejects = subst (λ z. MatchOption z (IsCertain db q row) (λ k. RejectsByNumbers q db row k.rows)) c.in-Some.is c.in_ok-kept.ensures in
    ((kept, pair-rejects q db row kept bound.database bound.fits pair.two rejects, c.in_ok-names-in-Some.ensures.names), c.in_ok-names-in-Some.ensures.stored)
