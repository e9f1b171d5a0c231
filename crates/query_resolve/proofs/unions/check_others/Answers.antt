use Rattle.std.proofs.Common.{ap, ◌∙◌, refl}
use Rattle.query_resolve.specs.Checks.{answer_kinds}
use Rattle.query_resolve.proofs.Alike.{others_more, others_stopped, others_over}
use Rattle.query_resolve.proofs.unions.check_others.Goals as goal

pub loop-at-init : goal.loop-at-init
loop-at-init c = refl

pub loop-at-preserved : goal.loop-at-preserved
loop-at-preserved c =
    let db = c.args.first.now.db.now in
    let other = c.index-others-at.result in
    let seen = c.new.result in
    others_more db (answer_kinds db c.args.first.now.query.now) c.args.others.now c.loop-at.at other c.loop-at-test.true c.index-others-at.is
    (answer_kinds seen.db.now seen.query.now) (ap (λ d. answer_kinds d seen.query.now) c.new.ensures.db ∙ ap (answer_kinds db) c.new.ensures.query) c.loop-at.invariant c.in_ok-check_part.ensures.valid

pub returns-in_err-check_part : goal.returns-in_err-check_part
returns-in_err-check_part c =
    let db = c.args.first.now.db.now in
    let other = c.index-others-at.result in
    let seen = c.new.result in
    others_stopped db (answer_kinds db c.args.first.now.query.now) c.args.others.now c.loop-at.at other c.loop-at-test.true c.index-others-at.is
    (answer_kinds seen.db.now seen.query.now) (ap (λ d. answer_kinds d seen.query.now) c.new.ensures.db ∙ ap (answer_kinds db) c.new.ensures.query) _ c.loop-at.invariant c.in_err-check_part.ensures.refused c.from_residual.ensures.1

pub returns : goal.returns
returns c =
    let db = c.args.first.now.db.now in
    record { refused = tt; valid = others_over db (answer_kinds db c.args.first.now.query.now) c.args.others.now c.loop-at.at c.loop-at.invariant c.loop-at-test.false; is = tt }
