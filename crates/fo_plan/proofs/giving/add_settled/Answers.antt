use Rattle.std.proofs.Common.{◌∙◌, sym, ap, map}
use Rattle.std.proofs.lemmas.Bool.{false≢true}
use Rattle.cqa_model.specs.Database.{stored}
use Rattle.plan_rows.specs.Taking.{placed, taken_value}
use Rattle.fo_plan.specs.Giving.{PlanGives}
use Rattle.fo_plan.proofs.Gathered.{add-answer, adds-none}
use Rattle.plan_rows.proofs.Sharing.{settled-plan}
use Rattle.fo_plan.proofs.giving.add_settled.Goals as goal

pub returns-in_ok-put-clause-added : goal.returns-in_ok-put-clause-added
returns-in_ok-put-clause-added c =
    let rest = c.args.rest.now in
    let q = rest.course.now.setting.bound.now.query.now in
    let tables = stored rest.course.now.setting.bound.now.db.now in
    let taken = placed rest.taken.now in
    add-answer q tables taken rest.plan.now rest.underway.agreed c.requires.all c.requires.settled
    (λ row. settled-plan q tables c.new-none.result row taken rest.plan.now c.requires.settled (c.holds_with-held.ensures.holds.0 c.if-held.true))
    c.args.found.now c.put.new.self c.in_ok-answer_of.field-0 (c.in_ok-answer_of.ensures ∙ ap (λ columns. map (taken_value taken) columns) c.as_slice.ensures) c.in_ok-put.ensures

pub returns-else-held-clause-added : goal.returns-else-held-clause-added
returns-else-held-clause-added c =
    let rest = c.args.rest.now in
    let q = rest.course.now.setting.bound.now.query.now in
    let tables = stored rest.course.now.setting.bound.now.db.now in
    let taken = placed rest.taken.now in
    adds-none (PlanGives q tables taken rest.plan.now) c.args.found.now
    (λ row g. false≢true (sym c.if-held.false ∙ c.holds_with-held.ensures.holds.1 (settled-plan q tables row c.new-none.result taken rest.plan.now c.requires.settled g.1)))
