use Rattle.cqa_model.specs.Variables.{whole}
use Rattle.cqa_model.proofs.Elimination.{plan-eliminates}
use Rattle.cqa_model.proofs.PlanAtoms.{plan-atoms}
use Rattle.rewrite_text.proofs.Made.{made_passes}
use Rattle.rewrite_text.proofs.Verified.{certificate_is_verified}
use Rattle.rewrite_text.proofs.printed.certificate.Goals as goal

pub by_paths-text-requires-clause-plan : goal.by_paths-text-requires-clause-plan
by_paths-text-requires-clause-plan c = plan-atoms c.args.bound.now.query.now c.args.plan.now.order (plan-eliminates c.args.bound.now.query.now (whole c.args.bound.now.query.now) c.args.plan.now.order c.requires.plan)

pub returns-clause-passes : goal.returns-clause-passes
returns-clause-passes c = λ nodes made. made_passes c.args.bound.now.db.now c.args.bound.now.query.now c.args.row.now c.args.plan.now.order nodes c.args.bound.now.database c.args.bound.now.fits c.requires.long c.requires.plan made

pub returns-in_err-paths-clause-passes : goal.returns-in_err-paths-clause-passes
returns-in_err-paths-clause-passes c = λ nodes made. made_passes c.args.bound.now.db.now c.args.bound.now.query.now c.args.row.now c.args.plan.now.order nodes c.args.bound.now.database c.args.bound.now.fits c.requires.long c.requires.plan made

pub returns-clause-verified : goal.returns-clause-verified
returns-clause-verified c = λ valid literals row_valid row_fits.
    let b = c.args.bound.now in
    certificate_is_verified b.db.now b.query.now c.args.row.now c.args.plan.now.order c.by_paths-text.result b.database valid b.fits literals row_valid row_fits c.requires.plan c.by_paths-text.ensures.text
