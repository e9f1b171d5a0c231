use Rattle.std.proofs.Common.{Err, IfErr, ap, subst, ◌∙◌}
use Rattle.rewrite_text.specs.Certificates.{HasLongCertificate}
use Rattle.rewrite_text.specs.Drafts.{RefusesBy}
use Rattle.reason_statements.proofs.prove.certified.Goals as goal

pub certificate-requires-clause-holds : goal.certificate-requires-clause-holds
certificate-requires-clause-holds c = (c.requires.exact c.args.bound.now.db.now c.args.row.now c.args.bound.now.fits c.requires.long).1 c.requires.certain

pub returns-in-Ok : goal.returns-in-Ok
returns-in-Ok c = (c.requires.certain, (c.args.plan.now.order, c.requires.plan, c.in-Ok.ensures.text))

pub returns-in-Err-Refused : goal.returns-in-Err-Refused
returns-in-Err-Refused c =
    let long = subst (λ r. IfErr r (RefusesBy (HasLongCertificate c.args.bound.now.db.now c.args.bound.now.query.now c.args.row.now c.args.plan.now.order))) (c.in-Err-Refused.is ∙ ap Err c.in-Err-Refused.field-0-is) c.certificate.ensures.over in
    (c.requires.certain, (c.args.plan.now.order, c.requires.plan, long))
