use Rattle.std.proofs.Common.{◌∙◌, Err, IfErr, IfOk, ap, subst}
use Rattle.reason_statements.specs.Reasons.{IsReason, IsStopped}
use Rattle.reason_statements.proofs.Explaining.{untold}
use Rattle.reason_statements.proofs.explain.tell.Goals as goal

pub reply_to-requires : goal.reply_to-requires
reply_to-requires c = subst (λ r. IfOk r (IsReason c.args.session.now.tables c.args.query.now c.args.row.now)) c.in-Ok.is c.requires.told

pub returns-in-Err-Refused : goal.returns-in-Err-Refused
returns-in-Err-Refused c =
    let old = c.args.session.now in
    let stopped = subst (λ r. IfErr r (IsStopped old.tables c.args.query.now c.args.row.now old.budget)) (c.in-Err-Refused.is ∙ ap Err c.in-Err-Refused.field-0-is) c.requires.stopped in
    untold old c.refuse_row.new.session c.args.query.now c.args.row.now c.in-Err-Refused.stop c.refuse_row.result stopped c.refuse_row.ensures
