use Rattle.std.proofs.Common.{◌∙◌, Err, IfErr, IfOk, ap, subst}
use Rattle.union_ask.specs.Reasons.{IsReasonIn, IsStoppedIn}
use Rattle.reason_statements.proofs.Uniting.{union_untold}
use Rattle.reason_statements.proofs.explain_union.tell.Goals as goal

pub reply_to-requires : goal.reply_to-requires
reply_to-requires c = subst (λ r. IfOk r (IsReasonIn c.args.session.now.tables c.args.parts.now c.args.row.now c.args.session.now.budget)) c.in-Ok.is c.requires.told

pub returns-in-Err-Refused : goal.returns-in-Err-Refused
returns-in-Err-Refused c =
    let old = c.args.session.now in
    let stopped = subst (λ r. IfErr r (IsStoppedIn old.tables c.args.parts.now c.args.row.now old.budget)) (c.in-Err-Refused.is ∙ ap Err c.in-Err-Refused.field-0-is) c.requires.stopped in
    union_untold old c.refuse_row.new.session c.args.parts.now c.args.row.now c.in-Err-Refused.stop c.refuse_row.result stopped c.refuse_row.ensures
