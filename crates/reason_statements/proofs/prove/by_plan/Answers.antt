use Rattle.std.proofs.Common.{refl, subst, sym}
use Rattle.plan_reasons.specs.Reasons.{IsPlanReason}
use Rattle.reason_statements.specs.Prove.{Proves}
use Rattle.reason_statements.proofs.prove.by_plan.Goals as goal

pub rejected-requires : goal.rejected-requires
rejected-requires c =
    let reason = subst (IsPlanReason c.args.bound.now.db.now c.args.bound.now.query.now c.args.row.now) c.in-Rejected.is c.in_ok-names.ensures in
    reason.1

pub returns-in_ok-rejected-in-Rejected : goal.returns-in_ok-rejected-in-Rejected
returns-in_ok-rejected-in-Rejected c =
    let db = c.args.bound.now.db.now in
    let q = c.args.bound.now.query.now in
    let reason = subst (IsPlanReason db q c.args.row.now) c.in-Rejected.is c.in_ok-names.ensures in
    subst (λ reply. Proves db q c.args.row.now reply) (sym c.in_ok-rejected-in-Rejected.ensures) ((c.args.plan.now.order, c.requires.plan), (c.in-Rejected.names, reason.0, reason.1, refl))

pub certified-requires-clause-certain : goal.certified-requires-clause-certain
certified-requires-clause-certain c =
    let reason = subst (IsPlanReason c.args.bound.now.db.now c.args.bound.now.query.now c.args.row.now) c.in-ByBlock.is c.in_ok-names.ensures in
    reason.0.certain
