use Rattle.std.proofs.Common.{subst, IfSome}
use Rattle.repair_back.specs.declared.repair.Repair.{Repair}
use Rattle.repair_back.specs.Results.{Rejects}
use Rattle.plan_reasons.proofs.reason.rejected.Goals as goal

pub returns : goal.returns
returns c =
    let db = c.args.bound.now.db.now in
    let q = c.args.bound.now.query.now in
    let row = c.args.row.now in
    let repair = c.in-Some.repair in
    let rejects = subst (λ found. IfSome found (λ (repair : Repair). Rejects q db row repair.kept)) c.in-Some.is c.in_ok-repair.ensures.rejects in
    ((repair.kept, rejects, c.in_ok-names.ensures.names), c.in_ok-names.ensures.stored)
