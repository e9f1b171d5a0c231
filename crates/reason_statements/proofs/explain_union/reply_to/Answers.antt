use Rattle.std.proofs.Common.{sym, subst}
use Rattle.reply_text.specs.declared.reply.Proof.{Proof}
use Rattle.table_blocks.specs.Tables.{AreStored}
use Rattle.union_ask.specs.Reasons.{IsReasonIn}
use Rattle.reason_statements.proofs.Uniting.{union_rejected, union_refuted}
use Rattle.reason_statements.proofs.explain_union.reply_to.Goals as goal

pub rejected-requires : goal.rejected-requires
rejected-requires c =
    let reason = subst (IsReasonIn c.args.session.now.tables c.args._parts.now c.args._row.now c.args.session.now.budget) c.in-Rejected.is c.requires in
    subst (λ db. AreStored db c.in-Rejected.names) (sym c.database.ensures.is) reason.2

pub returns-in_ok-rejected-in-Rejected : goal.returns-in_ok-rejected-in-Rejected
returns-in_ok-rejected-in-Rejected c =
    let reason = subst (IsReasonIn c.args.session.now.tables c.args._parts.now c.args._row.now c.args.session.now.budget) c.in-Rejected.is c.requires in
    union_rejected c.args.session.now c.args._parts.now c.args._row.now c.database.result.now c.in-Rejected.names c.in_ok-rejected-in-Rejected.field-0 c.database.ensures.is reason c.in_ok-rejected-in-Rejected.ensures

pub returns-in_ok-refuted-in-Refuted : goal.returns-in_ok-refuted-in-Refuted
returns-in_ok-refuted-in-Refuted c =
    let reason = subst (IsReasonIn c.args.session.now.tables c.args._parts.now c.args._row.now c.args.session.now.budget) c.in-Refuted.is c.requires in
    let proof : Proof = record { cnf = c.in-Refuted.cnf; log = c.in-Refuted.log } in
    union_refuted c.args.session.now c.refuted.new.session c.args._parts.now c.args._row.now proof c.in_ok-refuted-in-Refuted.field-0 reason c.in_ok-refuted-in-Refuted.ensures.told c.in_ok-refuted-in-Refuted.ensures.kept
