use Rattle.std.proofs.Common.{◌<◌, length, sym, subst}
use Rattle.reply_text.specs.declared.reply.Proof.{Proof}
use Rattle.table_blocks.specs.Tables.{AreStored}
use Rattle.reason_statements.specs.Reasons.{IsReason}
use Rattle.reason_statements.proofs.Explaining.{block_told, repair_told, refutation_told}
use Rattle.reason_statements.proofs.explain.reply_to.Goals as goal

pub by_block-requires : goal.by_block-requires
by_block-requires c =
    let reason = subst (IsReason c.args.session.now.tables c.args._query.now c.args._row.now) c.in-ByBlock.is c.requires in
    subst (λ db. c.in-ByBlock.table < length db) (sym c.database.ensures.is) reason.1

pub returns-in_ok-by_block-in-ByBlock : goal.returns-in_ok-by_block-in-ByBlock
returns-in_ok-by_block-in-ByBlock c =
    let reason = subst (IsReason c.args.session.now.tables c.args._query.now c.args._row.now) c.in-ByBlock.is c.requires in
    block_told c.args.session.now c.args._query.now c.args._row.now c.database.result.now c.in_ok-by_block-in-ByBlock.field-0 c.database.ensures.is c.in-ByBlock.table c.in-ByBlock.key reason c.in_ok-by_block-in-ByBlock.ensures

pub rejected-requires : goal.rejected-requires
rejected-requires c =
    let reason = subst (IsReason c.args.session.now.tables c.args._query.now c.args._row.now) c.in-Rejected.is c.requires in
    subst (λ db. AreStored db c.in-Rejected.names) (sym c.database-in-Rejected.ensures.is) reason.2

pub returns-in_ok-rejected-in-Rejected : goal.returns-in_ok-rejected-in-Rejected
returns-in_ok-rejected-in-Rejected c =
    let reason = subst (IsReason c.args.session.now.tables c.args._query.now c.args._row.now) c.in-Rejected.is c.requires in
    repair_told c.args.session.now c.args._query.now c.args._row.now c.database-in-Rejected.result.now c.in_ok-rejected-in-Rejected.field-0 c.database-in-Rejected.ensures.is c.in-Rejected.names reason c.in_ok-rejected-in-Rejected.ensures

pub returns-in_ok-refuted-in-Refuted : goal.returns-in_ok-refuted-in-Refuted
returns-in_ok-refuted-in-Refuted c =
    let reason = subst (IsReason c.args.session.now.tables c.args._query.now c.args._row.now) c.in-Refuted.is c.requires in
    let proof : Proof = record { cnf = c.in-Refuted.cnf; log = c.in-Refuted.log } in
    refutation_told c.args.session.now c.refuted.new.session c.args._query.now c.args._row.now proof c.in_ok-refuted-in-Refuted.field-0 reason c.in_ok-refuted-in-Refuted.ensures.told c.in_ok-refuted-in-Refuted.ensures.kept
