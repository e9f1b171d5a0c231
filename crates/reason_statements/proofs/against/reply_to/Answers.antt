use Rattle.std.proofs.Common.{sym, subst}
use Rattle.table_blocks.specs.Tables.{AreStored}
use Rattle.reason_statements.specs.Against.{IsToldOf}
use Rattle.reason_statements.proofs.Opposing.{lines_told}
use Rattle.reason_statements.proofs.against.reply_to.Goals as goal

pub kept_against-requires : goal.kept_against-requires
kept_against-requires c =
    let told = subst (IsToldOf c.args.session.now.tables c.args._query.now c.args._row.now) c.in-Some.is c.requires in
    subst (λ db. AreStored db c.in-Some.names) (sym c.database.ensures.is) told.0.stored

pub returns-in_ok-kept_against-in-Some : goal.returns-in_ok-kept_against-in-Some
returns-in_ok-kept_against-in-Some c =
    let told = subst (IsToldOf c.args.session.now.tables c.args._query.now c.args._row.now) c.in-Some.is c.requires in
    lines_told c.args.session.now c.args._query.now c.args._row.now c.database.result.now c.in_ok-kept_against-in-Some.field-0 c.database.ensures.is c.in-Some.names told c.in_ok-kept_against-in-Some.ensures
