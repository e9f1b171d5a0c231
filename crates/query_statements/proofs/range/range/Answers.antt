use Rattle.std.proofs.Common.{refl, sym, subst}
use Rattle.cqa_model.specs.Database.{IsDatabase}
use Rattle.refusals.specs.Refusal.{Checked}
use Rattle.query_resolve.specs.Names.{columns_at}
use Rattle.query_resolve.specs.Checks.{group_fault}
use Rattle.query_statements.specs.Range.{range_fault, TellsBy, TellsRange}
use Rattle.session_state.proofs.Doing.{refused_out}
use Rattle.query_statements.proofs.Ranging.{no_table, bad_goal, bad_tests, told_or_refused}
use Rattle.query_statements.proofs.range.range.Goals as goal

pub tell_by-reply-requires-clause-database : goal.tell_by-reply-requires-clause-database
tell_by-reply-requires-clause-database c = subst IsDatabase (sym c.database-db.ensures.is) c.database-db.ensures.state.database

pub returns-in_err-table : goal.returns-in_err-table
returns-in_err-table c =
    let old = c.args.session.now in
    refused_out (range_fault old.tables c.args.name.now c.args.goal.now c.args.tests.now c.args.group.now) old old (TellsRange old c.args.name.now c.args.goal.now c.args.tests.now c.args.group.now) refl
    c.from_residual.result c.in_err-table.field-0.0 c.from_residual.ensures.1
    (no_table old c.args.name.now c.args.goal.now c.args.tests.now c.args.group.now c.database-db.result.now c.database-db.ensures.is c.in_err-table.field-0.0 c.in_err-table.ensures.missing)

pub returns-in_err-goal : goal.returns-in_err-goal
returns-in_err-goal c =
    let old = c.args.session.now in
    let fail = c.in_err-goal.field-0.0 in
    refused_out (range_fault old.tables c.args.name.now c.args.goal.now c.args.tests.now c.args.group.now) old old (TellsRange old c.args.name.now c.args.goal.now c.args.tests.now c.args.group.now) refl
    c.from_residual-in_err-goal.result fail c.from_residual-in_err-goal.ensures.1
    (bad_goal old c.args.name.now c.args.goal.now c.args.tests.now c.args.group.now c.database-db.result.now c.database-db.ensures.is c.in_ok-table.table c.in_ok-table.ensures.found fail c.in_err-goal.ensures.refused)

pub returns-in_err-tests : goal.returns-in_err-tests
returns-in_err-tests c =
    let old = c.args.session.now in
    let fail = c.in_err-tests.field-0.0 in
    refused_out (range_fault old.tables c.args.name.now c.args.goal.now c.args.tests.now c.args.group.now) old old (TellsRange old c.args.name.now c.args.goal.now c.args.tests.now c.args.group.now) refl
    c.from_residual-in_err-tests.result fail c.from_residual-in_err-tests.ensures.1
    (bad_tests old c.args.name.now c.args.goal.now c.args.tests.now c.args.group.now c.database-db.result.now c.database-db.ensures.is c.in_ok-table.table c.in_ok-table.ensures.found c.in_ok-goal.ensures.valid fail c.in_err-tests.ensures.refused)

pub returns : goal.returns
returns c =
    let db = c.database-db.result.now in
    let table = c.in_ok-table.table in
    let group = c.args.group.now in
    let told = subst (λ tests. Checked c.tell_by-reply.result (group_fault (columns_at db table) group) (TellsBy db table c.in_ok-goal.goal tests group)) c.as_slice.ensures c.tell_by-reply.ensures in
    told_or_refused c.args.session.now c.args.name.now c.args.goal.now c.args.tests.now group db c.database-db.ensures.is table c.in_ok-table.ensures.found c.in_ok-goal.ensures.valid
    c.in_ok-goal.goal c.in_ok-goal.ensures.is c.in_ok-tests.ensures.valid c.in_ok-tests.tests c.in_ok-tests.ensures.is c.tell_by-reply.result told
