use Rattle.std.proofs.Common.{subst}
use Rattle.query_statements.specs.Sides.{FindsRows}
use Rattle.query_statements.proofs.Asking.{search_stopped}
use Rattle.query_statements.proofs.sides.reply_to.Goals as goal

pub returns-in-Stopped : goal.returns-in-Stopped
returns-in-Stopped c =
    let old = c.args.session.now in
    let q = c.args._query.now in
    let found = subst (FindsRows q old.tables c.args._side old.budget) c.in-Stopped.is c.requires in
    (found.0, search_stopped old c.refuse_stop.new.session q c.in-Stopped.stop c.refuse_stop.result found.1 c.refuse_stop.ensures)
