use Rattle.std.proofs.Common.{subst}
use Rattle.union_ask.specs.Searching.{IsSearchedIn}
use Rattle.query_statements.proofs.Uniting.{union_stopped}
use Rattle.query_statements.proofs.ask_union.reply_to.Goals as goal

pub returns-in-Stopped : goal.returns-in-Stopped
returns-in-Stopped c =
    let old = c.args.session.now in
    let parts = c.args._parts.now in
    let found = subst (IsSearchedIn old.tables parts old.budget) c.in-Stopped.is c.requires in
    union_stopped old c.refuse_stop.new.session parts c.in-Stopped.stop c.refuse_stop.result found c.refuse_stop.ensures
