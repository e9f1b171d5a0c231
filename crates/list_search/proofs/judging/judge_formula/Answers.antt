use Rattle.std.proofs.Common.{subst}
use Rattle.join_access.specs.Listing.{names_of}
use Rattle.row_lists.specs.Lists.{IsForced}
use Rattle.list_search.specs.Finding.{FoundSays}
use Rattle.list_search.proofs.judging.judge_formula.Goals as goal

pub returns-in-Satisfiable : goal.returns-in-Satisfiable
returns-in-Satisfiable c =
    let l = c.args.lists.now in subst (FoundSays (IsForced l.db.now (names_of l.lists.now))) c.in-Satisfiable.is c.in_ok-first_look.ensures

pub returns-in-Unsatisfiable : goal.returns-in-Unsatisfiable
returns-in-Unsatisfiable c =
    let l = c.args.lists.now in subst (FoundSays (IsForced l.db.now (names_of l.lists.now))) c.in-Unsatisfiable.is c.in_ok-first_look.ensures
