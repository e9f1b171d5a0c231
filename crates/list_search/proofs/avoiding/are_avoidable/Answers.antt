use Rattle.join_access.specs.Listing.{names_of}
use Rattle.row_lists.proofs.Avoided.{avoided_by_free}
use Rattle.list_search.proofs.avoiding.are_avoidable.Goals as goal

pub returns : goal.returns
returns c = λ t forced.
    let l = c.args.lists.now in
    avoided_by_free l.db.now (names_of l.lists.now) l.database l.stored (c.have_loose-avoidable.ensures t) forced
