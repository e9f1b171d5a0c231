use Rattle.std.proofs.lemmas.Result.{IfOk-weaker}
use Rattle.join_access.specs.Listing.{names_of}
use Rattle.list_search.proofs.FirstLooks.{all_below, found_says}
use Rattle.list_search.proofs.Listed.{frame_is, within}
use Rattle.list_search.proofs.first_look.first_look.Goals as goal

pub glance-requires : goal.glance-requires
glance-requires c =
    let l = c.args.lists.now in
    let blocks = c.args.blocks.now in
    all_below l.frame.now.tables blocks.spans blocks.vars (names_of l.lists.now) c.pool_formula.new.room.formula blocks.kept.based c.in_ok-pool_formula.ensures

pub returns : goal.returns
returns c =
    let l = c.args.lists.now in
    let blocks = c.args.blocks.now in
    IfOk-weaker c.glance.result _ _
    (λ found is. found_says l.db.now l.frame.now.tables (names_of l.lists.now) blocks.vars blocks.spans c.requires l.database (frame_is l) (within l) l.stored c.pool_formula.new.room.formula c.in_ok-pool_formula.ensures found is) c.glance.ensures
