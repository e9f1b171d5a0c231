use Rattle.join_access.specs.Listing.{names_of}
use Rattle.row_lists.proofs.Framing.{in_frame}
use Rattle.row_lists.proofs.lists_over.RowLists.new.Goals as goal

pub invariant_of-result : goal.invariant_of-result
invariant_of-result c =
    let frame = c.args.frame.now in
    let lists = names_of c.args.lists.now in
    record {
      database = c.count-tables.ensures.database;
      wide = c.requires.wide;
      within = in_frame c.args.db.now frame.tables frame.slots frame.kept c.requires.wide lists c.requires.within;
      stored = c.requires.stored;
      full = c.in_ok-columns.ensures.full;
      sorted = ∣ c.in_ok-columns.ensures.columns ∣₁;
    }
