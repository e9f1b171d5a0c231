use Rattle.std.proofs.Common.{◌∙◌, ap, length}
use Rattle.join_access.specs.Listing.{names_of}
use Rattle.rows_against.proofs.Walking.{begins_behind, part_at}
use Rattle.rows_against.proofs.hits.behind.Goals as goal

pub first_from-requires : goal.first_from-requires
first_from-requires c =
    let w = c.args.witnesses.now in
    let b = w.bound.now in
    part_at b.db.now b.query.now b.fits (names_of w.list) c.args.names.now c.requires.chosen c.args.at c.args.from c.requires.there c.requires.begins c.table_of-table.result c.table_of-table.ensures.table

pub returns : goal.returns
returns c =
    let w = c.args.witnesses.now in
    let b = w.bound.now in
    let found = c.first_from.ensures in
    begins_behind b.db.now b.query.now b.fits (names_of w.list) c.args.names.now c.requires.chosen c.args.at c.args.from c.requires.there c.requires.begins c.table_of-table.result c.table_of-table.ensures.table
    c.len-count.result (c.len-count.ensures ∙ ap length c.rows_of.ensures.rows) c.first_from.result found.after found.within found.before found.behind
