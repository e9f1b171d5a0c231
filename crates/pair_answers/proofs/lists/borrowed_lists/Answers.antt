use Rattle.std.proofs.Common.{length, ◌∙◌}
use Rattle.cqa_model.specs.Database.{stored}
use Rattle.pair_answers.proofs.Listing.{of-side, row-lists-of}
use Rattle.pair_answers.proofs.lists.borrowed_lists.Goals as goal

pub returns-clause-lists : goal.returns-clause-lists
returns-clause-lists c =
    let bound = c.args.pair.now.bound.now in
    let row = c.args.row.now in
    let columns = c.args.columns.now in
    let tables = stored bound.db.now in
    let first = c.rows_of-first.result in
    let second = c.rows_of-second.result in
    let none = c.in_ok-lists.lists.items in
    let some = c.append_lists.new.lists.items in
    let lists = c.append_lists-2.new.lists.items in
    let s = c.new.ensures in
    let t = c.new-2.ensures in
    row-lists-of bound.query.now tables row columns.left.items columns.right.items first second none some lists c.requires
    c.rows_of-first.ensures.rows c.rows_of-second.ensures.rows
    c.in_ok-lists.ensures.items
    (of-side c.new.result bound row 0 columns.left.items s.bound s.row s.atom (s.columns ∙ c.deref.ensures.value) first (length first) none some c.in_ok-append_lists.ensures)
    (of-side c.new-2.result bound row 1 columns.right.items t.bound t.row t.atom (t.columns ∙ c.deref-2.ensures.value) second (length second) some lists c.in_ok-append_lists-2.ensures)
