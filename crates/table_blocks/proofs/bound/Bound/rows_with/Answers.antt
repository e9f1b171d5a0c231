use Rattle.std.proofs.Common.{◌∙◌, ◌≤◌, ap, sym, subst, length}
use Rattle.std.specs.List.Sorted.{IsStrictlySortedBy}
use Rattle.cqa_model.specs.Database.{block_cmp}
use Rattle.table_blocks.specs.Tables.{key_at, rows_at}
use Rattle.table_blocks.proofs.Binding.{span-of}
use Rattle.table_blocks.proofs.Spanning.{span-sorted}
use Rattle.table_blocks.proofs.bound.Bound.rows_with.Goals as goal

pub rows_with-requires-clause-few : goal.rows_with-requires-clause-few
rows_with-requires-clause-few c =
    let bound = c.args.self.now in
    subst (λ key. length c.args.probe.now ≤ length key) (bound.fits.keyed c.args.atom c.requires.there ∙ sym (ap (key_at bound.db.now) c.table_of-table.ensures.table)) c.requires.few

pub returns-clause-span : goal.returns-clause-span
returns-clause-span c =
    let bound = c.args.self.now in
    span-of bound.query.now bound.db.now bound.fits c.args.atom c.table_of-table.result c.requires.there c.table_of-table.ensures.table c.args.probe.now c.rows_with.result.0 c.rows_with.result.1 c.rows_with.ensures.span

pub returns-clause-in_order : goal.returns-clause-in_order
returns-clause-in_order c =
    let bound = c.args.self.now in
    let table = c.table_of-table.result in
    let sorted = subst (IsStrictlySortedBy (block_cmp (key_at bound.db.now table))) c.rows-rows.ensures.is c.rows-rows.ensures.in_order in
    subst (λ key. IsStrictlySortedBy (block_cmp key) c.rows_with.result.1) (ap (key_at bound.db.now) c.table_of-table.ensures.table ∙ sym (bound.fits.keyed c.args.atom c.requires.there))
    (span-sorted (key_at bound.db.now table) (rows_at bound.db.now table) c.args.probe.now c.rows_with.result.0 c.rows_with.result.1 c.rows_with.ensures.span sorted)
