use Rattle.std.proofs.Common.{◌∙◌, ap, sym, subst}
use Rattle.std.specs.List.Sorted.{IsStrictlySortedBy}
use Rattle.cqa_model.specs.Database.{block_cmp}
use Rattle.table_blocks.specs.Tables.{key_at, rows_at}
use Rattle.table_blocks.proofs.bound.Bound.rows_of.Goals as goal

pub returns-clause-rows : goal.returns-clause-rows
returns-clause-rows c = c.rows.ensures.is ∙ ap (rows_at c.args.self.now.db.now) c.table_of.ensures.table

pub returns-clause-in_order : goal.returns-clause-in_order
returns-clause-in_order c = λ l.
    subst (λ key. IsStrictlySortedBy (block_cmp key) c.rows.result) (ap (key_at c.args.self.now.db.now) c.table_of.ensures.table ∙ sym (c.args.self.now.fits.keyed c.args.atom l)) c.rows.ensures.in_order
