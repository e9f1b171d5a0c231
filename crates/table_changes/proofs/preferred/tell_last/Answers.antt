use Rattle.std.proofs.Common.{sym, subst}
use Rattle.std.specs.List.Sorted.{IsStrictlySortedBy}
use Rattle.cqa_model.specs.Database.{block_cmp}
use Rattle.table_blocks.proofs.Spanning.{sorted-drop}
use Rattle.table_changes.proofs.preferred.tell_last.Goals as goal

pub tell_blocks-requires-clause-in_order : goal.tell_blocks-requires-clause-in_order
tell_blocks-requires-clause-in_order c =
    subst (IsStrictlySortedBy (block_cmp c.args.key.now)) (sym c.split_at-last.ensures.rest) (sorted-drop c.args.key.now c.args.rows.now c.last_start-start.result c.requires.in_order)
