use Rattle.std.proofs.Common.{◌-◌, ◌∙◌, ap, arith, length, rules}
use Rattle.table_changes.proofs.Stretches.{fewer_left, prefers_left, still_there}
use Rattle.table_changes.proofs.preferred.prefer.Goals as goal

pub rows-requires-2 : goal.rows-requires-2
rows-requires-2 c = still_there c.args.db.now c.keep_staying.new.db c.args.table c.args.tests.now c.told_places-from.result.0 c.told_places-from.result.1 (length c.as_mut_slice.result.now) c.requires c.rows.result c.rows.ensures.is c.rows.ensures.in_order c.told_places-from.ensures.told (search rules) c.keep_staying.ensures.kept

pub overflow_sub-result : goal.overflow_sub-result
overflow_sub-result c =
    let fewer = fewer_left c.args.db.now c.keep_staying.new.db c.args.table c.args.tests.now c.told_places-from.result.0 c.told_places-from.result.1 (length c.as_mut_slice.result.now) c.requires c.rows.result c.rows.ensures.is c.rows.ensures.in_order c.told_places-from.ensures.told (search rules) c.keep_staying.ensures.kept in
    let before = c.len-before.ensures ∙ ap length c.rows.ensures.is in
    let now = c.len.ensures ∙ ap length c.rows-2.ensures.is in
    omega (arith, fewer, before, now)

pub returns-clause-preferred : goal.returns-clause-preferred
returns-clause-preferred c =
    let before = c.len-before.ensures ∙ ap length c.rows.ensures.is in
    let now = c.len.ensures ∙ ap length c.rows-2.ensures.is in
    prefers_left c.args.db.now c.keep_staying.new.db c.args.table c.args.tests.now c.told_places-from.result.0 c.told_places-from.result.1 (length c.as_mut_slice.result.now) c.requires c.rows.result c.rows.ensures.is c.rows.ensures.in_order c.told_places-from.ensures.told (search rules) c.keep_staying.ensures.kept (c.len-before.result - c.len.result) (omega (arith, before, now))
