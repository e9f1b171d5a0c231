use Rattle.std.proofs.Common.{length, rules}
use Rattle.table_changes.proofs.Stretches.{end_fits, left_all, left_first, left_next, table_fits}
use Rattle.table_changes.proofs.preferred.keep_staying.Goals as goal

pub loop-end-init : goal.loop-end-init
loop-end-init c = left_first c.args.db.now c.args.table c.args.tests.now c.args.from (length c.args.stays.now) c.requires.there c.requires.within c.count-tables.ensures.stored

pub keep_last-end-requires-clause-there : goal.keep_last-end-requires-clause-there
keep_last-end-requires-clause-there c = table_fits c.args.db.now c.args.table c.args.tests.now c.args.from (length c.args.stays.now) c.requires.there c.requires.within c.loop-end.db c.loop-end.end c.loop-end.invariant

pub keep_last-end-requires-clause-within : goal.keep_last-end-requires-clause-within
keep_last-end-requires-clause-within c = end_fits c.args.db.now c.args.table c.args.tests.now c.args.from (length c.args.stays.now) c.requires.there c.requires.within c.loop-end.db c.loop-end.end c.loop-end.invariant

pub loop-end-preserved : goal.loop-end-preserved
loop-end-preserved c =
    left_next c.args.db.now c.args.table c.args.tests.now c.args.from (length c.args.stays.now) c.requires.there c.requires.within c.loop-end.db c.loop-end.end c.loop-end.invariant
    c.keep_last-end.new.db c.keep_last-end.result c.keep_last-end.ensures.before c.keep_last-end.ensures.begins c.keep_last-end.ensures.kept c.keep_last-end.ensures.stored

pub returns-clause-kept : goal.returns-clause-kept
returns-clause-kept c passes k = left_all c.args.db.now c.args.table c.args.tests.now c.args.from (length c.args.stays.now) c.requires.there c.requires.within c.loop-end.db c.loop-end.end c.loop-end.invariant (search rules) passes k
