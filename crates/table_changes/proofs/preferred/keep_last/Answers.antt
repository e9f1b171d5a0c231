use Rattle.std.proofs.Common.{◌∙◌, ap, arith, drop, subst, sym, take}
use Rattle.std.specs.List.Sorted.{IsStrictlySortedBy}
use Rattle.cqa_model.specs.Database.{block_cmp}
use Rattle.table_blocks.specs.Tables.{key_at, rows_at, with_rows}
use Rattle.table_changes.specs.Preferred.{stays_among}
use Rattle.table_changes.proofs.Stretches.{last_by, last_kept, last_told, sorted_part}
use Rattle.table_changes.proofs.preferred.keep_last.Goals as goal

pub tell_last-start-requires-clause-in_order : goal.tell_last-start-requires-clause-in_order
tell_last-start-requires-clause-in_order c =
    let key = key_at c.args.db.now c.args.table in
    let rows = rows_at c.args.db.now c.args.table in
    let front = c.split_at-front.ensures.front ∙ ap (take c.args.end) (c.split_at-rest.ensures.rest ∙ ap (drop c.args.from) c.rows.ensures.is) in
    subst (λ k. IsStrictlySortedBy (block_cmp k) c.split_at-front.result.0) (sym c.key_of.ensures)
    (subst (IsStrictlySortedBy (block_cmp key)) (sym front) (sorted_part key rows c.args.from c.args.end (subst (IsStrictlySortedBy (block_cmp key)) c.rows.ensures.is c.rows.ensures.in_order)))

pub keep_told-requires-clause-told : goal.keep_told-requires-clause-told
keep_told-requires-clause-told c =
    let key = key_at c.args.db.now c.args.table in
    let rows = rows_at c.args.db.now c.args.table in
    let front = c.split_at-front.ensures.front ∙ ap (take c.args.end) (c.split_at-rest.ensures.rest ∙ ap (drop c.args.from) c.rows.ensures.is) in
    last_by key c.key_of.result.now c.key_of.ensures rows c.args.tests.now c.args.from c.tell_last-start.result c.args.end c.requires.within c.split_at-front.result.0 front c.tell_last-start.ensures.before c.tell_last-start.new.stays (let long = c.tell_last-start.auto.stays in let few = c.requires.room in omega (arith, long, few)) c.tell_last-start.ensures.told

pub returns-clause-kept : goal.returns-clause-kept
returns-clause-kept c passes k =
    let key = key_at c.args.db.now c.args.table in
    let rows = rows_at c.args.db.now c.args.table in
    let front = c.split_at-front.ensures.front ∙ ap (take c.args.end) (c.split_at-rest.ensures.rest ∙ ap (drop c.args.from) c.rows.ensures.is) in
    c.keep_told.ensures.kept (stays_among key passes (drop c.tell_last-start.result (take c.args.end (drop c.args.from rows)))) (last_told key c.key_of.result.now c.key_of.ensures rows c.args.tests.now c.args.from c.tell_last-start.result c.args.end c.requires.within c.split_at-front.result.0 front c.tell_last-start.ensures.before c.tell_last-start.new.stays (let long = c.tell_last-start.auto.stays in let few = c.requires.room in omega (arith, long, few)) c.tell_last-start.ensures.told passes k)
    ∙ ap (with_rows c.args.db.now c.args.table) (last_kept key c.key_of.result.now c.key_of.ensures rows c.args.tests.now c.args.from c.tell_last-start.result c.args.end c.requires.within c.split_at-front.result.0 front c.tell_last-start.ensures.before c.tell_last-start.new.stays (let long = c.tell_last-start.auto.stays in let few = c.requires.room in omega (arith, long, few)) c.tell_last-start.ensures.told passes)
